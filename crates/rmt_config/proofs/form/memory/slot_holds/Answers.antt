use Rattle.std.proofs.Common.{sym, refl, ap, ◌∙◌, subst, true}
use Rattle.std.specs.Prelude.{IsTrue}
use Rattle.std.proofs.lemmas.Bool.{and_parts}
use Rattle.rmt_config.specs.declared.config.Memory.TheVariants.{Without, Exact, Ternary}
use Rattle.rmt_config.specs.UnitForm.{slot_head_is_formed, memory_is_formed}
use Rattle.rmt_config.specs.Layouts.{ExactHeld, TernaryHeld}
use Rattle.rmt_config.specs.MemoryRules.{ExactFits, TernaryFits}
use Rattle.rmt_config.proofs.SlotLaws.{exact-held, slot-at, slot-by, slot-exact, slot-ternary, ternary-held, without-numbers, without-slot}
use Rattle.rmt_config.proofs.form.memory.slot_holds.Goals as goal

pub exact_holds-requires-clause-fits : goal.exact_holds-requires-clause-fits
exact_holds-requires-clause-fits c =
    let s = c.args.place.now.slot.now in
    let a = c.in-Exact in
    subst (λ ks. ExactFits s a.width a.per a.quanta ks c.as_slice-in-Exact.result.now) (sym c.as_slice.ensures)
    (subst (λ rs. ExactFits s a.width a.per a.quanta a.keys rs) (sym c.as_slice-in-Exact.ensures)
    (slot-exact s a.width a.per a.quanta a.first_way a.keys a.records a.counters c.requires.slot a.is))

pub ternary_holds-requires-clause-fits : goal.ternary_holds-requires-clause-fits
ternary_holds-requires-clause-fits c =
    let s = c.args.place.now.slot.now in
    let a = c.in-Ternary in
    subst (λ ks. TernaryFits s a.quanta ks c.as_slice-in-Ternary-2.result.now) (sym c.as_slice-in-Ternary.ensures)
    (subst (λ rs. TernaryFits s a.quanta a.keys rs) (sym c.as_slice-in-Ternary-2.ensures) (slot-ternary s a.quanta a.keys a.records a.counters c.requires.slot a.is))

pub returns-in-Without : goal.returns-in-Without
returns-in-Without c =
    let p = c.args.place.now in
    let parts = and_parts (slot_head_is_formed p.slot.now) (memory_is_formed p.slot.now p.slot.now.memory) c.requires.slot in
    let numbers = without-numbers p.slot.now (sym (ap (memory_is_formed p.slot.now) c.in-Without.is) ∙ parts.1) in
    slot-at (IsTrue true) p.visible p.stage.now p.first p.slot.now Without c.in-Without.is (λ _. without-slot p.visible p.stage.now p.first p.slot.now numbers, λ _. refl)

pub returns-in-Exact : goal.returns-in-Exact
returns-in-Exact c =
    let p = c.args.place.now in
    let a = c.in-Exact in
    slot-by c.exact_holds.result p.visible p.stage.now p.first p.slot.now (Exact a.width a.per a.quanta a.first_way a.keys a.records a.counters)
    (ExactHeld p.stage.now p.slot.now p.visible p.first a.width a.per a.quanta) a.is c.as_slice.ensures c.as_slice-in-Exact.ensures c.exact_holds.ensures
    (exact-held p.visible p.stage.now p.first p.slot.now a.width a.per a.quanta a.first_way a.keys a.records a.counters c.requires.rows
    (slot-exact p.slot.now a.width a.per a.quanta a.first_way a.keys a.records a.counters c.requires.slot a.is))

pub returns-in-Ternary : goal.returns-in-Ternary
returns-in-Ternary c =
    let p = c.args.place.now in
    let a = c.in-Ternary in
    slot-by c.ternary_holds.result p.visible p.stage.now p.first p.slot.now (Ternary a.quanta a.keys a.records a.counters)
    (TernaryHeld p.stage.now p.slot.now p.visible p.first a.quanta) a.is c.as_slice-in-Ternary.ensures c.as_slice-in-Ternary-2.ensures c.ternary_holds.ensures
    (ternary-held p.visible p.stage.now p.first p.slot.now a.quanta a.keys a.records a.counters c.requires.rows (slot-ternary p.slot.now a.quanta a.keys a.records a.counters c.requires.slot a.is))
