use Rattle.std.proofs.Common.{◌≡◌, ◌+◌, get_or, drop, true, sym, ap, ◌∙◌, subst, arith}
use Rattle.std.specs.Prelude.{All}
use Rattle.std.proofs.lemmas.Bool.{false≢true, both_ways}
use Rattle.std.proofs.lemmas.List.Elements.{All-cons, All-head, All-tail}
use Rattle.rmt_config.specs.declared.config.Unit.TheVariants.{Slot}
use Rattle.rmt_config.specs.CellForm.{SlotHolds, Coded, coded_from}
use Rattle.rmt_config.specs.UnitForm.{slot_is_formed, unit_is_formed}
use Rattle.rmt_config.proofs.SlotLaws.{coded-slot, coded-gate, unit-formed, few-actions}
use Rattle.rmt_config.proofs.form.memory.slots_hold.Goals as goal
use Rattle.rmt_config.proofs.form.memory.slots_hold.Goals.{in-Gate, in-Slot+else-not-slot_holds}

pub returns-then-not-slot_holds : goal.returns-then-not-slot_holds
returns-then-not-slot_holds c =
    let P : Coded → Type 0 = λ x. SlotHolds c.args.visible c.args.stage.now x.first x.slot in
    let units = c.args.units.now in
    let i = c.loop-unit.unit-index in
    let first = c.loop-unit.first in
    let s = c.in-Slot.slot in
    let e = coded-slot units i first c.unit-item.result s c.loop-unit-test.true (sym c.unit-item.is ∙ c.in-Slot.is) in (
      λ f. absurd (false≢true f),
      λ all.
          let here = All-head P (record { first = first; slot = s }) (coded_from (first + s.actions + 1) (drop (i + 1) units))
          (subst (All P) e (c.loop-unit.invariant.so_far.0 all)) in
          absurd (both_ways c.slot_holds.result c.if-not-slot_holds.true (c.slot_holds.ensures.1 here)),
    )

pub loop-unit-preserved : goal.loop-unit-preserved
loop-unit-preserved c =
    let units = c.args.units.now in
    let i = c.loop-unit.unit-index in
    let first = c.loop-unit.first in
    let P : Coded → Type 0 = λ x. SlotHolds c.args.visible c.args.stage.now x.first x.slot in
    elim c.match-unit.branch [
      | in-Gate w ↦
          let e = coded-gate units i first c.unit-item.result _ c.loop-unit-test.true (sym c.unit-item.is ∙ w.in-Gate.is) in
          let same = ap (λ f. coded_from f (drop (i + 1) units)) w.first-is in
          record {
            few = omega (arith, w.first-is, c.loop-unit.invariant.few);
            so_far = (
              λ all. subst (All P) (e ∙ sym same) (c.loop-unit.invariant.so_far.0 all),
              λ rest. c.loop-unit.invariant.so_far.1 (subst (All P) (same ∙ sym e) rest),
            );
          }
      | in-Slot+else-not-slot_holds w ↦
          let s = w.in-Slot.slot in
          let unit : get_or units i c.unit-item.result ≡ Slot s = sym c.unit-item.is ∙ w.in-Slot.is in
          let e = coded-slot units i first c.unit-item.result s c.loop-unit-test.true unit in
          let formed : slot_is_formed s ≡ true = sym (ap unit_is_formed unit) ∙ unit-formed units i c.unit-item.result c.loop-unit-test.true c.requires.units in
          let few = few-actions s formed in
          let next : c.match-unit.first ≡ first + s.actions + 1 = omega (arith, w.first-is) in
          let same = ap (λ f. coded_from f (drop (i + 1) units)) next in
          let x : Coded = record { first = first; slot = s } in
          let rest = coded_from (first + s.actions + 1) (drop (i + 1) units) in
          record {
            few = omega (arith, next, few, c.loop-unit.invariant.few);
            so_far = (
              λ all. subst (All P) (sym same) (All-tail P x rest (subst (All P) e (c.loop-unit.invariant.so_far.0 all))),
              λ more. c.loop-unit.invariant.so_far.1 (subst (All P) (sym e) (All-cons P x rest (w.slot_holds.ensures.0 w.if-not-slot_holds.false) (subst (All P) same more))),
            );
          }
    ]
