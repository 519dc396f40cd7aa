use Rattle.std.proofs.Common.{◌≡◌, ℕ, List, true, sym, ap, ◌∙◌, subst, arith}
use Rattle.rmt_memory.specs.Types.{Memory}
use Rattle.rmt_config.specs.declared.config.Memory.TheVariants.{Without, Exact, Ternary}
use Rattle.rmt_config.specs.MemoryRules.{ExactFits, TernaryFits}
use Rattle.rmt_config.specs.LaneForm.{bits_of_lanes}
use Rattle.rmt_config.specs.Cells.{cells_in, content_of}
use Rattle.rmt_config.specs.BlockCounts.{divided_up}
use Rattle.rmt_memory.specs.declared.keys.Keys.{Keys}
use Rattle.rmt_memory.specs.Laid.{Laid}
use Rattle.rmt_memory.specs.Memories.{VectorsHold, keys_fit}
use Rattle.rmt_memory.proofs.LayLaws.{IfOk-then}
use Rattle.rmt_memory.proofs.LaidLaws.{laid-holds}
use Rattle.rmt_memory.proofs.FormedMemory.{exact-facts, exact-numbers-fit, exact-ways, ternary-facts, ternary-numbers-fit, without-key, without-held}
use Rattle.rmt_memory.proofs.memory.SlotMemory.lay.Goals as goal

pub lay_exact-requires-clause-fits : goal.lay_exact-requires-clause-fits
lay_exact-requires-clause-fits c =
    let x = c.in-Exact in
    let facts = exact-facts c.args.stage.now c.args.slot.now c.requires x.width x.per x.quanta x.first_way x.keys x.records x.counters x.is in
    subst (λ (rs : List ℕ). ExactFits c.args.slot.now x.width x.per x.quanta c.as_slice-keys.result.now rs) (sym c.as_slice-records.ensures)
    (subst (λ (ks : List ℕ). ExactFits c.args.slot.now x.width x.per x.quanta ks x.records) (sym c.as_slice-keys.ensures) facts)

pub lay_exact-requires-clause-ways : goal.lay_exact-requires-clause-ways
lay_exact-requires-clause-ways c =
    let x = c.in-Exact in exact-ways c.args.stage.now c.args.slot.now c.requires x.width x.per x.quanta x.first_way x.keys x.records x.counters x.is

pub lay_exact-requires-clause-numbers : goal.lay_exact-requires-clause-numbers
lay_exact-requires-clause-numbers c =
    let x = c.in-Exact in exact-numbers-fit c.args.stage.now c.args.slot.now c.requires x.width x.per x.quanta x.first_way x.keys x.records x.counters x.is

pub lay_ternary-requires-clause-fits : goal.lay_ternary-requires-clause-fits
lay_ternary-requires-clause-fits c =
    let x = c.in-Ternary in
    let facts = ternary-facts c.args.stage.now c.args.slot.now c.requires x.quanta x.keys x.records x.counters x.is in
    subst (λ (rs : List ℕ). TernaryFits c.args.slot.now x.quanta c.as_slice-keys-in-Ternary.result.now rs) (sym c.as_slice-records-in-Ternary.ensures)
    (subst (λ (ks : List ℕ). TernaryFits c.args.slot.now x.quanta ks x.records) (sym c.as_slice-keys-in-Ternary.ensures) facts)

pub lay_ternary-requires-clause-numbers : goal.lay_ternary-requires-clause-numbers
lay_ternary-requires-clause-numbers c =
    let x = c.in-Ternary in ternary-numbers-fit c.args.stage.now c.args.slot.now c.requires x.quanta x.keys x.records x.counters x.is

pub returns-in-Without-clause-fits : goal.returns-in-Without-clause-fits
returns-in-Without-clause-fits c =
    let stage = c.args.stage.now in
    let slot = c.args.slot.now in
    let e = c.in-Without.is in
    record {
      key = c.without.ensures.key ∙ sym (without-key stage slot c.requires e);
      held = c.without.ensures.held ∙ sym (without-held stage slot c.requires e);
      cells = c.without.ensures.cells ∙ sym (ap cells_in e);
      numbers = λ counted some. absurd (let none : cells_in slot.memory ≡ 0 = ap cells_in e in omega (arith, some, none));
      keys = subst (λ (mem : Memory). keys_fit (bits_of_lanes slot.keys) mem c.without.result.stored c.without.result.keys ≡ true) (sym e)
          (ap (λ (ks : Keys). keys_fit (bits_of_lanes slot.keys) Without c.without.result.stored ks) c.without.ensures.keys);
    }

pub returns-in-Without-clause-holds : goal.returns-in-Without-clause-holds
returns-in-Without-clause-holds c =
    let slot = c.args.slot.now in
    let e = c.in-Without.is in
    record {
      fits = returns-in-Without-clause-fits c;
      each = λ n lt. absurd (let none : cells_in slot.memory ≡ 0 = ap cells_in e in omega (arith, lt, none));
      vectors = subst (VectorsHold (divided_up (bits_of_lanes slot.keys) 40) (cells_in slot.memory) (content_of c.args.stage.now slot)) (sym c.without.ensures.keys) tt;
    }

pub returns-in-Exact-clause-holds : goal.returns-in-Exact-clause-holds
returns-in-Exact-clause-holds c =
    let x = c.in-Exact in
    let slot = c.args.slot.now in
    let memory : Exact x.width x.per x.quanta x.first_way c.as_slice-keys.result.now c.as_slice-records.result.now x.counters ≡ slot.memory =
    ap (λ (ks : List ℕ). Exact x.width x.per x.quanta x.first_way ks c.as_slice-records.result.now x.counters) c.as_slice-keys.ensures
    ∙ ap (λ (rs : List ℕ). Exact x.width x.per x.quanta x.first_way x.keys rs x.counters) c.as_slice-records.ensures ∙ sym x.is in
    IfOk-then c.lay_exact.result _ _ c.lay_exact.ensures.laid
    (λ m laid. laid-holds c.args.stage.now slot c.requires m (subst (λ (y : Memory). Laid c.args.stage.now (record slot { memory = y }) m) memory (laid x.counters)))

pub returns-in-Exact-clause-fits : goal.returns-in-Exact-clause-fits
returns-in-Exact-clause-fits c = IfOk-then c.lay_exact.result _ _ (returns-in-Exact-clause-holds c) (λ m holds. holds.fits)

pub returns-in-Ternary-clause-holds : goal.returns-in-Ternary-clause-holds
returns-in-Ternary-clause-holds c =
    let x = c.in-Ternary in
    let slot = c.args.slot.now in
    let memory : Ternary x.quanta c.as_slice-keys-in-Ternary.result.now c.as_slice-records-in-Ternary.result.now x.counters ≡ slot.memory =
    ap (λ (ks : List ℕ). Ternary x.quanta ks c.as_slice-records-in-Ternary.result.now x.counters) c.as_slice-keys-in-Ternary.ensures
    ∙ ap (λ (rs : List ℕ). Ternary x.quanta x.keys rs x.counters) c.as_slice-records-in-Ternary.ensures ∙ sym x.is in
    IfOk-then c.lay_ternary.result _ _ c.lay_ternary.ensures.laid
    (λ m laid. laid-holds c.args.stage.now slot c.requires m (subst (λ (y : Memory). Laid c.args.stage.now (record slot { memory = y }) m) memory (laid x.counters)))

pub returns-in-Ternary-clause-fits : goal.returns-in-Ternary-clause-fits
returns-in-Ternary-clause-fits c = IfOk-then c.lay_ternary.result _ _ (returns-in-Ternary-clause-holds c) (λ m holds. holds.fits)
