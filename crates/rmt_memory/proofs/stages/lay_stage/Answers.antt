use Rattle.std.proofs.Common.{◌≡◌, ◌++◌, [], ◌∷◌, ℕ, List, Some, length, get_or, ap, sym, ◌∙◌, subst, arith}
use Rattle.std.specs.Prelude.{slice_get}
use Rattle.std.proofs.lemmas.List.{get_or_default}
use Rattle.std.proofs.lemmas.Option.{slice_get-get_or}
use Rattle.rmt_memory.specs.Types.{Config, Unit}
use Rattle.rmt_config.specs.RunCells.{own_cells}
use Rattle.rmt_memory.specs.declared.memory.SlotMemory.{SlotMemory}
use Rattle.rmt_memory.specs.Memory.{MemoryFits, UnitHeld}
use Rattle.rmt_memory.proofs.StageMemoriesLaws.{pushed_items, item_at}
use Rattle.rmt_memory.proofs.stages.lay_stage.Goals as goal

pub lay_unit-requires : goal.lay_unit-requires
lay_unit-requires c =
    let units = c.args.stage.now.units in
    let (inside, at) = item_at units c.as_slice-units.result.now c.loop-unit.unit-index c.unit-item.result c.as_slice-units.ensures c.loop-unit-test.true c.unit-item.is in
    λ s is. c.requires c.loop-unit.unit-index s (slice_get-get_or units c.loop-unit.unit-index c.unit-item.result inside ∙ ap (λ (u : Unit). Some u) (at ∙ is))

pub loop-unit-preserved : goal.loop-unit-preserved
loop-unit-preserved c =
    let units = c.args.stage.now.units in
    let i = c.loop-unit.unit-index in
    let unit = c.unit-item.result in
    let (inside, at) = item_at units c.as_slice-units.result.now i unit c.as_slice-units.ensures c.loop-unit-test.true c.unit-item.is in
    let any : (u : Unit) → unit ≡ get_or units i u = λ u. sym at ∙ get_or_default units i unit u inside in
    let was = c.loop-unit.invariant in
    let memory = c.in_ok-lay_unit.field-0 in
    let memories = c.loop-unit.memories.items in
    let pushed : c.push.new.self.items ≡ memories ++ memory ∷ [] = c.in_ok-push.ensures.items in
    let size : length memories ≡ i = was.all in
    let there : slice_get units i ≡ Some unit = slice_get-get_or units i unit inside ∙ ap (λ (u : Unit). Some u) at in
    let fit = pushed_items (λ (j : ℕ) (m : SlotMemory). (u : Unit) → MemoryFits (get_or units j u) m) memories i memory size
    (λ u. subst (λ (v : Unit). MemoryFits v memory) (any u) c.in_ok-lay_unit.ensures.fits) (λ j d lt u. was.fit j u d lt) in
    let held = pushed_items (λ (j : ℕ) (m : SlotMemory). (u : Unit) (cf : Config) (k : ℕ) → slice_get cf.stages k ≡ Some c.args.stage.now → UnitHeld (own_cells cf) k j (get_or units j u) m) memories i memory size
    (λ u cf k stage. subst (λ (v : Unit). UnitHeld (own_cells cf) k i v memory) (any u) (c.in_ok-lay_unit.ensures.held cf k i stage there)) (λ j d lt u. was.held j u d lt) in
    record {
      all = omega (arith, c.in_ok-push.ensures.len);
      fit = λ j u d lt. subst (λ (ms : List SlotMemory). MemoryFits (get_or units j u) (get_or ms j d)) (sym pushed) (fit j d lt u);
      held = λ j u d lt cf k stage. subst (λ (ms : List SlotMemory). UnitHeld (own_cells cf) k j (get_or units j u) (get_or ms j d)) (sym pushed) (held j d lt u cf k stage);
    }

pub returns-clause-fit : goal.returns-clause-fit
returns-clause-fit c =
    let end = ap (λ (us : List Unit). length us) c.as_slice-units.ensures in
    record {
      all_units = let all = c.loop-unit.invariant.all in omega arith;
      each = λ i u d lt. c.loop-unit.invariant.fit i u d (omega arith);
    }

pub returns-clause-held : goal.returns-clause-held
returns-clause-held c =
    let end = ap (λ (us : List Unit). length us) c.as_slice-units.ensures in
    λ cf k stage i u d lt. c.loop-unit.invariant.held i u d (omega arith) cf k stage
