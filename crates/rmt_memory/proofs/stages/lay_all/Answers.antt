use Rattle.std.proofs.Common.{◌≡◌, ◌<◌, ◌++◌, [], ◌∷◌, ℕ, List, Some, Vec, Global, length, ap, sym, ◌∙◌, arith}
use Rattle.std.specs.Prelude.{slice_get}
use Rattle.std.proofs.lemmas.Option.{slice_get-get_or}
use Rattle.rmt_memory.specs.Types.{Config, Stage}
use Rattle.rmt_config.specs.RunCells.{own_cells}
use Rattle.rmt_memory.specs.declared.memory.SlotMemory.{SlotMemory}
use Rattle.rmt_memory.specs.Memory.{MemoriesFit, StageHeld}
use Rattle.rmt_memory.proofs.StageMemoriesLaws.{pushed_each, place_below}
use Rattle.rmt_memory.proofs.stages.lay_all.Goals as goal

pub lay_stage-requires : goal.lay_stage-requires
lay_stage-requires c =
    let stages = c.args.stages.now in
    let k = c.loop-stage.stage-index in
    let stage = c.stage-item.result in
    let inside : k < length stages = omega arith in
    c.requires k stage (slice_get-get_or stages k stage inside ∙ ap (λ (s : Stage). Some s) (sym c.stage-item.is))

pub loop-stage-preserved : goal.loop-stage-preserved
loop-stage-preserved c =
    let stages = c.args.stages.now in
    let k = c.loop-stage.stage-index in
    let stage = c.stage-item.result in
    let inside : k < length stages = omega arith in
    let was = c.loop-stage.invariant in
    let new = c.in_ok-lay_stage.field-0 in
    let memories = c.loop-stage.memories.items in
    let pushed : c.push.new.self.items ≡ memories ++ new ∷ [] = c.in_ok-push.ensures.items in
    let fit = pushed_each (λ (s : Stage) (m : Vec SlotMemory Global). MemoriesFit s m.items) stages memories k stage new was.all inside (sym c.stage-item.is) c.in_ok-lay_stage.ensures.fit was.fit in
    let held = pushed_each (λ (s : Stage) (m : Vec SlotMemory Global). (cf : Config) (j : ℕ) → slice_get cf.stages j ≡ Some s → StageHeld (own_cells cf) j s m.items) stages memories k stage new was.all inside (sym c.stage-item.is)
    c.in_ok-lay_stage.ensures.held was.held in
    record {
      all = let all = was.all in omega (arith, c.in_ok-push.ensures.len);
      fit = λ j s m lt one two. fit j s m lt one (ap (λ (ms : List (Vec SlotMemory Global)). slice_get ms j) (sym pushed) ∙ two);
      held = λ j s m lt one two. held j s m lt one (ap (λ (ms : List (Vec SlotMemory Global)). slice_get ms j) (sym pushed) ∙ two);
    }

pub returns-clause-fit : goal.returns-clause-fit
returns-clause-fit c = record {
  all_stages = let all = c.loop-stage.invariant.all in omega arith;
  each = λ k s m one two. let lt = place_below c.args.stages.now k s one in c.loop-stage.invariant.fit k s m (omega arith) one two;
}

pub returns-clause-hold : goal.returns-clause-hold
returns-clause-hold c = λ cf same k s m one two.
    let here : slice_get c.args.stages.now k ≡ Some s = ap (λ (ss : List Stage). slice_get ss k) (sym same) ∙ one in
    let lt = place_below c.args.stages.now k s here in
    c.loop-stage.invariant.held k s m (omega arith) here two cf k one
