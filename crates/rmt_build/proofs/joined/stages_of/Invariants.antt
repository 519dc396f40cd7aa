use Rattle.std.specs.Prelude.{◌≡◌, length}
use Rattle.rmt_ast.specs.WellFormed.{AllNumbered}
use Rattle.rmt_build.specs.BuiltStage.{IsBuiltStage}
use Rattle.rmt_build.proofs.joined.stages_of.Given as goal

abbrev pub invariant-loop-number : goal.invariant-loop-number
invariant-loop-number l = record {
  so_far : length l.stages ≡ l.number;
  each : AllNumbered (IsBuiltStage l.whole.program.now l.whole.entries.now l.whole.plan.now) l.stages;
}
