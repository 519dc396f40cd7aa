use Rattle.std.proofs.Common.{◌≡◌, length}
use Rattle.rmt_ast.specs.WellFormed.{AllNumbered}
use Rattle.rmt_vliw.specs.Folding.{IsFolding}
use Rattle.rmt_verify.proofs.instructions.foldings.foldings_of.Given as goal

-- what the actions so far fold to
abbrev pub invariant-loop-action : goal.invariant-loop-action
invariant-loop-action l = record {
  count : length l.folded ≡ l.action;
  each : AllNumbered (IsFolding l.program) l.folded;
}
