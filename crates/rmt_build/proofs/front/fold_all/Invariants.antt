use Rattle.std.proofs.Common.{◌≡◌, drop, length}
use Rattle.rmt_ast.specs.WellFormed.{AllNumbered}
use Rattle.rmt_vliw.specs.Folding.{IsFolding}
use Rattle.rmt_build.specs.Folds.{first_deep}
use Rattle.rmt_build.proofs.front.fold_all.Given as goal

-- the actions so far fold, and the first that doesn't is among those that are left
abbrev pub invariant-loop-action : goal.invariant-loop-action
invariant-loop-action l = record {
  count : length l.folded ≡ l.action;
  each : AllNumbered (IsFolding l.program) l.folded;
  rest : first_deep l.action (drop l.action l.program.actions) ≡ first_deep 0 l.program.actions;
}
