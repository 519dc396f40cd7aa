use Rattle.std.proofs.Common.{◌≡◌, drop}
use Rattle.std.specs.Prelude.{nat_le, sum}
use Rattle.std.specs.List.{list_all}
use Rattle.rmt_ast.specs.declared.names.ActionName.{ActionName}
use Rattle.rmt_config.proofs.form.names.made.params_fit.Given as goal

abbrev pub invariant-loop-action : goal.invariant-loop-action
invariant-loop-action l =
    list_all (λ (a : ActionName). nat_le (sum a.params) l.held) (drop l.action-index l.actions) ≡ list_all (λ (a : ActionName). nat_le (sum a.params) l.held) l.actions
