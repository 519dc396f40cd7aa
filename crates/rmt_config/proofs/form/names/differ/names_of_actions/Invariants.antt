use Rattle.std.proofs.Common.{◌≡◌, map, take}
use Rattle.rmt_ast.specs.declared.names.ActionName.{ActionName}
use Rattle.rmt_ast.specs.NameList.{seen}
use Rattle.rmt_config.proofs.form.names.differ.names_of_actions.Given as goal

abbrev pub invariant-loop-action : goal.invariant-loop-action
invariant-loop-action l = seen l.names.items ≡ map (λ (a : ActionName). a.name) (take l.action-index l.actions)
