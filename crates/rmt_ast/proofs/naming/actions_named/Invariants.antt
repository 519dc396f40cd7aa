use Rattle.std.proofs.Common.{◌≡◌, ◌++◌, drop, map}
use Rattle.rmt_ast.specs.Naming.{action_named}
use Rattle.rmt_ast.proofs.naming.actions_named.Given as goal

-- the actions so far, and then the others
abbrev pub invariant-loop-action : goal.invariant-loop-action
invariant-loop-action l = l.named ++ map (action_named l.program) (drop l.action-index l.actions) ≡ map (action_named l.program) l.actions
