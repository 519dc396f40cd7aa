use Rattle.std.proofs.Common.{◌≡◌, ◌++◌}
use Rattle.rmt_deps.specs.Edges.{guards_of, guards_up}
use Rattle.rmt_deps.proofs.facts.guards_above.Given as goal

-- the guards so far and those further up are all
abbrev pub invariant-loop-steps : goal.invariant-loop-steps
invariant-loop-steps l = guards_of l.program l.number ≡ l.guards ++ guards_up l.program l.steps l.at

abbrev pub decreases-loop-steps : goal.decreases-loop-steps
decreases-loop-steps l = l.steps
