use Rattle.std.proofs.Common.{◌≡◌, ◌++◌, drop}
use Rattle.rmt_ast.specs.Naming.{named_from}
use Rattle.rmt_ast.proofs.naming.all_named.Given as goal

-- the tables so far, and then those of the other nodes
abbrev pub invariant-loop-number : goal.invariant-loop-number
invariant-loop-number l = l.tables ++ named_from l.program l.entries l.number (drop l.number l.node-items) ≡ named_from l.program l.entries 0 l.node-items
