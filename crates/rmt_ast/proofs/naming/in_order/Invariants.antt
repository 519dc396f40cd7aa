use Rattle.std.proofs.Common.{◌≡◌, [], drop}
use Rattle.rmt_ast.specs.RankPairs.{pairs_with}
use Rattle.rmt_ast.proofs.naming.in_order.Given as goal

-- the ranks so far, and then those of the other entries
abbrev pub invariant-loop-entry : goal.invariant-loop-entry
invariant-loop-entry l = pairs_with l.set.keys (drop l.entry-index l.entries) ≡ pairs_with [] l.entries
