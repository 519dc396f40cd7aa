use Rattle.std.proofs.Common.{◌≡◌, ◌++◌, map}
use Rattle.rmt_ast.specs.RankPairs.{rank_of_pair}
use Rattle.rmt_ast.proofs.naming.ranks_of_set.Given as goal

-- the ranks so far, and then the others
abbrev pub invariant-loop-pair : goal.invariant-loop-pair
invariant-loop-pair l = l.ranks ++ map rank_of_pair l.pair-iterator ≡ map rank_of_pair l.set.keys
