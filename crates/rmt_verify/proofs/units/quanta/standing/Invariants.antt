use Rattle.std.proofs.Common.{◌≡◌, filter, get_or}
use Rattle.std.specs.Prelude.{nat_lt}
use Rattle.std.specs.List.{range_with_len}
use Rattle.rmt_verify.proofs.units.quanta.standing.Given as goal

-- those of the nodes so far that have quanta
abbrev pub invariant-loop-node : goal.invariant-loop-node
invariant-loop-node l = l.nodes.items ≡ filter (λ n. nat_lt 0 (get_or l.quanta n 0)) (range_with_len 0 l.node)
