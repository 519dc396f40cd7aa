use Rattle.std.proofs.Common.{◌≡◌, ◌++◌, filter, eqb, get_or, length}
use Rattle.std.specs.List.{flat_map, range_with_len}
use Rattle.rmt_place.proofs.order.order.Given as goal

abbrev pub invariant-loop-level : goal.invariant-loop-level
invariant-loop-level l = l.order ≡ flat_map (λ level. filter (λ n. eqb (get_or l.levels n 0) level) (range_with_len 0 (length l.levels))) (range_with_len 0 l.level)

abbrev pub invariant-loop-node : goal.invariant-loop-node
invariant-loop-node l = l.order ≡ l.initial.order ++ filter (λ n. eqb (get_or l.levels n 0) l.level) (range_with_len 0 l.node)
