use Rattle.std.proofs.Common.{◌≡◌, map, take}
use Rattle.std.specs.Prelude.{count_by, nat_lt}
use Rattle.rmt_update.proofs.book.in_rows.counts.Given as goal

-- the counts so far
abbrev pub invariant-loop-number : goal.invariant-loop-number
invariant-loop-number l = l.counts.items ≡ map (λ o. count_by (λ n. nat_lt n o) l.sorted) (take l.number-index l.numbers)
