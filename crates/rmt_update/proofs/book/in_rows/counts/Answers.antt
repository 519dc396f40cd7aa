use Rattle.std.proofs.Common.{ℕ}
use Rattle.std.specs.Prelude.{count_by, nat_lt}
use Rattle.rmt_book.proofs.SliceLoops.{map-all, map-next}
use Rattle.rmt_update.proofs.book.in_rows.counts.Goals as goal

pub loop-number-preserved : goal.loop-number-preserved
loop-number-preserved c =
    map-next (λ o. count_by (λ (n : ℕ). nat_lt n o) c.args.sorted.now) c.args.numbers.now c.loop-number.number-index 0 c.loop-number.counts.items _ _ c.loop-number-test.true c.loop-number.invariant
    c.in_ok-push.ensures.items c.below-count.ensures.count

pub returns : goal.returns
returns c =
    map-all (λ o. count_by (λ (n : ℕ). nat_lt n o) c.args.sorted.now) c.args.numbers.now c.loop-number.number-index c.loop-number.counts.items c.loop-number.invariant c.loop-number-test.false
