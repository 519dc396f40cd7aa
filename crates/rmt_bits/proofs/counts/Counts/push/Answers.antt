use Rattle.std.proofs.Common.{[], append-nil, ap, sym, ◌∙◌}
use Rattle.rmt_bits.specs.Counting.{with_count}
use Rattle.rmt_bits.proofs.CountLaws.{with_count-above}
use Rattle.rmt_bits.proofs.counts.Counts.push.Goals as goal

pub returns-clause-ok : goal.returns-clause-ok
returns-clause-ok c =
    let n = c.args.number in
    let cs = c.args.self.now.counts in
    c.add.ensures.counts
    ∙ ap (with_count n) (c.reserve.ensures.counts ∙ sym (append-nil cs))
    ∙ with_count-above n cs [] c.requires
