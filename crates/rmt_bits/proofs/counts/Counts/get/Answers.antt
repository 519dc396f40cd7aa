use Rattle.std.proofs.Common.{sym, ◌∙◌}
use Rattle.rmt_bits.proofs.RunLaws.{get-front}
use Rattle.rmt_bits.proofs.counts.Counts.get.Goals as goal

pub returns : goal.returns
returns c =
    let rest = c.run_at.ensures.stretch in
    get-front c.args.self.now.counts c.run_at.result.now rest.0 c.args.at rest.1 c.run_at.ensures.next ∙ sym c.first.ensures.value
