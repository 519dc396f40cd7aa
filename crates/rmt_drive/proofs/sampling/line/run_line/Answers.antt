-- What was counted is what the chip answers.
use Rattle.std.proofs.Common.{◌∙◌}
use Rattle.rmt_packets.specs.PacketText.{packets_of}
use Rattle.rmt_drive.proofs.LineLaws.{both_ok}
use Rattle.rmt_drive.proofs.TallyLaws.{tallied_line}
use Rattle.rmt_drive.proofs.sampling.line.run_line.Goals as goal

pub run_packets-requires-clause-stands : goal.run_packets-requires-clause-stands
run_packets-requires-clause-stands c = (c.args.config, c.in-Ok-start.ensures.stands c.args.config c.in-Ok.ensures)

pub returns : goal.returns
returns c =
    let k = c.args.config in
    let stands = c.in_ok-run_packets.ensures.stands k (c.in-Ok-start.ensures.stands k c.in-Ok.ensures) in
    both_ok c.counts_line.result (λ line is _. is ∙ tallied_line c.args.number c.len-stages.result k (packets_of c.args.packets.now).packets c.run_packets.new.run c.len-stages.ensures stands)
    c.counts_line.ensures c.counts_line.ensures
