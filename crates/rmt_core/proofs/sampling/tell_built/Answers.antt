use Rattle.std.proofs.Common.{ap, ◌∙◌}
use Rattle.rmt_packets.specs.PacketText.{packets_of}
use Rattle.rmt_drive.proofs.LineLaws.{both_ok}
use Rattle.rmt_core.proofs.SampleLaws.{chip_line_of}
use Rattle.rmt_sample.proofs.TextLaws.{packets_good}
use Rattle.rmt_core.proofs.sampling.tell_built.Goals as goal

pub run_line-requires-clause-good : goal.run_line-requires-clause-good
run_line-requires-clause-good g c = ap (λ t. (packets_of t).bad) c.requires.packets ∙ packets_good c.args.number

pub returns-clause-line : goal.returns-clause-line
returns-clause-line g c = λ line is.
    c.tell.ensures.line line (both_ok c.run_line.result (λ l found _. chip_line_of c.args.number c.args.built.config c.args.packets.now l.items line c.requires.packets found is) c.run_line.ensures c.run_line.ensures)
