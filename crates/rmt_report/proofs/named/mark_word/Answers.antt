use Rattle.std.proofs.Common.{◌<◌, arith}
use Rattle.rmt_report.proofs.MarkLaws.{also_one}
use Rattle.rmt_report.proofs.named.mark_word.Goals as goal

pub returns : goal.returns
returns c = let byte : c.args.word < 256 = omega arith in also_one c.args.word c.args.marks.now byte
