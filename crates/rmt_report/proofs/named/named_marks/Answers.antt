use Rattle.std.proofs.Common.{[]}
use Rattle.rmt_report.proofs.named.named_marks.Goals as goal

pub returns : goal.returns
returns c = c.mark.ensures.also [] c.no_marks-marks.ensures
