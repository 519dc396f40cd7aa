use Rattle.rmt_config.proofs.LimitLemmas.{none_marked}
use Rattle.rmt_config.proofs.limits.marks.no_marks.Goals as goal

pub returns : goal.returns
returns c = none_marked
