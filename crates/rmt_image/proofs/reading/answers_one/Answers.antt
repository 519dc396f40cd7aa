use Rattle.rmt_image.proofs.Whole.{answered_once}
use Rattle.rmt_image.proofs.reading.answers_one.Goals as goal

pub returns : goal.returns
returns c = answered_once
