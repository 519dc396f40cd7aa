use Rattle.rmt_image.proofs.Whole.{spelled_once}
use Rattle.rmt_image.proofs.reading.spells_one.Goals as goal

pub returns : goal.returns
returns c = spelled_once
