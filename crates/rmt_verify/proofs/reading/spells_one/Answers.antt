use Rattle.rmt_verify.proofs.Whole.{spelled_once}
use Rattle.rmt_verify.proofs.reading.spells_one.Goals as goal

pub returns : goal.returns
returns c = spelled_once
