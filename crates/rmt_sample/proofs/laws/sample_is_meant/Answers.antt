use Rattle.rmt_sample.proofs.MeaningLaws.{sample_is_meant}
use Rattle.rmt_sample.proofs.laws.sample_is_meant.Goals as goal

pub returns : goal.returns
returns c = sample_is_meant
