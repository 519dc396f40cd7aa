use Rattle.rmt_switch.proofs.EmptyLaws.{all_sent}
use Rattle.rmt_switch.proofs.laws.everything_is_sent.Goals as goal

pub returns : goal.returns
returns c = all_sent
