use Rattle.rmt_phv.proofs.SetLaws.{has-insert}
use Rattle.rmt_phv.proofs.sets.insert.Goals as goal

pub returns : goal.returns
returns c = λ n. has-insert c.args.set.now c.args.number n c.requires
