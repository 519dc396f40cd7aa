use Rattle.rmt_core.proofs.GivenOnce.{gives_one}
use Rattle.rmt_core.proofs.laws.gives_one.Goals as goal

pub returns : goal.returns
returns c = gives_one c.one_meaning.ensures.alone c.never_both.ensures c.spells_one.ensures
