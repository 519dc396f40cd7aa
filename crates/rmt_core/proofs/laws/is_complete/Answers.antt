use Rattle.rmt_core.proofs.Complete.{is_complete}
use Rattle.rmt_core.proofs.laws.is_complete.Goals as goal

pub returns : goal.returns
returns c = is_complete c.one_meaning.ensures.alone c.spells_one.ensures
