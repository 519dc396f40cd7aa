use Rattle.rmt_core.proofs.Verified.{verifies_compiled}
use Rattle.rmt_core.proofs.laws.verifies_compiled.Goals as goal

pub returns : goal.returns
returns c = verifies_compiled c.one_meaning.ensures.alone c.spells_one.ensures
