use Rattle.rmt_core.proofs.SimPlain.{sim_prints_plain}
use Rattle.rmt_core.proofs.laws.sim_prints_plain.Goals as goal

pub returns : goal.returns
returns c = sim_prints_plain c.one_meaning.ensures.alone c.one_meaning.ensures.formed c.lists_or_fault.ensures.lists c.event_lists.ensures
