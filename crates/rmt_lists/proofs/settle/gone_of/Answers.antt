use Rattle.std.proofs.lemmas.Map.Keys.{below_from_sorted}
use Rattle.rmt_lists.proofs.settle.gone_of.Goals as goal

pub returns-clause-rise : goal.returns-clause-rise
returns-clause-rise c i j d lt below = below_from_sorted c.args.gone.now.keys i j d c.len.ensures.ordered lt below
