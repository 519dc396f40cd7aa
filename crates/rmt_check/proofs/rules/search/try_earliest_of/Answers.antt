use Rattle.rmt_check.proofs.Earliest.{earliest_more_at}
use Rattle.rmt_check.proofs.rules.search.try_earliest_of.Goals as goal

pub loop-item-preserved : goal.loop-item-preserved
loop-item-preserved g c = earliest_more_at _ _ _ _ _ _ _ c.loop-item-test.true c.item-item.is c.loop-item.invariant c.in_ok-at.ensures c.earlier-first.ensures.value
