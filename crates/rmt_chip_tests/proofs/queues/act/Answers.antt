use Rattle.std.proofs.Common.{rules}
use Rattle.std.specs.List.{IsDistinct}
use Rattle.rmt_chip_tests.proofs.queues.act.Goals as goal

pub offer-requires-clause-once : goal.offer-requires-clause-once
unfolding IsDistinct
offer-requires-clause-once g c = (tt, tt)

pub offer-requires-in-Two-clause-once : goal.offer-requires-in-Two-clause-once
unfolding IsDistinct
offer-requires-in-Two-clause-once g c = search rules

pub offer-requires-in-Eight-clause-once : goal.offer-requires-in-Eight-clause-once
unfolding IsDistinct
offer-requires-in-Eight-clause-once g c = search rules
