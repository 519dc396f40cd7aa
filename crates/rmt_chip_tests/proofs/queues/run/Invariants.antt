use Rattle.std.proofs.Common.{◌≡◌, length}
use Rattle.rmt_queues.specs.Lists.{Lists}
use Rattle.rmt_queues.specs.Stands.{Stands}
use Rattle.rmt_chip_tests.proofs.queues.run.Given as goal

-- the queues stand for some lists
abbrev pub invariant-loop-step : goal.invariant-loop-step
invariant-loop-step g l = (s : Lists) × Stands s l.queues × (length s.queues ≡ 8)

abbrev pub invariant-loop : goal.invariant-loop
invariant-loop g l = (s : Lists) × Stands s l.queues × (length s.queues ≡ 8)
