use Rattle.std.proofs.Common.{arith}
use Rattle.rmt_chip.proofs.LatencyLaws.{latency-le}
use Rattle.rmt_chip.proofs.cycle.latency.Goals as goal

pub overflow_cast-result : goal.overflow_cast-result
overflow_cast-result c =
    let most = latency-le c.args.stages.now c.requires in
    let is = c.latency.ensures in
    omega (arith, most, is)

pub returns-clause-within : goal.returns-clause-within
returns-clause-within c =
    let most = latency-le c.args.stages.now c.requires in
    let is = c.latency.ensures in
    omega (arith, most, is)
