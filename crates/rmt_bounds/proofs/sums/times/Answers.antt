use Rattle.std.proofs.Common.{arith}
use Rattle.std.proofs.Math.Nat.{mul-le-mul}
use Rattle.rmt_bounds.proofs.sums.times.Goals as goal

pub overflow_mul-result : goal.overflow_mul-result
overflow_mul-result c = omega (arith, mul-le-mul c.requires.quanta c.requires.blocks)

pub returns-clause-small : goal.returns-clause-small
returns-clause-small c = omega (arith, mul-le-mul c.requires.quanta c.requires.blocks)
