use Rattle.std.proofs.Common.{None, below_more, arith}
use Rattle.rmt_memory.specs.Searching.{FirstInWay}
use Rattle.rmt_memory.proofs.exact.place_of.Goals as goal

pub loop-way-init : goal.loop-way-init
loop-way-init c = λ w lt. absurd (omega (arith, lt))

pub first_in_way-requires-clause-within : goal.first_in_way-requires-clause-within
first_in_way-requires-clause-within c = c.requires.within

pub first_in_way-requires-clause-size : goal.first_in_way-requires-clause-size
first_in_way-requires-clause-size c = c.requires.size

pub returns-in-Some-clause-first : goal.returns-in-Some-clause-first
returns-in-Some-clause-first c = (c.loop-way.way, c.loop-way-test.true, c.in-Some.ensures.first, c.loop-way.invariant)

pub returns-in-Some-clause-within : goal.returns-in-Some-clause-within
returns-in-Some-clause-within c = c.in-Some.ensures.within

pub loop-way-preserved : goal.loop-way-preserved
loop-way-preserved c =
    below_more (λ w. FirstInWay c.args.ways c.args.cells.now c.args.seed c.args.sight c.args.key.now w None) c.loop-way.way c.loop-way.invariant c.in_default.ensures.first

pub returns-clause-first : goal.returns-clause-first
returns-clause-first c = λ w lt. c.loop-way.invariant w (omega (arith, lt))
