use Rattle.std.proofs.Common.{take}
use Rattle.rmt_build.specs.UnitCode.{DoUnits}
use Rattle.rmt_build.proofs.code.code_of.Given as goal

-- the instructions of the units so far
abbrev pub invariant-loop-unit : goal.invariant-loop-unit
invariant-loop-unit l = DoUnits l.planned.program.now l.planned.plan.now.places (take l.unit-index l.units) l.code
