use Rattle.std.proofs.Common.{take}
use Rattle.std.specs.List.{AllZip}
use Rattle.rmt_refine.specs.Units.{UnitCarried}
use Rattle.rmt_verify.proofs.units.stage.units_are.Given as goal

abbrev pub invariant-loop-place : goal.invariant-loop-place
invariant-loop-place l = AllZip (UnitCarried l.at.program.now l.at.places.now l.at.parts.now l.at.stage) (take l.place l.nodes) (take l.place l.units)
