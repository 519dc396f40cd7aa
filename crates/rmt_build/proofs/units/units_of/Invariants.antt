use Rattle.std.proofs.Common.{◌≡◌, filter}
use Rattle.std.specs.Prelude.{All, nat_lt}
use Rattle.std.specs.List.{AllZip, range_with_len}
use Rattle.rmt_pack.specs.Placements.{quanta_in}
use Rattle.rmt_refine.specs.Units.{UnitCarried}
use Rattle.rmt_build.specs.BuiltStage.{HaveParts, SmallUnit}
use Rattle.rmt_build.specs.Plans.{taken_upto}
use Rattle.rmt_build.proofs.units.units_of.Given as goal

-- the units of the nodes so far, and the blocks that they take
abbrev pub invariant-loop-node : goal.invariant-loop-node
invariant-loop-node l = record {
  units : AllZip (UnitCarried l.planned.program.now l.planned.plan.now.places l.planned.plan.now.placement.parts l.planned.stage) (filter (λ n. nat_lt 0 (quanta_in l.planned.plan.now.placement.parts n l.planned.stage)) (range_with_len 0 l.node)) l.units;
  parts : HaveParts l.planned.program.now l.planned.entries.now l.planned.plan.now l.planned.stage l.units;
  small : All SmallUnit l.units;
  taken : l.taken ≡ taken_upto l.planned.program.now l.planned.plan.now.placement.parts l.planned.stage l.node;
}
