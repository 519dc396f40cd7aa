use Rattle.std.proofs.Common.{◌≡◌, ℕ, List, ◌-◌, ◌++◌}
use Rattle.std.specs.List.{range_with_len}
use Rattle.rmt_pack.specs.declared.placement.Part.{Part}
use Rattle.rmt_place.specs.declared.demand.Demand.{Demand}
use Rattle.rmt_place.specs.Needs.{demand_at}
use Rattle.rmt_place.specs.Placing.{hits_in, stages_from}
use Rattle.rmt_place.specs.Steps.{HoldStages}
use Rattle.rmt_place.proofs.stages.hits.Given as goal

abbrev pub invariant-loop-stage : goal.invariant-loop-stage
invariant-loop-stage l = (demands : List Demand) (parts : List Part) (n : ℕ) → HoldStages demands parts l.loads → demand_at demands n ≡ l.demand
    → l.hits ++ hits_in demands parts n (range_with_len l.stage (32 - l.stage)) l.left ≡ hits_in demands parts n (stages_from l.fn.earliest) l.demand.quanta
