-- What is known of the stages while nodes are placed.
use Rattle.std.specs.Prelude.{◌≡◌, List, length}
use Rattle.rmt_place.specs.declared.demand.Demand.{Demand}
use Rattle.rmt_place.specs.declared.stages.Stages.{Stages}
use Rattle.rmt_place.specs.Steps.{HoldStages, AreLast}

-- the stages have what their parts take, keep their limits, and know the last stage of each node
pub record AreFilled (demands : List Demand) (stages : Stages) : Type 0 where
  pub loads : HoldStages demands stages.parts.items stages.loads.items
  pub last : AreLast stages.parts.items stages.last.items
  pub nodes : length stages.last.items ≡ length demands
