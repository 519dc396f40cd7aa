use Rattle.std.proofs.Common.{take}
use Rattle.std.specs.List.{flat_map}
use Rattle.rmt_config.specs.Resources.{unit_sram}
use Rattle.rmt_config.specs.LimitSteps.{Counts}
use Rattle.rmt_config.proofs.limits.listing.listings.Given as goal
use Rattle.rmt_config.specs.StageForm.{tcam_blocks}

abbrev pub invariant-loop-unit : goal.invariant-loop-unit
invariant-loop-unit l = record {
  sram : Counts (flat_map unit_sram (take l.unit-index l.units)) l.sram;
  tcam : Counts (flat_map tcam_blocks (take l.unit-index l.units)) l.tcam;
}
