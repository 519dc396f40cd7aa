-- A stage whose sums are at most those of the chip.
use Rattle.std.specs.Prelude.{◌≤◌, length}
use Rattle.std.specs.List.{flat_map, sum_by, count_by}
use Rattle.rmt_config.specs.Instructions.{unit_instructions}
use Rattle.rmt_config.specs.declared.config.Stage.{Stage}
use Rattle.rmt_config.specs.Resources.{is_slot, is_gate, unit_data, unit_sram}
use Rattle.rmt_config.specs.StageForm.{tcam_blocks}

-- what is summed over the units of a stage is within the limits
pub record StageFits (stage : Stage) : Type 0 where
  pub sram : length (flat_map unit_sram stage.units) ≤ 106
  pub tcam : length (flat_map tcam_blocks stage.units) ≤ 16
  pub slots : count_by is_slot stage.units ≤ 16
  pub instructions : sum_by unit_instructions stage.units ≤ 32
  pub data_bits : sum_by unit_data stage.units ≤ 1280
  pub gates : count_by is_gate stage.units ≤ 16
