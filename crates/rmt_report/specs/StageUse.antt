-- What a stage uses of the chip, in numbers.
use Rattle.std.specs.Prelude.{length}
use Rattle.std.specs.List.{flat_map, count_by, sum_by}
use Rattle.rmt_config.specs.Instructions.{unit_instructions}
use Rattle.rmt_config.specs.declared.config.Stage.{Stage}
use Rattle.rmt_config.specs.Resources.{is_slot, is_gate, unit_data, unit_sram, exact_words, ternary_words, crossbar_bits}
use Rattle.rmt_config.specs.StageForm.{tcam_blocks}
use Rattle.rmt_report.specs.declared.stage_use.StageUse.{StageUse}

-- blocks as often as units list them, crossbar words each once, and the sums of units, instructions and data bits
abbrev pub use_of : Stage → StageUse
use_of stage = record {
  data_bits = sum_by unit_data stage.units;
  exact_bits = crossbar_bits exact_words stage.units;
  gates = count_by is_gate stage.units;
  instructions = sum_by unit_instructions stage.units;
  slots = count_by is_slot stage.units;
  sram = length (flat_map unit_sram stage.units);
  start = stage.start;
  tcam = length (flat_map tcam_blocks stage.units);
  ternary_bits = crossbar_bits ternary_words stage.units;
}
