use Rattle.std.proofs.Common.{◌≡◌, take}
use Rattle.std.specs.Prelude.{sum_by}
use Rattle.rmt_config.specs.Instructions.{unit_instructions}
use Rattle.rmt_pack.specs.Rows.{blocks_of}
use Rattle.rmt_filling.specs.Listing.{masks_of, values_of}
use Rattle.rmt_build.specs.Written.{UnitsWritten}
use Rattle.rmt_build.proofs.filling.write_units.Given as goal

-- the units so far, and their instructions
abbrev pub invariant-loop-unit : goal.invariant-loop-unit
invariant-loop-unit l = record {
  written : UnitsWritten l.planned.program.now l.planned.entries.now l.planned.plan.now l.planned.stage l.units l.unit-index (record { sram = blocks_of l.sram; values = values_of l.tcam; masks = masks_of l.tcam });
  first : l.first ≡ sum_by unit_instructions (take l.unit-index l.units);
}
