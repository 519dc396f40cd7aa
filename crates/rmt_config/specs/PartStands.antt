-- Where a part of a table stands in a configuration that keeps the rules of items and of memory.
use Rattle.std.specs.Prelude.{◌≡◌, Some, true, slice_get}
use Rattle.rmt_config.specs.Types.{Config, Stage}
use Rattle.rmt_config.specs.declared.config.Unit.TheVariants.{Slot}
use Rattle.rmt_config.specs.Form.{visible_with}
use Rattle.rmt_config.specs.CellForm.{SlotHolds}
use Rattle.rmt_config.specs.UnitForm.{slot_is_formed}
use Rattle.rmt_config.specs.StageForm.{stage_is_formed}
use Rattle.rmt_config.specs.MemoryRules.{FormedRows}
use Rattle.rmt_config.specs.Rooms.{PartAt}

-- a part is a slot at a place of a stage, and the memory of the slot holds what it may
pub record PartStands (c : Config) (p : PartAt) : Type 0 where
  pub stage : Stage
  pub in_stages : slice_get c.stages p.stage ≡ Some stage
  pub in_units : slice_get stage.units p.place ≡ Some (Slot p.slot)
  pub formed : stage_is_formed stage ≡ true
  pub rows : FormedRows stage
  pub slot : slot_is_formed p.slot ≡ true
  pub holds : SlotHolds (visible_with c.names) stage p.first p.slot
