-- Fifth part: the instructions of a configuration are those of a program's actions, for the places of its fields.
use Rattle.std.specs.Prelude.{◌≡◌, ℕ, List, Some, slice_get}
use Rattle.rmt_bits.specs.declared.lane.Lane.{Lane}
use Rattle.rmt_refine.specs.Types.{Program, Table, Config, Stage, SlotUnit}
use Rattle.rmt_config.specs.Instructions.{first_code}
use Rattle.rmt_refine.specs.Units.{table_at}
use Rattle.rmt_refine.specs.View.{slot_of}
use Rattle.rmt_vliw.specs.Coded.{ActionsFold, TableCoded}

-- each part of each table has the table's instructions
abbrev pub TablesCoded : Program → List (List Lane) → Config → Type 0
TablesCoded p places c =
    (n k place : ℕ) (t : Table) (stage : Stage) (slot : SlotUnit) → table_at p n ≡ Some t → slice_get c.stages k ≡ Some stage
    → slot_of stage place ≡ Some slot → slot.node ≡ n → TableCoded p places t (first_code stage place) stage

-- Every action folds, and each part of each table has the instructions of its actions and of its default.
pub record IsCoded (p : Program) (places : List (List Lane)) (c : Config) : Type 0 where
  pub fold : ActionsFold p
  pub tables : TablesCoded p places c
