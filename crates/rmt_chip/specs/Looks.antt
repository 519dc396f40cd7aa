-- Which cells a look-up function looks into.
use Rattle.std.specs.Prelude.{◌≡◌, ℕ, ◌<◌, Bool, length, slice_index_or}
use Rattle.rmt_chip.specs.Types.{Stage, Unit, SlotUnit}
use Rattle.rmt_config.specs.declared.config.Unit.TheVariants.{Slot}
use Rattle.rmt_config.specs.Life.{Look}
use Rattle.rmt_config.specs.RunCells.{RunCells, found_in_slot}

-- a slot that is a unit of stage k, as a packet of a version sees it
abbrev pub LooksAt : Bool → ℕ → RunCells → Look → ℕ → ℕ → Unit → Type 0
LooksAt named version cells look k place unit = (s : SlotUnit) → unit ≡ Slot s → (key : ℕ) → look k place key ≡ found_in_slot named version cells k place key s

-- all slots of stage k
abbrev pub LooksInto : Bool → ℕ → RunCells → Stage → Look → ℕ → Type 0
LooksInto named version cells stage look k = (i : ℕ) (u : Unit) → i < length stage.units → LooksAt named version cells look k i (slice_index_or stage.units i u)
