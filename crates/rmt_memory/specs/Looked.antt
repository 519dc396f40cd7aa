-- What a unit read for a packet, against what the definitions find.
use Rattle.std.specs.Prelude.{◌≡◌, ℕ, ◌<◌, Bool, true, false, List, length, Option, Some, None, slice_index_or}
use Rattle.rmt_bits.specs.Bits.{number_of}
use Rattle.rmt_memory.specs.Types.{Stage, Unit}
use Rattle.rmt_config.specs.declared.config.Unit.TheVariants.{Gate, Slot}
use Rattle.rmt_config.specs.Cells.{Found}
use Rattle.rmt_config.specs.BlockCounts.{divided_up}
use Rattle.rmt_config.specs.Life.{Look, Words, gate_passes, looked_up}
use Rattle.rmt_memory.specs.declared.looked.Looked.{Looked}

-- what is kept of a look-up: whether it found, and what it found; the entry's number only where hits are counted
abbrev pub Finds : Bool → Option Found → Looked → Type 0
Finds counted None looked = looked.hit ≡ false
Finds counted (Some f) looked =
    (looked.hit ≡ true) × (looked.code ≡ f.code) × (counted ≡ true → looked.number ≡ f.number) × (number_of looked.held.items ≡ f.held)

-- what a unit of stage k reads, by its place there, from the words at the stage's start
abbrev pub LookedFor : Look → ℕ → ℕ → Words → Unit → Looked → Type 0
LookedFor look k place words (Gate g) looked = looked.hit ≡ gate_passes words g.tests
LookedFor look k place words (Slot s) looked = Finds s.counted (looked_up look k place words s) looked

-- how many bytes the data of an entry of a unit takes
abbrev pub held_bytes : Unit → ℕ
held_bytes (Gate g) = 0
held_bytes (Slot s) = divided_up s.held 8

-- room for the data of an entry
abbrev pub HasRoom : Unit → Looked → Type 0
HasRoom u looked = length looked.held.items ≡ held_bytes u

-- one for each unit of a stage, with room for what it may find
pub record HaveRoom (stage : Stage) (looked : List Looked) : Type 0 where
  pub all_units : length looked ≡ length stage.units
  pub each : (i : ℕ) (u : Unit) (d : Looked) → i < length stage.units → HasRoom (slice_index_or stage.units i u) (slice_index_or looked i d)

-- what each unit of stage k reads
pub record AllLooked (look : Look) (k : ℕ) (words : Words) (stage : Stage) (looked : List Looked) : Type 0 where
  pub all_units : length looked ≡ length stage.units
  pub each : (i : ℕ) (u : Unit) (d : Looked) → i < length stage.units → LookedFor look k i words (slice_index_or stage.units i u) (slice_index_or looked i d)
