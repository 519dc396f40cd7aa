-- What a chip stands for.
use Rattle.std.specs.Prelude.{◌≡◌, ℕ, nat_le, if◌then◌else◌, length, List, [], ◌∷◌, ◌++◌, Option, Some, None, slice_index}
use Rattle.rmt_chip.specs.Types.{Config}
use Rattle.rmt_config.specs.ChipRun.{latency_of, words_at}
use Rattle.rmt_config.specs.Form.{Formed}
use Rattle.rmt_config.specs.RunInputs.{Input}
use Rattle.rmt_chip.specs.declared.chip.Chip.{Chip}
use Rattle.rmt_chip.specs.declared.seen.Seen.{Seen}
use Rattle.rmt_chip.specs.FrameList.{frames_of}
use Rattle.rmt_chip.specs.Held.{Entered}
use Rattle.rmt_chip.specs.Inputs.{entered_at, packets_of}
use Rattle.rmt_chip.specs.Ring.{oldest_below}
use Rattle.rmt_memory.specs.StageMemories.{MemoriesHold}
use Rattle.rmt_chip.specs.PacketsInFlight.{InFlight, cells_after, numbers_after}

-- a chip with this configuration has taken these inputs, whatever comes later, and counts for these numbers
pub record Took (c : Config) (numbers : List ℕ) (inputs : List Input) (chip : Chip) : Type 0 where
  pub formed : Formed c
  pub config_is : chip.config ≡ c
  pub memories_are : MemoriesHold c (cells_after c inputs) chip.memories.items
  pub entered_is : chip.entered ≡ packets_of inputs
  pub seed_is : chip.seed ≡ (cells_after c inputs).seed
  pub version_is : chip.version ≡ (cells_after c inputs).version
  pub in_flight : (later : List Input) → InFlight c numbers inputs later chip.newest chip.places.items (frames_of chip.frames) chip.counters.counts

-- and so stands for the inputs of the cycles so far
abbrev pub Stands : Config → List Input → Chip → Type 0
Stands c inputs chip = Took c (numbers_after c inputs) inputs chip

-- the same in a cycle whose input is known: its packet has entered, but its changed cell, version or seed doesn't count yet
pub record Turned (c : Config) (numbers : List ℕ) (inputs : List Input) (input : Input) (chip : Chip) : Type 0 where
  pub formed : Formed c
  pub config_is : chip.config ≡ c
  pub memories_are : MemoriesHold c (cells_after c inputs) chip.memories.items
  pub entered_is : chip.entered ≡ packets_of (inputs ++ input ∷ [])
  pub seed_is : chip.seed ≡ (cells_after c inputs).seed
  pub version_is : chip.version ≡ (cells_after c inputs).version
  pub in_flight : (later : List Input) → InFlight c numbers (inputs ++ input ∷ []) later chip.newest chip.places.items (frames_of chip.frames) chip.counters.counts

-- how many packets entered
abbrev pub entered_of : Chip → ℕ
entered_of chip = chip.entered

-- how many versions were made
abbrev pub version_of : Chip → ℕ
version_of chip = chip.version

-- for how many more numbers there is room to count
abbrev pub spare_of : Chip → ℕ
spare_of chip = chip.counters.room

-- the packet of this age, if one is in flight
abbrev pub in_flight : Config → List Input → ℕ → Option Entered
in_flight c inputs age = if nat_le age (latency_of c.stages) then entered_at c inputs (length inputs) age else None

-- what is seen of a packet of this age: its number and its words
abbrev pub Shows : Config → ℕ → Option Entered → Option Seen → Type 0
Shows c age None None = Unit {0}
Shows c age None (Some seen) = ⊥
Shows c age (Some entered) None = ⊥
Shows c age (Some entered) (Some seen) =
    (seen.number ≡ entered.number) × ((w : ℕ) → slice_index seen.words.now w ≡ words_at entered.look c entered.packet age w)

-- the version of the oldest packet that hasn't left; it leaves in the cycle in which its age is the latency
abbrev pub oldest_in_flight : Config → List Input → Option ℕ
oldest_in_flight c inputs = oldest_below (entered_at c inputs (length inputs)) (latency_of c.stages)
