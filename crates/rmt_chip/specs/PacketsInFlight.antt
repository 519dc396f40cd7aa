-- What is in flight after some inputs.
use Rattle.std.specs.Prelude.{◌≡◌, ℕ, ◌+◌, ◌≤◌, List, ◌++◌, fold, length, Option, Vec}
use Rattle.std.specs.declared.alloc.Global.{Global}
use Rattle.std.specs.List.{flat_map}
use Rattle.rmt_bits.specs.Counts.{counts}
use Rattle.rmt_bits.specs.declared.answer.Count.{Count}
use Rattle.rmt_chip.specs.Types.{Config}
use Rattle.rmt_config.specs.ChipRun.{counted_numbers, latency_of}
use Rattle.rmt_config.specs.RunCells.{RunCells, own_cells}
use Rattle.rmt_config.specs.RunInputs.{Input, after_input, hits_from, numbers_brought, packet_of}
use Rattle.rmt_chip.specs.declared.packet_slot.PacketSlot.{PacketSlot}
use Rattle.rmt_chip.specs.declared.frame.Frame.{Frame}
use Rattle.rmt_memory.specs.declared.memory.SlotMemory.{SlotMemory}
use Rattle.rmt_chip.specs.declared.moment.Moment.{Moment}
use Rattle.rmt_chip.specs.Inputs.{entered_at, input_of, packets_of}
use Rattle.rmt_memory.specs.StageMemories.{MemoriesHold}
use Rattle.rmt_chip.specs.Ring.{ring_after, now, next, AllHold, FramesAre}

-- the numbers that have counters: those of the configuration, and those that changed cells brought
abbrev pub numbers_after : Config → List Input → List ℕ
numbers_after c inputs = counted_numbers c ++ flat_map (numbers_brought c) inputs

-- After some inputs of a run each packet slot holds what entered so many cycles ago, at that age of its life, and its frame; and what was
-- hit so far is counted, for these numbers. A packet's later look-ups are those in the cells that the run's later inputs leave.
pub record InFlight (c : Config) (numbers : List ℕ) (inputs later : List Input) (newest : ℕ) (places : List PacketSlot) (frames : List (List ℕ)) (counters : List Count) : Type 0 where
  pub places_hold : AllHold c (entered_at c (inputs ++ later) (length inputs)) now now now next newest places
  pub frames_stand : FramesAre (entered_at c (inputs ++ later) (length inputs)) newest frames
  pub counters_are : counters ≡ counts numbers (hits_from c (inputs ++ later) 0 inputs)

-- the cells after all inputs
abbrev pub cells_after : Config → List Input → RunCells
cells_after c inputs = fold (after_input c) (own_cells c) inputs

-- behind these inputs an input is to come in the next cycle, with a frame where a packet enters; before it this slot was the newest
pub record Precedes (c : Config) (inputs : List Input) (input : Input) (before : ℕ) (moment : Moment) (frame : Option Frame) (memories : List (Vec SlotMemory Global)) : Type 0 where
  pub within : before ≤ latency_of c.stages
  pub newest_is : moment.newest ≡ ring_after (latency_of c.stages + 1) before
  pub number_is : moment.number ≡ packets_of inputs
  pub version_is : moment.version ≡ (cells_after c inputs).version
  pub seed_is : moment.seed ≡ (cells_after c inputs).seed
  pub enters : packet_of input ≡ input_of frame
  pub held : MemoriesHold c (cells_after c inputs) memories
