-- What the clocked chip answers where cells change in flight: each packet looks up in the cells as they stand in the cycle of the look-up.
use Rattle.std.specs.Prelude.{ℕ, ◌+◌, ◌-◌, List, [], ◌∷◌, ◌++◌, false, ◌&&◌, ◌==◌, not, nat_le, nat_lt, length, if◌then◌else◌, Option, Some, None, fold, slice_get, option_map, option_and_then, unwrap_or, take, count_by, is_some}
use Rattle.std.specs.List.{flat_map, range_with_len}
use Rattle.rmt_bits.specs.Packet.{Packet}
use Rattle.rmt_bits.specs.Counts.{Hit, counts}
use Rattle.rmt_bits.specs.declared.answer.Count.{Count}
use Rattle.rmt_config.specs.Types.{Config, Stage, SlotUnit}
use Rattle.rmt_config.specs.Life.{Look}
use Rattle.rmt_config.specs.ChipRun.{Outcome, counted_numbers, hits_before, latency_of, outcome_of}
use Rattle.rmt_config.specs.Resources.{greatest_by}
use Rattle.rmt_config.specs.declared.cell_write.CellWrite.{CellWrite}
use Rattle.rmt_config.specs.RunCells.{RunCells, look_in, own_cells, slot_at, with_version, with_write}

-- the input of a cycle: nothing, a packet, a changed cell, or a new version with a seed
pub data Input : Type 0 where
  Idle : Input
  Enters : (packet : Packet) → Input
  Writes : (write : CellWrite) → Input
  Turns : (seed : ℕ) → Input

-- the input of a cycle in which a packet enters or nothing does
abbrev pub input_of : Option Packet → Input
input_of None = Idle
input_of (Some packet) = Enters packet

-- the cells after a cycle
abbrev pub after_input : Config → RunCells → Input → RunCells
after_input c cells Idle = cells
after_input c cells (Enters packet) = cells
after_input c cells (Writes write) = with_write c cells write
after_input c cells (Turns seed) = with_version cells seed

-- the cells in a cycle: a change is seen in later cycles
abbrev pub cells_at : Config → List Input → ℕ → RunCells
cells_at c inputs cycle = fold (after_input c) (own_cells c) (take cycle inputs)

-- the age at which a stage reads its keys
abbrev pub start_of : Config → ℕ → ℕ
start_of c k = unwrap_or (option_map (λ (stage : Stage). stage.start) (slice_get c.stages k)) 0

-- the look-ups of the packet that enters in a cycle: under the version that is current then, and in each stage in the cells of the cycle in which it
-- begins with the packet
abbrev pub look_from : Config → List Input → ℕ → Look
look_from c inputs cycle k = look_in c (cells_at c inputs cycle).version (cells_at c inputs (cycle + start_of c k)) k

-- the packet that enters with an input
abbrev pub packet_of : Input → Option Packet
packet_of Idle = None
packet_of (Enters packet) = Some packet
packet_of (Writes write) = None
packet_of (Turns seed) = None

-- what becomes of the packet that enters in a cycle
abbrev pub outcome_from_cycle : Config → List Input → ℕ → Option Outcome
outcome_from_cycle c inputs cycle =
    option_map (outcome_of (look_from c inputs cycle) c) (option_and_then packet_of (slice_get inputs cycle))

-- the answer of a cycle: that to the packet that entered the latency before, if one did
abbrev pub answer_in : Config → List Input → ℕ → Option Outcome
answer_in c inputs cycle = if nat_lt cycle (latency_of c.stages) then None else outcome_from_cycle c inputs (cycle - latency_of c.stages)

-- the number that a changed cell with a visible bit brings into a counted slot
abbrev pub numbers_brought : Config → Input → List ℕ
numbers_brought c Idle = []
numbers_brought c (Enters packet) = []
numbers_brought c (Turns seed) = []
numbers_brought c (Writes w) =
    if not (w.visible == 0) && unwrap_or (option_map (λ (slot : SlotUnit). slot.counted) (slot_at c w.stage w.unit)) false then w.number ∷ [] else []

-- the hits that are counted in the cycles from one on: what enters with n cycles to come has ages below n in them
abbrev pub hits_from : Config → List Input → ℕ → List Input → List Hit
hits_from c inputs cycle [] = []
hits_from c inputs cycle (input ∷ rest) =
    unwrap_or (option_map (λ packet. hits_before (length rest + 1) packet (outcome_of (look_from c inputs cycle) c packet).counted) (packet_of input)) []
    ++ hits_from c inputs (cycle + 1) rest

-- the counters after a run of inputs: one for each number that an occupied cell of a counted slot of the configuration has, or that a changed cell brought
abbrev pub counts_in : Config → List Input → List Count
counts_in c inputs = counts (counted_numbers c ++ flat_map (numbers_brought c) inputs) (hits_from c inputs 0 inputs)

-- how many packets are in flight in a cycle, each from age 0 to the age at which it leaves
abbrev pub in_flight : Config → List Input → ℕ → ℕ
in_flight c inputs cycle = count_by (λ age. nat_le age cycle && is_some (option_and_then packet_of (slice_get inputs (cycle - age)))) (range_with_len 0 (latency_of c.stages + 1))

-- the greatest number of packets that are in flight in one cycle of a run
abbrev pub flight_in : Config → List Input → ℕ
flight_in c inputs = greatest_by (in_flight c inputs) (range_with_len 0 (length inputs))
