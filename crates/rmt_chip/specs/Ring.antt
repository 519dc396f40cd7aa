-- The ring of packet slots: an age is a place counted back from the newest, around so many places.
use Rattle.std.specs.Prelude.{◌≡◌, ℕ, zero, suc, ◌+◌, ◌-◌, ◌<◌, ◌==◌, nat_le, nat_lt, if◌then◌else◌, List, [], length, All, Option, Some, None, option_map, slice_index_or}
use Rattle.std.specs.Option.{option_or}
use Rattle.rmt_chip.specs.Types.{Config, Stage}
use Rattle.rmt_config.specs.ChipRun.{latency_of}
use Rattle.rmt_config.specs.RunCells.{RunCells, look_in}
use Rattle.rmt_chip.specs.declared.packet_slot.PacketSlot.{PacketSlot}
use Rattle.rmt_chip.specs.Pending.{HaveRoomFor}
use Rattle.rmt_chip.specs.Runnable.{start_of}
use Rattle.rmt_chip.specs.Held.{Entered, HoldsIf, FrameIs}

abbrev pub ring_at : ℕ → ℕ → ℕ → ℕ
ring_at size newest age = if nat_le age newest then newest - age else size - (age - newest)

-- the place that is the newest in the next cycle
abbrev pub ring_after : ℕ → ℕ → ℕ
ring_after size newest = if nat_lt (newest + 1) size then newest + 1 else 0

-- a packet slot for each age up to that at which packets leave, one of which is the newest, each with room for what the stages read
pub record IsRing (stages : List Stage) (newest : ℕ) (places : List PacketSlot) : Type 0 where
  pub full : length places ≡ latency_of stages + 1
  pub among : newest < length places
  pub room : All (λ (p : PacketSlot). HaveRoomFor stages p.pending.items) places

-- an age, now, one cycle ago or one cycle on
abbrev pub now : ℕ → ℕ
now age = age

abbrev pub past : ℕ → ℕ
past age = age - 1

abbrev pub next : ℕ → ℕ
next age = age + 1

-- below a bound now, from it on one cycle ago
abbrev pub partly : ℕ → ℕ → ℕ
partly bound age = if nat_lt age bound then age else age - 1

-- below a bound one cycle on, from it on now
abbrev pub partly_next : ℕ → ℕ → ℕ
partly_next bound age = if nat_lt age bound then age + 1 else age

-- the ages below which the first k stages have all acted, where each acts so many cycles after its start
abbrev pub done_before : List Stage → ℕ → ℕ → ℕ
done_before stages after k = if k == 0 then 0 else start_of stages (k - 1) + after + 1

-- each packet slot holds what entered so many cycles ago: its words, reads and acts as of these ages, and its look-ups below one
abbrev pub AllHold : Config → (ℕ → Option Entered) → (ℕ → ℕ) → (ℕ → ℕ) → (ℕ → ℕ) → (ℕ → ℕ) → ℕ → List PacketSlot → Type 0
AllHold c item words reads acts looks newest places =
    (age : ℕ) (d : PacketSlot) → age < length places → HoldsIf c (item age) (words age) (reads age) (acts age) (looks age) (slice_index_or places (ring_at (length places) newest age) d)

-- each frame is that of the packet that entered so many cycles ago
abbrev pub FramesAre : (ℕ → Option Entered) → ℕ → List (List ℕ) → Type 0
FramesAre item newest frames = (age : ℕ) → age < length frames → FrameIs (item age) (slice_index_or frames (ring_at (length frames) newest age) [])

-- the packet at the start of a stage looks up there in these cells
abbrev pub LooksNow : Config → RunCells → (ℕ → Option Entered) → Type 0
LooksNow c cells item = (k : ℕ) (e : Entered) → k < length c.stages → item (start_of c.stages k) ≡ Some e → e.look k ≡ look_in c e.version cells k

-- of packets by age the version of the oldest one below an age, if one is there
abbrev pub oldest_below : (ℕ → Option Entered) → ℕ → Option ℕ
oldest_below item zero = None
oldest_below item (suc age) = option_or (option_map (λ (e : Entered). e.version) (item age)) (oldest_below item age)
