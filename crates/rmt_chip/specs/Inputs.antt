-- What has entered the chip, by cycle and by age.
use Rattle.std.specs.Prelude.{ℕ, slice_set, ◌-◌, ◌<◌, ◌≤◌, nat_lt, if◌then◌else◌, length, List, take, count_by, is_some, Option, Some, None, option_map, option_and_then, slice_get}
use Rattle.std.specs.Option.{ForSome}
use Rattle.rmt_bits.specs.Packet.{Packet}
use Rattle.rmt_config.specs.RunInputs.{Input, cells_at, input_of as input_with, look_from, packet_of}
use Rattle.rmt_chip.specs.Types.{Config}
use Rattle.rmt_chip.specs.declared.frame.Frame.{Frame}
use Rattle.rmt_chip.specs.Held.{Entered}

-- how many packets are among the inputs
abbrev pub packets_of : List Input → ℕ
packets_of inputs = count_by (λ input. is_some (packet_of input)) inputs

-- the packet that enters in a cycle of a run, with what it is given there
abbrev pub entering : Config → List Input → ℕ → Packet → Entered
entering c run cycle packet = record { packet = packet; number = packets_of (take cycle run); version = (cells_at c run cycle).version; look = look_from c run cycle }

abbrev pub entered_in : Config → List Input → ℕ → Option Entered
entered_in c run cycle = option_map (entering c run cycle) (option_and_then packet_of (slice_get run cycle))

-- what has an age in the last of so many cycles of a run
abbrev pub entered_at : Config → List Input → ℕ → ℕ → Option Entered
entered_at c run cycles age = if nat_lt age cycles then entered_in c run (cycles - 1 - age) else None

-- what a frame is as a packet, and as an input
abbrev pub input_of : Option Frame → Option Packet
input_of frame = option_map (λ (f : Frame). record { port = f.port; frame = f.bytes.now }) frame

abbrev pub input_from : Option Frame → Input
input_from frame = input_with (input_of frame)

-- a frame that may enter: on a port below 512, and of at most 9,216 bytes
abbrev pub MayEnter : Option Frame → Type 0
MayEnter frame = ForSome frame (λ (f : Frame). (f.port < 512) × (1 ≤ length f.bytes.now) × (length f.bytes.now ≤ 9216))

-- the frames in the packet slots after a cycle's input has entered one of them
abbrev pub frames_after : Option Frame → ℕ → List (List ℕ) → List (List ℕ)
frames_after None at frames = frames
frames_after (Some f) at frames = slice_set frames at f.bytes.now
