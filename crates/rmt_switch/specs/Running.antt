-- A run of a switch, cycle by cycle.
use Rattle.std.specs.Prelude.{◌≡◌, ℕ, ◌≤◌, List, [], length, filter_map, if◌then◌else◌, Option, Some, None}
use Rattle.rmt_bits.specs.declared.answer.Verdict.{Verdict}
use Rattle.rmt_bits.specs.declared.answer.Verdict.TheVariants.{Sent}
use Rattle.std.specs.List.{flat_map, range_with_len}
use Rattle.rmt_config.specs.ChipRun.{Outcome, answer_at, cycles_of, inputs_of}
use Rattle.rmt_pcap.specs.declared.capture.Capture.{Capture}
use Rattle.rmt_queues.specs.Calls.{Call}
use Rattle.rmt_switch.specs.declared.running.Running.{Running}
use Rattle.rmt_switch.specs.Clocked.{Fits, IsClocked}
use Rattle.rmt_switch.specs.Ports.{Holds}
use Rattle.rmt_switch.specs.Switch.{Switch, calls_after, calls_of, is_sent, offer_of, packets_in, unsent}

-- what left, as the code has it: its offer, and whether it is a packet that was not sent
abbrev pub offer_left : List (List ℕ) → List ℕ → Option Verdict → List ℕ → List Call
offer_left groups time None bytes = []
offer_left groups time (Some v) bytes = offer_of groups time v bytes

abbrev pub unsent_left : Option Verdict → ℕ
unsent_left None = 0
unsent_left (Some v) = if is_sent v then 0 else 1

-- what is sent can be offered
abbrev pub CanBeOffered : List ℕ → Option Verdict → List ℕ → Type 0
CanBeOffered time left bytes = (port : ℕ) → left ≡ Some (Sent port) → (length time ≡ 8) × Fits port bytes

-- the calls of the first cycles
abbrev pub first_calls : Switch → List ℕ → Capture → ℕ → List Call
first_calls s file capture cycles = flat_map (calls_after s file capture) (range_with_len 0 cycles)

-- what leaves in the first cycles
abbrev pub first_outcomes : Switch → List ℕ → Capture → ℕ → List Outcome
first_outcomes s file capture cycles = filter_map (answer_at s.config (inputs_of s.config (packets_in file capture))) (range_with_len 0 cycles)

-- a run after so many cycles
pub record Goes (s : Switch) (file : List ℕ) (capture : Capture) (cycles : ℕ) (run : Running) : Type 0 where
  pub clocked : IsClocked s.config (packets_in file capture) cycles run.chip
  pub holds : Holds capture (first_calls s file capture cycles) run.ports
  pub dropped : run.dropped ≡ unsent (first_outcomes s file capture cycles)
  pub few : run.dropped ≤ cycles

-- a run whose queues were taken empty behind the last cycle
pub record Ends (s : Switch) (file : List ℕ) (capture : Capture) (run : Running) : Type 0 where
  pub holds : Holds capture (calls_of s file capture) run.ports
  pub dropped : run.dropped ≡ unsent (first_outcomes s file capture (cycles_of s.config (packets_in file capture)))
