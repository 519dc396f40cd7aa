-- A chip in a run of the packets of a list, one a cycle.
use Rattle.std.specs.Prelude.{◌≡◌, ℕ, ◌<◌, ◌≤◌, ◌-◌, List, length, take, Some, slice_get}
use Rattle.rmt_bits.specs.Packet.{Packet}
use Rattle.rmt_config.specs.declared.config.Config.{Config}
use Rattle.rmt_config.specs.ChipRun.{Outcome, inputs_of, latency_of, outcome_of, own_look}
use Rattle.rmt_config.specs.Form.{Formed}
use Rattle.rmt_config.specs.Limits.{IsWithinLimits}
use Rattle.rmt_chip.specs.declared.chip.Chip.{Chip}
use Rattle.rmt_chip.specs.PacketRuns.{StandsFor}

-- a chip after so many cycles of the run
abbrev pub IsClocked : Config → List Packet → ℕ → Chip → Type 0
IsClocked c packets cycles chip = StandsFor c (take cycles (inputs_of c packets)) chip

-- a configuration that the chip runs
pub record Runs (c : Config) : Type 0 where
  pub form : Formed c
  pub limits : IsWithinLimits c

-- what leaves in a cycle became of one of the packets
pub record Left (c : Config) (packets : List Packet) (cycle : ℕ) (outcome : Outcome) : Type 0 where
  pub packet : Packet
  pub entered : slice_get packets (cycle - latency_of c.stages) ≡ Some packet
  pub is : outcome_of (own_look c) c packet ≡ outcome

-- a packet that is sent goes to a port below 512, with bytes that fit an item
pub record Fits (port : ℕ) (bytes : List ℕ) : Type 0 where
  pub port_below : port < 512
  pub few : length bytes ≤ 13312
