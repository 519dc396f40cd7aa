-- Runs in which each cycle has a packet or nothing.
use Rattle.std.specs.Prelude.{◌≡◌, ℕ, List, map, Option, Some, None, slice_index}
use Rattle.rmt_bits.specs.Packet.{Packet}
use Rattle.rmt_config.specs.ChipRun.{own_look, words_at}
use Rattle.rmt_config.specs.RunInputs.{input_of as input_with}
use Rattle.rmt_chip.specs.Types.{Config}
use Rattle.rmt_chip.specs.declared.chip.Chip.{Chip}
use Rattle.rmt_chip.specs.declared.seen.Seen.{Seen}
use Rattle.rmt_chip.specs.Stands.{Stands}

-- a chip stands for cycles in which these packets entered, or nothing did
abbrev pub StandsFor : Config → List (Option Packet) → Chip → Type 0
StandsFor c inputs chip = Stands c (map input_with inputs) chip

-- what is seen of a packet of this age, if there is one: its number, and its words under the configuration's own look-ups
abbrev pub ShowsPacket : Config → ℕ → ℕ → Option Packet → Option Seen → Type 0
ShowsPacket c age number None None = Unit {0}
ShowsPacket c age number None (Some seen) = ⊥
ShowsPacket c age number (Some packet) None = ⊥
ShowsPacket c age number (Some packet) (Some seen) =
    (seen.number ≡ number) × ((w : ℕ) → slice_index seen.words.now w ≡ words_at (own_look c) c packet age w)
