-- What leaves the chip in the cycles of packets alone.
use Rattle.std.specs.Prelude.{List, length, filter_map, Option}
use Rattle.std.specs.List.{range_with_len}
use Rattle.rmt_bits.specs.Packet.{Packet}
use Rattle.rmt_config.specs.declared.config.Config.{Config}
use Rattle.rmt_config.specs.ChipRun.{Outcome, answer_at}

-- the answers that left in the cycles of these inputs
abbrev pub emitted : Config → List (Option Packet) → List Outcome
emitted c inputs = filter_map (answer_at c inputs) (range_with_len 0 (length inputs))
