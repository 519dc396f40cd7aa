-- Cases of a fault of packet lines.
use Rattle.std.specs.Prelude.{ℕ}
use Rattle.rmt_packets.specs.declared.packet_line.PacketFault.{PacketFault}
use Rattle.rmt_packets.specs.declared.packet_line.PacketFault.TheVariants.{NoMemory, Code}

-- `memory` for want of memory, and else `code` of the code
abbrev pub MatchFault : PacketFault → Type 0 → (ℕ → Type 0) → Type 0
MatchFault NoMemory memory code = memory
MatchFault (Code c) memory code = code c
