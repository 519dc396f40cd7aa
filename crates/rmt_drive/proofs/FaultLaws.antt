-- What is said of the code of a fault.
use Rattle.std.proofs.Common.{◌≡◌, ℕ}
use Rattle.rmt_packets.specs.declared.packet_line.PacketFault.{PacketFault}
use Rattle.rmt_packets.specs.declared.packet_line.PacketFault.TheVariants.{Code}
use Rattle.rmt_packets.specs.Fault.{MatchFault}
use Rattle.rmt_lists.specs.declared.fault.ChangeFault.{ChangeFault}
use Rattle.rmt_lists.specs.declared.fault.ChangeFault.TheVariants.{Refused}
use Rattle.rmt_lists.specs.Stands.{IsRefusal}

pub of_code : (P : ℕ → Type 0) (fault : PacketFault) (code : ℕ) → fault ≡ Code code → MatchFault fault Unit P → P code
of_code P fault code e h = rw e at h

pub of_refusal : (P : ℕ → Type 0) (fault : ChangeFault) (code : ℕ) → fault ≡ Refused code → IsRefusal fault P → P code
of_refusal P fault code e h = rw e at h
