-- Cases of a fault of captures.
use Rattle.std.specs.Prelude.{ℕ}
use Rattle.rmt_pcap.specs.declared.fault.CaptureFault.{CaptureFault}
use Rattle.rmt_pcap.specs.declared.fault.CaptureFault.TheVariants.{NoMemory, Code}

-- `memory` for want of memory, and else `code` of the code
abbrev pub MatchFault : CaptureFault → Type 0 → (ℕ → Type 0) → Type 0
MatchFault NoMemory memory code = memory
MatchFault (Code c) memory code = code c
