use Rattle.std.proofs.Common.{◌≡◌, take}
use Rattle.rmt_bits.specs.Bits.{number_of}
use Rattle.rmt_items.proofs.reading.number.number.Given as goal

abbrev pub invariant-loop-byte : goal.invariant-loop-byte
invariant-loop-byte l = l.number ≡ number_of (take l.byte-index l.bytes)
