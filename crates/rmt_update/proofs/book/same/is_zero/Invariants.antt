use Rattle.std.proofs.Common.{◌≡◌, take}
use Rattle.rmt_bits.specs.Bits.{number_of}
use Rattle.rmt_update.proofs.book.same.is_zero.Given as goal

-- the bytes so far are 0
abbrev pub invariant-loop-byte : goal.invariant-loop-byte
invariant-loop-byte l = number_of (take l.byte-index l.bytes) ≡ 0
