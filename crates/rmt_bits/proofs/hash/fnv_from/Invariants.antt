use Rattle.std.proofs.Common.{◌≡◌, take, fold}
use Rattle.rmt_bits.specs.Hash.{fnv_step}
use Rattle.rmt_bits.proofs.hash.fnv_from.Given as goal

abbrev pub invariant-loop-byte : goal.invariant-loop-byte
invariant-loop-byte l = l.hash ≡ fold fnv_step l.fn.start (take l.byte-index l.bytes)
