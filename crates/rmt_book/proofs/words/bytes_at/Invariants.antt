use Rattle.std.proofs.Common.{◌≡◌, ◌-◌, ◌*◌, ◌/◌, ◌^◌}
use Rattle.rmt_bits.specs.Bits.{slice, bytes_of}
use Rattle.rmt_book.specs.Words.{joined}
use Rattle.rmt_book.proofs.words.bytes_at.Given as goal

abbrev pub invariant-loop-at : goal.invariant-loop-at
invariant-loop-at l = l.bytes.items ≡ bytes_of l.at (slice (joined l.size l.words) l.low l.len / 2 ^ (8 * (l.count - l.at)))
