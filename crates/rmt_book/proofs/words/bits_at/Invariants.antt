use Rattle.std.proofs.Common.{◌≡◌, ◌≤◌, ◌-◌}
use Rattle.rmt_bits.specs.Bits.{slice}
use Rattle.rmt_book.specs.Words.{joined}
use Rattle.rmt_book.proofs.words.bits_at.Given as goal

abbrev pub invariant-loop-done : goal.invariant-loop-done
invariant-loop-done l = record {
  some_left : l.done ≤ l.len;
  so_far : l.value ≡ slice (joined l.size l.words) l.low l.done;
}

abbrev pub decreases-loop-done : goal.decreases-loop-done
decreases-loop-done l = l.len - l.done
