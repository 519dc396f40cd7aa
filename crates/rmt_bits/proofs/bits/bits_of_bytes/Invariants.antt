use Rattle.std.proofs.Common.{◌≡◌, ◌≤◌, ◌-◌}
use Rattle.rmt_bits.specs.Bits.{bits_of_bytes as bits_of}
use Rattle.rmt_bits.proofs.bits.bits_of_bytes.Given as goal

abbrev pub invariant-loop-done : goal.invariant-loop-done
invariant-loop-done l = (l.done ≤ l.len) × (l.value ≡ bits_of l.bytes l.from l.done)

abbrev pub decreases-loop-done : goal.decreases-loop-done
decreases-loop-done l = l.len - l.done
