use Rattle.std.proofs.Common.{◌≡◌, ◌≤◌, ◌-◌, ◌+◌, ◌*◌, ◌/◌, ◌^◌, length}
use Rattle.rmt_bits.specs.Bits.{deposit as deposit_of, number_of}
use Rattle.rmt_bits.proofs.bits.bytes_of_bits.Given as goal

abbrev pub invariant-loop-left : goal.invariant-loop-left
invariant-loop-left l =
    (l.left ≤ l.len)
    × (number_of l.into
    ≡ deposit_of (number_of l.initial.into) (8 * length l.initial.into - (l.from + (l.len - l.left))) (l.len - l.left) (l.value / 2 ^ l.left))

abbrev pub decreases-loop-left : goal.decreases-loop-left
decreases-loop-left l = l.left
