use Rattle.std.proofs.Common.{◌≡◌, ℕ, ◌+◌, ◌*◌, ◌/◌, ◌%◌, ◌^◌, ◌<◌, ◌≤◌}
use Rattle.rmt_pack.specs.Tcam.{Holds}
use Rattle.rmt_pack.proofs.tcam.Bits.add.Given as goal

-- the low bits of the value stand above what was there, and the others are left
abbrev pub invariant-loop-left : goal.invariant-loop-left
invariant-loop-left l = record {
  left : l.left ≤ l.fn.bits;
  above : (done : ℕ) → done + l.left ≡ l.fn.bits → l.above ≡ l.fn.value / 2 ^ done;
  rest : l.self.rest < 2 ^ l.self.filled;
  filled : l.self.filled < 40;
  holds : (done n count : ℕ) → done + l.left ≡ l.fn.bits → Holds l.fn.self n count → Holds l.self (l.fn.value % 2 ^ done * 2 ^ count + n) (count + done);
}

abbrev pub decreases-loop-left : goal.decreases-loop-left
decreases-loop-left l = l.left
