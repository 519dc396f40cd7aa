use Rattle.std.proofs.Common.{◌≡◌, ◌+◌, ◌-◌, ◌<◌, ◌≤◌, ◌⊎◌, length, drop, get_or}
use Rattle.rmt_bits.specs.Lines.{numbered_lines}
use Rattle.rmt_packets.proofs.lines.next_line.Given as goal

-- no line before the one at `from` is a packet line
abbrev pub invariant-loop-from : goal.invariant-loop-from
invariant-loop-from l = record {
  within : l.from ≤ length l.text;
  behind : l.at ≤ l.from;
  counted : l.number ≤ l.line;
  few : l.line ≤ l.from + 1;
  starts : (l.from ≡ l.at) ⊎ (((l.at < l.from) × (get_or l.text (l.from - 1) 0 ≡ 10)) ⊎ (length l.text ≤ l.from));
  same : numbered_lines l.number (drop l.at l.text) ≡ numbered_lines l.line (drop l.from l.text);
}

abbrev pub decreases-loop-from : goal.decreases-loop-from
decreases-loop-from l = length l.text - l.from
