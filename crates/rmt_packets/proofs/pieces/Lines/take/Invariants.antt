use Rattle.std.proofs.Common.{◌≡◌, ◌+◌, ◌-◌, ◌≤◌, ℕ, List, ◌++◌, false, length, take}
use Rattle.rmt_packets.specs.Pieces.{Stands, ended_lines}
use Rattle.rmt_packets.proofs.pieces.Lines.take.Given as goal

-- the bytes so far were taken, and end no packet line
abbrev pub invariant-loop-from : goal.invariant-loop-from
invariant-loop-from l = record {
  within : l.from ≤ length l.piece;
  going_on : l.self.is_ended ≡ false;
  not_ready : l.self.is_ready ≡ false;
  taken : l.self.taken ≡ l.fn.self.taken + l.from;
  stands : (text : List ℕ) → Stands text l.fn.self → Stands (text ++ take l.from l.piece) l.self;
  none : (text : List ℕ) → Stands text l.fn.self → ended_lines (text ++ take l.from l.piece) ≡ ended_lines text;
}

abbrev pub decreases-loop-from : goal.decreases-loop-from
decreases-loop-from l = length l.piece - l.from
