use Rattle.std.proofs.Common.{length, take}
use Rattle.rmt_plain.specs.Grouping.{AreMarks}
use Rattle.rmt_plain.specs.Marks.{slots_for}
use Rattle.rmt_plain.proofs.marks.marks_of.Given as goal

abbrev pub invariant-loop-at : goal.invariant-loop-at
invariant-loop-at l = AreMarks (slots_for (length l.entries)) (take l.at l.entries) l.marks.items
