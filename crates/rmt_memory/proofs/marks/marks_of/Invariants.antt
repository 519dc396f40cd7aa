use Rattle.rmt_memory.specs.Marking.{AreMarked}
use Rattle.rmt_memory.proofs.marks.marks_of.Given as goal

abbrev pub invariant-loop-at : goal.invariant-loop-at
invariant-loop-at l = AreMarked l.cells l.stored l.at l.marks.words.items
