use Rattle.std.proofs.Common.{take, map}
use Rattle.rmt_bits.specs.Grouping.{AreIndexed}
use Rattle.rmt_plain.specs.Grouping.{row_of}
use Rattle.rmt_plain.proofs.grouping.groups_of.Given as goal

abbrev pub invariant-loop-at : goal.invariant-loop-at
invariant-loop-at l = AreIndexed (map row_of (take l.at l.entries)) l.grouping
