use Rattle.std.proofs.Common.{take}
use Rattle.std.specs.List.{flat_map}
use Rattle.rmt_report.specs.Marked.{MarksAlso}
use Rattle.rmt_report.proofs.named.mark_all.Given as goal

abbrev pub invariant-loop-item : goal.invariant-loop-item
invariant-loop-item g l = MarksAlso (flat_map g.T.NamesWords.named (take l.item-index l.items)) l.fn.marks l.marks
