use Rattle.std.proofs.Common.{take_all, subst, arith}
use Rattle.std.specs.List.{flat_map}
use Rattle.rmt_report.specs.Marked.{MarksAlso}
use Rattle.rmt_report.proofs.MarkLaws.{also_none, also_more}
use Rattle.rmt_report.proofs.named.mark_all.Goals as goal

pub loop-item-init : goal.loop-item-init
loop-item-init g c = also_none c.args.marks.now

pub loop-item-preserved : goal.loop-item-preserved
loop-item-preserved g c =
    also_more g.T.NamesWords.named c.args.items.now c.loop-item.item-index c.item-item.result c.args.marks.now c.loop-item.marks c.mark.new.marks
    c.loop-item-test.true c.item-item.is c.loop-item.invariant c.mark.ensures

pub returns : goal.returns
returns g c =
    subst (λ xs. MarksAlso (flat_map g.T.NamesWords.named xs) c.args.marks.now c.loop-item.marks)
    (take_all c.loop-item.item-index c.args.items.now (omega arith)) c.loop-item.invariant
