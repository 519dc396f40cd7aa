use Rattle.std.proofs.Common.{[], ◌∷◌, ◌++◌}
use Rattle.rmt_report.specs.NamedWords.{source_words}
use Rattle.rmt_report.proofs.MarkLaws.{also_both}
use Rattle.rmt_report.proofs.named.OperationNamesWords.mark.Goals as goal

pub returns : goal.returns
returns c =
    let op = c.args.self.now in
    also_both (op.word ∷ []) (source_words op.left ++ source_words op.right) c.args.marks.now c.mark_word.new.marks c.mark-2.new.marks c.mark_word.ensures
    (also_both (source_words op.left) (source_words op.right) c.mark_word.new.marks c.mark.new.marks c.mark-2.new.marks c.mark.ensures c.mark-2.ensures)
