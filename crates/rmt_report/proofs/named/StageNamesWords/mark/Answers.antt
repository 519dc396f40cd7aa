use Rattle.std.proofs.Common.{subst}
use Rattle.std.specs.List.{flat_map}
use Rattle.rmt_report.specs.Marked.{MarksAlso}
use Rattle.rmt_report.specs.NamedWords.{unit_words, vliw_words}
use Rattle.rmt_report.proofs.MarkLaws.{also_list}
use Rattle.rmt_report.proofs.named.StageNamesWords.mark.Goals as goal

pub returns : goal.returns
returns c =
    let stage = c.args.self.now in
    let units = subst (λ us. MarksAlso (flat_map unit_words us) c.args.marks.now c.mark_all.new.marks) c.as_slice.ensures c.mark_all.ensures in
    also_list vliw_words (flat_map unit_words stage.units) c.as_slice-2.result.now stage.code c.args.marks.now c.mark_all.new.marks c.mark_all-2.new.marks
    c.as_slice-2.ensures units c.mark_all-2.ensures
