use Rattle.rmt_report.specs.NamedWords.{lane_words}
use Rattle.rmt_report.proofs.MarkLaws.{also_list}
use Rattle.rmt_report.proofs.named.OutHeaderNamesWords.mark.Goals as goal

pub returns : goal.returns
returns c =
    let h = c.args.self.now in
    also_list lane_words (lane_words h.valid) c.as_slice.result.now h.pieces c.args.marks.now c.mark.new.marks c.mark_all.new.marks c.as_slice.ensures
    c.mark.ensures c.mark_all.ensures
