use Rattle.std.proofs.Common.{◌++◌, List, Bool, ℕ}
use Rattle.std.specs.List.{flat_map}
use Rattle.rmt_report.specs.Marked.{MarksAlso}
use Rattle.rmt_report.specs.NamedWords.{lane_words, header_words, entry_words, stage_words}
use Rattle.rmt_report.proofs.MarkLaws.{also_both, also_list}
use Rattle.rmt_report.proofs.named.ConfigNamesWords.mark.Goals as goal

pub returns : goal.returns
returns c =
    let k = c.args.self.now in
    let start : List Bool = c.args.marks.now in
    let ports : List ℕ = lane_words k.in_port ++ lane_words k.out_port in
    let lanes : List ℕ = ports ++ lane_words k.drop in
    let with_headers : List ℕ = lanes ++ flat_map header_words k.headers in
    let with_entries : List ℕ = with_headers ++ flat_map entry_words k.parser.entries in
    let two : MarksAlso ports start c.mark-2.new.marks =
    also_both (lane_words k.in_port) (lane_words k.out_port) start c.mark.new.marks c.mark-2.new.marks c.mark.ensures c.mark-2.ensures in
    let three : MarksAlso lanes start c.mark-3.new.marks = also_both ports (lane_words k.drop) start c.mark-2.new.marks c.mark-3.new.marks two c.mark-3.ensures in
    let four : MarksAlso with_headers start c.mark_all.new.marks =
    also_list header_words lanes c.as_slice.result.now k.headers start c.mark-3.new.marks c.mark_all.new.marks c.as_slice.ensures three c.mark_all.ensures in
    let five : MarksAlso with_entries start c.mark_all-2.new.marks =
    also_list entry_words with_headers c.as_slice-2.result.now k.parser.entries start c.mark_all.new.marks c.mark_all-2.new.marks c.as_slice-2.ensures four c.mark_all-2.ensures in
    also_list stage_words with_entries c.as_slice-3.result.now k.stages start c.mark_all-2.new.marks c.mark_all-3.new.marks c.as_slice-3.ensures five c.mark_all-3.ensures
