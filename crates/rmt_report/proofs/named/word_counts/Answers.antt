use Rattle.std.proofs.Common.{refl}
use Rattle.rmt_report.specs.NamedWords.{named_words}
use Rattle.rmt_report.proofs.named.word_counts.Goals as goal

pub returns : goal.returns
returns c =
    let words = named_words c.args.config.now in
    let marks = c.named_marks-marks.ensures in
    let bytes = c.count_of_size.ensures words marks in
    let halves = c.count_of_size-2.ensures words marks in
    let wholes = c.count_of_size-3.ensures words marks in
    rw (bytes, halves, wholes) refl
