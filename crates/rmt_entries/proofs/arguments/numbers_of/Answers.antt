use Rattle.std.proofs.Common.{◌∙◌, sym}
use Rattle.rmt_entries.specs.Numbers.{number_of_width}
use Rattle.rmt_entries.proofs.ReadingLaws.{read_more, read_no_word, read_wrong}
use Rattle.rmt_entries.proofs.arguments.numbers_of.Goals as goal

pub returns-in_default : goal.returns-in_default
returns-in_default c =
    let l = c.loop-width in
    l.invariant ∙ read_no_word (number_of_width) l.numbers c.args.widths.now l.width-index c.loop-width-test.true l.words c.in_default.ensures.none.0

pub returns-in_default-number_of_width : goal.returns-in_default-number_of_width
returns-in_default-number_of_width c =
    let l = c.loop-width in
    l.invariant
    ∙ read_wrong (number_of_width) l.numbers c.args.widths.now l.width-index c.loop-width-test.true c.in-Some.word.now c.take.new.self l.words c.in-Some.ensures.some (sym c.number_of_width.ensures ∙ c.in_default-number_of_width.is)

pub loop-width-preserved : goal.loop-width-preserved
loop-width-preserved c =
    let l = c.loop-width in
    rw c.in_ok-push.ensures.ok
    (l.invariant
    ∙ read_more (number_of_width) l.numbers c.args.widths.now l.width-index c.loop-width-test.true c.in-Some.word.now c.take.new.self l.words c.in-Some-number_of_width.number c.in-Some.ensures.some
    (sym c.number_of_width.ensures ∙ c.in-Some-number_of_width.is))
