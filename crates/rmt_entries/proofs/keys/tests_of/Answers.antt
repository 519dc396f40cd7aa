use Rattle.std.proofs.Common.{◌∙◌, sym}
use Rattle.rmt_entries.specs.Taken.{test_of}
use Rattle.rmt_entries.proofs.ReadingLaws.{read_more, read_no_word, read_wrong}
use Rattle.rmt_entries.proofs.keys.tests_of.Goals as goal

pub returns-in_default : goal.returns-in_default
returns-in_default c =
    let l = c.loop-width in
    l.invariant ∙ read_no_word (test_of c.args.form) l.tests c.args.widths.now l.width-index c.loop-width-test.true l.words c.in_default.ensures.none.0

pub returns-in_default-test_of : goal.returns-in_default-test_of
returns-in_default-test_of c =
    let l = c.loop-width in
    l.invariant
    ∙ read_wrong (test_of c.args.form) l.tests c.args.widths.now l.width-index c.loop-width-test.true c.in-Some.word.now c.take.new.self l.words c.in-Some.ensures.some (sym c.test_of.ensures ∙ c.in_default-test_of.is)

pub loop-width-preserved : goal.loop-width-preserved
loop-width-preserved c =
    let l = c.loop-width in
    rw c.in_ok-push.ensures.ok
    (l.invariant
    ∙ read_more (test_of c.args.form) l.tests c.args.widths.now l.width-index c.loop-width-test.true c.in-Some.word.now c.take.new.self l.words c.in-Some-test_of.test c.in-Some.ensures.some
    (sym c.test_of.ensures ∙ c.in-Some-test_of.is))
