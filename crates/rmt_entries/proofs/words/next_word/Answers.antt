use Rattle.std.proofs.Common.{◌∙◌, sym}
use Rattle.rmt_bits.proofs.LineLaws.{word_first, word_none}
use Rattle.rmt_entries.proofs.words.next_word.Goals as goal

pub returns-then-not-is_empty-clause-some : goal.returns-then-not-is_empty-clause-some
returns-then-not-is_empty-clause-some c =
    c.loop-rest.invariant ∙ word_first c.loop-rest.rest.now c.cut.result.0.now c.cut.result.1.now c.cut.ensures.front c.cut.ensures.back (sym c.is_empty-in-loop-rest.ensures ∙ c.if-not-is_empty.true)

pub loop-rest-preserved : goal.loop-rest-preserved
loop-rest-preserved c =
    c.loop-rest.invariant ∙ word_none c.loop-rest.rest.now c.cut.result.0.now c.cut.result.1.now c.cut.ensures.front c.cut.ensures.back (sym c.is_empty-in-loop-rest.ensures ∙ c.if-not-is_empty.false)
