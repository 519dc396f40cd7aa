-- One word after another.
use Rattle.rmt_drive.proofs.VectorTexts.{no_words, words_more}
use Rattle.rmt_drive.proofs.vectors.add_words.Goals as goal

pub loop-word-init : goal.loop-word-init
loop-word-init c = no_words _ _

pub loop-word-preserved : goal.loop-word-preserved
loop-word-preserved c = words_more _ c.args.text.now.items c.loop-word.text.items c.add_word.new.text.items c.loop-word.word _ c.loop-word.invariant c.in_ok-add_word.ensures c.get.ensures.value
