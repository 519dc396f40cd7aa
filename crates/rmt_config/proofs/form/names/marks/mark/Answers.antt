use Rattle.rmt_config.proofs.MarkLaws.{other-marked, own-marked}
use Rattle.rmt_config.proofs.form.names.marks.mark.Goals as goal

pub returns-clause-own : goal.returns-clause-own
returns-clause-own c = own-marked c.args.words.now c.word_of-word.result c.args.number c.word_of-word.ensures.value c.word_of-word.ensures.within

pub returns-clause-others : goal.returns-clause-others
returns-clause-others c = other-marked c.args.words.now c.word_of-word.result c.args.number c.word_of-word.ensures.within
