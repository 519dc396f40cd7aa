use Rattle.rmt_phv.proofs.WordLaws.{nothing_stands}
use Rattle.rmt_phv.proofs.words.Words.new.Goals as goal

pub returns : goal.returns
returns c = λ p. nothing_stands p
