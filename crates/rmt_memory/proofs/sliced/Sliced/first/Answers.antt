use Rattle.rmt_memory.proofs.SliceLaws.{first-is}
use Rattle.rmt_memory.proofs.sliced.Sliced.first.Goals as goal

pub returns-clause-first : goal.returns-clause-first
returns-clause-first c = λ rows stands. first-is c.args.self.now c.args.sight rows stands c.args.key.now c.requires.words c.vectors_of-vectors.result c.vectors_of-vectors.ensures.starts c.first_left.result c.first_left.ensures
