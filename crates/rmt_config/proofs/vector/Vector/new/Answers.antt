use Rattle.rmt_bits.proofs.WordLaws.{AreWords-zeros}
use Rattle.rmt_config.proofs.vector.Vector.new.Goals as goal

pub invariant_of-result : goal.invariant_of-result
invariant_of-result c = AreWords-zeros
