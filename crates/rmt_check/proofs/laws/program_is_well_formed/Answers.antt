use Rattle.rmt_check.proofs.programs.ProgramLaws.{well_formed}
use Rattle.rmt_check.proofs.laws.program_is_well_formed.Goals as goal

pub returns : goal.returns
returns c s text e = well_formed s text e
