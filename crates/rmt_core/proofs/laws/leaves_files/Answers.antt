use Rattle.rmt_core.proofs.GivenFew.{leaves_files}
use Rattle.rmt_core.proofs.laws.leaves_files.Goals as goal

pub returns : goal.returns
returns c = leaves_files
