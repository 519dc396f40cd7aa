use Rattle.rmt_core.proofs.ImproveLaws.{one_try_is_compile}
use Rattle.rmt_core.proofs.laws.one_try_is_compile.Goals as goal

pub returns : goal.returns
returns c = one_try_is_compile
