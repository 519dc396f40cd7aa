use Rattle.rmt_core.proofs.MapLaws.{map_is_beside}
use Rattle.rmt_core.proofs.laws.map_is_beside.Goals as goal

pub returns : goal.returns
returns c = map_is_beside
