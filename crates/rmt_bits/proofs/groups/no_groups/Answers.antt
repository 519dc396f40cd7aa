use Rattle.rmt_bits.proofs.GroupLaws.{none_indexed}
use Rattle.rmt_bits.proofs.groups.no_groups.Goals as goal

pub returns : goal.returns
returns c = none_indexed _ c.new.ensures.items c.no_places.ensures
