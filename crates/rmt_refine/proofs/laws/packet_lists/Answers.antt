use Rattle.rmt_refine.proofs.ListLaws.{lists_law}
use Rattle.rmt_refine.proofs.laws.packet_lists.Goals as goal

pub returns : goal.returns
returns c = lists_law
