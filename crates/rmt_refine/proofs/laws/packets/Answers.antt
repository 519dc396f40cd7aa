use Rattle.rmt_refine.proofs.RefinedLaws.{one_packet}
use Rattle.rmt_refine.proofs.laws.packets.Goals as goal

pub returns : goal.returns
returns c = λ p lists m conf v packet program entries carries. one_packet p lists m conf v program entries carries packet
