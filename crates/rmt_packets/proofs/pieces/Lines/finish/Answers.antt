use Rattle.std.proofs.Common.{sym, subst}
use Rattle.rmt_packets.specs.Pieces.{IsLast, LineState}
use Rattle.rmt_packets.proofs.StandsLaws.{is_last_ready, none_last}
use Rattle.rmt_packets.proofs.pieces.Lines.finish.Goals as goal

pub returns-clause-last : goal.returns-clause-last
returns-clause-last c =
    λ text h yes.
    let b = c.is_packet-is_ready.result in
    let l = is_last_ready text c.args.self.now b h (c.is_packet-is_ready.ensures.going_on yes) (c.is_packet-is_ready.ensures.packet yes) in
    subst (λ (s : LineState). IsLast text (record s { is_ready = b })) (sym c.self.view_is) l

pub returns-clause-none : goal.returns-clause-none
returns-clause-none c = λ text h no. none_last text c.args.self.now h (c.is_packet-is_ready.ensures.none no)
