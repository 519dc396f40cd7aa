use Rattle.rmt_queues.proofs.RingLaws.{rings_more}
use Rattle.rmt_queues.proofs.rings.empty_rings.Goals as goal

pub loop-port-preserved : goal.loop-port-preserved
loop-port-preserved c =
    let l = c.loop-port in
    let now = rings_more c.args.depth l._port l.rings.items c.push.new.self.items c.in_ok-new.field-0 c.in_ok-push.ensures.items c.in_ok-new.ensures.empty c.in_ok-new.ensures.roomy
    l.invariant.many l.invariant.empty l.invariant.roomy in
    record { many = now.0; empty = now.1; roomy = now.2 }
