use Rattle.std.proofs.Common.{◌<◌, length, arith}
use Rattle.std.specs.Prelude.{All}
use Rattle.rmt_queues.proofs.RingLaws.{all_sent_more}
use Rattle.rmt_queues.proofs.rings.send.Goals as goal

pub loop-port-preserved : goal.loop-port-preserved
loop-port-preserved c =
    let l = c.loop-port in
    let ports = c.args.ports.now in
    let was = c.args.rings.now in
    let lt : l.port-index < length ports = omega arith in
    let within : All (λ port. port < length was.items) ports = λ k d less.
    let here = c.requires.within k d less in
    let ok = was.ok.0 in
    omega (arith, here, ok) in
    let now = all_sent_more c.args.depth ports c.args.number l.port-index was.items l.rings.items c.index_mut.result.now c.push.new.self
    c.requires.once lt within l.invariant.many l.invariant.roomy l.invariant.copies c.index_mut.ensures.value c.push.ensures.roomy c.push.ensures.numbers in
    record { many = now.0; roomy = now.1; copies = now.2 }
