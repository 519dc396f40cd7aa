use Rattle.std.proofs.Common.{◌∙◌, refl, sym, arith}
use Rattle.rmt_queues.specs.Calls.{after_all}
use Rattle.rmt_queues.specs.declared.queues.Offered.TheVariants.{CellsFull, Queued}
use Rattle.rmt_switch.specs.Ports.{start}
use Rattle.rmt_switch.proofs.PortLaws.{dropped_few, offered_on}
use Rattle.rmt_switch.proofs.ports.Ports.offer.Goals as goal

pub returns-in-CellsFull : goal.returns-in-CellsFull
returns-in-CellsFull c = λ capture calls h.
    let s = after_all start calls in
    let ports = c.args.ports.now in
    let item = c.args.item.now in
    let answer = sym c.in-CellsFull.is ∙ c.offer.ensures.answer s h.queues in
    offered_on capture calls c.args.self.now h ports item _ CellsFull (c.offer.ensures.stands s h.queues) answer c.requires.few (dropped_few s ports item CellsFull answer c.requires.few)
    c.mark.ensures.many c.mark.ensures.others refl refl refl (omega arith) refl

pub returns-in-Queued : goal.returns-in-Queued
returns-in-Queued c = λ capture calls h.
    let s = after_all start calls in
    let ports = c.args.ports.now in
    let item = c.args.item.now in
    let queued = Queued c.in-Queued.copies c.in-Queued.dropped in
    let answer = sym c.in-Queued.is ∙ c.offer.ensures.answer s h.queues in
    offered_on capture calls c.args.self.now h ports item _ queued (c.offer.ensures.stands s h.queues) answer c.requires.few (dropped_few s ports item queued answer c.requires.few)
    c.mark.ensures.many c.mark.ensures.others refl refl refl (omega (arith, c.from.ensures)) (omega arith)
