use Rattle.std.proofs.lemmas.Result.{err_from_is_err_and}
use Rattle.rmt_verify.specs.Readers.{fault_of, items_at}
use Rattle.rmt_bits.proofs.ReaderLoops.{goes_on, ends, is_done}
use Rattle.rmt_verify.proofs.reading.items.items_of.Goals as goal

pub returns-in_err-item : goal.returns-in_err-item
returns-in_err-item g c =
    let read = g.T.Item.item_at in
    let p = err_from_is_err_and c.from_residual-in_err-item.result c.from_residual-in_err-item.ensures.1 in
    rw (p.1, p.2) (ends (λ _. read) (λ _. 0) (fault_of c.in_err-item.field-0.0) c.loop.items.items c.args.count c.loop.counter 0 c.loop.rest.now
    (items_at read c.args.count c.args.bytes.now) c.loop-test.true c.in_err-item.ensures c.loop.invariant)

pub loop-preserved : goal.loop-preserved
loop-preserved g c =
    let read = g.T.Item.item_at in
    rw c.in_ok-put.ensures (goes_on (λ _. read) (λ _. 0) c.loop.items.items c.args.count c.loop.counter 0 c.loop.rest.now c.in_ok-item.item c.in_ok-item.behind.now
    (items_at read c.args.count c.args.bytes.now) c.loop-test.true c.in_ok-item.ensures c.loop.invariant)

pub returns : goal.returns
returns g c =
    let read = g.T.Item.item_at in
    rw c.from_vec.ensures (is_done (λ _. read) (λ _. 0) c.loop.items.items c.args.count c.loop.counter 0 c.loop.rest.now (items_at read c.args.count c.args.bytes.now) c.loop-test.false c.loop.invariant)
