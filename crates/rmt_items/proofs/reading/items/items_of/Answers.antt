use Rattle.std.proofs.Common.{◌∷◌, [], arith, length-append}
use Rattle.std.proofs.lemmas.Result.{err_from_is_err_and}
use Rattle.rmt_items.specs.Readers.{fault_of, items_at}
use Rattle.rmt_bits.proofs.ReaderLoops.{goes_on, ends, is_done}
use Rattle.rmt_items.proofs.reading.items.items_of.Goals as goal

pub returns-in_err-item-clause-read : goal.returns-in_err-item-clause-read
returns-in_err-item-clause-read g c =
    let list = g.L.InOrder in
    let read = list.item_at c.args.list.now in
    let after = list.after c.args.list.now in
    let p = err_from_is_err_and c.from_residual-in_err-item.result c.from_residual-in_err-item.ensures.1 in
    rw (p.1, p.2) (ends read after (fault_of c.in_err-item.field-0.0) c.loop.items.items c.args.count c.loop.counter c.loop.least c.loop.rest.now
    (items_at read after 0 c.args.count c.args.bytes.now) c.loop-test.true c.in_err-item.ensures c.loop.invariant.read)

pub loop-preserved : goal.loop-preserved
loop-preserved g c =
    let list = g.L.InOrder in
    let read = list.item_at c.args.list.now in
    let after = list.after c.args.list.now in
    record {
      read = rw (c.in_ok-put.ensures, c.least_after-least.ensures) (goes_on read after c.loop.items.items c.args.count c.loop.counter c.loop.least c.loop.rest.now c.in_ok-item.item c.in_ok-item.behind.now
          (items_at read after 0 c.args.count c.args.bytes.now) c.loop-test.true c.in_ok-item.ensures c.loop.invariant.read);
      counted = rw c.in_ok-put.ensures (omega (arith, length-append c.loop.items.items (c.in_ok-item.item ∷ []), c.loop.invariant.counted));
    }

pub returns-clause-read : goal.returns-clause-read
returns-clause-read g c =
    let list = g.L.InOrder in
    let read = list.item_at c.args.list.now in
    let after = list.after c.args.list.now in
    rw c.from_vec.ensures (is_done read after c.loop.items.items c.args.count c.loop.counter c.loop.least c.loop.rest.now (items_at read after 0 c.args.count c.args.bytes.now) c.loop-test.false c.loop.invariant.read)
