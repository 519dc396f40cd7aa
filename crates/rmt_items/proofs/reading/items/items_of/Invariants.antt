use Rattle.std.proofs.Common.{◌≡◌, ◌-◌, length}
use Rattle.rmt_items.specs.Readers.{items_at}
use Rattle.rmt_bits.proofs.ReaderLoops.{with_front}
use Rattle.rmt_items.proofs.reading.items.items_of.Given as goal

-- what was read, with what is still read, is the whole
abbrev pub invariant-loop : goal.invariant-loop
invariant-loop g l =
    let list = g.L.InOrder in
    record {
      read : with_front l.items.items (items_at (list.item_at l.list) (list.after l.list) l.least (l.count - l.counter) l.rest) ≡ items_at (list.item_at l.list) (list.after l.list) 0 l.count l.bytes;
      counted : length l.items.items ≡ l.counter;
    }
