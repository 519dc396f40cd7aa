use Rattle.std.proofs.Common.{◌≡◌, ◌-◌}
use Rattle.rmt_verify.specs.Readers.{items_at}
use Rattle.rmt_bits.proofs.ReaderLoops.{with_front}
use Rattle.rmt_verify.proofs.reading.items.items_of.Given as goal

-- what was read, with what is still read, is the whole
abbrev pub invariant-loop : goal.invariant-loop
invariant-loop g l = with_front l.items.items (items_at g.T.Item.item_at (l.count - l.counter) l.rest) ≡ items_at g.T.Item.item_at l.count l.bytes
