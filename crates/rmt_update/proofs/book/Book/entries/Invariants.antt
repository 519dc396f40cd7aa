use Rattle.std.proofs.Common.{◌≡◌, map}
use Rattle.std.specs.List.{range_with_len}
use Rattle.rmt_book.specs.Seen.{entries_at}
use Rattle.rmt_update.proofs.book.Book.entries.Given as goal

-- the lists of the nodes so far
abbrev pub invariant-loop-node : goal.invariant-loop-node
invariant-loop-node l = l.lists.items ≡ map (entries_at l.self.odd l.self.tables.items) (range_with_len 0 l.node)
