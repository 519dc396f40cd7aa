use Rattle.std.proofs.Common.{◌≡◌, ◌^◌, ◌<◌, All, map, take}
use Rattle.rmt_ast.specs.declared.entry.Entry.{Entry}
use Rattle.rmt_book.specs.Spots.{order_by}
use Rattle.rmt_update.proofs.book.in_rows.orders_of.Given as goal

abbrev pub invariant-loop-entry : goal.invariant-loop-entry
invariant-loop-entry l = record {
  orders : l.orders.items ≡ map (order_by l.kind) (take l.entry-index l.entries);
  ranks : All (λ (e : Entry). e.rank < 2 ^ 32) (take l.entry-index l.entries);
  numbers : All (λ (e : Entry). e.number < 2 ^ 32) (take l.entry-index l.entries);
}
