use Rattle.std.proofs.Common.{◌≡◌, ℕ, ◌<◌, List, length, take}
use Rattle.rmt_ast.specs.declared.entry.Entry.{Entry}
use Rattle.rmt_update.specs.After.{AreOrders, with_come}
use Rattle.rmt_book.specs.Seen.{HaveNumbers}
use Rattle.rmt_update.proofs.book.after.put_all.Given as goal

-- the entries so far are put
abbrev pub invariant-loop-entry : goal.invariant-loop-entry
invariant-loop-entry l = record {
  count : length l.orders.items ≡ length l.fn.orders.items;
  put : (own : ℕ → List Entry) → AreOrders own l.fn.orders.items → ((n : ℕ) → n < length l.fn.orders.items → HaveNumbers (with_come own l.come n)) → AreOrders (with_come own (take l.entry-index l.come)) l.orders.items;
}
