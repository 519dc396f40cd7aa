use Rattle.std.proofs.Common.{◌≡◌, ℕ, List, length, map}
use Rattle.std.specs.List.{range_with_len}
use Rattle.rmt_ast.specs.declared.entry.Entry.{Entry}
use Rattle.rmt_config.specs.NamesForm.{by_number}
use Rattle.rmt_update.specs.After.{AreOrders}
use Rattle.rmt_update.proofs.book.after.in_order_all.Given as goal

-- the lists so far
abbrev pub invariant-loop-ordered : goal.invariant-loop-ordered
invariant-loop-ordered l = (own : ℕ → List Entry) → AreOrders own l.yielded → l.lists.items ≡ map (λ n. by_number (own n)) (range_with_len 0 (length l.yielded))
