use Rattle.std.proofs.Common.{◌≡◌, map}
use Rattle.rmt_ast.specs.declared.entry.Entry.{Entry}
use Rattle.std.proofs.Common.{ℕ}
use Rattle.rmt_book.proofs.ordered.in_order.Given as goal

abbrev pub invariant-loop-entry : goal.invariant-loop-entry
invariant-loop-entry l = l.list ≡ map (λ (x : ℕ × Entry). x.1) l.yielded
