use Rattle.std.proofs.Common.{◌≡◌, ◌++◌, drop}
use Rattle.rmt_ast.proofs.copies.copied_each.Given as goal

-- the copies so far, and then the other items
abbrev pub invariant-loop-item : goal.invariant-loop-item
invariant-loop-item g l = l.copies ++ drop l.item-index l.items ≡ l.items
