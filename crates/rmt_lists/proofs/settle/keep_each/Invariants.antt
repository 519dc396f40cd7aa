use Rattle.std.proofs.Common.{◌≡◌, ℕ, cond, length}
use Rattle.std.specs.Prelude.{filter, nat_lt}
use Rattle.rmt_ast.specs.Changes.{list_of}
use Rattle.rmt_lists.specs.Settled.{keeps}
use Rattle.rmt_lists.proofs.settle.keep_each.Given as goal

-- the lists before the next one have what stays, and the others have all
abbrev pub invariant-loop-at : goal.invariant-loop-at
invariant-loop-at l = record {
  count : length l.lists.items ≡ length l.fn.lists.items;
  kept : (m : ℕ) → list_of l.lists.items m ≡ cond (nat_lt m l.at) (filter (keeps l.gone.keys l.limit) (list_of l.fn.lists.items m)) (list_of l.fn.lists.items m);
}
