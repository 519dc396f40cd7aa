use Rattle.std.proofs.Common.{◌≡◌, ◌<◌, ◌≤◌, ℕ, length, not}
use Rattle.std.specs.Prelude.{All, filter}
use Rattle.rmt_bits.specs.Members.{is_among}
use Rattle.rmt_ast.specs.declared.entry.Entry.{Entry}
use Rattle.rmt_ast.specs.Changes.{list_of}
use Rattle.rmt_lists.proofs.settle.take_gone.Given as goal

-- the lists before the next one have what is left, and the others have all
abbrev pub invariant-loop-at : goal.invariant-loop-at
invariant-loop-at l = record {
  count : length l.lists.items ≡ length l.fn.lists.items;
  left : (m : ℕ) → m < l.at → All (λ (e : Entry). e.number < l.above) (list_of l.fn.lists.items m) → list_of l.lists.items m ≡ filter (λ (e : Entry). not (is_among l.gone.keys e.number)) (list_of l.fn.lists.items m);
  others : (m : ℕ) → l.at ≤ m → list_of l.lists.items m ≡ list_of l.fn.lists.items m;
}
