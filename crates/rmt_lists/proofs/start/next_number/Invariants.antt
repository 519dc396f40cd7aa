use Rattle.std.proofs.Common.{◌≡◌, ◌≤◌, ◌+◌, drop, max}
use Rattle.std.specs.Prelude.{fold}
use Rattle.std.specs.List.{flat_map}
use Rattle.rmt_ast.specs.Answers.{entry_numbers}
use Rattle.rmt_ast.specs.Changes.{next_number}
use Rattle.rmt_lists.proofs.start.next_number.Given as goal

-- the number so far, and then over the other lists
abbrev pub invariant-loop-list : goal.invariant-loop-list
invariant-loop-list l = record {
  folded : fold (λ next n. max next (n + 1)) l.next (flat_map entry_numbers (drop l.list-index l.lists)) ≡ next_number l.lists;
  least : l.next ≤ 4293918720;
}
