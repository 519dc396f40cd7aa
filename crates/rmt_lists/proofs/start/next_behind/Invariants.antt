use Rattle.std.proofs.Common.{◌≡◌, ◌≤◌, ◌+◌, drop, max}
use Rattle.std.specs.Prelude.{fold}
use Rattle.rmt_ast.specs.Answers.{entry_numbers}
use Rattle.rmt_lists.proofs.start.next_behind.Given as goal

-- the number so far, and then over the other entries
abbrev pub invariant-loop-entry : goal.invariant-loop-entry
invariant-loop-entry l = record {
  folded : fold (λ next n. max next (n + 1)) l.next (entry_numbers (drop l.entry-index l.entries)) ≡ fold (λ next n. max next (n + 1)) l.fn.next (entry_numbers l.entries);
  least : l.next ≤ 4294967296;
}
