use Rattle.std.proofs.Common.{◌≡◌, ◌++◌, take}
use Rattle.rmt_ast.specs.Answers.{entry_numbers}
use Rattle.rmt_plain.proofs.counters.push_numbers.Given as goal

abbrev pub invariant-loop-entry : goal.invariant-loop-entry
invariant-loop-entry l = l.numbers.items ≡ l.initial.numbers.items ++ entry_numbers (take l.entry-index l.entries)
