use Rattle.std.proofs.Common.{◌≡◌, ◌++◌, drop}
use Rattle.rmt_ast.specs.Answers.{counted_numbers}
use Rattle.rmt_plain.proofs.counters.numbers_of.Given as goal

abbrev pub invariant-loop-i : goal.invariant-loop-i
invariant-loop-i l =
    l.numbers.items ++ counted_numbers l.program (drop l.i l.program.nodes) (drop l.i l.lists) ≡ counted_numbers l.program l.program.nodes l.lists
