use Rattle.std.proofs.Common.{◌≡◌, drop}
use Rattle.rmt_entries.specs.Keys.{read_each}
use Rattle.rmt_entries.specs.Numbers.{number_of_width}
use Rattle.rmt_entries.proofs.ReadingLaws.{behind}
use Rattle.rmt_entries.proofs.arguments.numbers_of.Given as goal

-- the numbers so far stand before those of the words that are left
abbrev pub invariant-loop-width : goal.invariant-loop-width
invariant-loop-width l = read_each number_of_width l.widths l.fn.words ≡ behind l.numbers (read_each number_of_width (drop l.width-index l.widths) l.words)
