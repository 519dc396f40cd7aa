use Rattle.std.proofs.Common.{◌≡◌, drop}
use Rattle.rmt_entries.specs.Keys.{read_each}
use Rattle.rmt_entries.specs.Taken.{test_of}
use Rattle.rmt_entries.proofs.ReadingLaws.{behind}
use Rattle.rmt_entries.proofs.keys.tests_of.Given as goal

-- the tests so far stand before those of the words that are left
abbrev pub invariant-loop-width : goal.invariant-loop-width
invariant-loop-width l = read_each (test_of l.form) l.widths l.fn.words ≡ behind l.tests (read_each (test_of l.form) (drop l.width-index l.widths) l.words)
