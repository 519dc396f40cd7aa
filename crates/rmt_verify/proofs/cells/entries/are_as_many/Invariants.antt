use Rattle.std.proofs.Common.{◌≡◌, ◌+◌, length, take}
use Rattle.rmt_config.specs.Commits.{all_entries}
use Rattle.rmt_verify.proofs.cells.entries.are_as_many.Given as goal

-- what is left is what the lists so far don't have
abbrev pub invariant-loop-list : goal.invariant-loop-list
invariant-loop-list l = l.left + length (all_entries (take l.list-index l.lists)) ≡ l.count
