use Rattle.std.proofs.Common.{take}
use Rattle.std.specs.List.{flat_map}
use Rattle.std.specs.Prelude.{zip}
use Rattle.rmt_update.specs.Differences.{AllPut, changes_in, pairs_of}
use Rattle.rmt_update.proofs.book.differences.differences.Given as goal

-- the changes of the tables so far are put
abbrev pub invariant-loop-table : goal.invariant-loop-table
invariant-loop-table l = AllPut (flat_map pairs_of (take l.table (zip l.tables l.moved))) (changes_in l.initial.changes.items) (changes_in l.changes.items)
