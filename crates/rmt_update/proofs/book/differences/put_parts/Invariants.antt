use Rattle.std.proofs.Common.{take}
use Rattle.std.specs.Prelude.{zip}
use Rattle.rmt_update.specs.Differences.{AllPut, changes_in}
use Rattle.rmt_update.proofs.book.differences.put_parts.Given as goal

-- the changes of the parts so far are put
abbrev pub invariant-loop-part : goal.invariant-loop-part
invariant-loop-part l = AllPut (take l.part (zip l.old l.new)) (changes_in l.fn.changes.items) (changes_in l.changes.items)
