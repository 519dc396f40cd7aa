use Rattle.std.proofs.Common.{take}
use Rattle.std.specs.Prelude.{All}
use Rattle.rmt_update.specs.RowIndex.{IsNone}
use Rattle.rmt_update.proofs.book.next_index.clear_all.Given as goal

-- the sets so far
abbrev pub invariant-loop-set : goal.invariant-loop-set
invariant-loop-set l = All IsNone (take l.set-index l.sets)
