use Rattle.std.proofs.Common.{Vec, take}
use Rattle.std.specs.Global.{Global}
use Rattle.std.specs.List.{AllZip}
use Rattle.rmt_book.specs.declared.table.PartCells.{PartCells}
use Rattle.rmt_update.specs.Refill.{IsMoved}
use Rattle.rmt_update.proofs.book.refill.moved_parts.Given as goal

abbrev pub invariant-loop-table : goal.invariant-loop-table
invariant-loop-table l = AllZip (λ t (v : Vec PartCells Global). IsMoved l.entries l.spots t v.items) (take l.table-index l.tables) l.moved.items
