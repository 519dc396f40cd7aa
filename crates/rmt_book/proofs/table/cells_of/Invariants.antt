use Rattle.std.proofs.Common.{take}
use Rattle.std.specs.List.{AllZip}
use Rattle.rmt_config.specs.Rooms.{parts_of}
use Rattle.rmt_book.specs.Listed.{IsListed}
use Rattle.rmt_book.proofs.table.cells_of.Given as goal

-- the parts so far
abbrev pub invariant-loop-part : goal.invariant-loop-part
invariant-loop-part l = AllZip (IsListed l.config l.table) (take l.part-index (parts_of l.config l.table.node)) l.parts.items
