use Rattle.std.proofs.Common.{take}
use Rattle.std.specs.List.{AllZip}
use Rattle.rmt_book.specs.Listed.{IsRanked}
use Rattle.rmt_config.specs.PartsTold.{part_at}
use Rattle.rmt_book.proofs.table.part_cells.Given as goal

-- the cells so far
abbrev pub invariant-loop-number : goal.invariant-loop-number
invariant-loop-number l = AllZip (IsRanked l.config l.table (part_at l.part)) (take l.number-index l.part.slot.now.numbers) l.cells.entries
