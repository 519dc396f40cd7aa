use Rattle.std.proofs.Common.{List, All, take}
use Rattle.rmt_verify.specs.CellsHeld.{CellHeld}
use Rattle.rmt_config.specs.PartsTold.{part_at}
use Rattle.rmt_verify.specs.Told.{AreTold}
use Rattle.rmt_verify.specs.Types.{CellOf}
use Rattle.rmt_verify.proofs.cells.table.part_holds.Given as goal

-- the listed cells so far
abbrev pub invariant-loop-own : goal.invariant-loop-own
invariant-loop-own l = (cells : List CellOf) → AreTold cells l.at.told.now
    → All (CellHeld l.at.program.now l.at.config.now cells l.at.table.now l.at.entries.now (part_at l.part)) (take l.own-index l.part.slot.now.numbers)
