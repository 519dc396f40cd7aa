use Rattle.std.proofs.Common.{List, All, take}
use Rattle.rmt_config.specs.declared.form.names.part_list.Part.{Part}
use Rattle.rmt_verify.specs.CellsHeld.{CellHeld}
use Rattle.rmt_config.specs.PartsTold.{part_at}
use Rattle.rmt_verify.specs.Told.{AreTold}
use Rattle.rmt_verify.specs.Types.{CellOf}
use Rattle.rmt_verify.proofs.cells.table.parts_hold.Given as goal

-- the parts so far
abbrev pub invariant-loop-part : goal.invariant-loop-part
invariant-loop-part l = (cells : List CellOf) → AreTold cells l.at.told.now
    → All (λ (x : Part). All (CellHeld l.at.program.now l.at.config.now cells l.at.table.now l.at.entries.now (part_at x)) x.slot.now.numbers) (take l.part-index l.parts)
