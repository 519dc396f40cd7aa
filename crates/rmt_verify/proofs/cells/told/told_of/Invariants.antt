use Rattle.std.proofs.Common.{take}
use Rattle.rmt_verify.specs.Told.{AreTold}
use Rattle.rmt_verify.proofs.cells.told.told_of.Given as goal

-- the cells so far
abbrev pub invariant-loop-cell : goal.invariant-loop-cell
invariant-loop-cell l = AreTold (take l.cell-index l.cells) l.told
