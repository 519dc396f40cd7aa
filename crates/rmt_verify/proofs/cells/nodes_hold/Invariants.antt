use Rattle.std.proofs.Common.{ℕ, ◌<◌, List}
use Rattle.rmt_verify.specs.CellsHeld.{TablesHeld}
use Rattle.rmt_verify.specs.Told.{AreTold}
use Rattle.rmt_verify.specs.Types.{CellOf}
use Rattle.rmt_verify.proofs.cells.nodes_hold.Given as goal

-- the nodes so far
abbrev pub invariant-loop-node : goal.invariant-loop-node
invariant-loop-node l = (cells : List CellOf) → AreTold cells l.told → (n : ℕ) → n < l.node → TablesHeld l.given.program.now l.given.config.now cells l.given.entries.now n
