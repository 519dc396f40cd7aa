use Rattle.std.proofs.Common.{◌≡◌}
use Rattle.rmt_cells.specs.Links.{after as cell_after}
use Rattle.rmt_cells.proofs.links.after.Given as goal

-- the cell after the steps so far
abbrev pub invariant-loop : goal.invariant-loop
invariant-loop l = l.cell ≡ cell_after l.links l.cell-2 l.counter
