use Rattle.std.proofs.Common.{◌≡◌}
use Rattle.std.specs.List.{range_with_len}
use Rattle.rmt_cells.proofs.links.in_a_row.Given as goal

-- each cell so far is linked to the next
abbrev pub invariant-loop-cell : goal.invariant-loop-cell
invariant-loop-cell l = l.links.items ≡ range_with_len 1 l.cell
