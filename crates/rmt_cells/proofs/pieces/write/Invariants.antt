use Rattle.std.proofs.Common.{◌≡◌, ℕ, ◌<◌, [], length, take, get_or}
use Rattle.rmt_cells.specs.Links.{after, walk, times}
use Rattle.rmt_cells.specs.Pieces.{piece}
use Rattle.rmt_cells.proofs.pieces.write.Given as goal

-- the pieces so far stand in the first cells, and all other cells are as they were
abbrev pub invariant-loop-number : goal.invariant-loop-number
invariant-loop-number l = record {
  cell : l.cell ≡ after l.links l.first l.number;
  size : length l.blocks.items ≡ length l.fn.blocks.items;
  written : (i : ℕ) → i < l.number → take (length (piece l.bytes i)) (get_or l.blocks.items (after l.links l.first i) []) ≡ piece l.bytes i;
  others : (cell : ℕ) → times cell (walk l.links l.first l.number) ≡ 0 → get_or l.blocks.items cell [] ≡ get_or l.fn.blocks.items cell [];
}
