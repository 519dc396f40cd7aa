use Rattle.std.proofs.Common.{◌≡◌, ℕ, ◌+◌, ◌-◌, ◌/◌, ◌<◌, ◌≤◌, List, length, take, drop}
use Rattle.rmt_cells.specs.Links.{after}
use Rattle.rmt_cells.specs.Pieces.{Spell}
use Rattle.rmt_cells.proofs.pieces.read.Given as goal

-- the bytes so far were read, and where more are wanted the cell is that of the next
abbrev pub invariant-loop-done : goal.invariant-loop-done
invariant-loop-done l = record {
  within : l.done ≤ length l.into;
  cell : l.done < length l.into → l.cell ≡ after l.links l.first ((l.at-2 + l.done) / 64);
  so_far : (bytes : List ℕ) → Spell l.blocks l.links l.first bytes → l.at-2 + length l.into ≤ length bytes
      → take l.done l.into ≡ take l.done (drop l.at-2 bytes);
}

abbrev pub decreases-loop-done : goal.decreases-loop-done
decreases-loop-done l = length l.initial.into - l.done
