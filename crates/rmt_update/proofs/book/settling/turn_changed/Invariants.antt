use Rattle.std.proofs.Common.{◌≡◌, ◌++◌, map}
use Rattle.std.specs.Prelude.{reverse, vec_capacity}
use Rattle.rmt_update.specs.declared.book.changing.CellChange.{CellChange}
use Rattle.rmt_book.specs.BookSpots.{kept_at}
use Rattle.rmt_update.specs.Changing.{ChangeKey}
use Rattle.rmt_update.specs.TurnWrites.{cell_turn}
use Rattle.rmt_update.specs.Turning.{HaveCells, turned}
use Rattle.rmt_update.proofs.book.settling.turn_changed.Given as goal

-- those so far have turned, and are put to the others
abbrev pub invariant-loop-change : goal.invariant-loop-change
invariant-loop-change l = record {
  writes : l.writes.items ≡ l.fn.writes.items ++ map (λ (x : ChangeKey × CellChange). x.1.write) l.yielded;
  room : vec_capacity l.writes ≡ vec_capacity l.fn.writes;
  made : HaveCells l.fn.tables.items l.tables.items (λ s. turned (map cell_turn (reverse l.yielded)) s (kept_at l.fn.tables.items s));
}
