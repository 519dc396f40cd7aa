-- When the memory of a table's part holds the entries that stand in it.
use Rattle.std.specs.Prelude.{◌≡◌, ◌≢◌, ◌<◌, ℕ, List, true, Some, All, map, slice_get}
use Rattle.rmt_build.specs.Types.{Program, Table, Memory}
use Rattle.rmt_ast.specs.declared.entry.Entry.{Entry}
use Rattle.rmt_ast.specs.State.{width_of}
use Rattle.rmt_config.specs.CellForm.{is_clear}
use Rattle.rmt_config.specs.Cells.{cells_in, visible_bits}
use Rattle.rmt_refine.specs.Cells.{HoldsEntry}
use Rattle.rmt_filling.specs.declared.stands.Stand.{Stand}
use Rattle.rmt_filling.specs.Holding.{EndsIn, Held, content_in}

-- a cell holds the entry that stands there, seen under either version
pub record HoldsIn (p : Program) (t : Table) (es : List Entry) (first bits held : ℕ) (h : Held) (m : Memory) (s : Stand) : Type 0 where
  pub entry : Entry
  pub is : slice_get es s.entry ≡ Some entry
  pub holds : HoldsEntry p t (map (width_of p) t.key) first entry entry.number (content_in h bits held m s.cell)
  pub visible : visible_bits (content_in h bits held m s.cell).head ≡ 3

-- A part holds the entries that stand in its cells, and no bit is set anywhere else in it; its first instruction has this number.
pub record PartHolds (p : Program) (t : Table) (es : List Entry) (stands : List Stand) (first bits held : ℕ) (h : Held) (m : Memory) : Type 0 where
  pub holds : All (HoldsIn p t es first bits held h m) stands
  pub clear : (cell : ℕ) → cell < cells_in m → All (λ (s : Stand). s.cell ≢ cell) stands → is_clear m (content_in h bits held m cell) ≡ true
  pub ends : EndsIn h bits held m
