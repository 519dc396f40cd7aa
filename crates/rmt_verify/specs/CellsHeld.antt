-- Fourth part, cell by cell: the listed cells of a configuration hold the entries of a program, and a map tells of each.
use Rattle.std.specs.Prelude.{◌≡◌, ◌≢◌, ℕ, List, Some, false, All, AllPairs, Contains, length, map, slice_get}
use Rattle.rmt_ast.specs.declared.entry.Entry.{Entry}
use Rattle.rmt_ast.specs.RowOrder.{goes_first}
use Rattle.rmt_ast.specs.State.{width_of}
use Rattle.rmt_config.specs.Cells.{candidates}
use Rattle.rmt_config.specs.Commits.{all_entries}
use Rattle.rmt_config.specs.LaneForm.{bits_of_lanes}
use Rattle.rmt_config.specs.PartsTold.{listed_numbers}
use Rattle.rmt_config.specs.Rooms.{PartAt, parts_of, tests_as_one}
use Rattle.rmt_refine.specs.Types.{Program, Kind, Table, Config, CellNumber}
use Rattle.rmt_refine.specs.Cells.{HoldsEntry}
use Rattle.rmt_refine.specs.Units.{table_at}
use Rattle.rmt_refine.specs.View.{own_content}
use Rattle.rmt_verify.specs.Types.{CellOf}

-- what a map tells of a listed cell of a part
abbrev pub told_at : PartAt → CellNumber → CellOf
told_at part x = record { entry = x.number; stage = part.stage; cell = x.cell }

-- the key of an entry as one number
abbrev pub key_of : Program → Table → Entry → ℕ
key_of p t e = tests_as_one (λ u. u.value) (map (width_of p) t.key) e.tests

-- a cell in which an entry's key may stand holds it
pub record HeldThere (p : Program) (c : Config) (t : Table) (part : PartAt) (x : CellNumber) (e : Entry) : Type 0 where
  pub holds : HoldsEntry p t (map (width_of p) t.key) part.first e x.number (own_content c part.stage part.place x.cell)
  pub candidate : Contains (candidates c.seed (bits_of_lanes part.slot.keys) part.slot.memory (key_of p t e)) x.cell

-- a listed cell of a part of a table holds one of its entries, and the map tells so
pub record CellHeld (p : Program) (c : Config) (cells : List CellOf) (t : Table) (es : List Entry) (part : PartAt) (x : CellNumber) : Type 0 where
  pub entry : Entry
  pub there : Contains es entry
  pub told : Contains cells (told_at part x)
  pub held : HeldThere p c t part x entry

-- of two numbers, the entry of the second does not go before that of the first
abbrev pub KeepsOrder : Kind → List Entry → ℕ → ℕ → Type 0
KeepsOrder kind es a b = (e f : Entry) → Contains es e → Contains es f → e.number ≡ a → f.number ≡ b → goes_first kind f e ≡ false

-- the cells of the table that node n applies: as many as its entries, and in the order of the rows
pub record TableHeld (p : Program) (c : Config) (cells : List CellOf) (n : ℕ) (t : Table) (es : List Entry) : Type 0 where
  pub each : All (λ (part : PartAt). All (CellHeld p c cells t es part) part.slot.numbers) (parts_of c n)
  pub all : length (listed_numbers (parts_of c n)) ≡ length es
  pub order : AllPairs (KeepsOrder t.kind es) (listed_numbers (parts_of c n))

-- those of the table that node n applies, if it applies one
abbrev pub TablesHeld : Program → Config → List CellOf → List (List Entry) → ℕ → Type 0
TablesHeld p c cells lists n = (t : Table) (es : List Entry) → table_at p n ≡ Some t → slice_get lists n ≡ Some es → TableHeld p c cells n t es

-- those of all tables; the map tells of each entry once, and of as many as there are
pub record CellsHeld (p : Program) (c : Config) (cells : List CellOf) (lists : List (List Entry)) : Type 0 where
  pub once : AllPairs (λ (a b : CellOf). a.entry ≢ b.entry) cells
  pub all : length cells ≡ length (all_entries lists)
  pub tables : (n : ℕ) → TablesHeld p c cells lists n
