-- Fourth part of a configuration's carrying a program: the cells hold its entries.
use Rattle.std.specs.Prelude.{◌≡◌, ◌<◌, ◌⊎◌, ℕ, ◌+◌, List, true, Some, All, IsSomeAnd, Contains, map, slice_get, slice_index}
use Rattle.rmt_refine.specs.Types.{Program, Table, Config, Stage, SlotUnit}
use Rattle.rmt_ast.specs.declared.entry.Entry.{Entry}
use Rattle.rmt_ast.specs.WellFormed.{AreDistinct}
use Rattle.rmt_ast.specs.EntryLists.{params_of}
use Rattle.rmt_ast.specs.RowOrder.{goes_first}
use Rattle.rmt_ast.specs.State.{width_of}
use Rattle.rmt_config.specs.Instructions.{first_code}
use Rattle.rmt_config.specs.LaneForm.{bits_of_lanes}
use Rattle.rmt_config.specs.Cells.{Content, candidates, cells_in, code_of, is_seen}
use Rattle.rmt_refine.specs.declared.map.CellOf.{CellOf}
use Rattle.rmt_refine.specs.View.{View, slot_of}
use Rattle.rmt_refine.specs.Units.{table_at}
use Rattle.rmt_config.specs.Effects.{HasArguments}
use Rattle.rmt_config.specs.Rooms.{tests_as_one}

-- ---- an entry in a cell

-- a cell holds an entry of a table, whose key fields have these widths, and whose first instruction in the stage has this number
pub record HoldsEntry (p : Program) (t : Table) (widths : List ℕ) (first : ℕ) (e : Entry) (number : ℕ) (content : Content) : Type 0 where
  pub seen : is_seen content.head ≡ true
  pub code : code_of content.head ≡ first + e.action
  pub key : content.key ≡ tests_as_one (λ t. t.value) widths e.tests
  pub mask : content.mask ≡ tests_as_one (λ t. t.mask) widths e.tests
  pub held : HasArguments (params_of p (slice_index t.actions e.action)) e.args content.held
  pub number_is : number ≡ e.number

-- ---- all cells

-- where a cell is
pub record Spot : Type 0 where
  pub stage : ℕ
  pub place : ℕ
  pub cell : ℕ

-- a spot comes before another: in an earlier stage, or in the same one with a lower number
abbrev pub IsBefore : Spot → Spot → Type 0
IsBefore a b = (a.stage < b.stage) ⊎ ((a.stage ≡ b.stage) × (a.cell < b.cell))

-- a spot is a cell of a slot of node n
abbrev pub IsSpotOf : Config → ℕ → Spot → Type 0
IsSpotOf c n at = IsSomeAnd (slice_get c.stages at.stage) (λ (stage : Stage). IsSomeAnd (slot_of stage at.place) (λ (slot : SlotUnit). (slot.node ≡ n) × (at.cell < cells_in slot.memory)))

-- a spot of a key is among the cells in which the key may stand
abbrev pub IsCandidate : Config → View → ℕ → Spot → Type 0
IsCandidate c v key at = IsSomeAnd (slice_get c.stages at.stage) (λ (stage : Stage). IsSomeAnd (slot_of stage at.place) (λ (slot : SlotUnit). Contains (candidates v.seed (bits_of_lanes slot.keys) slot.memory key) at.cell))

-- the map says that an entry stands at a spot
abbrev pub IsTold : List CellOf → Entry → Spot → Type 0
IsTold cells e at = Contains cells (record { entry = e.number; stage = at.stage; cell = at.cell })

-- the cells of a table hold its entries
pub record TableCellsCarried (p : Program) (c : Config) (v : View) (cells : List CellOf) (n : ℕ) (t : Table) (widths : List ℕ) (es : List Entry) : Type 0 where
  -- each cell that is seen holds an entry
  pub only : (at : Spot) → IsSpotOf c n at → is_seen (v.content at.stage at.place at.cell).head ≡ true → (e : Entry) × Contains es e × IsTold cells e at
  -- each entry stands in exactly one cell, which holds it
  pub each : All (λ e. (at : Spot) × IsSpotOf c n at × IsTold cells e at) es
  pub one : (e : Entry) (a b : Spot) → Contains es e → IsSpotOf c n a → IsSpotOf c n b → IsTold cells e a → IsTold cells e b → a ≡ b
  pub holds : (e : Entry) (at : Spot) (stage : Stage) → Contains es e → IsSpotOf c n at → IsTold cells e at → slice_get c.stages at.stage ≡ Some stage
      → HoldsEntry p t widths (first_code stage at.place) e (v.number at.stage at.place at.cell) (v.content at.stage at.place at.cell)
  -- an entry stands where its key is looked for
  pub candidate : (e : Entry) (at : Spot) → Contains es e → IsSpotOf c n at → IsTold cells e at → IsCandidate c v (tests_as_one (λ t. t.value) widths e.tests) at
  -- an entry that goes before another stands before it: the longer prefix, or the lower priority number, and then the earlier line
  pub order : (e f : Entry) (a b : Spot) → Contains es e → Contains es f → IsSpotOf c n a → IsSpotOf c n b → IsTold cells e a → IsTold cells f b
      → goes_first t.kind e f ≡ true → IsBefore a b

-- the cells that a configuration has in a view hold the entries of a program, and the map tells of each cell once and of no other one
pub record CellsCarried (p : Program) (c : Config) (v : View) (cells : List CellOf) (lists : List (List Entry)) : Type 0 where
  pub tables : (n : ℕ) (t : Table) (es : List Entry) → table_at p n ≡ Some t → slice_get lists n ≡ Some es
      → TableCellsCarried p c v cells n t (map (width_of p) t.key) es
  pub once : AreDistinct cells
  pub no_other : All (λ (x : CellOf). (n : ℕ) × (e : Entry) × (place : ℕ) × IsSomeAnd (slice_get lists n) (λ es. Contains es e)
      × (e.number ≡ x.entry) × IsSpotOf c n (record { stage = x.stage; place = place; cell = x.cell })) cells
