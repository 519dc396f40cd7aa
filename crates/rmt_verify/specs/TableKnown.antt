-- What is known of a table and of its parts while its cells are looked at.
use Rattle.std.specs.Prelude.{◌≡◌, ◌<◌, ◌≤◌, ℕ, List, Some, All, Contains, map, sum}
use Rattle.rmt_ast.specs.declared.entry.Entry.{Entry}
use Rattle.rmt_ast.specs.EntryLists.{AreTableEntries, terms_of}
use Rattle.rmt_ast.specs.State.{width_of}
use Rattle.rmt_ast.specs.WellFormed.{IsAction, IsTable}
use Rattle.rmt_config.specs.KeysSeen.{WaysLow}
use Rattle.rmt_config.specs.LaneForm.{bits_of_lanes}
use Rattle.rmt_config.specs.MemoryRules.{MemoryIsFormed}
use Rattle.rmt_config.specs.PartStands.{PartStands}
use Rattle.rmt_config.specs.Rooms.{PartAt, parts_of}
use Rattle.rmt_refine.specs.Types.{Program, Table, Config, CellNumber}
use Rattle.rmt_refine.specs.Units.{HasKind, table_at}

-- a part that stands where it may, with the table's key and a memory of its kind
pub record PartKnown (c : Config) (t : Table) (bits : ℕ) (part : PartAt) : Type 0 where
  pub stands : PartStands c part
  pub low : part.stage < 256
  pub bits_are : bits_of_lanes part.slot.keys ≡ bits
  pub quanta : ℕ
  pub kind : HasKind t.kind quanta part.slot.memory
  pub ways : WaysLow part.slot.memory

-- the table that node n applies, the widths of its key's fields, and its entries
pub record TableKnown (p : Program) (c : Config) (n : ℕ) (t : Table) (widths : List ℕ) (es : List Entry) : Type 0 where
  pub table : IsTable p t
  pub actions : All (IsAction p) p.actions
  pub widths_are : widths ≡ map (width_of p) t.key
  pub narrow : All (λ w. w ≤ 128) widths
  pub few : sum widths ≤ 640
  pub entries : AreTableEntries n es (terms_of p t)
  pub memory : MemoryIsFormed c

-- a listed cell of such a part
pub record CellKnown (p : Program) (c : Config) (n : ℕ) (t : Table) (widths : List ℕ) (es : List Entry) (part : PartAt) (x : CellNumber) : Type 0 where
  pub its_table : TableKnown p c n t widths es
  pub its_part : PartKnown c t (sum widths) part
  pub listed : Contains part.slot.numbers x

-- the parts of the table that node n applies, if it applies one
abbrev pub NodeKnown : Program → Config → ℕ → Type 0
NodeKnown p c n = (t : Table) → table_at p n ≡ Some t → All (PartKnown c t (sum (map (width_of p) t.key))) (parts_of c n)
