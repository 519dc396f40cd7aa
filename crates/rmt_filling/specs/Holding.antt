-- What the memory of a table's part holds, once its entries are written.
use Rattle.std.specs.Prelude.{◌≡◌, ◌≢◌, ◌<◌, ℕ, ◌+◌, ◌*◌, ◌-◌, ◌/◌, ◌%◌, ◌^◌, List, [], Some, ⊤, All, AllPairs, Contains, length, map, slice_get, slice_index}
use Rattle.rmt_filling.specs.Types.{Program, Table, Memory}
use Rattle.rmt_ast.specs.declared.entry.Entry.{Entry}
use Rattle.rmt_ast.specs.EntryLists.{params_of}
use Rattle.rmt_ast.specs.State.{width_of}
use Rattle.rmt_config.specs.declared.config.Memory.TheVariants.{Without, Exact, Ternary}
use Rattle.rmt_config.specs.CellForm.{EndsAt, RecordsEnd}
use Rattle.rmt_config.specs.Cells.{Blocks, Content, cell_of, data_at, entry_at, row_key, row_record, unit_row}
use Rattle.rmt_config.specs.BlockCounts.{divided_up}
use Rattle.rmt_pack.specs.declared.shape.Shape.{Shape}
use Rattle.rmt_pack.specs.Cells.{PutsEntry, PutsRecord, entry_of, record_of, thousands_in}
use Rattle.rmt_pack.specs.Shape.{cells_in as cells_of}
use Rattle.rmt_config.specs.Rooms.{args_as_one, tests_as_one}
use Rattle.rmt_filling.specs.declared.stands.Stand.{Stand}

-- what the blocks of a stage hold: the rows of SRAM, and the values and masks of those of TCAM
pub record Held : Type 0 where
  pub sram : Blocks
  pub values : Blocks
  pub masks : Blocks

-- ---- the content of cells

-- what a cell of a memory holds, for a key and data of that many bits
abbrev pub content_in : Held → ℕ → ℕ → Memory → ℕ → Content
content_in h bits held Without n = record { head = 0; key = 0; mask = 0; held = 0 }
content_in h bits held (Exact k p d w ks rs cs) n =
    let c = cell_of (1024 * d) p n in
    record { head = entry_at h.sram ks k bits c % 256; key = entry_at h.sram ks k bits c / 256; mask = 2 ^ bits - 1; held = data_at h.sram rs p held c }
content_in h bits held (Ternary d ks rs cs) n = record {
  head = row_record h.sram rs held n % 256;
  key = row_key h.values ks bits n;
  mask = row_key h.masks ks bits n;
  held = row_record h.sram rs held n / 256;
}

-- no bit stands beside the cells
abbrev pub EndsIn : Held → ℕ → ℕ → Memory → Type 0
EndsIn h bits held Without = ⊤
EndsIn h bits held (Exact k p d w ks rs cs) = EndsAt 112 h.sram ks k (p * (bits + 8)) × RecordsEnd h.sram rs d (4 * p) held
EndsIn h bits held (Ternary d ks rs cs) = EndsAt 40 h.masks ks (divided_up bits 40) bits × RecordsEnd h.sram rs d 2 (held + 8)

-- ---- parts as shapes

abbrev pub exact_part : ℕ → ℕ → ℕ → ℕ → ℕ → List ℕ → List ℕ → Shape
exact_part bits held k p d ks rs = record { memory = 1; key = bits; width = k; per = p; quanta = d; held = held; keys = ks; records = rs }

abbrev pub ternary_part : ℕ → ℕ → ℕ → List ℕ → Shape
ternary_part bits held d rs = record { memory = 2; key = bits; width = 0; per = 0; quanta = d; held = held + 8; keys = []; records = rs }

-- the TCAM blocks of a ternary part
pub record AreKeyBlocks (bits d : ℕ) (ks : List ℕ) : Type 0 where
  pub long : length ks ≡ d * divided_up bits 40
  pub apart : AllPairs ◌≢◌ ks
  pub few : All (λ block. block < 16) ks

-- ---- one entry

-- the head of an occupied cell with both visible bits, whose instruction has this number
abbrev pub head_for : ℕ → ℕ
head_for code = 7 + 8 * code

-- the number of an entry's instruction, the data that it holds, and its key
abbrev pub data_for : Program → Table → Entry → ℕ
data_for p t e = args_as_one (params_of p (slice_index t.actions e.action)) e.args

abbrev pub value_for : Program → Table → Entry → ℕ
value_for p t e = tests_as_one (λ test. test.value) (map (width_of p) t.key) e.tests

abbrev pub mask_for : Program → Table → Entry → ℕ
mask_for p t e = tests_as_one (λ test. test.mask) (map (width_of p) t.key) e.tests

-- an entry and a record stand in a cell of an exact part; all else stays
pub record PutsCell (old new : Blocks) (s : Shape) (n a x : ℕ) : Type 0 where
  pub mid : Blocks
  pub entry : PutsEntry old mid s n a
  pub record_is : PutsRecord mid new s n x

-- a number stands in a row of blocks of TCAM; all else stays
pub record PutsRow (old new : Blocks) (row : ℕ) (blocks : List ℕ) (n : ℕ) : Type 0 where
  pub here : unit_row 40 new row blocks ≡ n
  pub elsewhere : (b r : ℕ) → (r ≡ row → Contains blocks b → ⊥) → new b r ≡ old b r

-- ---- so many entries

-- the cell of an exact part in which an entry stands
pub record ExactHolds (p : Program) (t : Table) (es : List Entry) (first : ℕ) (sram : Blocks) (s : Shape) (x : Stand) : Type 0 where
  pub entry : Entry
  pub is : slice_get es x.entry ≡ Some entry
  pub cell : entry_of sram s x.cell ≡ head_for (first + entry.action) + 256 * value_for p t entry
  pub data_is : record_of sram s x.cell ≡ data_for p t entry

pub record ExactSo (p : Program) (t : Table) (es : List Entry) (first : ℕ) (sram : Blocks) (s : Shape) (stands : List Stand) : Type 0 where
  pub holds : All (ExactHolds p t es first sram s) stands
  pub clear : (n : ℕ) → n < cells_of s → All (λ (x : Stand). x.cell ≢ n) stands → (entry_of sram s n ≡ 0) × (record_of sram s n ≡ 0)
  pub ends : EndsAt 112 sram s.keys s.width (s.per * (s.key + 8))
  pub records : RecordsEnd sram s.records s.quanta (thousands_in s) s.held

-- the row of a ternary part in which an entry stands
pub record TernaryHolds (p : Program) (t : Table) (es : List Entry) (first : ℕ) (h : Held) (s : Shape) (keys : List ℕ) (x : Stand) : Type 0 where
  pub entry : Entry
  pub is : slice_get es x.entry ≡ Some entry
  pub data_is : record_of h.sram s x.cell ≡ head_for (first + entry.action) + 256 * data_for p t entry
  pub value : row_key h.values keys s.key x.cell ≡ value_for p t entry
  pub mask : row_key h.masks keys s.key x.cell ≡ mask_for p t entry

pub record TernarySo (p : Program) (t : Table) (es : List Entry) (first : ℕ) (h : Held) (s : Shape) (keys : List ℕ) (stands : List Stand) : Type 0 where
  pub holds : All (TernaryHolds p t es first h s keys) stands
  pub clear : (n : ℕ) → n < cells_of s → All (λ (x : Stand). x.cell ≢ n) stands
      → (record_of h.sram s n ≡ 0) × (row_key h.values keys s.key n ≡ 0) × (row_key h.masks keys s.key n ≡ 0)
  pub ends : EndsAt 40 h.masks keys (divided_up s.key 40) s.key
  pub records : RecordsEnd h.sram s.records s.quanta (thousands_in s) s.held
