-- Entries that are written into the cells of an exact part, one after another.
use Rattle.std.proofs.Common.{◌≡◌, ◌≢◌, ℕ, ◌+◌, ◌*◌, ◌/◌, ◌%◌, ◌^◌, ◌<◌, List, [], ◌∷◌, ◌++◌, Some, length, get_or, take, drop, refl, sym, ap, ◌∙◌, subst, arith, inl, inr}
use Rattle.std.specs.Prelude.{All, Contains, slice_get}
use Rattle.std.proofs.lemmas.Bool.{cases_lt}
use Rattle.std.proofs.lemmas.List.{length-take, length-drop}
use Rattle.std.proofs.lemmas.List.Elements.{All-nil, All-push, All-contains, Contains-get_or, Contains-append_left, Contains-append_right, Contains-push}
use Rattle.rmt_bits.specs.Bits.{slice}
use Rattle.rmt_bits.proofs.AllLaws.{All-left}
use Rattle.rmt_filling.specs.Types.{Program, Table}
use Rattle.rmt_ast.specs.declared.entry.Entry.{Entry}
use Rattle.rmt_config.specs.CellForm.{EndsAt, RecordsEnd}
use Rattle.rmt_config.specs.Cells.{Blocks, blocks_at, unit_row}
use Rattle.rmt_config.specs.BlockCounts.{record_units, record_width, records_a_row}
use Rattle.rmt_pack.specs.declared.shape.Shape.{Shape}
use Rattle.rmt_pack.specs.Cells.{PutsEntry, PutsRecord, entry_of, index_in, place_of, quantum_in, record_of, thousands_in}
use Rattle.rmt_pack.specs.Shape.{IsShape, cells_in}
use Rattle.rmt_pack.proofs.BlockLaws.{apart-both, ends-zero, part-item, row-behind}
use Rattle.rmt_pack.proofs.CellLaws.{cell-ends, cell-entry, cell-others, cell-records, cell-zero, records-stay}
use Rattle.rmt_pack.proofs.RecordLaws.{record-ends, record-entries, record-entry, record-others, record-zero, records_end-zero}
use Rattle.rmt_pack.proofs.RunLaws.{unit_row-same}
use Rattle.rmt_filling.specs.declared.stands.Stand.{Stand}
use Rattle.rmt_filling.specs.Holding.{ExactHolds, ExactSo, PutsCell, data_for, head_for, value_for}

-- ---- rows that stay

-- a block of a unit is one of its list
pub unit-listed : (bs : List ℕ) (many first b : ℕ) → Contains (take many (drop first bs)) b → Contains bs b
unit-listed bs many first b has =
    let k = has.0 in
    let below : first + k < length bs = let one = length-take many (drop first bs) in let two = length-drop first bs in let lt = has.1 in omega (arith, one, two, lt) in
    (first + k, below, sym (part-item many first k b bs has.1) ∙ has.2)

-- units of blocks that stay
pub units-same : (size : ℕ) (old new : Blocks) (bs : List ℕ) → ((b r : ℕ) → Contains bs b → new b r ≡ old b r)
    → (row each unit : ℕ) → unit_row size new row (blocks_at bs each unit) ≡ unit_row size old row (blocks_at bs each unit)
units-same size old new bs same row each unit =
    let own = blocks_at bs each unit in
    unit_row-same size new old row own (λ i lt. same (get_or own i 0) row (unit-listed bs each (unit * each) (get_or own i 0) (Contains-get_or own i 0 lt)))

abbrev pub UnitsStay : Blocks → Blocks → List ℕ → Type 0
UnitsStay old new bs = (row each unit : ℕ) → unit_row 112 new row (blocks_at bs each unit) ≡ unit_row 112 old row (blocks_at bs each unit)

pub ends-same : (old new : Blocks) (bs : List ℕ) (each end : ℕ) → UnitsStay old new bs → EndsAt 112 old bs each end → EndsAt 112 new bs each end
ends-same old new bs each end same ends unit row = subst (λ n. n < 2 ^ end) (sym (same row each unit)) (ends unit row)

pub records_end-same : (old new : Blocks) (records : List ℕ) (quanta thousands n : ℕ) → UnitsStay old new records → RecordsEnd old records quanta thousands n → RecordsEnd new records quanta thousands n
records_end-same old new records quanta thousands n same ends =
    let q = records_a_row n in
    record {
      rows = ends-same old new records (record_width n) (q * n) same ends.rows;
      quantum = λ u i lu from below.
          ap (λ v. slice v (i % q * n) n) (same (i % (1024 * q) / q) (record_width n) (u * record_units thousands n + i / (1024 * q))) ∙ ends.quantum u i lu from below;
    }

pub entry-same : (old new : Blocks) (s : Shape) → UnitsStay old new s.keys → (n : ℕ) → entry_of new s n ≡ entry_of old s n
entry-same old new s same n =
    let c = place_of s n in
    ap (λ v. slice v (c.position * (s.key + 8)) (s.key + 8)) (same (c.row % 1024) s.width (c.row / 1024 * 4 + c.way))

-- ---- what writing leaves

-- the record blocks, where an entry is written
pub entry-leaves : (old new : Blocks) (s : Shape) (n x : ℕ) → IsShape s → PutsEntry old new s n x → UnitsStay old new s.records
entry-leaves old new s n x is p row each unit =
    let c = place_of s n in
    row-behind old new s.keys s.records ((c.row / 1024 * 4 + c.way) * s.width) s.width (c.row % 1024) (c.position * (s.key + 8)) (s.key + 8) x (unit * each) each row
    (λ i j li lj. apart-both s.keys s.records i j is.apart li lj) p

-- the key blocks, where a record is written
pub record-leaves : (old new : Blocks) (s : Shape) (n x : ℕ) → IsShape s → PutsRecord old new s n x → UnitsStay old new s.keys
record-leaves old new s n x is p row each unit =
    let q = records_a_row s.held in
    let i = index_in s n in
    row-behind old new s.records s.keys ((quantum_in s n * record_units (thousands_in s) s.held + i / (1024 * q)) * record_width s.held) (record_width s.held)
    (i % (1024 * q) / q) (i % q * s.held) s.held x (unit * each) each row
    (λ j k lj lk e. apart-both s.keys s.records k j is.apart lk lj (sym e)) p

-- records of no bits
pub records_end-none : (sram : Blocks) (records : List ℕ) (quanta thousands n : ℕ) → n ≡ 0 → RecordsEnd sram records quanta thousands n
records_end-none sram records quanta thousands n none =
    subst (RecordsEnd sram records quanta thousands) (sym none) (record {
      rows = λ unit row. omega arith;
      quantum = λ u i lu from below. nothing (unit_row 112 sram (i % (1024 * records_a_row 0) / records_a_row 0) (blocks_at records (record_width 0) (u * record_units thousands 0 + i / (1024 * records_a_row 0)))) (i % records_a_row 0 * 0);
    })
  where
    nothing : (v low : ℕ) → v / 2 ^ low % 2 ^ 0 ≡ 0
    nothing v low = omega arith

pub record_ends-so : (old new : Blocks) (s : Shape) (n x : ℕ) → IsShape s → s.held < 2 ^ 16 → n < cells_in s → x < 2 ^ s.held → PutsRecord old new s n x
    → RecordsEnd old s.records s.quanta (thousands_in s) s.held → RecordsEnd new s.records s.quanta (thousands_in s) s.held
record_ends-so old new s n x is most lt small p ends =
    elim (cases_lt 0 s.held) as (λ _. RecordsEnd new s.records s.quanta (thousands_in s) s.held) [
      | inl some ↦ record-ends old new s n x is some most lt small p ends
      | inr none ↦ records_end-none new s.records s.quanta (thousands_in s) s.held (omega (arith, none))
    ]

-- blocks that aren't the part's stay
pub entry-elsewhere : (old new : Blocks) (s : Shape) (n x : ℕ) → PutsEntry old new s n x → (b r : ℕ) → (Contains s.keys b → ⊥) → new b r ≡ old b r
entry-elsewhere old new s n x p b r out =
    let c = place_of s n in
    p.elsewhere b r (λ e has. out (unit-listed s.keys s.width ((c.row / 1024 * 4 + c.way) * s.width) b has))

pub record-elsewhere : (old new : Blocks) (s : Shape) (n x : ℕ) → PutsRecord old new s n x → (b r : ℕ) → (Contains s.records b → ⊥) → new b r ≡ old b r
record-elsewhere old new s n x p b r out =
    let q = records_a_row s.held in
    let i = index_in s n in
    p.elsewhere b r (λ e has. out (unit-listed s.records (record_width s.held) ((quantum_in s n * record_units (thousands_in s) s.held + i / (1024 * q)) * record_width s.held) b has))

pub cell-elsewhere : (old new : Blocks) (s : Shape) (n a x : ℕ) → PutsCell old new s n a x → (b r : ℕ) → (Contains (s.keys ++ s.records) b → ⊥) → new b r ≡ old b r
cell-elsewhere old new s n a x p b r out =
    record-elsewhere p.mid new s n x p.record_is b r (λ has. out (Contains-append_right s.keys s.records b has))
    ∙ entry-elsewhere old p.mid s n a p.entry b r (λ has. out (Contains-append_left s.keys s.records b has))

-- ---- the entries so far

module _ (p : Program) (t : Table) (es : List Entry) (first : ℕ) where
  -- none, in rows that are all 0
  pub exact-none : (s : Shape) → IsShape s → ExactSo p t es first (λ b r. 0) s []
  exact-none s is = record {
    holds = All-nil (ExactHolds p t es first (λ b r. 0) s);
    clear = λ n lt none. (cell-zero (λ b r. 0) s n (λ b r. refl), record-zero (λ b r. 0) s n is (λ b r. refl));
    ends = ends-zero 112 (λ b r. 0) s.keys s.width (s.per * (s.key + 8)) (λ b r. refl);
    records = records_end-zero (λ b r. 0) s.records s.quanta (thousands_in s) s.held (λ b r. refl);
  }

  -- where the part's blocks stay
  pub exact-same : (old new : Blocks) (s : Shape) (stands : List Stand) → ((b r : ℕ) → Contains (s.keys ++ s.records) b → new b r ≡ old b r)
      → ExactSo p t es first old s stands → ExactSo p t es first new s stands
  exact-same old new s stands same so =
      let keys : UnitsStay old new s.keys = units-same 112 old new s.keys (λ b r has. same b r (Contains-append_left s.keys s.records b has)) in
      let records : UnitsStay old new s.records = units-same 112 old new s.records (λ b r has. same b r (Contains-append_right s.keys s.records b has)) in
      record {
        holds = λ k d lt. let x = so.holds k d lt in record {
          entry = x.entry;
          is = x.is;
          cell = entry-same old new s keys (get_or stands k d).cell ∙ x.cell;
          data_is = records-stay old new s records (get_or stands k d).cell ∙ x.data_is;
        };
        clear = λ n lt none. let x = so.clear n lt none in (entry-same old new s keys n ∙ x.0, records-stay old new s records n ∙ x.1);
        ends = ends-same old new s.keys s.width (s.per * (s.key + 8)) keys so.ends;
        records = records_end-same old new s.records s.quanta (thousands_in s) s.held records so.records;
      }

  -- none, in rows of blocks that are all 0
  pub exact-start : (sram : Blocks) (s : Shape) → IsShape s → ((b r : ℕ) → Contains (s.keys ++ s.records) b → sram b r ≡ 0) → ExactSo p t es first sram s []
  exact-start sram s is zeros = exact-same (λ b r. 0) sram s [] zeros (exact-none s is)

  -- one more
  pub exact-step : (old new : Blocks) (s : Shape) (stands : List Stand) (x : Stand) (e : Entry) → IsShape s → s.memory ≡ 1 → s.held < 2 ^ 16
      → x.cell < cells_in s → All (λ (y : Stand). y.cell < cells_in s) stands → All (λ (y : Stand). y.cell ≢ x.cell) stands → slice_get es x.entry ≡ Some e
      → head_for (first + e.action) + 256 * value_for p t e < 2 ^ (s.key + 8) → data_for p t e < 2 ^ s.held
      → PutsCell old new s x.cell (head_for (first + e.action) + 256 * value_for p t e) (data_for p t e)
      → ExactSo p t es first old s stands → ExactSo p t es first new s (stands ++ x ∷ [])
  exact-step old new s stands x e is exact held below all_below apart at small_entry small_data puts so = record {
    holds = All-push (ExactHolds p t es first new s) stands x
        (λ k d lt. let y = so.holds k d lt in let own = get_or stands k d in record {
          entry = y.entry;
          is = y.is;
          cell = entry_stays own.cell (all_below k d lt) (apart k d lt) ∙ y.cell;
          data_is = record_stays own.cell (all_below k d lt) (apart k d lt) ∙ y.data_is;
        })
        (record { entry = e; is = at; cell = here; data_is = there });
    clear = λ n lt none.
        let ne : n ≢ x.cell = λ same. All-contains (λ (y : Stand). y.cell ≢ n) (stands ++ x ∷ []) x none (Contains-push stands x) (sym same) in
        let was = so.clear n lt (front n none) in
        (entry_stays n lt ne ∙ was.0, record_stays n lt ne ∙ was.1);
    ends = ends-same mid new s.keys s.width (s.per * (s.key + 8)) (record-leaves mid new s x.cell held_is is puts.record_is)
        (cell-ends old mid s x.cell entry_is is exact small_entry puts.entry so.ends);
    records = record_ends-so mid new s x.cell held_is is held below small_data puts.record_is
        (records_end-same old mid s.records s.quanta (thousands_in s) s.held (entry-leaves old mid s x.cell entry_is is puts.entry) so.records);
  }
    where
      mid : Blocks
      mid = puts.mid

      entry_is : ℕ
      entry_is = head_for (first + e.action) + 256 * value_for p t e

      held_is : ℕ
      held_is = data_for p t e

      entry_stays : (n : ℕ) → n < cells_in s → n ≢ x.cell → entry_of new s n ≡ entry_of old s n
      entry_stays n lt ne = record-entries mid new s x.cell held_is is puts.record_is n lt ∙ cell-others old mid s x.cell entry_is is exact below small_entry puts.entry n lt ne

      record_stays : (n : ℕ) → n < cells_in s → n ≢ x.cell → record_of new s n ≡ record_of old s n
      record_stays n lt ne = record-others mid new s x.cell held_is is held below small_data puts.record_is n lt ne ∙ cell-records old mid s x.cell entry_is is puts.entry n lt

      here : entry_of new s x.cell ≡ entry_is
      here = record-entries mid new s x.cell held_is is puts.record_is x.cell below ∙ cell-entry old mid s x.cell entry_is small_entry puts.entry

      there : record_of new s x.cell ≡ held_is
      there = record-entry mid new s x.cell held_is is small_data puts.record_is

      front : (n : ℕ) → All (λ (y : Stand). y.cell ≢ n) (stands ++ x ∷ []) → All (λ (y : Stand). y.cell ≢ n) stands
      front n none = All-left (λ (y : Stand). y.cell ≢ n) stands (x ∷ []) none
