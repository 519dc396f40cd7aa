-- Answers on the rows of a memory, at equal layouts, rows and numbers.
use Rattle.std.proofs.Common.{◌≡◌, ℕ, ◌*◌, ◌/◌, ◌%◌, List, length, Bool, true, false, sym, ap, ◌∙◌, subst, arith}
use Rattle.std.specs.Prelude.{◌↔◌, IsTrue}
use Rattle.std.proofs.lemmas.Bool.{and_parts, both_ways, false≢true}
use Rattle.rmt_config.specs.Order.{rises_from}
use Rattle.rmt_config.specs.declared.form.layout.CellLayout.{CellLayout}
use Rattle.rmt_config.specs.Types.{Stage, SramRow, SlotUnit, CellNumber}
use Rattle.rmt_config.specs.BlockCounts.{record_width, record_units}
use Rattle.rmt_config.specs.Cells.{sram_row}
use Rattle.rmt_config.specs.Layouts.{BlocksTold, listed_cells, cells_hold, exact_records, EntriesHeld, SramTold}

abbrev pub RowsAnswer : {X : Type 0} → (X → ℕ) → (X → ℕ) → Bool → CellLayout → List X → List CellNumber → List ℕ → Type 0
RowsAnswer num bits b l rows numbers blocks =
    IsTrue b ↔ BlocksTold l (λ r. num r / l.rows) (λ r. num r % l.rows) bits (listed_cells numbers) rows blocks

pub rows-same : {X : Type 0} (num bits : X → ℕ) (b : Bool) (l l' : CellLayout) (rows rows' : List X) (numbers numbers' : List CellNumber) (blocks : List ℕ) → l' ≡ l → rows' ≡ rows → numbers' ≡ numbers
    → RowsAnswer num bits b l' rows' numbers' blocks → RowsAnswer num bits b l rows numbers blocks
rows-same num bits b l l' rows rows' numbers numbers' blocks el er en h =
    subst (λ x. RowsAnswer num bits b x rows numbers blocks) el
    (subst (λ x. RowsAnswer num bits b l' x numbers blocks) er (subst (λ x. RowsAnswer num bits b l' rows' x blocks) en h))

pub cells-same : (l l' : CellLayout) (rows rows' : List SramRow) (numbers numbers' : List CellNumber) (blocks : List ℕ) (visible first actions : ℕ) → l' ≡ l → rows' ≡ rows → numbers' ≡ numbers
    → cells_hold l' (sram_row rows') blocks visible first actions numbers' ≡ cells_hold l (sram_row rows) blocks visible first actions numbers
cells-same l l' rows rows' numbers numbers' blocks visible first actions el er en =
    ap (λ x. cells_hold l' (sram_row rows') blocks visible first actions x) en
    ∙ ap (λ x. cells_hold l' (sram_row x) blocks visible first actions numbers) er ∙ ap (λ x. cells_hold x (sram_row rows) blocks visible first actions numbers) el

pub true-same : (a b : Bool) → a ≡ b → IsTrue a ↔ IsTrue b
true-same a b e = (λ h. sym e ∙ h, λ h. e ∙ h)

-- entries that hold in one layout hold in the same one
pub entries-at : (b : Bool) (stage : Stage) (s : SlotUnit) (visible first : ℕ) {l l' : CellLayout} (blocks : List ℕ) → l' ≡ l
    → (IsTrue b ↔ EntriesHeld stage s visible first l' blocks) → (IsTrue b ↔ EntriesHeld stage s visible first l blocks)
entries-at b stage s visible first blocks e h = subst (λ x. IsTrue b ↔ EntriesHeld stage s visible first x blocks) e h

-- an answer in two parts, of which the first broke or stands
pub breaks_first : (a : Bool) (A B : Type 0) → (IsTrue a ↔ A) → a ≡ false → IsTrue false ↔ (A × B)
breaks_first a A B first broken = (λ f. absurd (false≢true f), λ all. absurd (both_ways a broken (first.1 all.0)))

pub then_second : (a b : Bool) (A B : Type 0) → (IsTrue a ↔ A) → a ≡ true → (IsTrue b ↔ B) → IsTrue b ↔ (A × B)
then_second a b A B first stands second = (λ h. (first.0 stands, second.0 h), λ all. second.1 all.1)

-- a record of no bits has no blocks
pub no_records : (stage : Stage) (s : SlotUnit) (p d : ℕ) (rs : List ℕ) → s.held ≡ 0
    → length rs ≡ d * (record_units (4 * p) s.held * record_width s.held) → SramTold (exact_records p d s.held) stage s rs
no_records stage s p d rs none len j lt =
    let width : record_width s.held ≡ 0 = ap record_width none in
    let e : d * (record_units (4 * p) s.held * record_width s.held) ≡ 0 =
    ap (λ w. d * (record_units (4 * p) s.held * w)) width ∙ times_none d (record_units (4 * p) s.held) in
    absurd (omega (arith, lt, len, e))
  where
    times_none : (a b : ℕ) → a * (b * 0) ≡ 0
    times_none a b = omega arith

-- all blocks of a list are blocks of its layout
pub all-there : (d units side len : ℕ) → len ≡ d * (units * side) → len ≡ d * units * side
all-there d units side len e = let same : d * (units * side) ≡ d * units * side = omega arith in e ∙ same

-- where entries hold, the listed cells rise
pub numbers-rise : (stage : Stage) (s : SlotUnit) (visible first : ℕ) (l : CellLayout) (blocks : List ℕ) {numbers : List CellNumber} → numbers ≡ s.numbers
    → EntriesHeld stage s visible first l blocks → IsTrue (rises_from 0 (listed_cells numbers))
numbers-rise stage s visible first l blocks e held =
    ap (λ ns. rises_from 0 (listed_cells ns)) e ∙ (and_parts _ _ (and_parts _ _ held.0).0).0
