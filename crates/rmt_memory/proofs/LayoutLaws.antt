-- What is asked where the listed cells of a memory are read: its rows, and the layout of its entries.
use Rattle.std.proofs.Common.{◌≡◌, ℕ, ◌+◌, ◌*◌, ◌^◌, ◌<◌, ◌≤◌, List, length, sym, ap, ◌∙◌, subst, arith}
use Rattle.std.specs.Prelude.{All}
use Rattle.std.proofs.lemmas.Nat.{mul-le}
use Rattle.rmt_memory.specs.Types.{Stage, SlotUnit, SramRow, CellNumber}
use Rattle.rmt_config.specs.declared.form.layout.CellLayout.{CellLayout}
use Rattle.rmt_config.specs.LaneForm.{bits_of_lanes}
use Rattle.rmt_config.specs.BlockCounts.{record_width, record_units}
use Rattle.rmt_config.specs.Layouts.{IsInSram, exact_keys, ternary_records}
use Rattle.rmt_config.specs.MemoryRules.{SramRows, FormedRows, ExactFits, TernaryFits}
use Rattle.rmt_config.proofs.LayoutLaws.{keys_in, rows_in}
use Rattle.rmt_memory.proofs.LayLaws.{cells-below}

-- the rows of a stage's SRAM blocks
pub rows-formed : (stage : Stage) (rows : List SramRow) → rows ≡ stage.srows → FormedRows stage → SramRows rows
rows-formed stage rows same formed = subst SramRows (sym same) (record { rise = formed.srise; low = formed.slow; small = formed.sbits })

three : (d u s : ℕ) → d * (u * s) ≡ d * u * s
three d u s = omega arith

-- the records of a ternary part
module _ (slot : SlotUnit) (d : ℕ) (ks rs : List ℕ) (fits : TernaryFits slot d ks rs) (l : CellLayout) (is : l ≡ ternary_records d (slot.held + 8)) where
  pub ternary-in : IsInSram l
  ternary-in =
      let most = fits.most_held in subst IsInSram (sym is) (rows_in d (slot.held + 8) fits.some_d fits.most_d (omega arith) (omega (arith, most)))

  pub ternary-blocks : length rs ≡ l.quanta * l.units * l.side
  ternary-blocks =
      fits.records ∙ three d (record_units 2 (slot.held + 8)) (record_width (slot.held + 8)) ∙ sym (ap (λ (m : CellLayout). m.quanta * m.units * m.side) is)

  pub ternary-entry : l.entry ≡ slot.held + 8
  ternary-entry = ap (λ (m : CellLayout). m.entry) is

  pub ternary-cells : (numbers : List CellNumber) → numbers ≡ slot.numbers → All (λ (c : CellNumber). c.cell < 2048 * d) slot.numbers → All (λ (c : CellNumber). c.cell < l.ways * l.quanta * l.way) numbers
  ternary-cells numbers same =
      let count : 1 * d * 2048 ≡ 2048 * d = omega arith in
      cells-below slot.numbers numbers (l.ways * l.quanta * l.way) (2048 * d) same (ap (λ (m : CellLayout). m.ways * m.quanta * m.way) is ∙ count)

-- the keys of an exact part
module _ (slot : SlotUnit) (k p d : ℕ) (ks rs : List ℕ) (fits : ExactFits slot k p d ks rs) where
  pub exact-few : 4096 * d * p < 2 ^ 32
  exact-few =
      let b = bits_of_lanes slot.keys in
      let low : p * 8 ≤ p * (b + 8) = mul-le p 8 p (b + 8) (omega arith) (omega arith) in
      let room = fits.fits in
      let wide = fits.most_k in
      let some : p ≤ 3570 = omega (arith, low, room, wide) in
      let most : d * p ≤ 106 * 3570 = mul-le d p 106 3570 fits.most_d some in
      omega (arith, most)

  module _ (bits : ℕ) (same : bits ≡ bits_of_lanes slot.keys) (l : CellLayout) (is : l ≡ exact_keys k p d bits) where
    pub exact-in : IsInSram l
    exact-in =
        subst IsInSram (sym is) (subst (λ b. IsInSram (exact_keys k p d b)) (sym same)
        (keys_in k p d (bits_of_lanes slot.keys) fits.some_k fits.most_k fits.some_p fits.most_p fits.some_d fits.most_d fits.most_bits fits.fits))

    pub exact-blocks : length ks ≡ l.quanta * l.units * l.side
    exact-blocks = fits.keys ∙ three d 4 k ∙ sym (ap (λ (m : CellLayout). m.quanta * m.units * m.side) is)

    pub exact-entry : l.entry ≡ bits + 8
    exact-entry = ap (λ (m : CellLayout). m.entry) is

    pub exact-cells : (numbers : List CellNumber) → numbers ≡ slot.numbers → All (λ (c : CellNumber). c.cell < 4096 * d * p) slot.numbers → All (λ (c : CellNumber). c.cell < l.ways * l.quanta * l.way) numbers
    exact-cells numbers eq =
        let count : 4 * d * (1024 * p) ≡ 4096 * d * p = omega arith in
        cells-below slot.numbers numbers (l.ways * l.quanta * l.way) (4096 * d * p) eq (ap (λ (m : CellLayout). m.ways * m.quanta * m.way) is ∙ count)

-- keys of so few bits
pub few-bits : (bits b : ℕ) → bits ≡ b → b ≤ 640 → bits ≤ 640
few-bits bits b same few = subst (λ n. n ≤ 640) (sym same) few
