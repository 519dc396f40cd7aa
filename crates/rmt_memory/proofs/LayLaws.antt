-- What is read from the rows of a stage is what the cells of a slot hold.
use Rattle.std.proofs.Common.{◌≡◌, ℕ, ◌+◌, ◌*◌, ◌/◌, ◌%◌, ◌^◌, ◌<◌, ◌≤◌, List, ◌∷◌, ◌++◌, length, get_or, take, drop, map, true, sym, refl, ap, ◌∙◌, subst, arith}
use Rattle.std.specs.Prelude.{All, Result, IfOk}
use Rattle.std.proofs.lemmas.Result.{IfOk-weaker}
use Rattle.std.proofs.lemmas.List.{length-take, length-drop}
use Rattle.std.proofs.Math.Nat.{div-one, mod-eq_of_lt}
use Rattle.rmt_bits.specs.Bits.{slice, bytes_of}
use Rattle.rmt_bits.proofs.BitLaws.{slice-lt}
use Rattle.rmt_memory.specs.Types.{SramRow, TcamRow, CellNumber}
use Rattle.rmt_config.specs.declared.form.layout.CellLayout.{CellLayout}
use Rattle.rmt_config.specs.BlockCounts.{divided_up}
use Rattle.rmt_config.specs.Cells.{sram_row, tcam_row, blocks_at, cell_of, entry_at, number_of_cell, unit_row, row_record, Content}
use Rattle.rmt_config.specs.Layouts.{exact_keys, ternary_records, ternary_keys}
use Rattle.rmt_config.specs.StageForm.{trow_number}
use Rattle.rmt_config.specs.Order.{rises_from}
use Rattle.rmt_config.specs.PrefixRow.{PrefixRows}
use Rattle.rmt_config.proofs.UnitBits.{Within}
use Rattle.rmt_config.proofs.HeldRows.{rows-agree}
use Rattle.rmt_config.proofs.CellLayouts.{exact-entry, ternary-record}
use Rattle.rmt_memory.specs.declared.runs.Runs.{Runs}
use Rattle.rmt_memory.specs.Laying.{entry_of, runs_of, bytes_at, cell_at, nowhere, number_bytes}
use Rattle.rmt_memory.specs.Searching.{run_of}
use Rattle.rmt_memory.specs.KeyWords.{words_of}
use Rattle.rmt_memory.specs.Comparing.{compared_at}
use Rattle.rmt_memory.specs.Slicing.{RowFits}
use Rattle.rmt_memory.specs.Memories.{compared_of}
use Rattle.rmt_memory.specs.Laid.{CellsLaid}
use Rattle.rmt_memory.proofs.RangeLaws.{number-at}
use Rattle.rmt_memory.proofs.RunLaws.{run-is, runs-same}
use Rattle.rmt_memory.proofs.WordLaws.{words-unit}
use Rattle.rmt_config.proofs.SpelledCandidates.{above-byte}
use Rattle.rmt_memory.proofs.SliceLaws.{words-fit}
use Rattle.rmt_config.proofs.CellLaws.{blocks-there}

-- the lowest byte of a number, and what is above it
low-byte : (x : ℕ) → slice x 0 8 ≡ x % 256
low-byte x = ap (λ n. n % 256) (div-one x)

-- listed cells of a memory, by its ways
pub cells-below : (numbers numbers' : List CellNumber) (count m : ℕ) → numbers' ≡ numbers → count ≡ m → All (λ (c : CellNumber). c.cell < m) numbers → All (λ (c : CellNumber). c.cell < count) numbers'
cells-below numbers numbers' count m same is below = λ k d lt.
    subst (λ n. (get_or numbers' k d).cell < n) (sym is) (subst (λ (cs : List CellNumber). All (λ (c : CellNumber). c.cell < m) cs) (sym same) below k d lt)

pub IfOk-then : {X Y : Type 0} (r : Result X Y) (P Q : X → Type 0) → IfOk r P → ((x : X) → P x → Q x) → IfOk r Q
IfOk-then r P Q h f = IfOk-weaker r P Q f h

-- ---- an exact part

module _ (rows rows' : List SramRow) (numbers numbers' : List CellNumber) (l : CellLayout) (ks : List ℕ) (k p d bits bits' : ℕ) (layout : l ≡ exact_keys k p d bits') (same_bits : bits' ≡ bits)
    (same_rows : rows' ≡ rows) (same_numbers : numbers' ≡ numbers) (some_p : 0 < p) (some_d : 0 < d) where
  abbrev entry : ℕ → ℕ
  entry n = entry_at (sram_row rows) ks k bits (cell_of (1024 * d) p n)

  entry-same : (n : ℕ) → entry_of l (sram_row rows) ks n ≡ entry n
  entry-same n = ap (λ (m : CellLayout). entry_of m (sram_row rows) ks n) (layout ∙ ap (exact_keys k p d) same_bits) ∙ sym (exact-entry (sram_row rows) ks k p d bits n some_p some_d)

  read-same : (size from len : ℕ) → runs_of size (λ n. slice (entry_of l (sram_row rows') ks n) from len) numbers' ≡ runs_of size (λ n. slice (entry n) from len) numbers
  read-same size from len =
      ap (λ (rs : List SramRow). runs_of size (λ n. slice (entry_of l (sram_row rs) ks n) from len) numbers') same_rows
      ∙ ap (λ (cs : List CellNumber). runs_of size (λ n. slice (entry_of l (sram_row rows) ks n) from len) cs) same_numbers
      ∙ runs-same size _ _ numbers (λ i z lt. ap (λ e. slice e from len) (entry-same (get_or numbers i z).cell))

  pub exact-heads : runs_of 1 (λ n. slice (entry_of l (sram_row rows') ks n) 0 8) numbers' ≡ runs_of 1 (λ n. entry n % 256) numbers
  exact-heads = read-same 1 0 8 ∙ runs-same 1 _ _ numbers (λ i z lt. low-byte (entry (get_or numbers i z).cell))

  pub exact-keys : runs_of (divided_up bits' 8) (λ n. slice (entry_of l (sram_row rows') ks n) 8 bits') numbers' ≡ runs_of (divided_up bits 8) (λ n. entry n / 256) numbers
  exact-keys =
      ap (λ b. runs_of (divided_up b 8) (λ n. slice (entry_of l (sram_row rows') ks n) 8 b) numbers') same_bits
      ∙ read-same (divided_up bits 8) 8 bits
      ∙ runs-same (divided_up bits 8) _ _ numbers (λ i z lt. above-byte (entry (get_or numbers i z).cell) bits (slice-lt _ _ (bits + 8)))

-- ---- a ternary part

module _ (rows rows' : List SramRow) (numbers numbers' : List CellNumber) (l : CellLayout) (rs : List ℕ) (d held : ℕ) (layout : l ≡ ternary_records d (held + 8))
    (same_rows : rows' ≡ rows) (same_numbers : numbers' ≡ numbers) (below : All (λ (c : CellNumber). c.cell < 2048 * d) numbers) where
  abbrev kept : ℕ → ℕ
  kept n = row_record (sram_row rows) rs held n

  kept-same : (n : ℕ) → n < 2048 * d → entry_of l (sram_row rows) rs n ≡ kept n
  kept-same n lt = ap (λ (m : CellLayout). entry_of m (sram_row rows) rs n) layout ∙ sym (ternary-record (sram_row rows) rs d held n lt)

  row-same : (size from len : ℕ) → runs_of size (λ n. slice (entry_of l (sram_row rows') rs n) from len) numbers' ≡ runs_of size (λ n. slice (kept n) from len) numbers
  row-same size from len =
      ap (λ (xs : List SramRow). runs_of size (λ n. slice (entry_of l (sram_row xs) rs n) from len) numbers') same_rows
      ∙ ap (λ (cs : List CellNumber). runs_of size (λ n. slice (entry_of l (sram_row rows) rs n) from len) cs) same_numbers
      ∙ runs-same size _ _ numbers (λ i z lt. ap (λ e. slice e from len) (kept-same (get_or numbers i z).cell (below i z lt)))

  pub ternary-heads : runs_of 1 (λ n. slice (entry_of l (sram_row rows') rs n) 0 8) numbers' ≡ runs_of 1 (λ n. kept n % 256) numbers
  ternary-heads = row-same 1 0 8 ∙ runs-same 1 _ _ numbers (λ i z lt. low-byte (kept (get_or numbers i z).cell))

  pub ternary-data : runs_of (divided_up held 8) (λ n. slice (entry_of l (sram_row rows') rs n) 8 held) numbers' ≡ runs_of (divided_up held 8) (λ n. kept n / 256) numbers
  ternary-data =
      row-same (divided_up held 8) 8 held
      ∙ runs-same (divided_up held 8) _ _ numbers (λ i z lt. above-byte (kept (get_or numbers i z).cell) held (slice-lt _ _ (held + 8)))

-- the values of rows are below their masks
pub small-values : (rows : List TcamRow) → PrefixRows rows → All (λ (r : TcamRow). r.mask < 2 ^ 40) rows → All (λ (r : TcamRow). r.value < 2 ^ 40) rows
small-values rows formed masks i d lt =
    let x = get_or rows i d in
    let low : x.value ≤ x.mask = formed.within i d lt in
    let small : x.mask < 2 ^ 40 = masks i d lt in
    let all : x.value < 2 ^ 40 = omega (arith, low, small) in
    all

module _ (rows : List TcamRow) (ks : List ℕ) (d width : ℕ) (whole : length ks ≡ d * width) (formed : PrefixRows rows) (masks : All (λ (r : TcamRow). r.mask < 2 ^ 40) rows) where
  values : All (λ (r : TcamRow). r.value < 2 ^ 40) rows
  values = small-values rows formed masks

  within : (val : TcamRow → ℕ) → All (λ (r : TcamRow). val r < 2 ^ 40) rows → Within 40 (tcam_row val rows)
  within val small = (rows-agree (ternary_keys d 1) (λ (r : TcamRow). r.block) (λ (r : TcamRow). r.row) val trow_number rows (λ r. refl) formed.rise formed.low small).within

  words-read : (val : TcamRow → ℕ) → All (λ (r : TcamRow). val r < 2 ^ 40) rows → (n : ℕ) → n < 2048 * d
      → map (λ b. tcam_row val rows b (n % 2048)) (blocks_at ks width (n / 2048)) ≡ words_of width (unit_row 40 (tcam_row val rows) (n % 2048) (blocks_at ks width (n / 2048)))
  words-read val small n lt =
      let blocks = blocks_at ks width (n / 2048) in
      let there = blocks-there d width (length ks) n whole lt in
      let next : (n / 2048 + 1) * width ≡ n / 2048 * width + width = omega arith in
      let size : length blocks ≡ width = (let e = length-take width (drop (n / 2048 * width) ks) in let f = length-drop (n / 2048 * width) ks in omega (arith, e, f, there, next)) in
      sym (words-unit (tcam_row val rows) (n % 2048) blocks (within val small)) ∙ ap (λ c. words_of c (unit_row 40 (tcam_row val rows) (n % 2048) blocks)) size

  -- what a listed row compares has its words
  pub compared-fits : (n : ℕ) → n < 2048 * d → RowFits width (compared_at rows ks width n)
  compared-fits n lt =
      let blocks = blocks_at ks width (n / 2048) in
      let mask = unit_row 40 (tcam_row (λ (r : TcamRow). r.mask) rows) (n % 2048) blocks in
      let value = unit_row 40 (tcam_row (λ (r : TcamRow). r.value) rows) (n % 2048) blocks in
      let same : compared_at rows ks width n ≡ record { masks = words_of width mask; values = words_of width value } =
      ap (λ (ms : List ℕ). record { masks = ms; values = (compared_at rows ks width n).values }) (words-read (λ (r : TcamRow). r.mask) masks n lt)
      ∙ ap (λ (vs : List ℕ). record { masks = words_of width mask; values = vs }) (words-read (λ (r : TcamRow). r.value) values n lt) in
      subst (RowFits width) (sym same) (words-fit width mask value)

  -- what a row compares
  pub compared-is : (c : Content) (n : ℕ) → n < 2048 * d → c.mask ≡ unit_row 40 (tcam_row (λ (r : TcamRow). r.mask) rows) (n % 2048) (blocks_at ks width (n / 2048))
      → c.key ≡ unit_row 40 (tcam_row (λ (r : TcamRow). r.value) rows) (n % 2048) (blocks_at ks width (n / 2048)) → compared_at rows ks width n ≡ compared_of width c
  compared-is c n lt mask key =
      let m : map (λ b. tcam_row (λ (r : TcamRow). r.mask) rows b (n % 2048)) (blocks_at ks width (n / 2048)) ≡ words_of width c.mask =
      words-read (λ (r : TcamRow). r.mask) masks n lt ∙ ap (words_of width) (sym mask) in
      let v : map (λ b. tcam_row (λ (r : TcamRow). r.value) rows b (n % 2048)) (blocks_at ks width (n / 2048)) ≡ words_of width c.key =
      words-read (λ (r : TcamRow). r.value) values n lt ∙ ap (words_of width) (sym key) in
      ap (λ (ms : List ℕ). record { masks = ms; values = (compared_at rows ks width n).values }) m ∙ ap (λ (vs : List ℕ). record { masks = words_of width c.mask; values = vs }) v

-- ---- runs of listed cells

-- the run of a listed cell
pub run-at : (r : Runs) (size : ℕ) (value : ℕ → ℕ) (numbers : List CellNumber) (i : ℕ) → r.size ≡ size → r.bytes.items ≡ runs_of size value numbers → i < length numbers
    → run_of r i ≡ bytes_of size (value (cell_at numbers i))
run-at r size value numbers i is bytes lt =
    ap (λ n. take n (drop (i * n) r.bytes.items)) is ∙ ap (λ (bs : List ℕ). take size (drop (i * size) bs)) bytes ∙ run-is size value numbers i nowhere lt

-- the head of a listed cell
pub head-of : (heads : Runs) (f : ℕ → ℕ) (numbers : List CellNumber) (i : ℕ) → i < length numbers → heads.size ≡ 1 → heads.bytes.items ≡ runs_of 1 f numbers → f (cell_at numbers i) < 256
    → get_or (run_of heads i) 0 0 ≡ f (cell_at numbers i)
head-of heads f numbers i lt one fs small = ap (λ (bs : List ℕ). get_or bs 0 0) (run-at heads 1 f numbers i one fs lt) ∙ mod-eq_of_lt small

-- the bytes of a listed cell
bytes-at : (tail : ℕ) (entry : ℕ → ℕ) (heads keys held : Runs) (k h : ℕ) (f g e : ℕ → ℕ) (numbers : List CellNumber) (i : ℕ) → i < length numbers
    → heads.size ≡ 1 → heads.bytes.items ≡ runs_of 1 f numbers → keys.size ≡ k → keys.bytes.items ≡ runs_of k g numbers → held.size ≡ h → held.bytes.items ≡ runs_of h e numbers
    → f (cell_at numbers i) < 256 → (get_or numbers i nowhere).number ≡ entry (cell_at numbers i)
    → bytes_at tail numbers heads keys held i ≡ f (cell_at numbers i) ∷ (bytes_of k (g (cell_at numbers i)) ++ (bytes_of h (e (cell_at numbers i)) ++ number_bytes tail (entry (cell_at numbers i))))
bytes-at tail entry heads keys held k h f g e numbers i lt one fs ks gs hs es small number =
    let n = cell_at numbers i in
    let own = number_bytes tail (get_or numbers i nowhere).number in
    ap (λ x. x ∷ (run_of keys i ++ (run_of held i ++ own))) (head-of heads f numbers i lt one fs small)
    ∙ ap (λ (bs : List ℕ). f n ∷ (bs ++ (run_of held i ++ own))) (run-at keys k g numbers i ks gs lt)
    ∙ ap (λ (bs : List ℕ). f n ∷ (bytes_of k (g n) ++ (bs ++ own))) (run-at held h e numbers i hs es lt)
    ∙ ap (λ z. f n ∷ (bytes_of k (g n) ++ (bytes_of h (e n) ++ number_bytes tail z))) number

-- the bytes of each listed cell where cells are laid out from such runs
pub cells-hold : (tail : ℕ) (heads keys held cells : Runs) (k h count : ℕ) (f g e : ℕ → ℕ) (numbers : List CellNumber) → CellsLaid tail numbers heads keys held count cells
    → rises_from 0 (map (λ (c : CellNumber). c.cell) numbers) ≡ true → ((n : ℕ) → f n < 256)
    → heads.size ≡ 1 → heads.bytes.items ≡ runs_of 1 f numbers → keys.size ≡ k → keys.bytes.items ≡ runs_of k g numbers → held.size ≡ h → held.bytes.items ≡ runs_of h e numbers
    → (i : ℕ) → i < length numbers → run_of cells (cell_at numbers i)
    ≡ f (cell_at numbers i) ∷ (bytes_of k (g (cell_at numbers i)) ++ (bytes_of h (e (cell_at numbers i)) ++ number_bytes tail (number_of_cell numbers (cell_at numbers i))))
cells-hold tail heads keys held cells k h count f g e numbers laid rise small one fs ks gs hs es =
    laid.listed (λ n. f n ∷ (bytes_of k (g n) ++ (bytes_of h (e n) ++ number_bytes tail (number_of_cell numbers n))))
    (λ j less. bytes-at tail (number_of_cell numbers) heads keys held k h f g e numbers j less one fs ks gs hs es (small (cell_at numbers j)) (sym (number-at numbers j rise less)))
