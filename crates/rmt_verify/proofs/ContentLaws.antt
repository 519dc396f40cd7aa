-- What is read of a cell is what it holds, and whether that is an entry.
use Rattle.std.proofs.Common.{◌≡◌, ◌↔◌, ℕ, ◌+◌, ◌*◌, ◌/◌, ◌%◌, ◌^◌, ◌<◌, ◌≤◌, ◌==◌, ◌&&◌, Bool, IsTrue, List, [], ◌∷◌, ◌++◌, length, length-append, map, replicate, get_or, All, Contains, refl, sym, ap, ◌∙◌, subst, arith}
use Rattle.std.specs.List.{list_any}
use Rattle.std.proofs.lemmas.Bool.{and_from, and_parts, eq-eqb, eqb-true}
use Rattle.std.proofs.lemmas.List.{length-map, length-replicate}
use Rattle.std.proofs.lemmas.Simd.{map-map}
use Rattle.std.proofs.lemmas.List.Elements.{All-head, All-map, All-tail}
use Rattle.std.proofs.lemmas.Nat.{div-mul-add, div_below, mod-mul-add, mul-le}
use Rattle.std.proofs.Math.Nat.{mod-eq_of_lt}
use Rattle.std.proofs.Math.Pow.{pow-add}
use Rattle.rmt_bits.specs.Bits.{bytes_of, number_of, slice}
use Rattle.rmt_bits.specs.Hash.{hash_row}
use Rattle.rmt_bits.proofs.BitLaws.{slice-lt, slice-whole}
use Rattle.rmt_bits.proofs.ByteLaws.{length-bytes_of, number_of-append, number_of-zeros}
use Rattle.rmt_bits.proofs.FindLaws.{found-lt}
use Rattle.rmt_bits.proofs.MemberLaws.{Contains-from_any, list_any-Contains}
use Rattle.rmt_ast.specs.declared.entry.Entry.{Entry}
use Rattle.rmt_config.specs.declared.form.layout.CellLayout.{CellLayout}
use Rattle.rmt_config.specs.declared.config.Memory.TheVariants.{Exact}
use Rattle.rmt_config.specs.declared.config.TcamRow.{TcamRow}
use Rattle.rmt_config.specs.Cells.{Blocks, Content, blocks_at, candidates, cell_of, code_of, data_at, entry_at, row_record, tcam_row, unit_row}
use Rattle.rmt_config.specs.Effects.{HasArguments}
use Rattle.rmt_config.specs.Layouts.{IsInSram, entry_in, exact_keys, exact_records, local_of, position_of, quantum_of, row_of, ternary_records, unit_of}
use Rattle.rmt_config.specs.Rooms.{tests_as_one}
use Rattle.rmt_config.specs.BlockCounts.{divided_up, record_units, record_width}
use Rattle.rmt_config.specs.LaneForm.{bits_of_lanes}
use Rattle.rmt_config.specs.MemoryRules.{ExactFits, FormedRows, SramRows, TernaryFits}
use Rattle.rmt_config.proofs.CellLayouts.{exact-data, exact-entry, ternary-record, up-enough, up-most}
use Rattle.rmt_config.proofs.SpelledCandidates.{candidate-row}
use Rattle.rmt_pack.specs.declared.tcam.TcamWord.{TcamWord}
use Rattle.rmt_pack.specs.Tcam.{FillsRow, IsWords, joined_words}
use Rattle.rmt_pack.proofs.TcamLaws.{unit_row-words}
use Rattle.rmt_refine.specs.Types.{SlotUnit, SramRow, Stage}
use Rattle.rmt_verify.specs.SramCells.{IsCellAt}
use Rattle.rmt_verify.specs.Wanted.{Matches, word_in}
use Rattle.rmt_config.proofs.LayoutLaws.{at_layout, bytes_hold, keys_in, records_in, rows_in}

-- ---- bytes of a number

pub data_holds : (front bytes : List ℕ) (bits y : ℕ) → front ≡ replicate 256 0 → bytes ≡ front ++ bytes_of (divided_up bits 8) y → y < 2 ^ bits → number_of bytes ≡ y
data_holds front bytes bits y zeros is lt =
    let back = bytes_of (divided_up bits 8) y in
    let none : number_of front ≡ 0 = ap number_of zeros ∙ number_of-zeros 256 in
    let shifted : number_of front * 2 ^ (8 * length back) ≡ 0 * 2 ^ (8 * length back) = ap (λ n. n * 2 ^ (8 * length back)) none in
    let all : number_of bytes ≡ number_of front * 2 ^ (8 * length back) + number_of back = ap number_of is ∙ number_of-append front back in
    let own = bytes_hold bits y lt in
    omega (arith, shifted, all, own)

pub data_long : (front bytes : List ℕ) (bits y : ℕ) → front ≡ replicate 256 0 → bytes ≡ front ++ bytes_of (divided_up bits 8) y → length bytes ≡ 256 + divided_up bits 8
data_long front bytes bits y zeros is =
    let back = bytes_of (divided_up bits 8) y in
    let all : length bytes ≡ length front + length back = ap (λ (bs : List ℕ). length bs) is ∙ length-append front back in
    let long : length front ≡ 256 = ap (λ (bs : List ℕ). length bs) zeros ∙ length-replicate {A = ℕ} 256 0 in
    let own = length-bytes_of (divided_up bits 8) y in
    omega (arith, all, long, own)

-- ---- layouts

-- ---- what is read of a cell

-- an entry has no more bits than the layout says
entry-lt : (l : CellLayout) (held : Blocks) (blocks : List ℕ) (q i : ℕ) → entry_in l held blocks q i < 2 ^ l.entry
entry-lt l held blocks q i = slice-lt (unit_row l.bits held (row_of l i) (blocks_at blocks l.side (unit_of l q i))) (position_of l i * l.entry) l.entry

cell_in : (l m : CellLayout) (blocks : List ℕ) (rows : List SramRow) (cell : ℕ) → l ≡ m → SramRows rows → IsInSram m → length blocks ≡ m.quanta * m.units * m.side → cell < m.ways * m.quanta * m.way → IsCellAt l blocks rows cell
cell_in l m blocks rows cell is rows_are layout long low = at_layout (λ (z : CellLayout). IsCellAt z blocks rows cell) l m is (record { rows_are = rows_are; layout = layout; blocks_are = long; low = low })

-- a cell of the keys and of the data of an exact part, and of a ternary part
pub key_cell : (s : SlotUnit) (k p d : ℕ) (ks rs : List ℕ) (rows : List SramRow) (l : CellLayout) (size cell : ℕ) → ExactFits s k p d ks rs → SramRows rows → l ≡ exact_keys k p d size → size ≡ bits_of_lanes s.keys
    → cell < 4096 * d * p → IsCellAt l ks rows cell
key_cell s k p d ks rs rows l size cell fits rows_are is same low =
    let long = fits.keys in
    cell_in l (exact_keys k p d (bits_of_lanes s.keys)) ks rows cell (is ∙ ap (exact_keys k p d) same) rows_are
    (keys_in k p d (bits_of_lanes s.keys) fits.some_k fits.most_k fits.some_p fits.most_p fits.some_d fits.most_d fits.most_bits fits.fits) (omega (arith, long)) (omega (arith, low))

pub data_cell : (p d n : ℕ) (rs : List ℕ) (rows : List SramRow) (l : CellLayout) (cell : ℕ) → 0 < p → p < 65536 → 0 < d → d ≤ 106 → 0 < n → n < 65536 → length rs ≡ d * (record_units (4 * p) n * record_width n) → SramRows rows
    → l ≡ exact_records p d n → cell < 4096 * d * p → IsCellAt l rs rows cell
data_cell p d n rs rows l cell lp hp ld hd ln hn long rows_are is low =
    cell_in l (exact_records p d n) rs rows cell is rows_are (records_in p d n lp hp ld hd ln hn) (omega (arith, long)) (omega (arith, low))

pub row_cell : (stage : Stage) (s : SlotUnit) (d : ℕ) (ks rs : List ℕ) (rows : List SramRow) (l : CellLayout) (cell : ℕ) → TernaryFits s d ks rs → FormedRows stage → rows ≡ stage.srows → l ≡ ternary_records d (s.held + 8)
    → cell < 2048 * d → IsCellAt l rs rows cell
row_cell stage s d ks rs rows l cell fits formed read is low =
    let long = fits.records in
    let most = fits.most_held in
    subst (λ (z : List SramRow). IsCellAt l rs z cell) (sym read)
    (cell_in l (ternary_records d (s.held + 8)) rs stage.srows cell is (record { rise = formed.srise; low = formed.slow; small = formed.sbits })
    (rows_in d (s.held + 8) fits.some_d fits.most_d (omega arith) (omega (arith, most))) (omega (arith, long)) (omega (arith, low)))

-- what stands above a head of 8 bits
pub above_head : (x bits : ℕ) → x < 2 ^ (bits + 8) → (slice x 8 bits ≡ x / 256) × (x / 256 < 2 ^ bits)
above_head x bits lt =
    let size : 2 ^ (bits + 8) ≡ 2 ^ bits * 2 ^ 8 = pow-add 2 bits 8 in
    let small : x / 256 < 2 ^ bits = div_below x 256 (2 ^ bits) (omega arith) (omega (arith, lt, size)) in
    (mod-eq_of_lt small, small)

pub data_is : (sram : Blocks) (rs : List ℕ) (p d n cell b : ℕ) (l : CellLayout) → 0 < p → 0 < d → l ≡ exact_records p d n
    → b ≡ slice (entry_in l sram rs (quantum_of l cell) (local_of l cell)) 0 n → b ≡ data_at sram rs p n (cell_of (1024 * d) p cell)
data_is sram rs p d n cell b l some_p some_d is read =
    let m : CellLayout = exact_records p d n in
    let x : ℕ = entry_in m sram rs (quantum_of m cell) (local_of m cell) in
    let own : b ≡ slice x 0 n = subst (λ (z : CellLayout). b ≡ slice (entry_in z sram rs (quantum_of z cell) (local_of z cell)) 0 n) is read in
    own ∙ slice-whole x n (entry-lt m sram rs (quantum_of m cell) (local_of m cell)) ∙ sym (exact-data sram rs p d n cell some_p some_d)

module _ (sram : Blocks) (ks : List ℕ) (k p d bits cell : ℕ) (some_p : 0 < p) (some_d : 0 < d) where
  abbrev stands : ℕ
  stands = entry_at sram ks k bits (cell_of (1024 * d) p cell)

  exact_read : (l : CellLayout) → l ≡ exact_keys k p d bits → entry_in l sram ks (quantum_of l cell) (local_of l cell) ≡ stands
  exact_read l is = at_layout (λ (z : CellLayout). entry_in z sram ks (quantum_of z cell) (local_of z cell) ≡ stands) l (exact_keys k p d bits) is (sym (exact-entry sram ks k p d bits cell some_p some_d))

  stands-lt : stands < 2 ^ (bits + 8)
  stands-lt =
      let m : CellLayout = exact_keys k p d bits in
      subst (λ n. n < 2 ^ (bits + 8)) (exact_read m refl) (entry-lt m sram ks (quantum_of m cell) (local_of m cell))

  pub exact_head : (l : CellLayout) (size head : ℕ) → l ≡ exact_keys k p d size → size ≡ bits → head ≡ entry_in l sram ks (quantum_of l cell) (local_of l cell) % 256 → head ≡ stands % 256
  exact_head l size head is same read = read ∙ ap (λ n. n % 256) (exact_read l (is ∙ ap (exact_keys k p d) same))

  pub exact_key : (l : CellLayout) (size : ℕ) (bytes : List ℕ) → l ≡ exact_keys k p d size → size ≡ bits
      → bytes ≡ bytes_of (divided_up size 8) (slice (entry_in l sram ks (quantum_of l cell) (local_of l cell)) 8 size) → bytes ≡ bytes_of (divided_up bits 8) (stands / 256)
  exact_key l size bytes is same read =
      read
      ∙ ap (λ n. bytes_of (divided_up n 8) (slice (entry_in l sram ks (quantum_of l cell) (local_of l cell)) 8 n)) same
      ∙ ap (λ n. bytes_of (divided_up bits 8) (slice n 8 bits)) (exact_read l (is ∙ ap (exact_keys k p d) same))
      ∙ ap (bytes_of (divided_up bits 8)) (above_head stands bits stands-lt).0

  pub exact_key-lt : stands / 256 < 2 ^ bits
  exact_key-lt = (above_head stands bits stands-lt).1

-- bytes of a key
pub key_few : (bits y : ℕ) (bytes : List ℕ) → bits ≤ 640 → bytes ≡ bytes_of (divided_up bits 8) y → length bytes < 65536
key_few bits y bytes few is =
    let long : length bytes ≡ divided_up bits 8 = ap (λ (bs : List ℕ). length bs) is ∙ length-bytes_of (divided_up bits 8) y in
    let most = up-most bits 8 (omega arith) in
    omega (arith, long, most, few)

pub key_room : (bits y n : ℕ) (bytes : List ℕ) → bits ≡ n → bytes ≡ bytes_of (divided_up bits 8) y → n ≤ 8 * length bytes
key_room bits y n bytes same is =
    let long : length bytes ≡ divided_up bits 8 = ap (λ (bs : List ℕ). length bs) is ∙ length-bytes_of (divided_up bits 8) y in
    let enough = up-enough bits 8 (omega arith) in
    omega (arith, long, enough, same)

pub key_small : (bits y n : ℕ) (bytes : List ℕ) → bits ≡ n → bytes ≡ bytes_of (divided_up bits 8) y → y < 2 ^ bits → number_of bytes < 2 ^ n
key_small bits y n bytes same is lt =
    let value : number_of bytes ≡ y = ap number_of is ∙ bytes_hold bits y lt in
    subst (λ m. number_of bytes < 2 ^ m) same (subst (λ m. m < 2 ^ bits) (sym value) lt)

-- of a ternary part
pub row_head : (sram : Blocks) (rs : List ℕ) (d held cell head : ℕ) (l : CellLayout) → cell < 2048 * d → l ≡ ternary_records d (held + 8)
    → head ≡ entry_in l sram rs (quantum_of l cell) (local_of l cell) % 256 → head ≡ row_record sram rs held cell % 256
row_head sram rs d held cell head l lt is read =
    read
    ∙ at_layout (λ (z : CellLayout). entry_in z sram rs (quantum_of z cell) (local_of z cell) % 256 ≡ row_record sram rs held cell % 256) l (ternary_records d (held + 8)) is
    (ap (λ n. n % 256) (sym (ternary-record sram rs d held cell lt)))

pub row_data : (sram : Blocks) (rs : List ℕ) (d held cell b : ℕ) (l : CellLayout) → cell < 2048 * d → l ≡ ternary_records d (held + 8)
    → b ≡ slice (entry_in l sram rs (quantum_of l cell) (local_of l cell)) 8 held → b ≡ row_record sram rs held cell / 256
row_data sram rs d held cell b l lt is read =
    let m : CellLayout = ternary_records d (held + 8) in
    let x : ℕ = entry_in m sram rs (quantum_of m cell) (local_of m cell) in
    let own : b ≡ slice x 8 held = subst (λ (z : CellLayout). b ≡ slice (entry_in z sram rs (quantum_of z cell) (local_of z cell)) 8 held) is read in
    own ∙ (above_head x held (entry-lt m sram rs (quantum_of m cell) (local_of m cell))).0 ∙ ap (λ n. n / 256) (sym (ternary-record sram rs d held cell lt))

-- the blocks of a cell's unit are among those of a ternary part
pub blocks_there : (cell d size long : ℕ) → cell < 2048 * d → long ≡ d * size → (cell / 2048 + 1) * size ≤ long
blocks_there cell d size long lt is =
    let low : cell / 2048 < d = div_below cell 2048 d (omega arith) (omega (arith, lt)) in
    let wide : (cell / 2048 + 1) * size ≤ d * size = mul-le (cell / 2048 + 1) size d size (omega (arith, low)) (omega arith) in
    omega (arith, wide, is)

-- ---- what is told of equal numbers

pub told_along : (b : Bool) (n m t u : ℕ) → IsTrue b ↔ (n ≡ t) → n ≡ m → t ≡ u → IsTrue b ↔ (m ≡ u)
told_along b n m t u is e f = (λ yes. sym e ∙ is.0 yes ∙ f, λ eq. is.1 (e ∙ eq ∙ sym f))

pub args_along : (b : Bool) (ps qs xs bs : List ℕ) (n m : ℕ) → IsTrue b ↔ HasArguments ps xs n → ps ≡ qs → xs ≡ bs → n ≡ m → IsTrue b ↔ HasArguments qs bs m
args_along b ps qs xs bs n m is e f g =
    subst (λ (z : List ℕ). IsTrue b ↔ HasArguments z bs m) e (subst (λ (z : List ℕ). IsTrue b ↔ HasArguments ps z m) f (subst (λ (z : ℕ). IsTrue b ↔ HasArguments ps xs z) g is))

pub words_along : (b : Bool) (row : ℕ) (rows rows' : List TcamRow) (blocks blocks' : List ℕ) (words words' : List TcamWord) → IsTrue b ↔ (map (word_in rows row) blocks ≡ words) → rows ≡ rows' → blocks ≡ blocks' → words ≡ words'
    → IsTrue b ↔ (map (word_in rows' row) blocks' ≡ words')
words_along b row rows rows' blocks blocks' words words' is e f g =
    subst (λ (z : List TcamRow). IsTrue b ↔ (map (word_in z row) blocks' ≡ words')) e
    (subst (λ (z : List ℕ). IsTrue b ↔ (map (word_in rows row) z ≡ words')) f (subst (λ (z : List TcamWord). IsTrue b ↔ (map (word_in rows row) blocks ≡ z)) g is))

-- ways of an exact part
pub way_low : (p d cell : ℕ) → 0 < p → 0 < d → cell < 4096 * d * p → cell / p / (1024 * d) < 4
way_low p d cell some_p some_d lt =
    let low : cell / p < 4096 * d = div_below cell p (4096 * d) some_p (omega (arith, lt)) in
    div_below (cell / p) (1024 * d) 4 (omega (arith, some_d)) (omega (arith, low))

-- ---- heads and candidates

pub code_told : (head value code : ℕ) → head ≡ value % 256 → IsTrue (head / 8 == code) ↔ (code_of (value % 256) ≡ code)
code_told head value code is =
    let same : head / 8 ≡ code_of (value % 256) = (let e : head / 8 ≡ value % 256 / 8 % 32 = omega (arith, is) in e) in
    (λ yes. sym same ∙ eqb-true (head / 8) code yes, λ told. eq-eqb (head / 8) code (same ∙ told))

pub stands_told : (k per d first : ℕ) (ks rs cs : List ℕ) (seed bits key cell : ℕ) (bytes : List ℕ) (b : Bool) → 0 < per → 0 < d → cell / per / (1024 * d) < 4 → bytes ≡ bytes_of (divided_up bits 8) key
    → b ≡ (hash_row seed (first + cell / per / (1024 * d)) bytes (1024 * d) == cell / per % (1024 * d)) → IsTrue b ↔ Contains (candidates seed bits (Exact k per d first ks rs cs) key) cell
stands_told k per d first ks rs cs seed bits key cell bytes b some_per some_d way is_bytes is =
    let among : List ℕ = candidates seed bits (Exact k per d first ks rs cs) key in
    let same : b ≡ list_any (λ m. m == cell) among =
    is ∙ ap (λ (bs : List ℕ). hash_row seed (first + cell / per / (1024 * d)) bs (1024 * d) == cell / per % (1024 * d)) is_bytes
    ∙ sym (candidate-row seed first per d (bytes_of (divided_up bits 8) key) cell some_per some_d way) in (
      λ yes. Contains-from_any among cell (sym same ∙ yes),
      λ there. same ∙ list_any-Contains (λ m. m == cell) among cell there (eq-eqb cell cell refl),
    )

-- ---- an entry in a cell

module _ (widths params : List ℕ) (code : ℕ) (e : Entry) (x : Content) where
  abbrev key : ℕ
  key = tests_as_one (λ t. t.value) widths e.tests

  abbrev mask : ℕ
  mask = tests_as_one (λ t. t.mask) widths e.tests

  pub exact_all : (P : ℕ → Type 0) (runs has stands told : Bool) → IsTrue runs ↔ (code_of x.head ≡ code) → IsTrue has ↔ (x.key ≡ key) → x.mask ≡ mask → IsTrue stands ↔ P x.key
      → IsTrue told ↔ HasArguments params e.args x.held → IsTrue (runs && has && stands && told) ↔ (Matches widths params code e x × P key)
  exact_all P runs has stands told is_run is_key is_mask is_there is_data = (
    λ yes.
        (let last = and_parts (runs && has && stands) told yes in
        let third = and_parts (runs && has) stands last.0 in
        let first = and_parts runs has third.0 in
        let own = is_key.0 first.1 in
        (record { code_is = is_run.0 first.0; key = own; mask = is_mask; held = is_data.0 last.1 }, subst P own (is_there.0 third.1))),
    λ all.
        and_from (runs && has && stands) told (and_from (runs && has) stands (and_from runs has (is_run.1 all.0.code_is) (is_key.1 all.0.key)) (is_there.1 (subst P (sym all.0.key) all.1))) (is_data.1 all.0.held),
  )

  pub ternary_all : (runs has told : Bool) → IsTrue runs ↔ (code_of x.head ≡ code) → IsTrue has ↔ ((x.key ≡ key) × (x.mask ≡ mask)) → IsTrue told ↔ HasArguments params e.args x.held
      → IsTrue (runs && has && told) ↔ Matches widths params code e x
  ternary_all runs has told is_run is_key is_data = (
    λ yes.
        (let last = and_parts (runs && has) told yes in
        let first = and_parts runs has last.0 in
        let own = is_key.0 first.1 in
        record { code_is = is_run.0 first.0; key = own.0; mask = own.1; held = is_data.0 last.1 }),
    λ all. and_from (runs && has) told (and_from runs has (is_run.1 all.code_is) (is_key.1 (all.key, all.mask))) (is_data.1 all.held),
  )

-- ---- words of TCAM

words_same : (xs ys : List ℕ) → All (λ w. w < 2 ^ 40) xs → All (λ w. w < 2 ^ 40) ys → length xs ≡ length ys → joined_words xs ≡ joined_words ys → xs ≡ ys
words_same [] [] ax ay long same = refl
words_same [] (y ∷ ys) ax ay long same = absurd (omega (arith, long))
words_same (x ∷ xs) [] ax ay long same = absurd (omega (arith, long))
words_same (x ∷ xs) (y ∷ ys) ax ay long same =
    let lx : x < 2 ^ 40 = All-head (λ w. w < 2 ^ 40) x xs ax in
    let ly : y < 2 ^ 40 = All-head (λ w. w < 2 ^ 40) y ys ay in
    let turned : joined_words xs * 2 ^ 40 + x ≡ joined_words ys * 2 ^ 40 + y = omega (arith, same) in
    let low : x ≡ y = sym (mod-mul-add (joined_words xs) (2 ^ 40) x lx) ∙ ap (λ n. n % 2 ^ 40) turned ∙ mod-mul-add (joined_words ys) (2 ^ 40) y ly in
    let high : joined_words xs ≡ joined_words ys = sym (div-mul-add (joined_words xs) (2 ^ 40) x lx) ∙ ap (λ n. n / 2 ^ 40) turned ∙ div-mul-add (joined_words ys) (2 ^ 40) y ly in
    let rest = words_same xs ys (All-tail (λ w. w < 2 ^ 40) x xs ax) (All-tail (λ w. w < 2 ^ 40) y ys ay) (omega (arith, long)) high in
    ap (λ z. z ∷ xs) low ∙ ap (λ zs. y ∷ zs) rest

abbrev value_of : TcamWord → ℕ
value_of w = w.value

abbrev mask_of : TcamWord → ℕ
mask_of w = w.mask

both_same : (xs ys : List TcamWord) → map value_of xs ≡ map value_of ys → map mask_of xs ≡ map mask_of ys → xs ≡ ys
both_same [] [] a b = refl
both_same [] (y ∷ ys) a b = absurd cc
both_same (x ∷ xs) [] a b = absurd cc
both_same (x ∷ xs) (y ∷ ys) a b =
    let v : value_of x ≡ value_of y = cc in
    let m : mask_of x ≡ mask_of y = cc in
    let vs : map value_of xs ≡ map value_of ys = cc in
    let ms : map mask_of xs ≡ map mask_of ys = cc in
    let w : x ≡ y = λ i. record { value = v i; mask = m i } in
    ap (λ z. z ∷ xs) w ∙ ap (λ zs. y ∷ zs) (both_same xs ys vs ms)

part_small : (val : TcamRow → ℕ) (rows : List TcamRow) (row : ℕ) (blocks : List ℕ) → All (λ (r : TcamRow). val r < 2 ^ 40) rows → All (λ w. w < 2 ^ 40) (map (λ b. tcam_row val rows b row) blocks)
part_small val rows row blocks all =
    All-map (λ w. w < 2 ^ 40) (λ b. tcam_row val rows b row) blocks (λ i d lt. found-lt (λ (r : TcamRow). (r.block == get_or blocks i d) && (r.row == row)) val (2 ^ 40) rows (omega arith) all)

-- a row of blocks side by side has the words of tests where it has their values and masks
pub words_told : (rows : List TcamRow) (row : ℕ) (blocks : List ℕ) (words : List TcamWord) (bits key mask : ℕ) → All (λ (r : TcamRow). r.value ≤ r.mask) rows → All (λ (r : TcamRow). r.mask < 2 ^ 40) rows
    → length blocks ≡ divided_up bits 40 → IsWords (map value_of words) key bits → IsWords (map mask_of words) mask bits → FillsRow (map value_of words) key → FillsRow (map mask_of words) mask
    → (map (word_in rows row) blocks ≡ words) ↔ ((unit_row 40 (tcam_row (λ t. t.value) rows) row blocks ≡ key) × (unit_row 40 (tcam_row (λ t. t.mask) rows) row blocks ≡ mask))
words_told rows row blocks words bits key mask within small long values masks fills_values fills_masks = (
  λ same. (
    fills_values (tcam_row (λ t. t.value) rows) row blocks (sym (map-map value_of (word_in rows row) blocks) ∙ ap (map value_of) same),
    fills_masks (tcam_row (λ t. t.mask) rows) row blocks (sym (map-map mask_of (word_in rows row) blocks) ∙ ap (map mask_of) same),
  ),
  λ both.
      both_same (map (word_in rows row) blocks) words
      (map-map value_of (word_in rows row) blocks ∙ one (λ t. t.value) (map value_of words) key values (λ k d lt. (let a = within k d lt in let b = small k d lt in omega (arith, a, b))) both.0)
      (map-map mask_of (word_in rows row) blocks ∙ one (λ t. t.mask) (map mask_of words) mask masks small both.1),
)
  where
    one : (val : TcamRow → ℕ) (ws : List ℕ) (n : ℕ) → IsWords ws n bits → All (λ (r : TcamRow). val r < 2 ^ 40) rows → unit_row 40 (tcam_row val rows) row blocks ≡ n → map (λ b. tcam_row val rows b row) blocks ≡ ws
    one val ws n are all is =
        let count = are.count in
        let many = length-map blocks (λ b. tcam_row val rows b row) in
        words_same (map (λ b. tcam_row val rows b row) blocks) ws (part_small val rows row blocks all) are.each (omega (arith, many, long, count)) (sym (unit_row-words (tcam_row val rows) row blocks) ∙ is ∙ sym are.value)
