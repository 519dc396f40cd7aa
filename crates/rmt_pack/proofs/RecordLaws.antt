-- Records of cells of exact parts and of rows of ternary parts.
use Rattle.std.proofs.Common.{◌≡◌, ◌≢◌, ℕ, ◌+◌, ◌-◌, ◌*◌, ◌/◌, ◌%◌, ◌^◌, ◌<◌, ◌≤◌, List, length, take, drop, cond, sym, refl, ap, ◌∙◌, subst, arith, inl, inr}
use Rattle.std.proofs.lemmas.Bool.{cases_eq, cases_lt}
use Rattle.std.proofs.lemmas.Nat.{mul-le, mul-add-lt, div_below, mod_below, div-add-mod', same_from_place}
use Rattle.rmt_bits.specs.Bits.{slice, number_of, bytes_of}
use Rattle.rmt_bits.proofs.ByteLaws.{AreBytes, bytes_of-number_of}
use Rattle.rmt_bits.proofs.PairLaws.{AllPairs-right}
use Rattle.rmt_config.specs.BlockCounts.{divided_up, record_width, records_a_row, record_units}
use Rattle.rmt_config.specs.Cells.{Blocks, unit_row, blocks_at, local_index, record_at, data_at, row_record}
use Rattle.rmt_config.proofs.CellPlaces.{three-of}
use Rattle.rmt_config.proofs.CellLayouts.{up-enough, records-are}
use Rattle.rmt_pack.specs.declared.shape.Shape.{Shape}
use Rattle.rmt_pack.specs.Shape.{is_exact, cells_in, IsShape}
use Rattle.rmt_pack.specs.Cells.{place_of, record_of, HoldsRecord, PutsBits, PutsRecord, OtherRecordsStay, EntriesStay, quantum_in, index_in, thousands_in}
use Rattle.rmt_pack.proofs.BlockLaws.{apart-both, entry-put, entry-stays, row-behind, ends-stay, ends-zero, entry-zero}
use Rattle.rmt_pack.proofs.ShapeLaws.{exact-true, exact-false, exact-of, ternary-of, exact-cells, ternary-cells, way-below, entry-room, cell-same}
use Rattle.rmt_pack.proofs.CellLaws.{puts-at}
use Rattle.rmt_config.specs.CellForm.{RecordsEnd}

-- ---- the numbers of a part, by its kind

both : {X : Type 0} (s : Shape) (x y : X) → s.memory ≡ 1 → cond (is_exact s) x y ≡ x
both s x y e = ap (λ b. cond b x y) (exact-true s e)

other : {X : Type 0} (s : Shape) (x y : X) → s.memory ≢ 1 → cond (is_exact s) x y ≡ y
other s x y ne = ap (λ b. cond b x y) (exact-false s ne)

head-back : (s : Shape) → IsShape s → s.memory ≢ 1 → s.held - 8 + 8 ≡ s.held
head-back s is ne = let has = (ternary-of s is ne).head in omega (arith, has)

pub records-length : (s : Shape) → IsShape s → length s.records ≡ s.quanta * (record_units (thousands_in s) s.held * record_width s.held)
records-length s is =
    elim (cases_eq s.memory 1) as (λ _. length s.records ≡ s.quanta * (record_units (thousands_in s) s.held * record_width s.held)) [
      | inl e ↦ (exact-of s is e).records ∙ ap (λ n. s.quanta * (record_units n s.held * record_width s.held)) (sym (both s (4 * s.per) 2 e))
      | inr ne ↦
          (ternary-of s is ne).records
          ∙ ap (λ n. s.quanta * (record_units 2 n * record_width n)) (head-back s is ne)
          ∙ ap (λ n. s.quanta * (record_units n s.held * record_width s.held)) (sym (other s (4 * s.per) 2 ne))
    ]

pub record-at : (sram : Blocks) (s : Shape) (n : ℕ) → IsShape s → record_of sram s n ≡ record_at sram s.records (thousands_in s) s.held (quantum_in s n) (index_in s n)
record-at sram s n is =
    elim (cases_eq s.memory 1) as (λ _. record_of sram s n ≡ record_at sram s.records (thousands_in s) s.held (quantum_in s n) (index_in s n)) [
      | inl e ↦
          both s (data_at sram s.records s.per s.held (place_of s n)) (row_record sram s.records (s.held - 8) n) e
          ∙ ap (λ b. record_at sram s.records (cond b (4 * s.per) 2) s.held (cond b ((place_of s n).row / 1024) (n / 2048)) (cond b (local_index s.per (place_of s n)) (n % 2048))) (sym (exact-true s e))
      | inr ne ↦
          other s (data_at sram s.records s.per s.held (place_of s n)) (row_record sram s.records (s.held - 8) n) ne
          ∙ ap (λ m. record_at sram s.records 2 m (n / 2048) (n % 2048)) (head-back s is ne)
          ∙ ap (λ b. record_at sram s.records (cond b (4 * s.per) 2) s.held (cond b ((place_of s n).row / 1024) (n / 2048)) (cond b (local_index s.per (place_of s n)) (n % 2048))) (sym (exact-false s ne))
    ]

-- ---- the quantum of a cell or row, and its number there

pub exact-quantum : (s : Shape) (n : ℕ) → s.memory ≡ 1 → quantum_in s n ≡ (place_of s n).row / 1024
exact-quantum s n e = both s ((place_of s n).row / 1024) (n / 2048) e

pub ternary-quantum : (s : Shape) (n : ℕ) → s.memory ≢ 1 → quantum_in s n ≡ n / 2048
ternary-quantum s n ne = other s ((place_of s n).row / 1024) (n / 2048) ne

pub exact-index : (s : Shape) (n : ℕ) → s.memory ≡ 1 → index_in s n ≡ local_index s.per (place_of s n)
exact-index s n e = both s (local_index s.per (place_of s n)) (n % 2048) e

pub ternary-index : (s : Shape) (n : ℕ) → s.memory ≢ 1 → index_in s n ≡ n % 2048
ternary-index s n ne = other s (local_index s.per (place_of s n)) (n % 2048) ne

pub exact-thousands : (s : Shape) → s.memory ≡ 1 → thousands_in s ≡ 4 * s.per
exact-thousands s e = both s (4 * s.per) 2 e

pub ternary-thousands : (s : Shape) → s.memory ≢ 1 → thousands_in s ≡ 2
ternary-thousands s ne = other s (4 * s.per) 2 ne

-- a number in a quantum of an exact part
pub local-below : (way row position per : ℕ) → way < 4 → position < per → (way * 1024 + row % 1024) * per + position < 1024 * (4 * per)
local-below way row position per lw lp =
    let low : row % 1024 < 1024 = mod_below row 1024 (omega arith) in
    let lt = mul-add-lt (way * 1024 + row % 1024) per position 4096 (omega (arith, lw, low)) lp in
    let turned : per * 4096 ≡ 1024 * (4 * per) = omega arith in
    subst (λ n. (way * 1024 + row % 1024) * per + position < n) turned lt

-- cells or rows with one quantum and one number there are one
pub index-same : (s : Shape) (n m : ℕ) → IsShape s → n < cells_in s → m < cells_in s → quantum_in s n ≡ quantum_in s m → index_in s n ≡ index_in s m → n ≡ m
index-same s n m is ln lm eq ei =
    elim (cases_eq s.memory 1) as (λ _. n ≡ m) [
      | inl e ↦ exact e
      | inr ne ↦
          let high : n / 2048 ≡ m / 2048 = sym (ternary-quantum s n ne) ∙ eq ∙ ternary-quantum s m ne in
          let low : n % 2048 ≡ m % 2048 = sym (ternary-index s n ne) ∙ ei ∙ ternary-index s m ne in
          sym (div-add-mod' n 2048) ∙ ap (λ x. x * 2048 + n % 2048) high ∙ ap (λ x. m / 2048 * 2048 + x) low ∙ div-add-mod' m 2048
    ]
  where
    exact : s.memory ≡ 1 → n ≡ m
    exact e =
        let has = exact-of s is e in
        let below : (k : ℕ) → k < cells_in s → k < 4096 * s.quanta * s.per = λ k lk. subst (λ (z : ℕ). k < z) (exact-cells s e) lk in
        let c = place_of s n in
        let d = place_of s m in
        let high : c.row / 1024 ≡ d.row / 1024 = sym (exact-quantum s n e) ∙ eq ∙ exact-quantum s m e in
        let local : (c.way * 1024 + c.row % 1024) * s.per + c.position ≡ (d.way * 1024 + d.row % 1024) * s.per + d.position = sym (exact-index s n e) ∙ ei ∙ exact-index s m e in
        let one = same_from_place (c.way * 1024 + c.row % 1024) c.position (d.way * 1024 + d.row % 1024) d.position s.per
        (mod_below n s.per has.some_per) (mod_below m s.per has.some_per) local in
        let two = same_from_place c.way (c.row % 1024) d.way (d.row % 1024) 1024 (mod_below c.row 1024 (omega arith)) (mod_below d.row 1024 (omega arith)) one.0 in
        cell-same n m s.per s.quanta has.some_per is.some_quanta (below n ln) (below m lm)
        (ap (λ x. x * 4 + c.way) high ∙ ap (λ x. d.row / 1024 * 4 + x) two.0) two.1 one.1

-- ---- where a record stands

-- its unit is one of its quantum
pub unit-below : (i thousands q : ℕ) → 0 < q → i < 1024 * thousands → i / (1024 * q) < divided_up thousands q
unit-below i thousands q some lt =
    let enough : thousands ≤ divided_up thousands q * q = up-enough thousands q some in
    let spread : divided_up thousands q * (1024 * q) ≡ 1024 * (divided_up thousands q * q) = omega arith in
    div_below i (1024 * q) (divided_up thousands q) (omega (arith, some)) (omega (arith, lt, enough, spread))

pub record-there : (quantum unit units width quanta len : ℕ) → quantum < quanta → unit < units → len ≡ quanta * (units * width) → (quantum * units + unit) * width + width ≤ len
record-there quantum unit units width quanta len lq lu e =
    let one = mul-add-lt quantum units unit quanta lq lu in
    let le = mul-le (quantum * units + unit + 1) width (units * quanta) width (omega (arith, one)) (omega arith) in
    let next : (quantum * units + unit + 1) * width ≡ (quantum * units + unit) * width + width = omega arith in
    let turned : units * quanta * width ≡ quanta * (units * width) = omega arith in
    omega (arith, le, next, turned, e)

-- the number of a unit's first block fits its type
pub unit-small : (quantum unit units width quanta thousands : ℕ) → quantum < quanta → quanta ≤ 106 → unit < units → units ≤ thousands → thousands < 2 ^ 18 → width ≤ 590 → (quantum * units + unit) * width < 2 ^ 64
unit-small quantum unit units width quanta thousands lq most lu few small narrow =
    let one = mul-add-lt quantum units unit quanta lq lu in
    let two = mul-le units quanta 262144 106 (omega (arith, few, small)) most in
    let all = mul-le (quantum * units + unit) width (262144 * 106) 590 (omega (arith, one, two)) narrow in
    omega (arith, all)

pub record-room : (i n : ℕ) → 0 < n → n < 66000 → i % records_a_row n * n + n ≤ 112 * record_width n
record-room i n some most =
    let r = records-are n some most in
    entry-room (i % records_a_row n) (records_a_row n) n (112 * record_width n) (mod_below i (records_a_row n) r.some_row) r.fits

-- records of one unit, row and position have one quantum and one number there
pub spot-same : (q units quantum i quantum' i' : ℕ) → 0 < q → i / (1024 * q) < units → i' / (1024 * q) < units
    → quantum' * units + i' / (1024 * q) ≡ quantum * units + i / (1024 * q) → i' % (1024 * q) / q ≡ i % (1024 * q) / q → i' % q ≡ i % q
    → (quantum' ≡ quantum) × (i' ≡ i)
spot-same q units quantum i quantum' i' some li li' eu er ea =
    let two = same_from_place quantum' (i' / (1024 * q)) quantum (i / (1024 * q)) units li' li eu in
    let whole' : (i' / (1024 * q) * 1024 + i' % (1024 * q) / q) * q + i' % q ≡ i' = three-of i' 1024 q (omega arith) some in
    let whole : (i / (1024 * q) * 1024 + i % (1024 * q) / q) * q + i % q ≡ i = three-of i 1024 q (omega arith) some in (
      two.0,
      sym whole' ∙ ap (λ x. (x * 1024 + i' % (1024 * q) / q) * q + i' % q) two.1
          ∙ ap (λ x. (i / (1024 * q) * 1024 + x) * q + i' % q) er ∙ ap (λ x. (i / (1024 * q) * 1024 + i % (1024 * q) / q) * q + x) ea ∙ whole,
    )

-- ---- a record is written

pub record-put : (old new : Blocks) (s : Shape) (n x first row low : ℕ) (blocks : List ℕ)
    → first ≡ (quantum_in s n * record_units (thousands_in s) s.held + index_in s n / (1024 * records_a_row s.held)) * record_width s.held
    → row ≡ index_in s n % (1024 * records_a_row s.held) / records_a_row s.held → low ≡ index_in s n % records_a_row s.held * s.held
    → blocks ≡ take (record_width s.held) (drop first s.records) → PutsBits old new row blocks low s.held x → PutsRecord old new s n x
record-put old new s n x first row low blocks ef er el eb p =
    let q = records_a_row s.held in
    let i = index_in s n in
    puts-at old new row (i % (1024 * q) / q) blocks (blocks_at s.records (record_width s.held) (quantum_in s n * record_units (thousands_in s) s.held + i / (1024 * q)))
    low (i % q * s.held) s.held s.held x x p er (eb ∙ ap (λ f. take (record_width s.held) (drop f s.records)) ef) el refl refl

pub record-entry : (old new : Blocks) (s : Shape) (n x : ℕ) → IsShape s → x < 2 ^ s.held → PutsRecord old new s n x → record_of new s n ≡ x
record-entry old new s n x is small p =
    let q = records_a_row s.held in
    let i = index_in s n in
    record-at new s n is
    ∙ entry-put old new (i % (1024 * q) / q) (blocks_at s.records (record_width s.held) (quantum_in s n * record_units (thousands_in s) s.held + i / (1024 * q))) (i % q * s.held) s.held x small p

pub record-holds : (sram : Blocks) (s : Shape) (n : ℕ) (bytes : List ℕ) → AreBytes bytes → length bytes ≡ divided_up s.held 8
    → record_of sram s n ≡ number_of bytes → HoldsRecord sram s n bytes
record-holds sram s n bytes are long e =
    ap (bytes_of (divided_up s.held 8)) e ∙ ap (λ m. bytes_of m (number_of bytes)) (sym long) ∙ bytes_of-number_of bytes are

-- the quantum of a cell or row is one of the part, and its number there one of the quantum
pub quantum-below : (s : Shape) (n : ℕ) → IsShape s → n < cells_in s → (quantum_in s n < s.quanta) × (index_in s n < 1024 * thousands_in s)
quantum-below s n is lt =
    elim (cases_eq s.memory 1) as (λ _. (quantum_in s n < s.quanta) × (index_in s n < 1024 * thousands_in s)) [
      | inl e ↦ exact e
      | inr ne ↦
          let below : n < 2048 * s.quanta = subst (λ z. n < z) (ternary-cells s ne) lt in
          let high : n / 2048 < s.quanta = div_below n 2048 s.quanta (omega arith) (omega (arith, below)) in
          let low : n % 2048 < 1024 * 2 = mod_below n 2048 (omega arith) in (
            subst (λ z. z < s.quanta) (sym (ternary-quantum s n ne)) high,
            subst (λ z. z < 1024 * thousands_in s) (sym (ternary-index s n ne)) (subst (λ z. n % 2048 < 1024 * z) (sym (ternary-thousands s ne)) low),
          )
    ]
  where
    exact : s.memory ≡ 1 → (quantum_in s n < s.quanta) × (index_in s n < 1024 * thousands_in s)
    exact e =
        let has = exact-of s is e in
        let c = place_of s n in
        let below : n < 4096 * s.quanta * s.per = subst (λ z. n < z) (exact-cells s e) lt in
        let row : c.row < 1024 * s.quanta = mod_below (n / s.per) (1024 * s.quanta) (let some = is.some_quanta in omega (arith, some)) in
        let high : c.row / 1024 < s.quanta = div_below c.row 1024 s.quanta (omega arith) (omega (arith, row)) in
        let low = local-below c.way c.row c.position s.per (way-below n s.per s.quanta has.some_per is.some_quanta below) (mod_below n s.per has.some_per) in (
          subst (λ z. z < s.quanta) (sym (exact-quantum s n e)) high,
          subst (λ z. z < 1024 * thousands_in s) (sym (exact-index s n e)) (subst (λ z. local_index s.per c < 1024 * z) (sym (exact-thousands s e)) low),
        )

-- ---- what a record that is written leaves

none-slice : (x low n : ℕ) → n ≡ 0 → slice x low n ≡ 0
none-slice x low n none = ap (slice x low) none ∙ nothing (x / 2 ^ low)
  where
    nothing : (y : ℕ) → y % 2 ^ 0 ≡ 0
    nothing y = omega arith

pub record-others : (old new : Blocks) (s : Shape) (n x : ℕ) → IsShape s → s.held < 2 ^ 16 → n < cells_in s → x < 2 ^ s.held → PutsRecord old new s n x → OtherRecordsStay old new s n
record-others old new s n x is most ln small p m lm ne =
    record-at new s m is
    ∙ elim (cases_lt 0 s.held) as (λ _. record_at new s.records (thousands_in s) s.held (quantum_in s m) (index_in s m) ≡ record_at old s.records (thousands_in s) s.held (quantum_in s m) (index_in s m)) [
      | inl some ↦
          entry-stays old new s.records (record_width s.held) (unit n) (index_in s n % (1024 * q) / q) (index_in s n % q) s.held x (unit m) (index_in s m % (1024 * q) / q) (index_in s m % q)
          (AllPairs-right ◌≢◌ s.keys s.records is.apart) small p (apart some)
      | inr none ↦
          none-slice (row_of new) (index_in s m % q * s.held) s.held (omega (arith, none))
          ∙ sym (none-slice (row_of old) (index_in s m % q * s.held) s.held (omega (arith, none)))
    ]
    ∙ sym (record-at old s m is)
  where
    q : ℕ
    q = records_a_row s.held

    units : ℕ
    units = record_units (thousands_in s) s.held

    unit : ℕ → ℕ
    unit k = quantum_in s k * units + index_in s k / (1024 * q)

    row_of : Blocks → ℕ
    row_of held = unit_row 112 held (index_in s m % (1024 * q) / q) (blocks_at s.records (record_width s.held) (unit m))

    apart : 0 < s.held → unit m ≡ unit n → index_in s m % (1024 * q) / q ≡ index_in s n % (1024 * q) / q → index_in s m % q ≡ index_in s n % q → ⊥
    apart some eu er ea =
        let r = records-are s.held some (omega (arith, most)) in
        let same = spot-same q units (quantum_in s n) (index_in s n) (quantum_in s m) (index_in s m) r.some_row
        (unit-below (index_in s n) (thousands_in s) q r.some_row (quantum-below s n is ln).1)
        (unit-below (index_in s m) (thousands_in s) q r.some_row (quantum-below s m is lm).1) eu er ea in
        ne (index-same s m n is lm ln same.0 same.1)

pub record-entries : (old new : Blocks) (s : Shape) (n x : ℕ) → IsShape s → PutsRecord old new s n x → EntriesStay old new s
record-entries old new s n x is p m lm =
    let q = records_a_row s.held in
    let i = index_in s n in
    let d = place_of s m in
    ap (λ v. slice v (d.position * (s.key + 8)) (s.key + 8))
    (row-behind old new s.records s.keys ((quantum_in s n * record_units (thousands_in s) s.held + i / (1024 * q)) * record_width s.held) (record_width s.held)
    (i % (1024 * q) / q) (i % q * s.held) s.held x ((d.row / 1024 * 4 + d.way) * s.width) s.width (d.row % 1024)
    (λ j k lj lk e. apart-both s.keys s.records k j is.apart lk lj (sym e)) p)

-- no bit stands behind the records of a row, nor behind those of a quantum, where a record is written
pub record-ends : (old new : Blocks) (s : Shape) (n x : ℕ) → IsShape s → 0 < s.held → s.held < 2 ^ 16 → n < cells_in s → x < 2 ^ s.held → PutsRecord old new s n x
    → RecordsEnd old s.records s.quanta (thousands_in s) s.held → RecordsEnd new s.records s.quanta (thousands_in s) s.held
record-ends old new s n x is some most ln small p ends =
    let q = records_a_row s.held in
    let i = index_in s n in
    let units = record_units (thousands_in s) s.held in
    let r = records-are s.held some (omega (arith, most)) in
    let room = entry-room (i % q) q s.held (q * s.held) (mod_below i q r.some_row) (omega arith) in
    let here = (quantum-below s n is ln).1 in
    record {
      rows = ends-stay old new s.records (record_width s.held) (quantum_in s n * units + i / (1024 * q)) (i % (1024 * q) / q) (i % q * s.held) s.held x (q * s.held)
          (AllPairs-right ◌≢◌ s.keys s.records is.apart) room small p ends.rows;
      quantum = λ u j lu from below.
          entry-stays old new s.records (record_width s.held) (quantum_in s n * units + i / (1024 * q)) (i % (1024 * q) / q) (i % q) s.held x (u * units + j / (1024 * q)) (j % (1024 * q) / q) (j % q)
          (AllPairs-right ◌≢◌ s.keys s.records is.apart) small p
          (λ eu er ea.
          let inside = div_below j (1024 * q) units (let some_row = r.some_row in omega (arith, some_row)) below in
          let same = spot-same q units (quantum_in s n) i u j r.some_row (unit-below i (thousands_in s) q r.some_row here) inside eu er ea in
          let one = same.1 in
          omega (arith, one, from, here))
          ∙ ends.quantum u j lu from below;
    }

-- rows that are all 0
pub record-zero : (sram : Blocks) (s : Shape) (n : ℕ) → IsShape s → ((b r : ℕ) → sram b r ≡ 0) → record_of sram s n ≡ 0
record-zero sram s n is none =
    let q = records_a_row s.held in
    let i = index_in s n in
    record-at sram s n is
    ∙ entry-zero 112 sram (i % (1024 * q) / q) (blocks_at s.records (record_width s.held) (quantum_in s n * record_units (thousands_in s) s.held + i / (1024 * q))) (i % q * s.held) s.held none

pub records_end-zero : (sram : Blocks) (records : List ℕ) (quanta thousands n : ℕ) → ((b r : ℕ) → sram b r ≡ 0) → RecordsEnd sram records quanta thousands n
records_end-zero sram records quanta thousands n none =
    let q = records_a_row n in
    record {
      rows = ends-zero 112 sram records (record_width n) (q * n) none;
      quantum = λ u i lu from below.
          entry-zero 112 sram (i % (1024 * q) / q) (blocks_at records (record_width n) (u * record_units thousands n + i / (1024 * q))) (i % q * n) n none;
    }

-- ---- a record is read

pub record-read : (sram : Blocks) (s : Shape) (n first row low : ℕ) (blocks bytes : List ℕ) → IsShape s
    → first ≡ (quantum_in s n * record_units (thousands_in s) s.held + index_in s n / (1024 * records_a_row s.held)) * record_width s.held
    → row ≡ index_in s n % (1024 * records_a_row s.held) / records_a_row s.held → low ≡ index_in s n % records_a_row s.held * s.held
    → blocks ≡ take (record_width s.held) (drop first s.records)
    → bytes ≡ bytes_of (divided_up s.held 8) (slice (unit_row 112 sram row blocks) low s.held) → HoldsRecord sram s n bytes
record-read sram s n first row low blocks bytes is ef er el eb e =
    let q = records_a_row s.held in
    let i = index_in s n in
    let at = blocks_at s.records (record_width s.held) (quantum_in s n * record_units (thousands_in s) s.held + i / (1024 * q)) in
    let part : blocks ≡ at = eb ∙ ap (λ f. take (record_width s.held) (drop f s.records)) ef in
    let same : slice (unit_row 112 sram row blocks) low s.held ≡ record_of sram s n =
    ap (λ (bs : List ℕ). slice (unit_row 112 sram row bs) low s.held) part
    ∙ ap (λ r. slice (unit_row 112 sram r at) low s.held) er
    ∙ ap (λ l. slice (unit_row 112 sram (i % (1024 * q) / q) at) l s.held) el
    ∙ sym (record-at sram s n is) in
    sym (e ∙ ap (bytes_of (divided_up s.held 8)) same)
