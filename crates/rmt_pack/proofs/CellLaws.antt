-- Cells that are written and read.
use Rattle.std.proofs.Common.{◌≡◌, ◌≢◌, ℕ, ◌+◌, ◌-◌, ◌*◌, ◌/◌, ◌%◌, ◌^◌, ◌<◌, List, length, get_or, take, drop, Bool, true, false, cond, eqb, sym, refl, ap, ◌∙◌, subst, arith}
use Rattle.std.proofs.lemmas.Nat.{pow-add, mul-add-lt, shr_high, mod_low, mod_below}
use Rattle.std.proofs.Math.Nat.{mod-eq_of_lt}
use Rattle.rmt_bits.specs.Bits.{slice, number_of, bytes_of}
use Rattle.rmt_bits.proofs.BitLaws.{slice-lt, slice-add}
use Rattle.rmt_bits.proofs.ByteLaws.{AreBytes, bytes_of-number_of}
use Rattle.rmt_bits.proofs.PairLaws.{AllPairs-left}
use Rattle.rmt_config.specs.BlockCounts.{divided_up, record_width, records_a_row, record_units}
use Rattle.rmt_config.specs.Cells.{Blocks, unit_row, blocks_at, local_index, record_at, data_at, row_record, is_occupied, visible_bits, code_of}
use Rattle.rmt_config.proofs.HeadBits.{slice-head}
use Rattle.rmt_pack.specs.declared.head.Head.{Head}
use Rattle.rmt_pack.specs.declared.shape.Shape.{Shape}
use Rattle.rmt_pack.specs.Head.{number_of_head, head_of}
use Rattle.rmt_pack.specs.Shape.{is_exact, cells_in, IsShape}
use Rattle.rmt_pack.specs.Cells.{place_of, entry_of, record_of, HoldsCell, PutsBits, PutsEntry, OtherEntriesStay, RecordsStay}
use Rattle.rmt_pack.proofs.BlockLaws.{apart-both, entry-put, entry-stays, row-behind, puts-both, ends-stay, entry-zero}
use Rattle.rmt_pack.proofs.ShapeLaws.{exact-of, exact-cells, cell-same, entry-room}
use Rattle.rmt_config.specs.CellForm.{EndsAt}

-- ---- heads

bit : Bool → ℕ
bit b = cond b 1 0

bit-below : (b : Bool) → cond b 1 0 < 2
bit-below true = omega arith
bit-below false = omega arith

pub head-below : (h : Head) → h.visible < 4 → h.code < 32 → number_of_head h < 256
head-below h lv lc = omega (arith, bit-below h.occupied, lv, lc)

-- the numbers in 8 bits
low-part : (o v k : ℕ) → o < 2 → (o + 2 * v + 8 * k) % 2 ≡ o
low-part o v k lo = omega (arith, lo)

middle-part : (o v k : ℕ) → o < 2 → v < 4 → (o + 2 * v + 8 * k) / 2 % 4 ≡ v
middle-part o v k lo lv = omega (arith, lo, lv)

high-part : (o v k : ℕ) → o < 2 → v < 4 → k < 32 → (o + 2 * v + 8 * k) / 8 % 32 ≡ k
high-part o v k lo lv lk = omega (arith, lo, lv, lk)

occupied-same : (b : Bool) (v k : ℕ) → eqb ((cond b 1 0 + 2 * v + 8 * k) % 2) 1 ≡ b
occupied-same true v k = ap (λ n. eqb n 1) (low-part 1 v k (omega arith))
occupied-same false v k = ap (λ n. eqb n 1) (low-part 0 v k (omega arith))

-- a head reads back
pub head_of-number : (h : Head) → h.visible < 4 → h.code < 32 → head_of (number_of_head h) ≡ h
head_of-number h lv lc =
    let n = number_of_head h in
    let one : is_occupied n ≡ h.occupied = occupied-same h.occupied h.visible h.code in
    let two : visible_bits n ≡ h.visible = middle-part (cond h.occupied 1 0) h.visible h.code (bit-below h.occupied) lv in
    let three : code_of n ≡ h.code = high-part (cond h.occupied 1 0) h.visible h.code (bit-below h.occupied) lv lc in
    ap (λ (b : Bool). let r : Head = record { occupied = b; visible = visible_bits n; code = code_of n } in r) one
    ∙ ap (λ (v : ℕ). let r : Head = record { occupied = h.occupied; visible = v; code = code_of n } in r) two
    ∙ ap (λ (k : ℕ). let r : Head = record { occupied = h.occupied; visible = h.visible; code = k } in r) three

-- ---- a cell is written

pub puts-at : (old new : Blocks) (row row' : ℕ) (blocks blocks' : List ℕ) (low low' len len' x x' : ℕ) → PutsBits old new row blocks low len x
    → row ≡ row' → blocks ≡ blocks' → low ≡ low' → len ≡ len' → x ≡ x' → PutsBits old new row' blocks' low' len' x'
puts-at old new row row' blocks blocks' low low' len len' x x' p e1 e2 e3 e4 e5 =
    subst (λ n. PutsBits old new row' blocks' low' len' n) e5
    (subst (λ n. PutsBits old new row' blocks' low' n x) e4
    (subst (λ n. PutsBits old new row' blocks' n len x) e3
    (subst (λ (bs : List ℕ). PutsBits old new row' bs low len x) e2
    (subst (λ n. PutsBits old new n blocks low len x) e1 p))))

pub cell-put : (old mid new : Blocks) (s : Shape) (n : ℕ) (h : Head) (key : List ℕ) (first row low byte : ℕ) (blocks : List ℕ)
    → first ≡ ((place_of s n).row / 1024 * 4 + (place_of s n).way) * s.width → row ≡ (place_of s n).row % 1024
    → low ≡ (place_of s n).position * (s.key + 8) → blocks ≡ take s.width (drop first s.keys)
    → byte ≡ number_of_head h → h.visible < 4 → h.code < 32 → number_of key < 2 ^ s.key
    → PutsBits old mid row blocks (low + 8) s.key (number_of key) → PutsBits mid new row blocks low 8 (256 * 0 + byte)
    → PutsEntry old new s n (number_of_head h + 256 * number_of key)
cell-put old mid new s n h key first row low byte blocks ef er el eb eh lv lc small p q =
    let in_byte : 256 * 0 + byte < 2 ^ 8 = omega (arith, eh, head-below h lv lc) in
    let part : blocks ≡ blocks_at s.keys s.width ((place_of s n).row / 1024 * 4 + (place_of s n).way) =
    eb ∙ ap (λ f. take s.width (drop f s.keys)) ef in
    let whole : number_of key * 2 ^ 8 + (256 * 0 + byte) ≡ number_of_head h + 256 * number_of key = omega (arith, eh) in
    puts-at old new row ((place_of s n).row % 1024) blocks (blocks_at s.keys s.width ((place_of s n).row / 1024 * 4 + (place_of s n).way))
    low ((place_of s n).position * (s.key + 8)) (s.key + 8) (s.key + 8) (number_of key * 2 ^ 8 + (256 * 0 + byte)) (number_of_head h + 256 * number_of key)
    (puts-both old mid new row blocks low s.key 8 (number_of key) (256 * 0 + byte) small in_byte p q) er part el refl whole

pub entry-below : (s : Shape) (h : Head) (key : List ℕ) → h.visible < 4 → h.code < 32 → number_of key < 2 ^ s.key
    → number_of_head h + 256 * number_of key < 2 ^ (s.key + 8)
entry-below s h key lv lc small =
    let lt : number_of key * 2 ^ 8 + number_of_head h < 2 ^ 8 * 2 ^ s.key = mul-add-lt (number_of key) (2 ^ 8) (number_of_head h) (2 ^ s.key) small (head-below h lv lc) in
    let e : 2 ^ (s.key + 8) ≡ 2 ^ s.key * 2 ^ 8 = pow-add 2 s.key 8 in
    let turned : 2 ^ 8 * 2 ^ s.key ≡ 2 ^ s.key * 2 ^ 8 = omega arith in
    let sum : number_of key * 2 ^ 8 + number_of_head h ≡ number_of_head h + 256 * number_of key = omega arith in
    subst (λ m. number_of_head h + 256 * number_of key < m) (sym (e ∙ sym turned)) (subst (λ m. m < 2 ^ 8 * 2 ^ s.key) sum lt)

pub cell-entry : (old new : Blocks) (s : Shape) (n x : ℕ) → x < 2 ^ (s.key + 8) → PutsEntry old new s n x → entry_of new s n ≡ x
cell-entry old new s n x small p =
    let c = place_of s n in
    entry-put old new (c.row % 1024) (blocks_at s.keys s.width (c.row / 1024 * 4 + c.way)) (c.position * (s.key + 8)) (s.key + 8) x small p

-- a cell with this head and key reads back as them
pub cell-holds : (sram : Blocks) (s : Shape) (n : ℕ) (h : Head) (key : List ℕ) → h.visible < 4 → h.code < 32 → AreBytes key → length key ≡ divided_up s.key 8
    → entry_of sram s n ≡ number_of_head h + 256 * number_of key → HoldsCell sram s n h key
cell-holds sram s n h key lv lc are long e =
    let sum : number_of_head h + 256 * number_of key ≡ number_of key * 2 ^ 8 + number_of_head h = omega arith in
    let low : entry_of sram s n % 256 ≡ number_of_head h = ap (λ m. m % 256) (e ∙ sum) ∙ mod_low (number_of key) 8 (number_of_head h) (head-below h lv lc) in
    let high : entry_of sram s n / 256 ≡ number_of key = ap (λ m. m / 256) (e ∙ sum) ∙ shr_high (number_of key) 8 (number_of_head h) (head-below h lv lc) in
    record {
      head = ap head_of low ∙ head_of-number h lv lc;
      key = ap (bytes_of (divided_up s.key 8)) high ∙ ap (λ m. bytes_of m (number_of key)) (sym long) ∙ bytes_of-number_of key are;
    }

-- ---- what a cell that is written leaves

pub cell-others : (old new : Blocks) (s : Shape) (n x : ℕ) → IsShape s → s.memory ≡ 1 → n < cells_in s → x < 2 ^ (s.key + 8) → PutsEntry old new s n x → OtherEntriesStay old new s n
cell-others old new s n x is exact ln small p m lm ne =
    let has = exact-of s is exact in
    let c = place_of s n in
    let d = place_of s m in
    let below : (k : ℕ) → k < cells_in s → k < 4096 * s.quanta * s.per = λ k lk. subst (λ (z : ℕ). k < z) (exact-cells s exact) lk in
    entry-stays old new s.keys s.width (c.row / 1024 * 4 + c.way) (c.row % 1024) c.position (s.key + 8) x (d.row / 1024 * 4 + d.way) (d.row % 1024) d.position
    (AllPairs-left ◌≢◌ s.keys s.records is.apart) small p
    (λ eu er ea. ne (cell-same m n s.per s.quanta has.some_per is.some_quanta (below m lm) (below n ln) eu er ea))

-- records stay where the rows of their blocks do
pub records-stay : (old new : Blocks) (s : Shape) → ((row each unit : ℕ) → unit_row 112 new row (blocks_at s.records each unit) ≡ unit_row 112 old row (blocks_at s.records each unit))
    → (m : ℕ) → record_of new s m ≡ record_of old s m
records-stay old new s same m =
    both (is_exact s) (data_at new s.records s.per s.held (place_of s m)) (data_at old s.records s.per s.held (place_of s m))
    (row_record new s.records (s.held - 8) m) (row_record old s.records (s.held - 8) m)
    (of_record (4 * s.per) s.held ((place_of s m).row / 1024) (local_index s.per (place_of s m))) (of_record 2 (s.held - 8 + 8) (m / 2048) (m % 2048))
  where
    of_record : (thousands n quantum i : ℕ) → record_at new s.records thousands n quantum i ≡ record_at old s.records thousands n quantum i
    of_record thousands n quantum i =
        let q = records_a_row n in
        ap (λ v. slice v (i % q * n) n) (same (i % (1024 * q) / q) (record_width n) (quantum * record_units thousands n + i / (1024 * q)))

    both : (b : Bool) (x x' y y' : ℕ) → x ≡ x' → y ≡ y' → cond b x y ≡ cond b x' y'
    both true x x' y y' e f = e
    both false x x' y y' e f = f

pub cell-records : (old new : Blocks) (s : Shape) (n x : ℕ) → IsShape s → PutsEntry old new s n x → RecordsStay old new s
cell-records old new s n x is p m lm =
    let c = place_of s n in
    records-stay old new s (λ row each unit.
    row-behind old new s.keys s.records ((c.row / 1024 * 4 + c.way) * s.width) s.width (c.row % 1024) (c.position * (s.key + 8)) (s.key + 8) x (unit * each) each row
    (λ i j li lj. apart-both s.keys s.records i j is.apart li lj) p) m

-- ---- a cell is read

pub cell-read : (sram : Blocks) (s : Shape) (n first row low : ℕ) (blocks key head : List ℕ) (h : Head)
    → first ≡ ((place_of s n).row / 1024 * 4 + (place_of s n).way) * s.width → row ≡ (place_of s n).row % 1024
    → low ≡ (place_of s n).position * (s.key + 8) → blocks ≡ take s.width (drop first s.keys)
    → key ≡ bytes_of (divided_up s.key 8) (slice (unit_row 112 sram row blocks) (low + 8) s.key)
    → head ≡ bytes_of 1 (slice (unit_row 112 sram row blocks) low 8) → h ≡ head_of (get_or head 0 0) → HoldsCell sram s n h key
cell-read sram s n first row low blocks key head h ef er el eb ek eh e =
    let part : blocks ≡ blocks_at s.keys s.width ((place_of s n).row / 1024 * 4 + (place_of s n).way) =
    eb ∙ ap (λ f. take s.width (drop f s.keys)) ef in
    let v = unit_row 112 sram row blocks in
    let same : v ≡ unit_row 112 sram ((place_of s n).row % 1024) (blocks_at s.keys s.width ((place_of s n).row / 1024 * 4 + (place_of s n).way)) =
    ap (λ (bs : List ℕ). unit_row 112 sram row bs) part ∙ ap (λ r. unit_row 112 sram r (blocks_at s.keys s.width ((place_of s n).row / 1024 * 4 + (place_of s n).way))) er in
    let entry : slice v low (s.key + 8) ≡ entry_of sram s n = ap (λ m. slice m low (s.key + 8)) same ∙ ap (λ m. slice (unit_row 112 sram ((place_of s n).row % 1024) (blocks_at s.keys s.width ((place_of s n).row / 1024 * 4 + (place_of s n).way))) m (s.key + 8)) el in
    let low_bits : slice v low (s.key + 8) % 256 ≡ slice v low 8 = slice-head v low (s.key + 8) (omega arith) in
    let high_bits : slice v low (s.key + 8) / 256 ≡ slice v (low + 8) s.key =
    ap (λ m. m / 256) (slice-add v low s.key 8) ∙ shr_high (slice v (low + 8) s.key) 8 (slice v low 8) (slice-lt v low 8) in
    let byte : get_or head 0 0 ≡ slice v low 8 = ap (λ (xs : List ℕ). get_or xs 0 0) eh ∙ mod-eq_of_lt (slice-lt v low 8) in
    record {
      head = ap (λ m. head_of (m % 256)) (sym entry) ∙ ap head_of (low_bits ∙ sym byte) ∙ sym e;
      key = ap (λ m. bytes_of (divided_up s.key 8) (m / 256)) (sym entry) ∙ ap (bytes_of (divided_up s.key 8)) high_bits ∙ sym ek;
    }

-- ---- the bits behind the entries

-- units with no bit from the end of their entries on keep that where an entry is written
pub cell-ends : (old new : Blocks) (s : Shape) (n x : ℕ) → IsShape s → s.memory ≡ 1 → x < 2 ^ (s.key + 8) → PutsEntry old new s n x
    → EndsAt 112 old s.keys s.width (s.per * (s.key + 8)) → EndsAt 112 new s.keys s.width (s.per * (s.key + 8))
cell-ends old new s n x is exact small p ends =
    let c = place_of s n in
    let has = exact-of s is exact in
    ends-stay old new s.keys s.width (c.row / 1024 * 4 + c.way) (c.row % 1024) (c.position * (s.key + 8)) (s.key + 8) x (s.per * (s.key + 8))
    (AllPairs-left ◌≢◌ s.keys s.records is.apart) (entry-room c.position s.per (s.key + 8) (s.per * (s.key + 8)) (mod_below n s.per has.some_per) (omega arith)) small p ends

-- ---- rows that are all 0, and rows that are the same

pub cell-zero : (sram : Blocks) (s : Shape) (n : ℕ) → ((b r : ℕ) → sram b r ≡ 0) → entry_of sram s n ≡ 0
cell-zero sram s n none =
    let c = place_of s n in
    entry-zero 112 sram (c.row % 1024) (blocks_at s.keys s.width (c.row / 1024 * 4 + c.way)) (c.position * (s.key + 8)) (s.key + 8) none
