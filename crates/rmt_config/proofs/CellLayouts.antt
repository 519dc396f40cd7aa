-- The layouts of exact and ternary parts, and their cells.
use Rattle.std.proofs.Common.{◌≡◌, ℕ, ◌+◌, ◌-◌, ◌*◌, ◌/◌, ◌%◌, ◌^◌, ◌<◌, ◌≤◌, List, sym, ap, ◌∙◌, subst, arith}
use Rattle.std.proofs.lemmas.Nat.{div-add-mod', mul-le, div-mul-add, mod-mul-add, mod_below, div_below, le-div}
use Rattle.rmt_bits.specs.Bits.{slice}
use Rattle.rmt_config.specs.BlockCounts.{divided_up, record_width, records_a_row, record_units}
use Rattle.rmt_config.specs.Cells.{Blocks, unit_row, blocks_at, Cell, cell_of, local_index, entry_at, data_at, row_record, row_key}
use Rattle.rmt_config.specs.Layouts.{quantum_of, local_of, entry_in, IsLayout, exact_keys, exact_records, ternary_keys, ternary_records, records_of}
use Rattle.rmt_config.proofs.CellPlaces.{mod-rows, div-rows, mod-div_rows, mod-mod_rows, three-high, three-middle}
use Rattle.rmt_bits.proofs.BitLaws.{slice-whole}

-- ---- quotients rounded up

pub up-enough : (a b : ℕ) → 0 < b → a ≤ divided_up a b * b
up-enough a b some =
    let split : divided_up a b * b + (a + b - 1) % b ≡ a + b - 1 = div-add-mod' (a + b - 1) b in
    let low : (a + b - 1) % b < b = mod_below (a + b - 1) b some in
    omega (arith, split, low)

pub up-least : (a b : ℕ) → 0 < b → divided_up a b * b < a + b
up-least a b some =
    let split : divided_up a b * b + (a + b - 1) % b ≡ a + b - 1 = div-add-mod' (a + b - 1) b in
    omega (arith, split)

pub up-some : (a b : ℕ) → 0 < b → 0 < a → 0 < divided_up a b
up-some a b some more = le-div 1 (a + b - 1) b some (omega (arith, some, more))

pub up-most : (a b : ℕ) → 0 < b → divided_up a b ≤ a
up-most a b some =
    let wide : a * 1 ≤ a * b = mul-le a 1 a b (omega arith) some in
    let next : (a + 1) * b ≡ a * b + b = omega arith in
    let lt = div_below (a + b - 1) b (a + 1) some (omega (arith, wide, next, some)) in
    omega (arith, lt)

-- words of 40 bits
pub width-is : (bits bits' : ℕ) → bits' ≡ bits → (bits' + 39) / 40 ≡ divided_up bits 40
width-is bits bits' e = ap (λ b. (b + 39) / 40) e ∙ ap (λ n. n / 40) (let s : bits + 39 ≡ bits + 40 - 1 = omega arith in s)

-- ---- the layouts are ones that a memory may have

pub exact_keys-is : (k p d bits : ℕ) → 0 < k → k < 256 → 0 < p → p < 65536 → 0 < d → d ≤ 106 → bits ≤ 640 → p * (bits + 8) ≤ 112 * k
    → IsLayout (exact_keys k p d bits)
exact_keys-is k p d bits lk hk lp hp ld hd hb fit = record {
  some_bits = omega arith;
  some_rows = omega arith;
  some_side = lk;
  some_entry = omega arith;
  some_per = lp;
  some_units = omega arith;
  some_way = omega arith;
  some_quanta = ld;
  fits = fit;
  enough = omega arith;
  most_bits = omega arith;
  most_rows = omega arith;
  most_side = omega arith;
  most_entry = omega (arith, hb);
  most_per = omega (arith, hp);
  most_units = omega arith;
  most_way = omega (arith, hp);
  most_ways = omega arith;
  most_quanta = hd;
}

-- what is known of records of n bits
pub record Records (n : ℕ) : Type 0 where
  pub some_width : 0 < record_width n
  pub most_width : record_width n ≤ 1024
  pub some_row : 0 < records_a_row n
  pub most_row : records_a_row n < 2 ^ 16
  pub fits : records_a_row n * n ≤ 112 * record_width n

pub records-are : (n : ℕ) → 0 < n → n < 66000 → Records n
records-are n some most =
    let enough : n ≤ record_width n * 112 = up-enough n 112 (omega arith) in
    let least : record_width n * 112 < n + 112 = up-least n 112 (omega arith) in
    let fit : records_a_row n * n + 112 * record_width n % n ≡ 112 * record_width n = div-add-mod' (112 * record_width n) n in
    let wide : 113 * 1 ≤ 113 * n = mul-le 113 1 113 n (omega arith) some in
    let row : records_a_row n < 113 = div_below (112 * record_width n) n 113 some (omega (arith, least, some)) in
    record {
      some_width = up-some n 112 (omega arith) some;
      most_width = omega (arith, least, most);
      some_row = le-div 1 (112 * record_width n) n some (omega (arith, enough));
      most_row = omega (arith, row);
      fits = omega (arith, fit);
    }

-- records of n bits of t times 1,024 cells a quantum, in as many ways as these cells make
records-is : (t way ways d n : ℕ) → ways * way ≡ 1024 * t → 0 < t → t < 2 ^ 18 → 0 < way → way < 2 ^ 26 → ways ≤ 4 → 0 < d → d ≤ 106 → 0 < n → n < 65544
    → IsLayout (records_of t way ways d n)
records-is t way ways d n cells lt ht lw hw hs ld hd ln hn =
    let r = records-are n ln (omega (arith, hn)) in
    let q = records_a_row n in
    let units_some : 0 < record_units t n = up-some t q r.some_row lt in
    let units_most : record_units t n ≤ t = up-most t q r.some_row in
    let units_enough : t ≤ record_units t n * q = up-enough t q r.some_row in
    let spread : record_units t n * (1024 * q) ≡ 1024 * (record_units t n * q) = omega arith in
    record {
      some_bits = omega arith;
      some_rows = omega arith;
      some_side = r.some_width;
      some_entry = ln;
      some_per = r.some_row;
      some_units = units_some;
      some_way = lw;
      some_quanta = ld;
      fits = r.fits;
      enough = omega (arith, cells, units_enough, spread);
      most_bits = omega arith;
      most_rows = omega arith;
      most_side = r.most_width;
      most_entry = omega (arith, hn);
      most_per = r.most_row;
      most_units = omega (arith, units_most, ht);
      most_way = hw;
      most_ways = hs;
      most_quanta = hd;
    }

pub exact_records-is : (p d n : ℕ) → 0 < p → p < 65536 → 0 < d → d ≤ 106 → 0 < n → n < 65536 → IsLayout (exact_records p d n)
exact_records-is p d n lp hp ld hd ln hn =
    records-is (4 * p) (1024 * p) 4 d n (omega arith) (omega (arith, lp)) (omega (arith, hp)) (omega (arith, lp)) (omega (arith, hp)) (omega arith) ld hd ln (omega (arith, hn))

pub ternary_keys-is : (d bits : ℕ) → 0 < d → d ≤ 106 → 0 < bits → bits ≤ 640 → IsLayout (ternary_keys d bits)
ternary_keys-is d bits ld hd lb hb =
    let some = up-some bits 40 (omega arith) lb in
    let most = up-most bits 40 (omega arith) in
    let enough = up-enough bits 40 (omega arith) in
    record {
      some_bits = omega arith;
      some_rows = omega arith;
      some_side = some;
      some_entry = lb;
      some_per = omega arith;
      some_units = omega arith;
      some_way = omega arith;
      some_quanta = ld;
      fits = omega (arith, enough);
      enough = omega arith;
      most_bits = omega arith;
      most_rows = omega arith;
      most_side = omega (arith, most, hb);
      most_entry = omega (arith, hb);
      most_per = omega arith;
      most_units = omega arith;
      most_way = omega arith;
      most_ways = omega arith;
      most_quanta = hd;
    }

pub ternary_records-is : (d n : ℕ) → 0 < d → d ≤ 106 → 0 < n → n < 65544 → IsLayout (ternary_records d n)
ternary_records-is d n ld hd ln hn = records-is 2 2048 1 d n (omega arith) (omega arith) (omega arith) (omega arith) (omega arith) (omega arith) ld hd ln hn

-- ---- the cells of an exact part

quantum-same : (p d n : ℕ) → 0 < p → 0 < d → (cell_of (1024 * d) p n).row / 1024 ≡ n / (1024 * p) % d
quantum-same p d n lp ld =
    let e : 1024 * d ≡ d * 1024 = omega arith in
    ap (λ m. n / p % m / 1024) e ∙ mod-div_rows (n / p) d 1024 ld (omega arith) ∙ ap (λ m. m % d) (sym (div-rows n 1024 p (omega arith) lp))

row-same : (p d n : ℕ) → 0 < p → 0 < d → (cell_of (1024 * d) p n).row % 1024 ≡ n / p % 1024
row-same p d n lp ld =
    let e : 1024 * d ≡ d * 1024 = omega arith in
    ap (λ m. n / p % m % 1024) e ∙ mod-mod_rows (n / p) d 1024 ld (omega arith)

way-same : (p d n : ℕ) → 0 < p → 0 < d → (cell_of (1024 * d) p n).way ≡ n / (1024 * p) / d
way-same p d n lp ld =
    let e : 1024 * d ≡ d * 1024 = omega arith in
    ap (λ m. n / p / m) e ∙ div-rows (n / p) d 1024 ld (omega arith) ∙ ap (λ m. m / d) (sym (div-rows n 1024 p (omega arith) lp))

local-same : (p d n : ℕ) → 0 < p → 0 < d → local_index p (cell_of (1024 * d) p n) ≡ n / (1024 * p) / d * (1024 * p) + n % (1024 * p)
local-same p d n lp ld =
    rw (way-same p d n lp ld, row-same p d n lp ld, mod-rows n 1024 p (omega arith) lp)
    (spread (n / (1024 * p) / d) (n / p % 1024) (n % p))
  where
    spread : (q r s : ℕ) → (q * 1024 + r) * p + s ≡ q * (1024 * p) + (r * p + s)
    spread q r s = omega arith

-- the entry of a cell by its number in its quantum
entry-local : (sram : Blocks) (ks : List ℕ) (k p d bits : ℕ) (c : Cell) → c.position < p
    → entry_at sram ks k bits c ≡ entry_in (exact_keys k p d bits) sram ks (c.row / 1024) (local_index p c)
entry-local sram ks k p d bits c lt =
    let i = local_index p c in
    let low : c.row % 1024 < 1024 = mod_below c.row 1024 (omega arith) in
    let e1 : c.way ≡ i / (1024 * p) = sym (three-high c.way (c.row % 1024) c.position 1024 p low lt) in
    let e2 : c.row % 1024 ≡ i % (1024 * p) / p = sym (three-middle c.way (c.row % 1024) c.position 1024 p low lt) in
    let e3 : c.position ≡ i % p = sym (mod-mul-add (c.way * 1024 + c.row % 1024) p c.position lt) in
    ap (λ w. slice (unit_row 112 sram (c.row % 1024) (blocks_at ks k (c.row / 1024 * 4 + w))) (c.position * (bits + 8)) (bits + 8)) e1
    ∙ ap (λ r. slice (unit_row 112 sram r (blocks_at ks k (c.row / 1024 * 4 + i / (1024 * p)))) (c.position * (bits + 8)) (bits + 8)) e2
    ∙ ap (λ s. slice (unit_row 112 sram (i % (1024 * p) / p) (blocks_at ks k (c.row / 1024 * 4 + i / (1024 * p)))) (s * (bits + 8)) (bits + 8)) e3

pub exact-entry : (sram : Blocks) (ks : List ℕ) (k p d bits n : ℕ) → 0 < p → 0 < d
    → (let l = exact_keys k p d bits in entry_at sram ks k bits (cell_of (1024 * d) p n) ≡ entry_in l sram ks (quantum_of l n) (local_of l n))
exact-entry sram ks k p d bits n lp ld =
    let l = exact_keys k p d bits in
    let c = cell_of (1024 * d) p n in
    entry-local sram ks k p d bits c (mod_below n p lp)
    ∙ ap (λ u. entry_in l sram ks u (local_index p c)) (quantum-same p d n lp ld)
    ∙ ap (entry_in l sram ks (quantum_of l n)) (local-same p d n lp ld)

pub exact-data : (sram : Blocks) (rs : List ℕ) (p d held n : ℕ) → 0 < p → 0 < d
    → (let l = exact_records p d held in data_at sram rs p held (cell_of (1024 * d) p n) ≡ entry_in l sram rs (quantum_of l n) (local_of l n))
exact-data sram rs p d held n lp ld =
    let l = exact_records p d held in
    let c = cell_of (1024 * d) p n in
    ap (λ u. entry_in l sram rs u (local_index p c)) (quantum-same p d n lp ld)
    ∙ ap (entry_in l sram rs (quantum_of l n)) (local-same p d n lp ld)

-- ---- the cells of a ternary part

quotient-low : (d n : ℕ) → n < 2048 * d → n / 2048 % d ≡ n / 2048
quotient-low d n lt =
    let small : n / 2048 < d = div_below n 2048 d (omega arith) (omega (arith, lt)) in
    let zero_high : 0 * d + n / 2048 ≡ n / 2048 = omega arith in
    sym (ap (λ m. m % d) zero_high) ∙ mod-mul-add 0 d (n / 2048) small

quotient-none : (d n : ℕ) → n < 2048 * d → n / 2048 / d ≡ 0
quotient-none d n lt =
    let small : n / 2048 < d = div_below n 2048 d (omega arith) (omega (arith, lt)) in
    let zero_high : 0 * d + n / 2048 ≡ n / 2048 = omega arith in
    sym (ap (λ m. m / d) zero_high) ∙ div-mul-add 0 d (n / 2048) small

local-low : (d n : ℕ) → n < 2048 * d → n / 2048 / d * 2048 + n % 2048 ≡ n % 2048
local-low d n lt = rw (quotient-none d n lt) (omega arith)

pub ternary-record : (sram : Blocks) (rs : List ℕ) (d held n : ℕ) → n < 2048 * d
    → (let l = ternary_records d (held + 8) in row_record sram rs held n ≡ entry_in l sram rs (quantum_of l n) (local_of l n))
ternary-record sram rs d held n lt =
    let l = ternary_records d (held + 8) in
    ap (λ u. entry_in l sram rs u (n % 2048)) (sym (quotient-low d n lt)) ∙ ap (entry_in l sram rs (quantum_of l n)) (sym (local-low d n lt))

-- the bits of a key are all bits of its unit's row
pub ternary-key : (tcam : Blocks) (ks : List ℕ) (d bits n : ℕ) → n < 2048 * d → ((b r : ℕ) → unit_row 40 tcam r (blocks_at ks (divided_up bits 40) b) < 2 ^ (1 * bits))
    → (let l = ternary_keys d bits in row_key tcam ks bits n ≡ entry_in l tcam ks (quantum_of l n) (local_of l n))
ternary-key tcam ks d bits n lt ends =
    let l = ternary_keys d bits in
    let x = row_key tcam ks bits n in
    let one : 1 * bits ≡ bits = omega arith in
    let within : x < 2 ^ bits = subst (λ m. x < 2 ^ m) one (ends (n / 2048) (n % 2048)) in
    let whole : slice x 0 bits ≡ x = slice-whole x bits within in
    let small : n % 2048 < 2048 = mod_below n 2048 (omega arith) in
    let e1 : n % 2048 ≡ n % 2048 % (2048 * 1) / 1 = plain (n % 2048) small in
    let e2 : n / 2048 ≡ n / 2048 * 1 + n % 2048 / (2048 * 1) = omega (arith, small) in
    let e3 : 0 ≡ n % 2048 % 1 * bits = none (n % 2048) in
    sym whole
    ∙ ap (λ r. slice (unit_row 40 tcam r (blocks_at ks (divided_up bits 40) (n / 2048))) 0 bits) e1
    ∙ ap (λ u. slice (unit_row 40 tcam (n % 2048 % (2048 * 1) / 1) (blocks_at ks (divided_up bits 40) u)) 0 bits) e2
    ∙ ap (λ s. slice (unit_row 40 tcam (n % 2048 % (2048 * 1) / 1) (blocks_at ks (divided_up bits 40) (n / 2048 * 1 + n % 2048 / (2048 * 1)))) s bits) e3
    ∙ ap (λ u. entry_in l tcam ks u (n % 2048)) (sym (quotient-low d n lt)) ∙ ap (entry_in l tcam ks (quantum_of l n)) (sym (local-low d n lt))
  where
    plain : (m : ℕ) → m < 2048 → m ≡ m % (2048 * 1) / 1
    plain m h = omega (arith, h)

    none : (m : ℕ) → 0 ≡ m % 1 * bits
    none m = let e : m % 1 ≡ 0 = omega arith in rw e (omega arith)
