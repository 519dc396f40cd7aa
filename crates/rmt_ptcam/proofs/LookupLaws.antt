-- Bytes among 32 bits that are compared, over lookups.
use Rattle.std.proofs.Common.{◌≡◌, cond, eqb, leb, Bool, true, false, ℕ, ◌+◌, ◌-◌, ◌*◌, ◌/◌, ◌%◌, ◌^◌, ◌<◌, ◌≤◌, List, [], ◌∷◌, get_or, length, map, refl, sym, ap, subst, ◌∙◌, inl, inr, arith}
use Rattle.std.specs.Prelude.{All, Contains, bit_and, slice_index}
use Rattle.std.specs.Int.Bits.{and_zero_r}
use Rattle.std.proofs.lemmas.Bool.{cases_Bool, eq-eqb, ne_eqb, and_parts, or_parts, leb-true, eqb-true}
use Rattle.std.proofs.lemmas.List.Elements.{All-contains, All-map}
use Rattle.std.proofs.lemmas.List.{length-map}
use Rattle.std.proofs.lemmas.Nat.{and_le_l, and_le_r, and_mod}
use Rattle.rmt_config.specs.Order.{rises_from}
use Rattle.rmt_config.specs.Parser.{high_bytes}
use Rattle.rmt_ptcam.specs.Words.{byte_at, spread}
use Rattle.rmt_ptcam.proofs.ByteRunLaws.{map_same, high_and, high_apart}
use Rattle.rmt_bits.proofs.OptionLaws.{same_Bool}
use Rattle.rmt_bits.specs.Members.{is_among}
use Rattle.rmt_bits.proofs.MemberLaws.{Contains-from_any}

-- ---- up to four bytes, one after another

four_bytes : (bytes : List ℕ) → high_bytes bytes ≡ ((slice_index bytes 0 * 256 + slice_index bytes 1) * 256 + slice_index bytes 2) * 256 + slice_index bytes 3
four_bytes [] = refl
four_bytes (a ∷ []) = omega arith
four_bytes (a ∷ b ∷ []) = omega arith
four_bytes (a ∷ b ∷ c ∷ []) = omega arith
four_bytes (a ∷ b ∷ c ∷ d ∷ bytes) = omega arith

pub four_are : (bytes : List ℕ) (a b c d : ℕ) → a ≡ slice_index bytes 0 → b ≡ slice_index bytes 1 → c ≡ slice_index bytes 2 → d ≡ slice_index bytes 3
    → ((a * 256 + b) * 256 + c) * 256 + d ≡ high_bytes bytes
four_are bytes a b c d p q r s = omega_same a b c d (slice_index bytes 0) (slice_index bytes 1) (slice_index bytes 2) (slice_index bytes 3) p q r s ∙ sym (four_bytes bytes)
  where
    omega_same : (a b c d w x y z : ℕ) → a ≡ w → b ≡ x → c ≡ y → d ≡ z → ((a * 256 + b) * 256 + c) * 256 + d ≡ ((w * 256 + x) * 256 + y) * 256 + z
    omega_same a b c d w x y z p q r s = omega (arith, p, q, r, s)

-- ---- one byte

pub byte_small : (ls : List ℕ) (w o : ℕ) → byte_at ls w o < 256
byte_small [] w o = omega arith
byte_small (l ∷ ls) w o = small (eqb l o) (w / 2 ^ 24) (byte_at ls (w % 2 ^ 24 * 256) o) (byte_small ls (w % 2 ^ 24 * 256) o)
  where
    small : (b : Bool) (x y : ℕ) → y < 256 → cond b (x % 2 ^ 8) y < 256
    small true x y rest = omega arith
    small false x y rest = rest

-- where an offset is none of the lookups, nothing stands for it
pub byte_none : (ls : List ℕ) (w o : ℕ) → is_among ls o ≡ false → byte_at ls w o ≡ 0
byte_none [] w o none = refl
byte_none (l ∷ ls) w o none =
    let parts = or_parts (eqb l o) (is_among ls o) none in
    ap (λ (b : Bool). cond b (w / 2 ^ 24 % 2 ^ 8) (byte_at ls (w % 2 ^ 24 * 256) o)) parts.0 ∙ byte_none ls (w % 2 ^ 24 * 256) o parts.1

byte_first : (l : ℕ) (ls : List ℕ) (w : ℕ) → byte_at (l ∷ ls) w l ≡ w / 2 ^ 24 % 2 ^ 8
byte_first l ls w = ap (λ (b : Bool). cond b (w / 2 ^ 24 % 2 ^ 8) (byte_at ls (w % 2 ^ 24 * 256) l)) (eq-eqb l l refl)

byte_later : (l : ℕ) (ls : List ℕ) (w o : ℕ) → l < o → byte_at (l ∷ ls) w o ≡ byte_at ls (w % 2 ^ 24 * 256) o
byte_later l ls w o lt = ap (λ (b : Bool). cond b (w / 2 ^ 24 % 2 ^ 8) (byte_at ls (w % 2 ^ 24 * 256) o)) (ne_eqb l o (λ e. omega (arith, lt, e)))

-- ---- an offset among lookups

-- ---- words over lookups

-- a word that has bits of the lookups alone
pub record IsOver (ls : List ℕ) (w : ℕ) : Type 0 where
  pub small : w < 2 ^ 32
  pub within : w % 2 ^ (8 * (4 - length ls)) ≡ 0

word_of_two : (x y w : ℕ) → x ≡ w / 2 ^ 24 % 2 ^ 8 → y ≡ w % 2 ^ 24 * 256 / 2 ^ 24 % 2 ^ 8 → w < 2 ^ 32 → w % 2 ^ 16 ≡ 0 → high_bytes (x ∷ y ∷ []) ≡ w
word_of_two x y w p q small within = omega (arith, p, q, small, within)

word_of_three : (x y z w : ℕ) → x ≡ w / 2 ^ 24 % 2 ^ 8 → y ≡ w % 2 ^ 24 * 256 / 2 ^ 24 % 2 ^ 8 → z ≡ w % 2 ^ 24 * 256 % 2 ^ 24 * 256 / 2 ^ 24 % 2 ^ 8 → w < 2 ^ 32 → w % 2 ^ 8 ≡ 0
    → high_bytes (x ∷ y ∷ z ∷ []) ≡ w
word_of_three x y z w p q r small within = omega (arith, p, q, r, small, within)

word_of_four : (x y z u w : ℕ) → x ≡ w / 2 ^ 24 % 2 ^ 8 → y ≡ w % 2 ^ 24 * 256 / 2 ^ 24 % 2 ^ 8 → z ≡ w % 2 ^ 24 * 256 % 2 ^ 24 * 256 / 2 ^ 24 % 2 ^ 8
    → u ≡ w % 2 ^ 24 * 256 % 2 ^ 24 * 256 % 2 ^ 24 * 256 / 2 ^ 24 % 2 ^ 8 → w < 2 ^ 32 → high_bytes (x ∷ y ∷ z ∷ u ∷ []) ≡ w
word_of_four x y z u w p q r s small = omega (arith, p, q, r, s, small)

rises_two : (least a b : ℕ) (ls : List ℕ) → rises_from least (a ∷ b ∷ ls) ≡ true → (a < b) × (rises_from (a + 1) (b ∷ ls) ≡ true)
rises_two least a b ls rises =
    let rest : rises_from (a + 1) (b ∷ ls) ≡ true = (and_parts (leb least a) (rises_from (a + 1) (b ∷ ls)) rises).1 in
    let next : a + 1 ≤ b = leb-true (a + 1) b (and_parts (leb (a + 1) b) (rises_from (b + 1) ls) rest).0 in
    (omega (arith, next), rest)

-- such a word is that of its bytes
pub word_is : (least : ℕ) (ls : List ℕ) (w : ℕ) → rises_from least ls ≡ true → length ls ≤ 4 → IsOver ls w → high_bytes (map (byte_at ls w) ls) ≡ w
word_is least [] w rises few is = let a = is.small in let b : w % 2 ^ 32 ≡ 0 = is.within in omega (arith, a, b)
word_is least (a ∷ []) w rises few is =
    let x = byte_first a [] w in
    let small = is.small in
    let within : w % 2 ^ 24 ≡ 0 = is.within in
    one (byte_at (a ∷ []) w a) w x small within
  where
    one : (x w : ℕ) → x ≡ w / 2 ^ 24 % 2 ^ 8 → w < 2 ^ 32 → w % 2 ^ 24 ≡ 0 → high_bytes (x ∷ []) ≡ w
    one x w p small within = omega (arith, p, small, within)
word_is least (a ∷ b ∷ []) w rises few is =
    let ab : a < b = (rises_two least a b [] rises).0 in
    word_of_two (byte_at (a ∷ b ∷ []) w a) (byte_at (a ∷ b ∷ []) w b) w (byte_first a (b ∷ []) w) (byte_later a (b ∷ []) w b ab ∙ byte_first b [] (w % 2 ^ 24 * 256)) is.small is.within
word_is least (a ∷ b ∷ c ∷ []) w rises few is =
    let first : (a < b) × (rises_from (a + 1) (b ∷ c ∷ []) ≡ true) = rises_two least a b (c ∷ []) rises in
    let ab : a < b = first.0 in
    let bc : b < c = (rises_two (a + 1) b c [] first.1).0 in
    let ac : a < c = omega (arith, ab, bc) in
    let w1 : ℕ = w % 2 ^ 24 * 256 in
    word_of_three (byte_at (a ∷ b ∷ c ∷ []) w a) (byte_at (a ∷ b ∷ c ∷ []) w b) (byte_at (a ∷ b ∷ c ∷ []) w c) w (byte_first a (b ∷ c ∷ []) w)
    (byte_later a (b ∷ c ∷ []) w b ab ∙ byte_first b (c ∷ []) w1)
    (byte_later a (b ∷ c ∷ []) w c ac ∙ byte_later b (c ∷ []) w1 c bc ∙ byte_first c [] (w1 % 2 ^ 24 * 256)) is.small is.within
word_is least (a ∷ b ∷ c ∷ d ∷ []) w rises few is =
    let first : (a < b) × (rises_from (a + 1) (b ∷ c ∷ d ∷ []) ≡ true) = rises_two least a b (c ∷ d ∷ []) rises in
    let second : (b < c) × (rises_from (b + 1) (c ∷ d ∷ []) ≡ true) = rises_two (a + 1) b c (d ∷ []) first.1 in
    let ab : a < b = first.0 in
    let bc : b < c = second.0 in
    let cd : c < d = (rises_two (b + 1) c d [] second.1).0 in
    let ac : a < c = omega (arith, ab, bc) in
    let ad : a < d = omega (arith, ac, cd) in
    let bd : b < d = omega (arith, bc, cd) in
    let w1 : ℕ = w % 2 ^ 24 * 256 in
    let w2 : ℕ = w1 % 2 ^ 24 * 256 in
    word_of_four (byte_at (a ∷ b ∷ c ∷ d ∷ []) w a) (byte_at (a ∷ b ∷ c ∷ d ∷ []) w b) (byte_at (a ∷ b ∷ c ∷ d ∷ []) w c) (byte_at (a ∷ b ∷ c ∷ d ∷ []) w d) w (byte_first a (b ∷ c ∷ d ∷ []) w)
    (byte_later a (b ∷ c ∷ d ∷ []) w b ab ∙ byte_first b (c ∷ d ∷ []) w1)
    (byte_later a (b ∷ c ∷ d ∷ []) w c ac ∙ byte_later b (c ∷ d ∷ []) w1 c bc ∙ byte_first c (d ∷ []) w2)
    (byte_later a (b ∷ c ∷ d ∷ []) w d ad ∙ byte_later b (c ∷ d ∷ []) w1 d bd ∙ byte_later c (d ∷ []) w2 d cd ∙ byte_first d [] (w2 % 2 ^ 24 * 256)) is.small
word_is least (a ∷ b ∷ c ∷ d ∷ e ∷ ls) w rises few is = absurd (omega (arith, few))

-- ---- bytes that are read agree with a value on a mask

abbrev pub Agrees : (ℕ → ℕ) → (ℕ → ℕ) → (ℕ → ℕ) → ℕ → Type 0
Agrees read mask value o = bit_and (read o) (mask o) ≡ value o

module _ (read mask value : ℕ → ℕ) (small_read : (o : ℕ) → read o < 256) (small_mask : (o : ℕ) → mask o < 256) (small_value : (o : ℕ) → value o < 256) (ls : List ℕ) (few : length ls ≤ 4) where
  -- over up to four lookups it is seen at each byte
  pub agrees_at : bit_and (high_bytes (map read ls)) (high_bytes (map mask ls)) ≡ high_bytes (map value ls) → All (Agrees read mask value) ls
  agrees_at same =
      high_apart (λ o. bit_and (read o) (mask o)) value (λ o. small_and o) small_value ls (length-map ls (λ o. bit_and (read o) (mask o))) (length-map ls value) few
      (sym (high_and read mask small_read small_mask ls (length-map ls read) (length-map ls mask) (length-map ls (λ o. bit_and (read o) (mask o))) few) ∙ same)
    where
      small_and : (o : ℕ) → bit_and (read o) (mask o) < 256
      small_and o = let low = and_le_l (read o) (mask o) in let high = small_read o in omega (arith, low, high)

  pub agrees_from : All (Agrees read mask value) ls → bit_and (high_bytes (map read ls)) (high_bytes (map mask ls)) ≡ high_bytes (map value ls)
  agrees_from each =
      high_and read mask small_read small_mask ls (length-map ls read) (length-map ls mask) (length-map ls (λ o. bit_and (read o) (mask o))) few
      ∙ ap high_bytes (map_same (λ o. bit_and (read o) (mask o)) value ls each)

-- ---- words over more lookups

abbrev pub looked_at : (ℕ → ℕ) → List ℕ → ℕ
looked_at read ls = high_bytes (map read ls)

-- a test that is at every byte
pub test_at : (read : ℕ → ℕ) → ((o : ℕ) → read o < 256) → (least : ℕ) (ls : List ℕ) (m v : ℕ) → rises_from least ls ≡ true → length ls ≤ 4 → IsOver ls m → IsOver ls v
    → eqb (bit_and (looked_at read ls) m) v ≡ true → All (Agrees read (byte_at ls m) (byte_at ls v)) ls
test_at read small least ls m v rises few over_m over_v passes =
    agrees_at read (byte_at ls m) (byte_at ls v) small (byte_small ls m) (byte_small ls v) ls few
    (ap (bit_and (looked_at read ls)) (word_is least ls m rises few over_m) ∙ eqb-true (bit_and (looked_at read ls) m) v passes ∙ sym (word_is least ls v rises few over_v))

pub test_from : (read : ℕ → ℕ) → ((o : ℕ) → read o < 256) → (least : ℕ) (ls : List ℕ) (m v : ℕ) → rises_from least ls ≡ true → length ls ≤ 4 → IsOver ls m → IsOver ls v
    → All (Agrees read (byte_at ls m) (byte_at ls v)) ls → eqb (bit_and (looked_at read ls) m) v ≡ true
test_from read small least ls m v rises few over_m over_v each =
    eq-eqb (bit_and (looked_at read ls) m) v
    (ap (bit_and (looked_at read ls)) (sym (word_is least ls m rises few over_m))
    ∙ agrees_from read (byte_at ls m) (byte_at ls v) small (byte_small ls m) (byte_small ls v) ls few each ∙ word_is least ls v rises few over_v)

-- an offset that isn't looked up agrees
pub agrees_none : (read : ℕ → ℕ) (ls : List ℕ) (m v o : ℕ) → is_among ls o ≡ false → Agrees read (byte_at ls m) (byte_at ls v) o
agrees_none read ls m v o none = ap (bit_and (read o)) (byte_none ls m o none) ∙ and_zero_r (read o) ∙ sym (byte_none ls v o none)

-- so where all lookups agree, every offset does
pub agrees_all : (read : ℕ → ℕ) (ls : List ℕ) (m v : ℕ) → All (Agrees read (byte_at ls m) (byte_at ls v)) ls → (o : ℕ) → Agrees read (byte_at ls m) (byte_at ls v) o
agrees_all read ls m v each o = elim (cases_Bool (is_among ls o)) [
  | inl own ↦ All-contains (Agrees read (byte_at ls m) (byte_at ls v)) ls o each (Contains-from_any ls o own)
  | inr none ↦ agrees_none read ls m v o none
]

-- a word over more lookups compares the same
pub test_widened : (read : ℕ → ℕ) → ((o : ℕ) → read o < 256) → (least : ℕ) (ls to : List ℕ) (m v : ℕ) → rises_from least ls ≡ true → length ls ≤ 4 → length to ≤ 4 → All (Contains to) ls → IsOver ls m → IsOver ls v
    → eqb (bit_and (looked_at read to) (spread ls to m)) (spread ls to v) ≡ eqb (bit_and (looked_at read ls) m) v
test_widened read small least ls to m v rises few few_to own over_m over_v =
    let mask : ℕ → ℕ = byte_at ls m in
    let value : ℕ → ℕ = byte_at ls v in
    same_Bool (eqb (bit_and (looked_at read to) (spread ls to m)) (spread ls to v)) (eqb (bit_and (looked_at read ls) m) v)
    (λ wide.
    let each : All (Agrees read mask value) to =
    agrees_at read mask value small (byte_small ls m) (byte_small ls v) to few_to (eqb-true (bit_and (looked_at read to) (spread ls to m)) (spread ls to v) wide) in
    test_from read small least ls m v rises few over_m over_v (λ k d lt. All-contains (Agrees read mask value) to (get_or ls k d) each (own k d lt)))
    (λ narrow.
    let each : (o : ℕ) → Agrees read mask value o = agrees_all read ls m v (test_at read small least ls m v rises few over_m over_v narrow) in
    eq-eqb (bit_and (looked_at read to) (spread ls to m)) (spread ls to v)
    (agrees_from read mask value small (byte_small ls m) (byte_small ls v) to few_to (λ k d lt. each (get_or to k d))))

-- ---- what an entry compares

-- a mask and a value that have bits of the lookups alone, the value none outside the mask
pub record Compares (ls : List ℕ) (m v : ℕ) : Type 0 where
  pub mask : IsOver ls m
  pub value : IsOver ls v
  pub within : bit_and v m ≡ v

pub compares_of : (ls : List ℕ) (m v : ℕ) → m < 2 ^ 32 → bit_and v m ≡ v → m % 2 ^ (8 * (4 - length ls)) ≡ 0 → Compares ls m v
compares_of ls m v small within none = record {
  mask = record { small = small; within = none };
  value = record {
    small = let low = and_le_r v m in omega (arith, low, within, small);
    within = let k : ℕ = 8 * (4 - length ls) in
        ap (λ n. n % 2 ^ k) (sym within) ∙ and_mod v m k ∙ ap (bit_and (v % 2 ^ k)) none ∙ and_zero_r (v % 2 ^ k);
  };
  within = within;
}

-- the same at each byte
pub compares_at : (least : ℕ) (ls : List ℕ) (m v : ℕ) → rises_from least ls ≡ true → length ls ≤ 4 → Compares ls m v → (o : ℕ) → bit_and (byte_at ls v o) (byte_at ls m o) ≡ byte_at ls v o
compares_at least ls m v rises few is =
    agrees_all (byte_at ls v) ls m v
    (agrees_at (byte_at ls v) (byte_at ls m) (byte_at ls v) (byte_small ls v) (byte_small ls m) (byte_small ls v) ls few
    (ap (λ n. bit_and n (looked_at (byte_at ls m) ls)) (word_is least ls v rises few is.value) ∙ ap (bit_and v) (word_is least ls m rises few is.mask) ∙ is.within ∙ sym (word_is least ls v rises few is.value)))

over_bytes : (bytes : List ℕ) → All (λ b. b < 256) bytes → length bytes ≤ 4 → (high_bytes bytes < 2 ^ 32) × (high_bytes bytes % 2 ^ (8 * (4 - length bytes)) ≡ 0)
over_bytes [] small few = (omega arith, refl)
over_bytes (a ∷ []) small few = let x = small 0 0 (omega arith) in (omega (arith, x), omega arith)
over_bytes (a ∷ b ∷ []) small few = let x = small 0 0 (omega arith) in let y = small 1 0 (omega arith) in (omega (arith, x, y), omega arith)
over_bytes (a ∷ b ∷ c ∷ []) small few =
    let x = small 0 0 (omega arith) in let y = small 1 0 (omega arith) in let z = small 2 0 (omega arith) in (omega (arith, x, y, z), omega arith)
over_bytes (a ∷ b ∷ c ∷ d ∷ []) small few =
    let x = small 0 0 (omega arith) in let y = small 1 0 (omega arith) in let z = small 2 0 (omega arith) in let u = small 3 0 (omega arith) in (omega (arith, x, y, z, u), omega arith)
over_bytes (a ∷ b ∷ c ∷ d ∷ e ∷ bytes) small few = absurd (omega (arith, few))

-- bytes as a word over lookups
pub word_over : (f : ℕ → ℕ) → ((o : ℕ) → f o < 256) → (ls : List ℕ) → length ls ≤ 4 → IsOver ls (high_bytes (map f ls))
word_over f small ls few =
    let long : length (map f ls) ≡ length ls = length-map ls f in
    let is : (high_bytes (map f ls) < 2 ^ 32) × (high_bytes (map f ls) % 2 ^ (8 * (4 - length (map f ls))) ≡ 0) =
    over_bytes (map f ls) (All-map (λ b. b < 256) f ls (λ k d lt. small (get_or ls k d))) (omega (arith, long, few)) in
    record { small = is.0; within = subst (λ n. high_bytes (map f ls) % 2 ^ (8 * (4 - n)) ≡ 0) long is.1 }

-- a mask and a value by their bytes
pub compares_by : (mask value : ℕ → ℕ) → ((o : ℕ) → mask o < 256) → ((o : ℕ) → value o < 256) → ((o : ℕ) → bit_and (value o) (mask o) ≡ value o) → (ls : List ℕ) → length ls ≤ 4
    → Compares ls (high_bytes (map mask ls)) (high_bytes (map value ls))
compares_by mask value small_mask small_value within ls few = record {
  mask = word_over mask small_mask ls few;
  value = word_over value small_value ls few;
  within = agrees_from value mask value small_value small_mask small_value ls few (λ k d lt. within (get_or ls k d));
}
