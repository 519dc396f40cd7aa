-- Vectors of bits by the nibbles of a key stand for the rows that a key has.
use Rattle.std.proofs.Common.{◌≡◌, ◌≢◌, ℕ, ◌+◌, ◌*◌, ◌/◌, ◌%◌, ◌^◌, ◌<◌, ◌≤◌, ◌==◌, Bool, true, false, List, length, get_or, Option, Some, None, set, sym, refl, ap, ◌∙◌, subst, arith, below_more, inl, inr}
use Rattle.std.specs.Prelude.{bit_and, is_some, IsSomeAnd}
use Rattle.std.specs.Int.{bit_at}
use Rattle.std.proofs.lemmas.Bool.{cases_lt, cases_eq, eqb-true, eq-eqb}
use Rattle.std.proofs.lemmas.Grind.{same_number_lists, get_or_default_zero}
use Rattle.std.proofs.lemmas.List.{get_or_past, get_or-set_same, get_or-set_other, length-set}
use Rattle.std.proofs.lemmas.Nat.{and_le_r, mul-le}
use Rattle.rmt_bits.specs.Bits.{slice}
use Rattle.rmt_bits.specs.Grouping.{Compared}
use Rattle.rmt_bits.proofs.BitLaws.{slice-and, slice-lt}
use Rattle.rmt_memory.specs.declared.sliced.Sliced.{Sliced}
use Rattle.rmt_memory.specs.KeyWords.{Has, words_of, masked}
use Rattle.rmt_memory.specs.Searching.{FirstIn}
use Rattle.rmt_memory.specs.Slicing.{HasRow, nibble, leaves, bit_if, bit_in, RowFits, BitsFor, StandsFor, OnIn}
use Rattle.rmt_memory.proofs.WordLaws.{same-parts, length-words, word-of, length-masked, masked-at}

-- the row's bits in some vectors behind one another, and in the next one
pub vector-more : (w row first n : ℕ) (value : ℕ → Bool) (old new : List ℕ) → row < 64 * w
    → ((v r : ℕ) → r < 64 * w → (v ≡ first + n → r ≢ row) → bit_in new w v r ≡ bit_in old w v r) → bit_in new w (first + n) row ≡ bit_if (value n)
    → ((x : ℕ) → x < n → bit_in old w (first + x) row ≡ bit_if (value x)) → (x : ℕ) → x < n + 1 → bit_in new w (first + x) row ≡ bit_if (value x)
vector-more w row first n value old new inside others here before =
    below_more (λ x. bit_in new w (first + x) row ≡ bit_if (value x)) n (λ x lt. others (first + x) row inside (λ same. absurd (omega (arith, same, lt))) ∙ before x lt) here

-- the bits of one of some vectors behind one another are among those of all
pub bits-below : (w first count n : ℕ) → n < count → (first + n + 1) * w ≤ (first + count) * w
bits-below w first count n lt = mul-le (first + n + 1) w (first + count) w (omega (arith, lt)) (omega arith)

-- the vector of a sight is among those of all
pub seen-end : (words width sight : ℕ) → sight < 3 → (160 * words + sight) * width + width ≤ (160 * words + 3) * width
seen-end words width sight few =
    let most = bits-below width (160 * words) 3 sight few in
    let next : (160 * words + sight + 1) * width ≡ (160 * words + sight) * width + width = omega arith in
    omega (arith, most, next)

-- a row has its bits in the first n of `count` vectors, and all other bits are as they were
pub record RowBits (w row first count n : ℕ) (value : ℕ → Bool) (was bits : List ℕ) : Type 0 where
  pub size : length bits ≡ length was
  pub set : (x : ℕ) → x < n → bit_in bits w (first + x) row ≡ bit_if (value x)
  pub others : (v r : ℕ) → r < 64 * w → (first ≤ v → v < first + count → r ≢ row) → bit_in bits w v r ≡ bit_in was w v r

pub bits-more : (w row first count n : ℕ) (value : ℕ → Bool) (was old new : List ℕ) → row < 64 * w → n < count → RowBits w row first count n value was old
    → length new ≡ length old → bit_in new w (first + n) row ≡ bit_if (value n) → ((v r : ℕ) → r < 64 * w → (v ≡ first + n → r ≢ row) → bit_in new w v r ≡ bit_in old w v r)
    → RowBits w row first count (n + 1) value was new
bits-more w row first count n value was old new inside within h size here others = record {
  size = size ∙ h.size;
  set = vector-more w row first n value old new inside others here h.set;
  others = λ v r lt differ. others v r lt (λ same. differ (omega (arith, same)) (omega (arith, same, within))) ∙ h.others v r lt differ;
}

-- ---- masks and values

abbrev pub compared : List ℕ → List ℕ → Compared
compared ms vs = record { masks = ms; values = vs }

pub compared-same : (ms ms' vs vs' : List ℕ) → ms ≡ ms' → vs ≡ vs' → compared ms vs ≡ compared ms' vs'
compared-same ms ms' vs vs' m v = ap (λ (xs : List ℕ). compared xs vs) m ∙ ap (λ (xs : List ℕ). compared ms' xs) v

-- ---- nibbles

-- nibble 10 k + i is nibble i of word k
pub nibble-at : (words : List ℕ) (k i : ℕ) → i < 10 → nibble words (10 * k + i) ≡ slice (get_or words k 0) (4 * i) 4
nibble-at words k i lt =
    let word : (10 * k + i) / 10 ≡ k = omega (arith, lt) in
    let low : (10 * k + i) % 10 ≡ i = omega (arith, lt) in
    ap (λ n. slice (get_or words n 0) (4 * ((10 * k + i) % 10)) 4) word ∙ ap (λ n. slice (get_or words k 0) (4 * n) 4) low

pub nibble-lt : (words : List ℕ) (n : ℕ) → nibble words n < 16
nibble-lt words n = slice-lt (get_or words (n / 10) 0) (4 * (n % 10)) 4

module _ (words : ℕ) (e : Compared) (fits : RowFits words e) (key : List ℕ) (enough : words ≤ length key) where
  -- nibble n of a key equals the row on its mask
  abbrev pub Agrees : ℕ → Type 0
  Agrees n = bit_and (nibble key n) (nibble e.masks n) ≡ nibble e.values n

  all-masked : length (masked e.masks key) ≡ words
  all-masked = let a = length-masked e.masks key in let b = fits.masks in omega (arith, a, b, enough)

  masked-is : (k : ℕ) → k < words → get_or (masked e.masks key) k 0 ≡ bit_and (get_or key k 0) (get_or e.masks k 0)
  masked-is k lt = let b = fits.masks in masked-at e.masks key k (omega (arith, b, lt)) (omega (arith, lt, enough))

  pub agrees-has : ((n : ℕ) → n < 10 * words → Agrees n) → Has key e
  agrees-has each = same_number_lists (masked e.masks key) e.values (let a = all-masked in let b = fits.values in omega (arith, a, b)) word
    where
      word : (k : ℕ) → k < length (masked e.masks key) → get_or (masked e.masks key) k 0 ≡ get_or e.values k 0
      word k there =
          let lt : k < words = (let a = all-masked in omega (arith, a, there)) in
          let x = get_or key k 0 in
          let m = get_or e.masks k 0 in
          let v = get_or e.values k 0 in
          let small_m : m < 2 ^ 40 = (let b = fits.masks in fits.small_masks k 0 (omega (arith, b, lt))) in
          let small_v : v < 2 ^ 40 = (let b = fits.values in fits.small_values k 0 (omega (arith, b, lt))) in
          let small : bit_and x m < 2 ^ 40 = (let le = and_le_r x m in omega (arith, le, small_m)) in
          masked-is k lt
          ∙ same-parts 4 10 (bit_and x m) v small small_v (λ i li.
          slice-and x m (4 * i) 4
          ∙ ap (λ n. bit_and n (slice m (4 * i) 4)) (sym (nibble-at key k i li))
          ∙ ap (bit_and (nibble key (10 * k + i))) (sym (nibble-at e.masks k i li))
          ∙ each (10 * k + i) (omega (arith, li, lt)) ∙ nibble-at e.values k i li)

  pub has-agrees : Has key e → (n : ℕ) → n < 10 * words → Agrees n
  has-agrees has n lt =
      let k = n / 10 in
      let i = n % 10 in
      let inside : k < words = omega (arith, lt) in
      sym (slice-and (get_or key k 0) (get_or e.masks k 0) (4 * i) 4)
      ∙ ap (λ x. slice x (4 * i) 4) (sym (masked-is k inside))
      ∙ ap (λ (ws : List ℕ). slice (get_or ws k 0) (4 * i) 4) has

-- the vector of a nibble's value leaves the row where they agree
pub leaves-is : (e : Compared) (n x : ℕ) → x < 16 → leaves e (16 * n + x) ≡ (bit_and x (nibble e.masks n) == nibble e.values n)
leaves-is e n x lt =
    let value : (16 * n + x) % 16 ≡ x = omega (arith, lt) in
    let number : (16 * n + x) / 16 ≡ n = omega (arith, lt) in
    ap (λ v. bit_and v (nibble e.masks ((16 * n + x) / 16)) == nibble e.values ((16 * n + x) / 16)) value
    ∙ ap (λ m. bit_and x (nibble e.masks m) == nibble e.values m) number

-- the words of numbers fit a row
pub words-fit : (count mask value : ℕ) → RowFits count (record { masks = words_of count mask; values = words_of count value })
words-fit count mask value = record {
  masks = length-words count mask;
  values = length-words count value;
  small_masks = small mask;
  small_values = small value;
}
  where
    small : (n k d : ℕ) → k < length (words_of count n) → get_or (words_of count n) k d < 2 ^ 40
    small n k d lt =
        let all = length-words count n in
        let word = get_or_default_zero (words_of count n) k d lt ∙ word-of count n k (omega (arith, all, lt)) in
        let below = slice-lt n (40 * k) 40 in
        omega (arith, word, below)

on-true : (b : Bool) → bit_if b ≡ 1 → b ≡ true
on-true true h = refl
on-true false h = absurd (omega (arith, h))

-- ---- rows

module _ (s : Sliced) (sight : ℕ) (rows : List (Option Compared)) (stands : StandsFor sight rows s) (key : List ℕ) (enough : s.words ≤ length key) (vectors : List ℕ)
    (picked : (n : ℕ) → n < 10 * s.words → get_or vectors n 0 ≡ (16 * n + nibble key n) * s.width) where
  abbrev row : ℕ → Option Compared
  row r = get_or rows r None

  -- the bit of a row for nibble n of the key
  bit-is : (r n : ℕ) → n < 10 * s.words → bit_at (get_or s.bits.items (get_or vectors n 0 + r / 64) 0) (r % 64) ≡ bit_in s.bits.items s.width (16 * n + nibble key n) r
  bit-is r n lt = ap (λ v. bit_at (get_or s.bits.items (v + r / 64) 0) (r % 64)) (picked n lt)

  vector-below : (n : ℕ) → n < 10 * s.words → 16 * n + nibble key n < 160 * s.words
  vector-below n lt = let small = nibble-lt key n in omega (arith, lt, small)

  pub on-has : (r : ℕ) → r < 64 * s.width → OnIn s sight vectors r → HasRow key rows r
  on-has r lt on = by (row r) refl
    where
      by : (o : Option Compared) → row r ≡ o → IsSomeAnd o (Has key)
      by None is = absurd (let e = sym on.0 ∙ stands.there r lt ∙ ap (λ o. bit_if (is_some o)) is in omega (arith, e))
      by (Some e) is =
          agrees-has s.words e (stands.fit r e is) key enough (λ n ln.
          let small = nibble-lt key n in
          let bit : bit_if (leaves e (16 * n + nibble key n)) ≡ 1 = sym (stands.left r e (16 * n + nibble key n) is (vector-below n ln)) ∙ sym (bit-is r n ln) ∙ on.1 n ln in
          eqb-true _ _ (sym (leaves-is e n (nibble key n) small) ∙ on-true _ bit))

  pub has-on : (r : ℕ) → r < 64 * s.width → HasRow key rows r → OnIn s sight vectors r
  has-on r lt has = by (row r) refl has
    where
      by : (o : Option Compared) → row r ≡ o → IsSomeAnd o (Has key) → OnIn s sight vectors r
      by None is h = absurd h
      by (Some e) is h = (
        stands.there r lt ∙ ap (λ o. bit_if (is_some o)) is,
        λ n ln.
            let agree = has-agrees s.words e (stands.fit r e is) key enough h n ln in
            let left : leaves e (16 * n + nibble key n) ≡ true = leaves-is e n (nibble key n) (nibble-lt key n) ∙ eq-eqb _ _ agree in
            bit-is r n ln ∙ stands.left r e (16 * n + nibble key n) is (vector-below n ln) ∙ ap bit_if left,
      )

  pub has-below : (r : ℕ) → HasRow key rows r → r < length rows
  has-below r has =
      elim (cases_lt r (length rows)) as (λ _. r < length rows) [
        | inl less ↦ less
        | inr more ↦ absurd (subst (λ o. IsSomeAnd o (Has key)) (get_or_past rows r None more) has)
      ]

  pub first-is : (found : Option ℕ) → FirstIn (OnIn s sight vectors) 0 (64 * s.width) found → FirstIn (HasRow key rows) 0 (length rows) found
  first-is None none = λ j le lt has. none j le (let room = stands.room in omega (arith, lt, room)) (has-on j (let room = stands.room in omega (arith, lt, room)) has)
  first-is (Some i) first =
      let has = on-has i first.1 first.2 in (
        omega arith,
        has-below i has,
        has,
        λ j le lt other. first.3 j le lt (has-on j (let within = first.1 in omega (arith, lt, within)) other),
      )

-- ---- a row is put

pub none-some : (e : Compared) → None ≡ Some e → ⊥
none-some e h = let n : ⊥ = cc in n

no-some : (e : Compared) (o : Option Compared) → o ≡ None → o ≡ Some e → ⊥
no-some e o none some = let h : None ≡ Some e = sym none ∙ some in apart h
  where
    apart : None ≡ Some e → ⊥
    apart h = let n : ⊥ = cc in n

pub row-below : (rows : List (Option Compared)) (r : ℕ) (e : Compared) → get_or rows r None ≡ Some e → r < length rows
row-below rows r e is =
    elim (cases_lt r (length rows)) as (λ _. r < length rows) [
      | inl less ↦ less
      | inr more ↦ absurd (no-some e (get_or rows r None) (get_or_past rows r None more) is)
    ]

module _ (sight : ℕ) (rows : List (Option Compared)) (words width row : ℕ) (before after : List ℕ) (shown : Option Compared) (stands : BitsFor sight rows words width before) (inside : row < length rows)
    (fits : (e : Compared) → shown ≡ Some e → RowFits words e) (there : bit_in after width (160 * words + sight) row ≡ bit_if (is_some shown))
    (left : (e : Compared) (v : ℕ) → shown ≡ Some e → v < 160 * words → bit_in after width v row ≡ bit_if (leaves e v))
    (others : (v r : ℕ) → r < 64 * width → r ≢ row → bit_in after width v r ≡ bit_in before width v r) where
  abbrev put : List (Option Compared)
  put = set rows row shown

  own : get_or put row None ≡ shown
  own = get_or-set_same rows row shown None inside

  kept : (r : ℕ) → r ≢ row → get_or put r None ≡ get_or rows r None
  kept r ne = get_or-set_other rows row r shown None ne

  -- what stands at the row is what was put
  is-put : (r : ℕ) (x : Compared) → r ≡ row → get_or put r None ≡ Some x → shown ≡ Some x
  is-put r x same is = sym own ∙ ap (λ n. get_or put n None) (sym same) ∙ is

  fit_put : (r : ℕ) (x : Compared) → get_or put r None ≡ Some x → RowFits words x
  fit_put r x is =
      elim (cases_eq r row) as (λ _. RowFits words x) [
        | inl same ↦ fits x (is-put r x same is)
        | inr other ↦ stands.fit r x (sym (kept r other) ∙ is)
      ]

  there_put : (r : ℕ) → r < 64 * width → bit_in after width (160 * words + sight) r ≡ bit_if (is_some (get_or put r None))
  there_put r lt =
      elim (cases_eq r row) as (λ _. bit_in after width (160 * words + sight) r ≡ bit_if (is_some (get_or put r None))) [
        | inl same ↦ ap (bit_in after width (160 * words + sight)) same ∙ there ∙ sym (ap (λ n. bit_if (is_some (get_or put n None))) same ∙ ap (λ o. bit_if (is_some o)) own)
        | inr other ↦ others (160 * words + sight) r lt other ∙ stands.there r lt ∙ sym (ap (λ o. bit_if (is_some o)) (kept r other))
      ]

  left_put : (r : ℕ) (x : Compared) (v : ℕ) → get_or put r None ≡ Some x → v < 160 * words → bit_in after width v r ≡ bit_if (leaves x v)
  left_put r x v is lt =
      elim (cases_eq r row) as (λ _. bit_in after width v r ≡ bit_if (leaves x v)) [
        | inl same ↦ ap (bit_in after width v) same ∙ left x v (is-put r x same is) lt
        | inr other ↦
            let was = sym (kept r other) ∙ is in
            let below = row-below rows r x was in
            let room = stands.room in
            others v r (omega (arith, below, room)) other ∙ stands.left r x v was lt
      ]

  pub put-stands : BitsFor sight put words width after
  put-stands = record {
    room = let size = length-set rows row shown in let room = stands.room in omega (arith, size, room);
    fit = fit_put;
    there = there_put;
    left = left_put;
  }
