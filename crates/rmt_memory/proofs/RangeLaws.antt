-- The first cell of a range that passes a test, where the cells that may pass are listed.
use Rattle.std.proofs.Common.{◌≡◌, ◌≢◌, ℕ, zero, suc, ◌+◌, ◌<◌, ◌≤◌, List, [], ◌∷◌, ◌++◌, length, get_or, map, Bool, true, false, cond, ◌||◌, eqb, Option, Some, None, sym, refl, ap, ◌∙◌, arith, inl, inr}
use Rattle.std.specs.Prelude.{find, option_map, unwrap_or, slice_get}
use Rattle.std.specs.List.{range_with_len, flat_map}
use Rattle.std.proofs.lemmas.Bool.{cases_eq, false_from_ne_true, false≢true, eqb-true, eq-eqb, ne_eqb}
use Rattle.std.proofs.lemmas.List.Folds.{find_at}
use Rattle.std.proofs.lemmas.List.Sums.{position_or_len_is}
use Rattle.std.proofs.lemmas.Option.{slice_get-get_or}
use Rattle.rmt_memory.specs.Types.{CellNumber}
use Rattle.rmt_config.specs.Order.{rises_from}
use Rattle.rmt_config.specs.StageForm.{is_listed}
use Rattle.rmt_config.specs.Cells.{number_of_cell}
use Rattle.rmt_config.proofs.RiseLaws.{rise-below}
pub use Rattle.rmt_memory.specs.Laying.{cell_at, nowhere}
use Rattle.rmt_memory.specs.Searching.{FirstIn}

abbrev cell : CellNumber → ℕ
cell c = c.cell

-- ---- the first in a list

module _ (p : ℕ → Bool) where
  pub find-range_some : (a len m : ℕ) → a ≤ m → m < a + len → p m ≡ true → ((n : ℕ) → a ≤ n → n < m → p n ≡ false) → find p (range_with_len a len) ≡ Some m
  find-range_some a zero m le lt here before = absurd (omega (arith, le, lt))
  find-range_some a (suc len) m le lt here before =
      elim (cases_eq a m) as (λ _. find p (range_with_len a (suc len)) ≡ Some m) [
        | inl same ↦ ap (λ b. cond b (Some a) (find p (range_with_len (a + 1) len))) (ap p same ∙ here) ∙ ap (λ n. Some n) same
        | inr other ↦
            ap (λ b. cond b (Some a) (find p (range_with_len (a + 1) len))) (before a (omega arith) (omega (arith, le, other)))
            ∙ find-range_some (a + 1) len m (omega (arith, le, other)) (omega (arith, lt)) here (λ n ln. before n (omega (arith, ln)))
      ]

  pub find-range_none : (a len : ℕ) → ((n : ℕ) → a ≤ n → n < a + len → p n ≡ false) → find p (range_with_len a len) ≡ None
  find-range_none a zero none = refl
  find-range_none a (suc len) none =
      ap (λ b. cond b (Some a) (find p (range_with_len (a + 1) len))) (none a (omega arith) (omega arith))
      ∙ find-range_none (a + 1) len (λ n ln lt. none n (omega (arith, ln)) (omega (arith, lt)))

  find-append_none : (xs ys : List ℕ) → find p xs ≡ None → find p (xs ++ ys) ≡ find p ys
  find-append_none [] ys h = refl
  find-append_none (x ∷ xs) ys h = by (p x) (find-append_none xs ys) h
    where
      by : (b : Bool) → (find p xs ≡ None → find p (xs ++ ys) ≡ find p ys) → cond b (Some x) (find p xs) ≡ None → cond b (Some x) (find p (xs ++ ys)) ≡ find p ys
      by true rest e = absurd (let n : ⊥ = cc in n)
      by false rest e = rest e

  find-append_some : (xs ys : List ℕ) (m : ℕ) → find p xs ≡ Some m → find p (xs ++ ys) ≡ Some m
  find-append_some [] ys m h = absurd (let n : ⊥ = cc in n)
  find-append_some (x ∷ xs) ys m h = by (p x) (find-append_some xs ys m) h
    where
      by : (b : Bool) → (find p xs ≡ Some m → find p (xs ++ ys) ≡ Some m) → cond b (Some x) (find p xs) ≡ Some m → cond b (Some x) (find p (xs ++ ys)) ≡ Some m
      by true rest e = e
      by false rest e = rest e

  -- the first part of a list of parts that has one
  pub find-parts_none : (f : ℕ → List ℕ) (a n : ℕ) → ((w : ℕ) → a ≤ w → w < a + n → find p (f w) ≡ None) → find p (flat_map f (range_with_len a n)) ≡ None
  find-parts_none f a zero none = refl
  find-parts_none f a (suc n) none =
      find-append_none (f a) (flat_map f (range_with_len (a + 1) n)) (none a (omega arith) (omega arith))
      ∙ find-parts_none f (a + 1) n (λ w lw lt. none w (omega (arith, lw)) (omega (arith, lt)))

  pub find-parts_some : (f : ℕ → List ℕ) (a n v m : ℕ) → a ≤ v → v < a + n → find p (f v) ≡ Some m → ((w : ℕ) → a ≤ w → w < v → find p (f w) ≡ None)
      → find p (flat_map f (range_with_len a n)) ≡ Some m
  find-parts_some f a zero v m le lt here before = absurd (omega (arith, le, lt))
  find-parts_some f a (suc n) v m le lt here before =
      elim (cases_eq a v) as (λ _. find p (flat_map f (range_with_len a (suc n))) ≡ Some m) [
        | inl same ↦ find-append_some (f a) (flat_map f (range_with_len (a + 1) n)) m (ap (λ w. find p (f w)) same ∙ here)
        | inr other ↦
            find-append_none (f a) (flat_map f (range_with_len (a + 1) n)) (before a (omega arith) (omega (arith, le, other)))
            ∙ find-parts_some f (a + 1) n v m (omega (arith, le, other)) (omega (arith, lt)) here (λ w lw. before w (omega (arith, lw)))
      ]

-- tests that agree find the same
pub find-same : (p q : ℕ → Bool) → ((n : ℕ) → p n ≡ q n) → (xs : List ℕ) → find p xs ≡ find q xs
find-same p q same [] = refl
find-same p q same (x ∷ xs) =
    ap (λ b. cond b (Some x) (find p xs)) (same x) ∙ ap (λ o. cond (q x) (Some x) o) (find-same p q same xs)

-- ---- listed cells

-- the place of a listed cell
pub record ListedAt (numbers : List CellNumber) (n : ℕ) : Type 0 where
  pub at : ℕ
  pub within : at < length numbers
  pub is : cell_at numbers at ≡ n

pub listed-place : (numbers : List CellNumber) (n : ℕ) → is_listed n (map cell numbers) ≡ true → ListedAt numbers n
listed-place [] n h = absurd (let x : ⊥ = cc in x)
listed-place (c ∷ cs) n h =
    elim (cases_eq c.cell n) as (λ _. ListedAt (c ∷ cs) n) [
      | inl same ↦ record { at = 0; within = omega arith; is = same }
      | inr other ↦
          let rest = listed-place cs n (sym (ap (λ (b : Bool). b || is_listed n (map cell cs)) (ne_eqb c.cell n other)) ∙ h) in
          record { at = suc rest.at; within = (let lt = rest.within in omega (arith, lt)); is = rest.is }
    ]

-- a cell that isn't listed stands at no place
pub unlisted-place : (numbers : List CellNumber) (n : ℕ) → is_listed n (map cell numbers) ≡ false → (i : ℕ) → i < length numbers → cell_at numbers i ≢ n
unlisted-place [] n h i lt e = absurd (omega (arith, lt))
unlisted-place (c ∷ cs) n h zero lt e = false≢true (sym h ∙ ap (λ (b : Bool). b || is_listed n (map cell cs)) (eq-eqb c.cell n e))
unlisted-place (c ∷ cs) n h (suc i) lt e =
    unlisted-place cs n (rest (eqb c.cell n) (is_listed n (map cell cs)) h) i (omega (arith, lt)) e
  where
    rest : (a b : Bool) → (a || b) ≡ false → b ≡ false
    rest true b none = absurd (false≢true (sym none))
    rest false b none = none

-- the number of a listed cell
pub number-at : (numbers : List CellNumber) (i : ℕ) → rises_from 0 (map cell numbers) ≡ true → i < length numbers
    → number_of_cell numbers (cell_at numbers i) ≡ (get_or numbers i nowhere).number
number-at numbers i rise lt =
    let at = position_or_len_is p numbers i nowhere (omega (arith, lt)) earlier (λ _. eq-eqb (cell_at numbers i) (cell_at numbers i) refl) in
    ap (λ (o : Option CellNumber). unwrap_or (option_map (λ (c : CellNumber). c.number) o) 0) (find_at p numbers ∙ ap (slice_get numbers) at ∙ slice_get-get_or numbers i nowhere lt)
  where
    p : CellNumber → Bool
    p c = eqb c.cell (cell_at numbers i)

    earlier : (j : ℕ) → j < i → p (get_or numbers j nowhere) ≡ false
    earlier j less = false_from_ne_true (p (get_or numbers j nowhere)) (λ same.
        let e = eqb-true (cell_at numbers j) (cell_at numbers i) same in
        let below = rise-below cell 0 numbers rise j i nowhere less lt in
        absurd (omega (arith, e, below)))

-- ---- a row of cells

module _ (p : ℕ → Bool) (P : ℕ → Type 0) (count : ℕ) (holds : (j : ℕ) → j < count → p j ≡ true → P j) (passes : (j : ℕ) → j < count → P j → p j ≡ true) where
  -- the first of a range, found by a fact that goes with the test
  pub range-find : (a len : ℕ) → a + len ≤ count → (found : Option ℕ) → FirstIn P a (a + len) found → find p (range_with_len a len) ≡ found
  range-find a len most None h =
      find-range_none p a len (λ n ln lt. false_from_ne_true (p n) (λ pass. h n ln lt (holds n (omega (arith, lt, most)) pass)))
  range-find a len most (Some i) h =
      let lt = h.1 in
      find-range_some p a len i h.0 h.1 (passes i (omega (arith, lt, most)) h.2) (λ n ln less. false_from_ne_true (p n) (λ pass.
      h.3 n ln less (holds n (omega (arith, less, lt, most)) pass)))
