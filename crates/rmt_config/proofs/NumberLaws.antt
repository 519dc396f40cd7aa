-- Numbers in order do not repeat exactly where the list from which they were sorted has no number twice.
use Rattle.std.proofs.Common.{◌≡◌, ℕ, ◌+◌, ◌≤◌, List, [], ◌∷◌, true, false, not, eqb, leb, refl, arith}
use Rattle.std.specs.List.{AllByRecursion, list_any, IsDistinct}
use Rattle.std.specs.List.Sorted.{IsPermutation, IsSorted}
use Rattle.std.specs.Ordering.{nat_cmp}
use Rattle.std.proofs.lemmas.Bool.{and_parts, and_from, not-true, not_from_false, or_from, or_parts, ne_eqb, leb-true}
use Rattle.std.proofs.lemmas.Bool.Decides.{same_from_decides}
use Rattle.std.proofs.lemmas.List.Sorted.{IsNonDecreasingBy-from_sort, IsPermutation-sym}
use Rattle.std.proofs.lemmas.Map.Keys.{IsDistinct-head, IsDistinct-tail, IsDistinct-cons, IsDistinct-IsPermutation, IsStrictlyIncreasing-from_distinct}
use Rattle.rmt_config.specs.Order.{are_new, rises_from}
use Rattle.rmt_config.proofs.RiseLaws.{increasing_rises}
use Rattle.rmt_bits.proofs.OptionLaws.{eqb-sym}

pub distinct_none : IsDistinct eqb []
unfolding IsDistinct
distinct_none = tt

-- none of the numbers seen is among these
abbrev pub IsClear : List ℕ → List ℕ → Type 0
IsClear seen xs = AllByRecursion (λ m. AllByRecursion (λ y. eqb m y ≡ false) xs) seen

clear_front : (seen : List ℕ) (x : ℕ) (xs : List ℕ) → IsClear seen (x ∷ xs) → (list_any (λ m. eqb m x) seen ≡ false) × IsClear seen xs
clear_front [] x xs c = (refl, tt)
clear_front (m ∷ seen) x xs c =
    let rest = clear_front seen x xs c.1 in
    (or_from (eqb m x) (list_any (λ m. eqb m x) seen) c.0.0 rest.0, (c.0.1, rest.1))

clear_more : (seen : List ℕ) (x : ℕ) (xs : List ℕ) → list_any (λ m. eqb m x) seen ≡ false → IsClear seen xs → IsClear seen (x ∷ xs)
clear_more [] x xs e c = tt
clear_more (m ∷ seen) x xs e c =
    let parts = or_parts (eqb m x) (list_any (λ m. eqb m x) seen) e in
    ((parts.0, c.0), clear_more seen x xs parts.1 c.1)

clear_none : (seen : List ℕ) → IsClear seen []
clear_none [] = tt
clear_none (m ∷ seen) = (tt, clear_none seen)

new_from : (seen xs : List ℕ) → IsClear seen xs → IsDistinct eqb xs → are_new seen xs ≡ true
new_from seen [] c d = refl
new_from seen (x ∷ xs) c d =
    let front = clear_front seen x xs c in
    and_from (not (list_any (λ m. eqb m x) seen)) (are_new (x ∷ seen) xs) (not_from_false (list_any (λ m. eqb m x) seen) front.0)
    (new_from (x ∷ seen) xs (IsDistinct-head eqb x xs d, front.1) (IsDistinct-tail eqb x xs d))

pub distinct_from : (seen xs : List ℕ) → are_new seen xs ≡ true → IsClear seen xs × IsDistinct eqb xs
distinct_from seen [] e = (clear_none seen, distinct_none)
distinct_from seen (x ∷ xs) e =
    let parts = and_parts (not (list_any (λ m. eqb m x) seen)) (are_new (x ∷ seen) xs) e in
    let rest = distinct_from (x ∷ seen) xs parts.1 in
    (clear_more seen x xs (not-true (list_any (λ m. eqb m x) seen) parts.0) rest.0.1, IsDistinct-cons eqb x xs rest.0.0 rest.1)

apart_above : (n : ℕ) (xs : List ℕ) → AllByRecursion (λ y. n + 1 ≤ y) xs → AllByRecursion (λ y. eqb n y ≡ false) xs
apart_above n [] h = tt
apart_above n (x ∷ xs) h = (ne_eqb n x (λ e. absurd (omega (arith, h.0, e))), apart_above n xs h.1)

above_less : (m n : ℕ) (xs : List ℕ) → m ≤ n → AllByRecursion (λ y. n ≤ y) xs → AllByRecursion (λ y. m ≤ y) xs
above_less m n [] le h = tt
above_less m n (x ∷ xs) le h = (omega (arith, h.0), above_less m n xs le h.1)

rises_apart : (least : ℕ) (ys : List ℕ) → rises_from least ys ≡ true → AllByRecursion (λ y. least ≤ y) ys × IsDistinct eqb ys
rises_apart least [] e = (tt, distinct_none)
rises_apart least (n ∷ ns) e =
    let parts = and_parts (leb least n) (rises_from (n + 1) ns) e in
    let rest = rises_apart (n + 1) ns parts.1 in
    let low : least ≤ n = leb-true least n parts.0 in
    ((low, above_less least (n + 1) ns (omega arith) rest.0), IsDistinct-cons eqb n ns (apart_above n ns rest.0) rest.1)

-- sorted numbers rise exactly where none stood twice
pub rise_from_sort : (xs ys : List ℕ) → IsPermutation xs ys → IsSorted nat_cmp ys → rises_from 0 ys ≡ are_new [] xs
rise_from_sort xs ys moved sorted =
    same_from_decides (rises_from 0 ys) (are_new [] xs) (
      (λ e. IsDistinct-IsPermutation eqb eqb-sym ys xs (IsPermutation-sym xs ys moved) (rises_apart 0 ys e).1),
      (λ d. increasing_rises 0 ys (λ lt. omega arith) (IsStrictlyIncreasing-from_distinct ys (IsNonDecreasingBy-from_sort (λ x. x) ys sorted) (IsDistinct-IsPermutation eqb eqb-sym xs ys moved d))),
    )
    ((λ e. (distinct_from [] xs e).1), (λ d. new_from [] xs tt d))
