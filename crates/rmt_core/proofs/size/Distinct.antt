-- Numbers of which none stands twice, below some number, are at most as many.
use Rattle.std.proofs.Common.{◌≡◌, ℕ, ◌<◌, ◌≤◌, true, false, not, ◌||◌, eqb, List, [], ◌∷◌, length, refl, sym, ap, ◌∙◌, subst, inl, inr, arith}
use Rattle.std.specs.Prelude.{All}
use Rattle.std.specs.List.{AllByRecursion, IsDistinct, list_any}
use Rattle.std.proofs.lemmas.Bool.{and_parts, both_ways, cases_eq, eq-eqb, ne_eqb, not-true, or_right}
use Rattle.std.proofs.lemmas.List.Elements.{All-head, All-tail}
use Rattle.std.proofs.lemmas.Map.Keys.{IsDistinct-cons}
use Rattle.std.proofs.lemmas.Map.Steps.{length-le_from_distinct_below}
use Rattle.rmt_config.specs.Order.{are_new}
use Rattle.rmt_config.proofs.NumberLaws.{distinct_none}

-- new numbers differ from one that was seen
apart_from_seen : (m : ℕ) (seen xs : List ℕ) → list_any (λ k. eqb k m) seen ≡ true → are_new seen xs ≡ true → AllByRecursion (λ y. eqb m y ≡ false) xs
apart_from_seen m seen [] there new = tt
apart_from_seen m seen (x ∷ xs) there new =
    let parts = and_parts (not (list_any (λ k. eqb k x) seen)) (are_new (x ∷ seen) xs) new in (
      ne_eqb m x (λ same. both_ways (list_any (λ k. eqb k x) seen) (not-true (list_any (λ k. eqb k x) seen) parts.0)
          (subst (λ y. list_any (λ k. eqb k y) seen ≡ true) same there)),
      apart_from_seen m (x ∷ seen) xs (or_right (eqb x m) (list_any (λ k. eqb k m) seen) there) parts.1,
    )

distinct_from_new : (seen xs : List ℕ) → are_new seen xs ≡ true → IsDistinct eqb xs
distinct_from_new seen [] new = distinct_none
distinct_from_new seen (x ∷ xs) new =
    let parts = and_parts (not (list_any (λ k. eqb k x) seen)) (are_new (x ∷ seen) xs) new in
    let first : list_any (λ k. eqb k x) (x ∷ seen) ≡ true = ap (λ b. b || list_any (λ k. eqb k x) seen) (eq-eqb x x refl) in
    IsDistinct-cons eqb x xs (apart_from_seen x (x ∷ seen) xs first parts.1) (distinct_from_new (x ∷ seen) xs parts.1)

pub member_below : (n q : ℕ) (xs : List ℕ) → All (λ x. x < n) xs → list_any (eqb q) xs ≡ true → q < n
member_below n q [] below there = absurd (both_ways false refl there)
member_below n q (x ∷ xs) below there =
    elim (cases_eq q x) as (λ _. q < n) [
      | inl same ↦ omega (arith, same, All-head (λ y. y < n) x xs below)
      | inr other ↦ member_below n q xs (All-tail (λ y. y < n) x xs below) (sym (ap (λ b. b || list_any (eqb q) xs) (ne_eqb q x other)) ∙ there)
    ]

pub new_few : (n : ℕ) (xs : List ℕ) → are_new [] xs ≡ true → All (λ x. x < n) xs → length xs ≤ n
new_few n xs new below = length-le_from_distinct_below xs n (distinct_from_new [] xs new) (λ q there. member_below n q xs below there)
