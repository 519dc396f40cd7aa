-- What holds of each item and its number, and what holds of each item and each later one, shown item by item.
use Rattle.std.proofs.Common.{◌≡◌, ◌≢◌, ℕ, zero, suc, ◌+◌, Bool, true, not, ◌&&◌, List, [], ◌∷◌, ◌++◌, length, Option, Some, None, ap, subst, arith, drop, map, option_map, ◌<◌, ◌≤◌, ◌∙◌, refl}
use Rattle.std.specs.Prelude.{⊤, slice_get, ◌==◌, unwrap_or, slice_index}
use Rattle.std.specs.List.{list_all}
use Rattle.std.proofs.lemmas.Bool.{and_parts, not-true, eqb-false}
use Rattle.std.proofs.lemmas.Option.{none-some, same_Some}
use Rattle.std.proofs.lemmas.List.Kept.{AllPairs-cons}
use Rattle.rmt_bits.proofs.AllLaws.{All-from_test, All-slice_get}
use Rattle.rmt_bits.proofs.PairLaws.{AllPairs-none}
use Rattle.rmt_ast.specs.WellFormed.{AllNumbered, AreDistinct, IsProgram, IsWidth, bits_of}
use Rattle.std.proofs.lemmas.List.{at_drop_more}
use Rattle.std.proofs.lemmas.List.Sums.{sum_by-cons}
use Rattle.rmt_ast.specs.Types.{Field, Program}
use Rattle.rmt_ast.specs.State.{width_of}

-- P of each item of a list whose first item has number k
abbrev pub NumberedFrom : {X : Type 0} → (ℕ → X → Type 0) → ℕ → List X → Type 0
NumberedFrom P k [] = ⊤
NumberedFrom P k (x ∷ xs) = P k x × NumberedFrom P (k + 1) xs

at_number : {X : Type 0} (P : ℕ → X → Type 0) (k : ℕ) (xs : List X) → NumberedFrom P k xs → (n : ℕ) (x : X) → slice_get xs n ≡ Some x → P (k + n) x
at_number P k [] h n x e = absurd (none-some x e)
at_number P k (y ∷ ys) h zero x e = subst (λ z. P (k + 0) z) (ap (λ o. unwrap_or o y) e) (subst (λ m. P m y) (omega arith) h.0)
at_number P k (y ∷ ys) h (suc n) x e = subst (λ m. P m x) (omega arith) (at_number P (k + 1) ys h.1 n x e)

pub AllNumbered-from_items : {X : Type 0} (P : ℕ → X → Type 0) (xs : List X) → NumberedFrom P 0 xs → AllNumbered P xs
AllNumbered-from_items P xs h n x e = subst (λ m. P m x) (omega arith) (at_number P 0 xs h n x e)

pub AllNumbered-none : {X : Type 0} (P : ℕ → X → Type 0) → AllNumbered P []
AllNumbered-none P n x e = absurd (none-some x e)

-- one item more
pub AllNumbered-push : {X : Type 0} (P : ℕ → X → Type 0) (xs : List X) (y : X) → AllNumbered P xs → P (length xs) y → AllNumbered P (xs ++ y ∷ [])
AllNumbered-push P [] y h p zero x e = subst (P 0) (same_Some y x e) p
AllNumbered-push P [] y h p (suc n) x e = absurd (none-some x e)
AllNumbered-push P (z ∷ xs) y h p zero x e = h zero x e
AllNumbered-push P (z ∷ xs) y h p (suc n) x e = AllNumbered-push (λ k. P (suc k)) xs y (λ k v at. h (suc k) v at) p n x e

-- items whose numbers differ are distinct
abbrev pub are_apart : {X : Type 0} → (X → ℕ) → List X → Bool
are_apart number [] = true
are_apart number (x ∷ xs) = list_all (λ y. not (number x == number y)) xs && are_apart number xs

pub AreDistinct-from_apart : {X : Type 0} (number : X → ℕ) (xs : List X) → are_apart number xs ≡ true → AreDistinct xs
AreDistinct-from_apart number [] h = AllPairs-none (λ x y. x ≢ y)
AreDistinct-from_apart number (x ∷ xs) h =
    let parts : (list_all (λ y. not (number x == number y)) xs ≡ true) × (are_apart number xs ≡ true) = and_parts _ _ h in
    AllPairs-cons (λ x y. x ≢ y) x xs
    (All-from_test (λ y. x ≢ y) (λ y. not (number x == number y)) (λ y t e. eqb-false (number x) (number y) (not-true _ t) (ap number e)) xs parts.0)
    (AreDistinct-from_apart number xs parts.1)

-- the bits of the fields from one on are its own and those of the others
pub bits_of-drop : (p : Program) (fields : List ℕ) (i : ℕ) → i < length fields → bits_of p (drop i fields) ≡ width_of p (slice_index fields i) + bits_of p (drop (i + 1) fields)
bits_of-drop p fields i h =
    at_drop_more (bits_of p) fields i 0 h ∙ sum_by-cons (λ (n : ℕ). n) (width_of p (slice_index fields i)) (map (width_of p) (drop (i + 1) fields))

-- a width of a program's field is at most 128
pub narrow_field : (p : Program) → IsProgram p → (f : ℕ) → width_of p f ≤ 128
narrow_field p h f = by (slice_get p.fields f) refl
  where
    by : (o : Option Field) → slice_get p.fields f ≡ o → unwrap_or (option_map (λ (x : Field). x.width) o) 0 ≤ 128
    by None e = omega arith
    by (Some x) e = (All-slice_get (λ (x : Field). IsWidth x.width) p.fields f x h.fields.widths e).1
