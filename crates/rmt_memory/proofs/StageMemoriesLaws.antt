-- One more unit, and one more stage, has its memory.
use Rattle.std.proofs.Common.{◌≡◌, ℕ, zero, suc, ◌+◌, ◌<◌, List, [], ◌∷◌, ◌++◌, length, get_or, Some, sym, ap, subst, ◌∙◌, inl, inr, arith}
use Rattle.std.specs.Prelude.{slice_get}
use Rattle.std.proofs.lemmas.Bool.{cases_lt}
use Rattle.std.proofs.lemmas.Option.{same_Some, slice_get-get_or}
use Rattle.std.proofs.Math.ListN.{get_or-append}
use Rattle.std.proofs.Math.Seq.{get_or-append_seam}
use Rattle.rmt_bits.proofs.ListLaws.{slice_get-front, slice_get-end}

-- what holds of items of two lists at the same places, and of two more at the next place
pub pushed_each : {X Y : Type 0} (P : X → Y → Type 0) (xs : List X) (ys : List Y) (i : ℕ) (x : X) (y : Y) → length ys ≡ i → i < length xs → get_or xs i x ≡ x → P x y
    → ((k : ℕ) (a : X) (b : Y) → k < i → slice_get xs k ≡ Some a → slice_get ys k ≡ Some b → P a b)
    → (k : ℕ) (a : X) (b : Y) → k < i + 1 → slice_get xs k ≡ Some a → slice_get (ys ++ y ∷ []) k ≡ Some b → P a b
pushed_each P xs ys i x y size inside at here before k a b lt one two =
    elim (cases_lt k i) [
      | inl less ↦ before k a b less one (sym (slice_get-front ys (y ∷ []) k (omega arith)) ∙ two)
      | inr more ↦
          let same : k ≡ i = omega arith in
          let end : length ys + 0 ≡ k = omega arith in
          let first : x ≡ a = same_Some x a (sym (ap Some at) ∙ sym (slice_get-get_or xs i x inside) ∙ ap (slice_get xs) (sym same) ∙ one) in
          let second : y ≡ b = same_Some y b (sym (slice_get-end ys (y ∷ []) 0) ∙ ap (slice_get (ys ++ y ∷ [])) end ∙ two) in
          subst (λ v. P v b) first (subst (λ v. P x v) second here)
    ]

-- what holds of each item of a list by its place, and of one more
pub pushed_items : {Y : Type 0} (Q : ℕ → Y → Type 0) (ys : List Y) (i : ℕ) (y : Y) → length ys ≡ i → Q i y → ((j : ℕ) (d : Y) → j < i → Q j (get_or ys j d))
    → (j : ℕ) (d : Y) → j < i + 1 → Q j (get_or (ys ++ y ∷ []) j d)
pushed_items Q ys i y size here before j d lt =
    elim (cases_lt j i) [
      | inl less ↦ subst (Q j) (sym (get_or-append ys (y ∷ []) d j (omega arith))) (before j d less)
      | inr more ↦
          let same : j ≡ i = omega arith in
          let end : length ys ≡ j = omega arith in
          let last : get_or (ys ++ y ∷ []) j d ≡ y = ap (λ (n : ℕ). get_or (ys ++ y ∷ []) n d) (sym end) ∙ get_or-append_seam ys y [] d in
          subst (Q j) (sym last) (subst (λ (n : ℕ). Q n y) (sym same) here)
    ]

-- an item stands below the end of its list
pub place_below : {X : Type 0} (xs : List X) (k : ℕ) (x : X) → slice_get xs k ≡ Some x → k < length xs
place_below [] k x e = absurd cc
place_below (y ∷ xs) zero x e = omega arith
place_below (y ∷ xs) (suc k) x e = let rest = place_below xs k x e in omega arith

-- an item that was read from a list that is another
pub item_at : {X : Type 0} (xs read : List X) (i : ℕ) (x : X) → read ≡ xs → i < length read → x ≡ get_or read i x → (i < length xs) × (get_or xs i x ≡ x)
item_at {X = X} xs read i x same lt is = (subst (λ (ys : List X). i < length ys) same lt, sym (is ∙ ap (λ (ys : List X). get_or ys i x) same))
