-- The first item of a list that passes a test.
use Rattle.std.proofs.Common.{◌≡◌, ℕ, zero, suc, ◌<◌, Bool, true, false, cond, List, [], ◌∷◌, length, get_or, Some, None, refl, sym, ap, ◌∙◌, arith}
use Rattle.std.specs.Prelude.{find, unwrap_or}
use Rattle.std.proofs.lemmas.Option.{none-some}

-- x stands at i and passes, and no earlier item does
pub record IsFirst {X : Type 0} (p : X → Bool) (xs : List X) (i : ℕ) (x : X) : Type 0 where
  pub at : get_or xs i x ≡ x
  pub inside : i < length xs
  pub passes : p x ≡ true
  pub before : (k : ℕ) (d : X) → k < i → p (get_or xs k d) ≡ false

module _ {X : Type 0} (p : X → Bool) where
  behind : (y : X) (ys : List X) (i : ℕ) → p y ≡ false → ((k : ℕ) (d : X) → k < i → p (get_or ys k d) ≡ false) → (k : ℕ) (d : X) → k < suc i → p (get_or (y ∷ ys) k d) ≡ false
  behind y ys i h rest zero d lt = h
  behind y ys i h rest (suc k) d lt = rest k d (omega arith)

  pub first_from_find : (xs : List X) (x : X) → find p xs ≡ Some x → (i : ℕ) × IsFirst p xs i x
  first_from_find [] x e = absurd (none-some x e)
  first_from_find (y ∷ ys) x e = by (p y) refl (first_from_find ys x) e
    where
      by : (b : Bool) → p y ≡ b → (find p ys ≡ Some x → (i : ℕ) × IsFirst p ys i x) → cond b (Some y) (find p ys) ≡ Some x → (i : ℕ) × IsFirst p (y ∷ ys) i x
      by true h rest e =
          let same : y ≡ x = ap (λ o. unwrap_or o y) e in
          (0, record { at = same; inside = omega arith; passes = ap p (sym same) ∙ h; before = λ k d lt. absurd (omega arith) })
      by false h rest e =
          let r = rest e in
          (suc r.0, record { at = r.1.at; inside = (let lt = r.1.inside in omega arith); passes = r.1.passes; before = behind y ys r.0 h r.1.before })

  pub find-first : (xs : List X) (i : ℕ) (x : X) → IsFirst p xs i x → find p xs ≡ Some x
  find-first [] i x h = absurd (let lt = h.inside in omega arith)
  find-first (y ∷ ys) zero x h = ap (λ b. cond b (Some y) (find p ys)) (ap p h.at ∙ h.passes) ∙ ap (λ z. Some z) h.at
  find-first (y ∷ ys) (suc i) x h =
      ap (λ b. cond b (Some y) (find p ys)) (h.before 0 x (omega arith))
      ∙ find-first ys i x (record { at = h.at; inside = (let lt = h.inside in omega arith); passes = h.passes; before = λ k d lt. h.before (suc k) d (omega arith) })

  pub none_from_find : (xs : List X) → find p xs ≡ None → (k : ℕ) (d : X) → k < length xs → p (get_or xs k d) ≡ false
  none_from_find [] e k d lt = absurd (omega arith)
  none_from_find (y ∷ ys) e k d lt = by (p y) refl (none_from_find ys) e k d lt
    where
      by : (b : Bool) → p y ≡ b → (find p ys ≡ None → (k : ℕ) (d : X) → k < length ys → p (get_or ys k d) ≡ false) → cond b (Some y) (find p ys) ≡ None → (k : ℕ) (d : X) → k < suc (length ys) → p (get_or (y ∷ ys) k d) ≡ false
      by true h rest e k d lt = absurd (none-some y (sym e))
      by false h rest e k d lt = behind y ys (length ys) h (rest e) k d lt

  pub find-none : (xs : List X) → ((k : ℕ) (d : X) → k < length xs → p (get_or xs k d) ≡ false) → find p xs ≡ None
  find-none [] h = refl
  find-none (y ∷ ys) h = ap (λ b. cond b (Some y) (find p ys)) (h 0 y (omega arith)) ∙ find-none ys (λ k d lt. h (suc k) d (omega arith))
