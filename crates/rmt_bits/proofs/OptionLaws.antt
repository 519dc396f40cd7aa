-- Values that are there, values behind references, and truth values.
use Rattle.std.proofs.Common.{◌≡◌, ℕ, Bool, true, false, eqb, inl, inr, Option, Some, None, Result, Ok, Err, option_copied, option_map, refl, ap, sym, ◌∙◌, ◌≢◌, subst}
use Rattle.std.specs.Borrow.{Bor}
use Rattle.std.specs.Prelude.{IsSome, is_none, IfErr}
use Rattle.std.specs.Option.{option_or}
use Rattle.std.proofs.lemmas.Bool.{cases_eq, eq-eqb, false≢true, ne_eqb}

-- where there is a value, this is it
pub IsSome-value : {X : Type 0} (o : Option X) → IsSome o → (x : X) × (o ≡ Some x)
IsSome-value None some = absurd (false≢true some)
IsSome-value (Some x) some = (x, refl)

-- what is seen of an item behind a reference
pub copied-map : {A B : Type 0} (f : A → B) (o : Option (Bor A)) → option_map (λ (x : Bor A). f x.now) o ≡ option_map f (option_copied o)
copied-map f None = refl
copied-map f (Some x) = refl

-- where one of two values is to be taken and there is none, neither is there
pub option_or-none_left : {X : Type 0} (a b : Option X) → option_or a b ≡ None → a ≡ None
option_or-none_left None b e = refl
option_or-none_left (Some x) b e = absurd cc

pub option_or-none_right : {X : Type 0} (a b : Option X) → option_or a b ≡ None → b ≡ None
option_or-none_right None b e = e
option_or-none_right (Some x) b e = absurd cc

pub None-from_is_none : {X : Type 0} (o : Option X) → is_none o ≡ true → o ≡ None
None-from_is_none None e = refl
None-from_is_none (Some x) e = absurd cc

-- truth values of which each gives the other
pub same_Bool : (a b : Bool) → (a ≡ true → b ≡ true) → (b ≡ true → a ≡ true) → a ≡ b
same_Bool true b there back = sym (there refl)
same_Bool false true there back = back refl
same_Bool false false there back = refl

pub eqb-sym : (a b : ℕ) → eqb a b ≡ eqb b a
eqb-sym a b = elim (cases_eq a b) [
  | inl e ↦ eq-eqb a b e ∙ sym (eq-eqb b a (sym e))
  | inr ne ↦ ne_eqb a b ne ∙ sym (ne_eqb b a (λ e. ne (sym e)))
]

-- the value of what is done
pub same_Ok : {A E : Type 0} (x y : A) → (let r : Result A E = Ok x in r) ≡ Ok y → x ≡ y
same_Ok {A} {E} x y e = ap held e
  where
    held : Result A E → A
    held (Ok a) = a
    held (Err a) = x

-- what is done has not failed
pub done_not_failed : {A E : Type 0} (x : A) (e : E) → (let r : Result A E = Ok x in r) ≢ Err e
done_not_failed {A} {E} x e same = subst (λ (r : Result A E). IfErr r (λ _. ⊥)) same tt

pub option_or-none : {A : Type 0} (o : Option A) → option_or o None ≡ o
option_or-none (Some x) = refl
option_or-none None = refl
