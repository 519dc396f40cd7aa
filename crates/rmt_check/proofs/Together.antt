-- What values are that were made together, where there was memory for all of them.
use Rattle.std.proofs.Common.{◌≡◌, Result, Ok, Err, IfOk, IsOk, OnOk, sym, subst}
use Rattle.std.proofs.lemmas.Bool.{false≢true}

-- what holds of a value that was made
pub held : {A E : Type 0} (P : A → Type 0) (r : Result A E) (x : A) → r ≡ Ok x → IfOk r P → P x
held P r x e h = subst (λ s. IfOk s P) e h

pub first_made : {A B E : Type 0} (first : Result A E) (both : Result (A × B) E) (x : A) (y : B) → both ≡ Ok (x, y) → IfOk both (λ (b : A × B). first ≡ Ok b.0) → first ≡ Ok x
first_made {A} {B} first both x y e h = held (λ (b : A × B). first ≡ Ok b.0) both (x, y) e h

pub second_made : {A B E : Type 0} (second : Result B E) (both : Result (A × B) E) (x : A) (y : B) → both ≡ Ok (x, y) → IfOk both (λ (b : A × B). second ≡ Ok b.1) → second ≡ Ok y
second_made {A} {B} second both x y e h = held (λ (b : A × B). second ≡ Ok b.1) both (x, y) e h

-- what was done with a value that is kept holds of it
pub kept_holds : {A B E : Type 0} (P : A → Type 0) (result : Result A E) (done : Result B E) (value : A) → IfOk result (λ (x : A). IsOk done × (x ≡ value)) → OnOk done (P value) → IfOk result P
kept_holds P (Ok x) (Ok u) value h p = subst P (sym h.1) p
kept_holds P (Ok x) (Err e) value h p = absurd (false≢true h.0)
kept_holds P (Err e) done value h p = tt
