-- Values that were made and added to lists.
use Rattle.std.specs.Prelude.{Err, IfOk, IsOk, Ok, Result}
use Rattle.std.proofs.lemmas.Bool.{false≢true}

-- a value that was made, what is known of it, and what of the list to which it was added
pub added : {A E : Type 0} (made : Result A E) (P Q : A → Type 0) → IfOk made P → IsOk made × IfOk made Q → (x : A) × P x × Q x
added (Ok x) P Q known is = (x, known, is.1)
added (Err e) P Q known is = absurd (false≢true is.0)
