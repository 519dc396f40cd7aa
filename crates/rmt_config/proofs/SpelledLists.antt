-- Lists as they are gone over.
use Rattle.std.proofs.Common.{◌≡◌, ℕ, ◌<◌, List, length, get_or, Bool, true, ap, ◌∙◌}
use Rattle.std.specs.List.{list_all}
use Rattle.std.proofs.lemmas.List.Sums.{AllPass-from_list_all}

-- an item of a list keeps a rule of all
pub item-passes : {A : Type 0} (p : A → Bool) (xs : List A) (i : ℕ) (x d : A) → i < length xs → x ≡ get_or xs i d → list_all p xs ≡ true → p x ≡ true
item-passes p xs i x d lt is all = ap p is ∙ AllPass-from_list_all p xs all i d lt
