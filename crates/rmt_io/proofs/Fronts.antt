-- Fronts of lists that may be whole.
use Rattle.std.proofs.Common.{◌≡◌, ℕ, ◌<◌, List, Option, Some, None, length, take, option_map, IfSome, ap, arith, ◌∙◌, take_all}
use Rattle.std.proofs.lemmas.List.{length-take}

-- a front of so many that is shorter is the whole list
pub front_is_whole : (most : ℕ) (xs ys : List ℕ) → ys ≡ take most xs → length ys < most → ys ≡ xs
front_is_whole most xs ys e short =
    let len = ap length e ∙ length-take most xs in
    e ∙ take_all most xs (omega (arith, len, short))

-- the same where the list may be unknown
pub front_is_known : (most : ℕ) (known : Option (List ℕ)) (ys : List ℕ) → IfSome (option_map (take most) known) (λ xs. ys ≡ xs) → length ys < most → IfSome known (λ xs. ys ≡ xs)
front_is_known most None ys e short = tt
front_is_known most (Some xs) ys e short = front_is_whole most xs ys e short
