-- Whether a number is among others, and the order of lists of numbers.
use Rattle.std.specs.Prelude.{ℕ, ◌==◌, Bool, List, Vec}
use Rattle.std.specs.List.{list_any}
use Rattle.std.specs.Cmp.Lexicographic.{slice_cmp}
use Rattle.std.specs.Ordering.{nat_cmp}
use Rattle.std.specs.declared.cmp.Ordering.{Ordering}
use Rattle.std.specs.Global.{Global}

-- a number is among others
abbrev pub is_among : List ℕ → ℕ → Bool
is_among ns n = list_any (λ m. m == n) ns

-- the order of lists of numbers that a set has
abbrev pub by_numbers : Vec ℕ Global → Vec ℕ Global → Ordering
by_numbers x y = slice_cmp nat_cmp x.items y.items
