-- Places by lists of numbers.
use Rattle.std.specs.Prelude.{◌≡◌, ℕ, ◌==◌, Bool, List, length, Option, Some, if◌then◌else◌, slice_index}
use Rattle.std.specs.Ordering.{nat_cmp, is_eq}
use Rattle.std.specs.Cmp.Lexicographic.{slice_cmp}
use Rattle.std.specs.BTreeMap.{get, get_by}
use Rattle.rmt_bits.specs.declared.places.Places.{Places}

-- whether two lists of numbers are the same
abbrev pub are_same : List ℕ → List ℕ → Bool
are_same xs ys = is_eq (slice_cmp nat_cmp xs ys)

-- the place of a list; a list of one number is found by that number
abbrev pub place_of : Places → List ℕ → Option ℕ
place_of p vs = if length vs == 1 then get nat_cmp p.ones (slice_index vs 0) else get_by (λ k. slice_cmp nat_cmp vs k.items) p.others

-- a list got a place, and all others have theirs as before
abbrev pub HasPut : List ℕ → ℕ → Places → Places → Type 0
HasPut vs at old new = (ws : List ℕ) → place_of new ws ≡ (if are_same ws vs then Some at else place_of old ws)
