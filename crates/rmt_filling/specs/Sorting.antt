-- Numbers of a list with their places, sorted.
use Rattle.std.specs.Prelude.{ℕ, ◌+◌, ◌-◌, ◌*◌, ◌^◌, List, [], ◌∷◌}
use Rattle.std.specs.List.Sorted.{IsNonDecreasingBy, IsPermutation}
use Rattle.rmt_filling.specs.Types.{Kind}
use Rattle.rmt_ast.specs.declared.program.Kind.TheVariants.{Keyless, Exact, Prefix, Ternary}
use Rattle.rmt_ast.specs.declared.entry.Entry.{Entry}
use Rattle.rmt_filling.specs.declared.stands.Stand.{Stand}

-- the numbers of a list as cells, each with its place in the list, where the first one has place n
abbrev pub placed_from : ℕ → List ℕ → List Stand
placed_from n [] = []
placed_from n (x ∷ xs) = record { cell = x; entry = n } ∷ placed_from (n + 1) xs

-- a number by which they are sorted: by cell, and then by place
abbrev pub order_by : Stand → ℕ
order_by s = s.cell * 2 ^ 32 + s.entry

-- the numbers of a list with their places, sorted
pub record AreSorted (numbers : List ℕ) (stands : List Stand) : Type 0 where
  pub same : IsPermutation (placed_from 0 numbers) stands
  pub sorted : IsNonDecreasingBy order_by stands

-- the same places in one cell behind another, from cell n on
abbrev pub rows_from : ℕ → List Stand → List Stand
rows_from n [] = []
rows_from n (s ∷ ss) = record { cell = n; entry = s.entry } ∷ rows_from (n + 1) ss

-- what goes first: of prefixes the longest, of ternary entries that of the least priority number
abbrev pub rank_in : Kind → Entry → ℕ
rank_in Keyless e = e.rank
rank_in Exact e = e.rank
rank_in Prefix e = 2 ^ 32 - 1 - e.rank
rank_in Ternary e = e.rank
