-- The order in which the entries of a table are looked at.
use Rattle.std.specs.Prelude.{ℕ, ◌-◌, ◌^◌, List}
use Rattle.std.specs.Ordering.{nat_cmp}
use Rattle.std.specs.List.Sorted.{IsPermutation, IsNonDecreasingBy, IsStableByKey}
use Rattle.rmt_ast.specs.declared.program.Kind.{Kind}
use Rattle.rmt_ast.specs.declared.program.Kind.TheVariants.{Keyless, Exact, Prefix, Ternary}
use Rattle.rmt_ast.specs.declared.entry.Entry.{Entry}

-- of the entries that match, one of the least weight is hit
abbrev pub weight_of : Kind → ℕ → ℕ
weight_of Keyless rank = 0
weight_of Exact rank = 0
weight_of Prefix rank = 2 ^ 32 - 1 - rank
weight_of Ternary rank = rank

-- the entries of a table by their weight; entries of one weight stand as before
pub record IsRanked (kind : Kind) (es ranked : List Entry) : Type 0 where
  pub same : IsPermutation es ranked
  pub by_weight : IsNonDecreasingBy (λ (e : Entry). weight_of kind e.rank) ranked
  pub stable : IsStableByKey (λ (e : Entry). weight_of kind e.rank) nat_cmp es ranked
