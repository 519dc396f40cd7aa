-- How ranks are kept while they are put in order: helpers of the proofs.
use Rattle.std.specs.Prelude.{ℕ, List, fold}
use Rattle.std.specs.BTreeSet.{insert_key}
use Rattle.std.specs.Ordering.{nat_cmp, ordering_then}
use Rattle.std.specs.declared.cmp.Ordering.{Ordering}
use Rattle.rmt_ast.specs.declared.entry.Entry.{Entry}
use Rattle.rmt_ast.specs.declared.names.RankOf.{RankOf}

-- a rank before its number
abbrev pub rank_pair : RankOf → ℕ × ℕ
rank_pair r = (r.rank, r.number)

abbrev pub rank_of_pair : ℕ × ℕ → RankOf
rank_of_pair p = record { number = p.1; rank = p.0 }

-- the order of pairs: by the first number, and then by the second
abbrev pub pair_cmp : ℕ × ℕ → ℕ × ℕ → Ordering
pair_cmp a b = ordering_then (nat_cmp a.0 b.0) (nat_cmp a.1 b.1)

-- ranks in order with those of entries
abbrev pub pairs_with : List (ℕ × ℕ) → List Entry → List (ℕ × ℕ)
pairs_with pairs es = fold (λ ps (e : Entry). insert_key pair_cmp ps (e.rank, e.number)) pairs es
