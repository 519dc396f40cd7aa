-- Names tell few ranks: at most one for each entry of a ternary table.
use Rattle.std.proofs.Common.{ℕ, ◌+◌, ◌≤◌, ◌==◌, ◌||◌, ◌&&◌, Bool, true, false, cond, List, [], ◌∷◌, length, get_or, arith}
use Rattle.std.specs.Prelude.{fold, nat_lt}
use Rattle.std.specs.List.{range_with_len, sum_by}
use Rattle.std.proofs.lemmas.List.Sums.{sum_by-cons, sum_by-le, sum_by-le-sum_by}
use Rattle.rmt_core.specs.Types.{Program}
use Rattle.rmt_ast.specs.declared.entry.Entry.{Entry}
use Rattle.rmt_ast.specs.declared.names.RankOf.{RankOf}
use Rattle.rmt_ast.specs.Naming.{rank_of, ranks_in, with_rank}
use Rattle.rmt_entries.specs.Entries.{entries_at}
use Rattle.rmt_core.proofs.size.Lines.{rank_weight}
use Rattle.rmt_core.proofs.size.Sums.{one_most, only, sum_by-both}
use Rattle.rmt_core.proofs.size.Tables.{is_ranked}

-- ---- the ranks of one table

one_rank_more : (os : List RankOf) (r : RankOf) → length (with_rank os r) ≤ length os + 1
one_rank_more [] r = omega arith
one_rank_more (o ∷ os) r = by (nat_lt r.rank o.rank) (r.rank == o.rank) (nat_lt r.number o.number) (r.number == o.number) (one_rank_more os r)
  where
    by : (a b c d : Bool) → length (with_rank os r) ≤ length os + 1
        → length (cond (a || (b && c)) (r ∷ o ∷ os) (cond (b && d) (o ∷ os) (o ∷ with_rank os r))) ≤ length (o ∷ os) + 1
    by true b c d rest = omega arith
    by false true true d rest = omega arith
    by false true false true rest = omega arith
    by false true false false rest = omega (arith, rest)
    by false false c d rest = omega (arith, rest)

ranks_behind : (os : List RankOf) (es : List Entry) → length (fold (λ ranks e. with_rank ranks (rank_of e)) os es) ≤ length os + length es
ranks_behind os [] = omega arith
ranks_behind os (e ∷ es) = omega (arith, ranks_behind (with_rank os (rank_of e)) es, one_rank_more os (rank_of e))

-- at most one for each entry
pub ranks_few : (es : List Entry) → length (ranks_in es) ≤ length es
ranks_few es = omega (arith, ranks_behind [] es)

-- ---- those of all tables

-- the entries of the table that a node applies, where they have ranks
abbrev pub ranked_entries : Program → List Entry → ℕ → ℕ
ranked_entries p es n = cond (is_ranked p n) (length (entries_at es n)) 0

abbrev one_if_ranked : Program → ℕ → ℕ
one_if_ranked p n = cond (is_ranked p n) 1 0

one_entry : (p : Program) (e : Entry) (es : List Entry) (n : ℕ) → ranked_entries p (e ∷ es) n ≤ only (one_if_ranked p) e.table n + ranked_entries p es n
one_entry p e es n = by (is_ranked p n) (n == e.table)
  where
    by : (ranked here : Bool) → cond ranked (length (cond here (e ∷ entries_at es n) (entries_at es n))) 0 ≤ cond here (cond ranked 1 0) 0 + cond ranked (length (entries_at es n)) 0
    by true true = omega arith
    by true false = omega arith
    by false true = omega arith
    by false false = omega arith

none_ranked : (p : Program) (n : ℕ) → ranked_entries p [] n ≤ 0
none_ranked p n = by (is_ranked p n)
  where
    by : (b : Bool) → cond b (length (entries_at [] n)) 0 ≤ 0
    by true = omega arith
    by false = omega arith

-- each entry is of one node
pub ranked_few : (p : Program) (es : List Entry) (nodes : ℕ) → sum_by (ranked_entries p es) (range_with_len 0 nodes) ≤ sum_by (rank_weight p) es
ranked_few p [] nodes =
    let none = sum_by-le (ranked_entries p []) 0 (range_with_len 0 nodes) (λ k d lt. none_ranked p (get_or (range_with_len 0 nodes) k d)) in
    omega (arith, none)
ranked_few p (e ∷ es) nodes =
    let numbers = range_with_len 0 nodes in
    let each = sum_by-le-sum_by (ranked_entries p (e ∷ es)) (λ n. only (one_if_ranked p) e.table n + ranked_entries p es n) numbers (one_entry p e es) in
    let both = sum_by-both (only (one_if_ranked p) e.table) (ranked_entries p es) numbers in
    let own = one_most (one_if_ranked p) e.table 0 nodes in
    omega (arith, each, both, own, ranked_few p es nodes, sum_by-cons (rank_weight p) e es)
