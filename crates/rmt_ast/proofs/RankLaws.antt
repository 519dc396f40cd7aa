-- Pairs in a set are ranks in order.
use Rattle.std.proofs.Common.{◌≡◌, Bool, true, false, ◌&&◌, ◌||◌, ◌==◌, cond, List, [], ◌∷◌, map, refl, ap, ◌∙◌}
use Rattle.std.specs.Prelude.{fold, nat_lt}
use Rattle.std.specs.BTreeSet.{insert_key}
use Rattle.std.specs.Ordering.{ordering_then, match_ordering}
use Rattle.std.specs.declared.cmp.Ordering.TheVariants.{Less, Equal, Greater}
use Rattle.rmt_ast.specs.declared.entry.Entry.{Entry}
use Rattle.rmt_ast.specs.declared.names.RankOf.{RankOf}
use Rattle.rmt_ast.specs.Naming.{ranks_in, rank_of, with_rank}
use Rattle.rmt_ast.specs.RankPairs.{pair_cmp, pairs_with, rank_of_pair, rank_pair}

insert-with_rank : (os : List RankOf) (r : RankOf) → insert_key pair_cmp (map rank_pair os) (rank_pair r) ≡ map rank_pair (with_rank os r)
insert-with_rank [] r = refl
insert-with_rank (o ∷ os) r = by (insert-with_rank os r) (nat_lt r.rank o.rank) (r.rank == o.rank) (nat_lt r.number o.number) (r.number == o.number)
  where
    by : insert_key pair_cmp (map rank_pair os) (rank_pair r) ≡ map rank_pair (with_rank os r) → (a b c d : Bool) → match_ordering (ordering_then (cond a Less (cond b Equal Greater)) (cond c Less (cond d Equal Greater)))
        (rank_pair r ∷ rank_pair o ∷ map rank_pair os) (rank_pair o ∷ map rank_pair os) (rank_pair o ∷ insert_key pair_cmp (map rank_pair os) (rank_pair r))
        ≡ map rank_pair (cond (a || (b && c)) (r ∷ o ∷ os) (cond (b && d) (o ∷ os) (o ∷ with_rank os r)))
    by rest true b c d = refl
    by rest false true true d = refl
    by rest false true false true = refl
    by rest false true false false = ap (λ ps. rank_pair o ∷ ps) rest
    by rest false false c d = ap (λ ps. rank_pair o ∷ ps) rest

pairs-ranks : (os : List RankOf) (es : List Entry) → pairs_with (map rank_pair os) es ≡ map rank_pair (fold (λ ranks e. with_rank ranks (rank_of e)) os es)
pairs-ranks os [] = refl
pairs-ranks os (e ∷ es) = ap (λ ps. pairs_with ps es) (insert-with_rank os (rank_of e)) ∙ pairs-ranks (with_rank os (rank_of e)) es

pub pairs-ranks_in : (es : List Entry) → pairs_with [] es ≡ map rank_pair (ranks_in es)
pairs-ranks_in es = pairs-ranks [] es

pub rank_of_pair-map : (os : List RankOf) → map rank_of_pair (map rank_pair os) ≡ os
rank_of_pair-map [] = refl
rank_of_pair-map (o ∷ os) = ap (λ rs. o ∷ rs) (rank_of_pair-map os)
