-- Ranks in order are one list: that of the ranks of the entries as they stand in rows.
use Rattle.std.proofs.Common.{◌≡◌, ◌<◌, ◌∙◌, cond, Bool, true, false, ◌&&◌, ◌==◌, List, [], ◌∷◌, map, get_or, refl, sym, ap, subst, ◌⊎◌, inl, inr, arith}
use Rattle.std.specs.Prelude.{All, AllPairs, Contains, fold, ⊤}
use Rattle.std.proofs.lemmas.Bool.{and_parts, eqb-true}
use Rattle.std.proofs.lemmas.Bool.Decides.{nat_tests}
use Rattle.std.proofs.lemmas.List.Elements.{All-cons, All-contains, All-head, All-nil, All-tail, All-weaker}
use Rattle.rmt_bits.proofs.MemberLaws.{Contains-first, Contains-later, Contains-split, Contains-unmap}
use Rattle.rmt_bits.proofs.PairLaws.{AllPairs-head, AllPairs-tail}
use Rattle.rmt_ast.specs.declared.entry.Entry.{Entry}
use Rattle.rmt_ast.specs.declared.names.RankOf.{RankOf}
use Rattle.rmt_ast.specs.Naming.{rank_of, ranks_in, stands_first, with_rank}

-- ---- the order of ranks

-- a rank stands before another
abbrev pub StandsFirst : RankOf → RankOf → Type 0
StandsFirst a b = (a.rank < b.rank) ⊎ ((a.rank ≡ b.rank) × (a.number < b.number))

chain : (a b c : RankOf) → StandsFirst a b → StandsFirst b c → StandsFirst a c
chain a b c (inl x) (inl y) = inl (omega (arith, x, y))
chain a b c (inl x) (inr y) = let e = y.0 in inl (omega (arith, x, e))
chain a b c (inr x) (inl y) = let e = x.0 in inl (omega (arith, y, e))
chain a b c (inr x) (inr y) = let l = x.1 in let m = y.1 in inr (x.0 ∙ y.0, omega (arith, l, m))

never : (a : RankOf) → StandsFirst a a → ⊥
never a (inl lt) = omega (arith, lt)
never a (inr both) = let lt = both.1 in omega (arith, lt)

abbrev are_one : RankOf → RankOf → Bool
are_one r o = (r.rank == o.rank) && (r.number == o.number)

one_rank : (r o : RankOf) → are_one r o ≡ true → r ≡ o
one_rank r o e =
    let both = and_parts (r.rank == o.rank) (r.number == o.number) e in
    ap (λ x. record { number = r.number; rank = x }) (eqb-true r.rank o.rank both.0) ∙ ap (λ x. record { number = x; rank = o.rank }) (eqb-true r.number o.number both.1)

first_before : (r o : RankOf) → stands_first r o ≡ true → StandsFirst r o
first_before r o h = grind (arith, nat_tests)

-- what neither stands first nor is the same comes behind
else_behind : (r o : RankOf) → stands_first r o ≡ false → are_one r o ≡ false → StandsFirst o r
else_behind r o first one = grind (arith, nat_tests)

-- each rank before the later ones
abbrev pub InOrder : List RankOf → Type 0
InOrder [] = ⊤
InOrder (r ∷ rs) = All (StandsFirst r) rs × InOrder rs

pub in_order : (rs : List RankOf) → AllPairs StandsFirst rs → InOrder rs
in_order [] h = tt
in_order (r ∷ rs) h = (AllPairs-head StandsFirst r rs h, in_order rs (AllPairs-tail StandsFirst r rs h))

-- ---- one more rank

all_with : (P : RankOf → Type 0) (os : List RankOf) (r : RankOf) → All P os → P r → All P (with_rank os r)
all_with P [] r all own = All-cons P r [] own all
all_with P (o ∷ os) r all own = by (all_with P os r (All-tail P o os all) own) (stands_first r o) (are_one r o)
  where
    by : All P (with_rank os r) → (a b : Bool) → All P (cond a (r ∷ o ∷ os) (cond b (o ∷ os) (o ∷ with_rank os r)))
    by rest true b = All-cons P r (o ∷ os) own all
    by rest false true = all
    by rest false false = All-cons P o (with_rank os r) (All-head P o os all) rest

order_with : (os : List RankOf) (r : RankOf) → InOrder os → InOrder (with_rank os r)
order_with [] r h = (All-nil (StandsFirst r), tt)
order_with (o ∷ os) r h = by (order_with os r h.1) (stands_first r o) (are_one r o) refl refl
  where
    by : InOrder (with_rank os r) → (a b : Bool) → stands_first r o ≡ a → are_one r o ≡ b → InOrder (cond a (r ∷ o ∷ os) (cond b (o ∷ os) (o ∷ with_rank os r)))
    by rest true b first one =
        let before = first_before r o first in
        (All-cons (StandsFirst r) o os before (All-weaker (StandsFirst o) (StandsFirst r) (λ x next. chain r o x before next) os h.0), h)
    by rest false true first one = h
    by rest false false first one = (all_with (StandsFirst o) os r h.0 (else_behind r o first one), rest)

kept_with : (os : List RankOf) (r x : RankOf) → Contains os x → Contains (with_rank os r) x
kept_with [] r x there = absurd (let lt = there.1 in omega (arith, lt))
kept_with (o ∷ os) r x there = by (kept_with os r x) (stands_first r o) (are_one r o)
  where
    by : (Contains os x → Contains (with_rank os r) x) → (a b : Bool) → Contains (cond a (r ∷ o ∷ os) (cond b (o ∷ os) (o ∷ with_rank os r))) x
    by rest true b = Contains-later r (o ∷ os) x there
    by rest false true = there
    by rest false false = elim (Contains-split o os x there) [
      | inl is ↦ subst (Contains (o ∷ with_rank os r)) is (Contains-first o (with_rank os r))
      | inr later ↦ Contains-later o (with_rank os r) x (rest later)
    ]

put_with : (os : List RankOf) (r : RankOf) → Contains (with_rank os r) r
put_with [] r = Contains-first r []
put_with (o ∷ os) r = by (put_with os r) (stands_first r o) (are_one r o) refl
  where
    by : Contains (with_rank os r) r → (a b : Bool) → are_one r o ≡ b → Contains (cond a (r ∷ o ∷ os) (cond b (o ∷ os) (o ∷ with_rank os r))) r
    by rest true b one = Contains-first r (o ∷ os)
    by rest false true one = subst (Contains (o ∷ os)) (sym (one_rank r o one)) (Contains-first o os)
    by rest false false one = Contains-later o (with_rank os r) r rest

-- ---- the ranks of entries

abbrev with_all : List RankOf → List Entry → List RankOf
with_all os es = fold (λ ranks (e : Entry). with_rank ranks (rank_of e)) os es

all_order : (os : List RankOf) (es : List Entry) → InOrder os → InOrder (with_all os es)
all_order os [] h = h
all_order os (e ∷ es) h = all_order (with_rank os (rank_of e)) es (order_with os (rank_of e) h)

all_have : (P : RankOf → Type 0) (os : List RankOf) (es : List Entry) → All P os → All (λ (e : Entry). P (rank_of e)) es → All P (with_all os es)
all_have P os [] all own = all
all_have P os (e ∷ es) all own =
    all_have P (with_rank os (rank_of e)) es (all_with P os (rank_of e) all (All-head (λ (x : Entry). P (rank_of x)) e es own)) (All-tail (λ (x : Entry). P (rank_of x)) e es own)

all_kept : (os : List RankOf) (es : List Entry) (x : RankOf) → Contains os x → Contains (with_all os es) x
all_kept os [] x there = there
all_kept os (e ∷ es) x there = all_kept (with_rank os (rank_of e)) es x (kept_with os (rank_of e) x there)

all_put : (os : List RankOf) (es : List Entry) (e : Entry) → Contains es e → Contains (with_all os es) (rank_of e)
all_put os [] e there = absurd (let lt = there.1 in omega (arith, lt))
all_put os (y ∷ es) e there = elim (Contains-split y es e there) [
  | inl is ↦ all_kept (with_rank os (rank_of y)) es (rank_of e) (subst (λ (z : Entry). Contains (with_rank os (rank_of y)) (rank_of z)) is (put_with os (rank_of y)))
  | inr later ↦ all_put (with_rank os (rank_of y)) es e later
]

-- ---- two lists in order with the same ranks are one

later_there : (x y : RankOf) (xs ys : List RankOf) → x ≡ y → All (StandsFirst x) xs → All (Contains (y ∷ ys)) xs → All (Contains ys) xs
later_there x y xs ys same before all i d lt = elim (Contains-split y ys (get_or xs i d) (all i d lt)) [
  | inl is ↦ absurd (never (get_or xs i d) (subst (λ z. StandsFirst z (get_or xs i d)) (same ∙ is) (before i d lt)))
  | inr later ↦ later
]

same_ranks : (xs ys : List RankOf) → InOrder xs → InOrder ys → All (Contains ys) xs → All (Contains xs) ys → xs ≡ ys
same_ranks [] [] h g p q = refl
same_ranks [] (y ∷ ys) h g p q = absurd (let there = All-head (Contains []) y ys q in let lt = there.1 in omega (arith, lt))
same_ranks (x ∷ xs) [] h g p q = absurd (let there = All-head (Contains []) x xs p in let lt = there.1 in omega (arith, lt))
same_ranks (x ∷ xs) (y ∷ ys) h g p q =
    let same : x ≡ y = first in
    ap (λ z. z ∷ xs) same
    ∙ ap (λ zs. y ∷ zs)
    (same_ranks xs ys h.1 g.1 (later_there x y xs ys same h.0 (All-tail (Contains (y ∷ ys)) x xs p)) (later_there y x ys xs (sym same) g.0 (All-tail (Contains (x ∷ xs)) y ys q)))
  where
    first : x ≡ y
    first = elim (Contains-split y ys x (All-head (Contains (y ∷ ys)) x xs p)) [
      | inl is ↦ sym is
      | inr in_ys ↦ elim (Contains-split x xs y (All-head (Contains (x ∷ xs)) y ys q)) [
        | inl is ↦ is
        | inr in_xs ↦ absurd (never x (chain x y x (All-contains (StandsFirst x) xs y h.0 in_xs) (All-contains (StandsFirst y) ys x g.0 in_ys)))
      ]
    ]

-- the ranks of entries are the list in order that has them all and no other
pub ranks_are : (es : List Entry) (rs : List RankOf) → InOrder rs → All (Contains (map rank_of es)) rs → All (λ (e : Entry). Contains rs (rank_of e)) es → ranks_in es ≡ rs
ranks_are es rs order own all =
    same_ranks (ranks_in es) rs (all_order [] es tt) order (all_have (Contains rs) [] es (All-nil (Contains rs)) all)
    (λ i d lt.
    (let e = Contains-unmap rank_of es (get_or rs i d) (own i d lt) in
    subst (Contains (ranks_in es)) e.2 (all_put [] es e.0 e.1)))
