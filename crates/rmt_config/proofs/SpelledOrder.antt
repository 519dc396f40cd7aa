-- An order that goes on from item to item is decided on neighbours; and the ranks that are told of entries.
use Rattle.std.proofs.Common.{◌≡◌, ◌⊎◌, inl, inr, ℕ, ◌+◌, ◌<◌, ◌≤◌, List, [], ◌∷◌, length, get_or, drop, Bool, true, false, ◌&&◌, ltb, eqb, refl, sym, ap, ◌∙◌, arith}
use Rattle.std.specs.List.{list_all}
use Rattle.std.proofs.lemmas.List.{drop_all}
use Rattle.std.proofs.lemmas.Bool.{and_parts, and_from, or_cases, or_left, or_right, ltb-true, eqb-true, lt-ltb, eq-eqb, false≢true}
use Rattle.rmt_ast.specs.declared.names.RankOf.{RankOf}
use Rattle.rmt_ast.specs.Naming.{stands_first}
use Rattle.rmt_config.specs.NamesForm.{each_later}
use Rattle.rmt_config.proofs.RiseLaws.{one_off}

-- ---- neighbours

abbrev pub GoesOn : {A : Type 0} → (A → A → Bool) → Type 0
GoesOn {A} R = (a b c : A) → R a b ≡ true → R b c ≡ true → R a c ≡ true

all-behind : {A : Type 0} (R : A → A → Bool) → GoesOn R → (x y : A) (ys : List A) → R x y ≡ true → list_all (R y) ys ≡ true → list_all (R x) ys ≡ true
all-behind R on x y [] first all = refl
all-behind R on x y (z ∷ zs) first all =
    let parts = and_parts (R y z) (list_all (R y) zs) all in
    and_from (R x z) (list_all (R x) zs) (on x y z first parts.0) (all-behind R on x y zs first parts.1)

both-kept : (p q r s : Bool) → (p ≡ true → r ≡ true → q ≡ true) → ((p && q) && (r && s)) ≡ (p && (r && s))
both-kept false q r s h = refl
both-kept true true r s h = refl
both-kept true false false s h = refl
both-kept true false true s h = absurd (false≢true (h refl refl))

pub later-near : {A : Type 0} (R : A → A → Bool) → GoesOn R → (x y : A) (ys : List A) → each_later R (x ∷ y ∷ ys) ≡ (R x y && each_later R (y ∷ ys))
later-near R on x y ys = both-kept (R x y) (list_all (R x) ys) (list_all (R y) ys) (each_later R ys) (all-behind R on x y ys)

pub later-at : {A : Type 0} (R : A → A → Bool) → GoesOn R → (xs : List A) (i : ℕ) (d : A) → i + 1 < length xs
    → each_later R (drop i xs) ≡ (R (get_or xs i d) (get_or xs (i + 1) d) && each_later R (drop (i + 1) xs))
later-at R on xs i d lt =
    let here = one_off xs i d (omega (arith, lt)) in
    let next = one_off xs (i + 1) d lt in
    let x = get_or xs i d in
    let y = get_or xs (i + 1) d in
    ap (each_later R) (here ∙ ap (λ zs. x ∷ zs) next) ∙ later-near R on x y (drop (i + 1 + 1) xs) ∙ ap (λ zs. R x y && each_later R zs) (sym next)

pub later-last : {A : Type 0} (R : A → A → Bool) (xs : List A) (i : ℕ) (d : A) → i < length xs → length xs ≤ i + 1 → each_later R (drop i xs) ≡ each_later R (drop (i + 1) xs)
later-last R xs i d lt le =
    let none : drop (i + 1) xs ≡ [] = drop_all (i + 1) xs le in
    ap (each_later R) (one_off xs i d lt ∙ ap (λ zs. get_or xs i d ∷ zs) none) ∙ ap (each_later R) (sym none)

-- ---- ranks

stands-cases : (a b : RankOf) → stands_first a b ≡ true → (a.rank < b.rank) ⊎ ((a.rank ≡ b.rank) × (a.number < b.number))
stands-cases a b h = elim (or_cases (ltb a.rank b.rank) (eqb a.rank b.rank && ltb a.number b.number) h) [
  | inl lt ↦ inl (ltb-true a.rank b.rank lt)
  | inr same ↦ let parts = and_parts (eqb a.rank b.rank) (ltb a.number b.number) same in inr (eqb-true a.rank b.rank parts.0, ltb-true a.number b.number parts.1)
]

stands-less : (a b : RankOf) → a.rank < b.rank → stands_first a b ≡ true
stands-less a b lt = or_left (ltb a.rank b.rank) (eqb a.rank b.rank && ltb a.number b.number) (lt-ltb a.rank b.rank lt)

stands-same : (a b : RankOf) → a.rank ≡ b.rank → a.number < b.number → stands_first a b ≡ true
stands-same a b e lt =
    or_right (ltb a.rank b.rank) (eqb a.rank b.rank && ltb a.number b.number)
    (and_from (eqb a.rank b.rank) (ltb a.number b.number) (eq-eqb a.rank b.rank e) (lt-ltb a.number b.number lt))

pub stands-on : GoesOn stands_first
stands-on a b c h g = by (stands-cases a b h) (stands-cases b c g)
  where
    by : (a.rank < b.rank) ⊎ ((a.rank ≡ b.rank) × (a.number < b.number)) → (b.rank < c.rank) ⊎ ((b.rank ≡ c.rank) × (b.number < c.number)) → stands_first a c ≡ true
    by (inl x) (inl y) = stands-less a c (omega (arith, x, y))
    by (inl x) (inr y) = stands-less a c (omega (arith, x, y.0))
    by (inr x) (inl y) = stands-less a c (omega (arith, x.0, y))
    by (inr x) (inr y) = stands-same a c (x.0 ∙ y.0) (omega (arith, x.1, y.1))
