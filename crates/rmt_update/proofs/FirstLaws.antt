-- Which entries of a prefix or ternary table go first, how many do, and the numbers by which they are put into rows.
use Rattle.std.proofs.Common.{◌≡◌, ◌≢◌, ◌⊎◌, ℕ, ◌+◌, ◌-◌, ◌*◌, ◌^◌, ◌<◌, ◌==◌, Bool, true, false, ◌&&◌, ◌||◌, cond, List, [], ◌∷◌, length, map, get_or, All, Contains, refl, sym, ap, ◌∙◌, subst, inl, inr, arith}
use Rattle.std.specs.Prelude.{count_by, nat_lt}
use Rattle.std.specs.List.Sorted.{IsPermutation}
use Rattle.std.proofs.lemmas.Bool.{and_from, and_parts, cases_lt, eq-eqb, eqb-true, false≢true, false_from_ne_true, lt-ltb, ltb-true, or_cases, or_left, or_right}
use Rattle.std.proofs.lemmas.List.Elements.{All-head, All-tail}
use Rattle.std.proofs.lemmas.List.Sorted.{sum_by-IsPermutation}
use Rattle.std.proofs.lemmas.List.Sums.{count_by-le-length, sum_by-cons}
use Rattle.rmt_bits.proofs.AlikeLaws.{map_alike}
use Rattle.rmt_bits.proofs.ListLaws.{sum_by-map}
use Rattle.rmt_bits.proofs.OptionLaws.{same_Bool}
use Rattle.rmt_ast.specs.declared.entry.Entry.{Entry}
use Rattle.rmt_ast.specs.declared.program.Kind.{Kind}
use Rattle.rmt_ast.specs.declared.program.Kind.TheVariants as kind
use Rattle.rmt_ast.specs.RowOrder.{goes_first}
use Rattle.rmt_pack.proofs.RoomOrderLaws.{count_one_less, fewer_first}
use Rattle.rmt_pack.proofs.RankLaws.{IsRowKind}
use Rattle.rmt_book.specs.Spots.{order_by}

-- one is less than the other, or two are equal and a further one is less
abbrev Less : ℕ → ℕ → ℕ → ℕ → ℕ → ℕ → Type 0
Less p q x y n m = (p < q) ⊎ ((x ≡ y) × (n < m))

less : (p q x y n m : ℕ) → (nat_lt p q || ((x == y) && nat_lt n m)) ≡ true → Less p q x y n m
less p q x y n m h = elim (or_cases (nat_lt p q) ((x == y) && nat_lt n m) h) [
  | inl lt ↦ inl (ltb-true p q lt)
  | inr both ↦ let r = and_parts (x == y) (nat_lt n m) both in inr (eqb-true x y r.0, ltb-true n m r.1)
]

is-less : (p q x y n m : ℕ) → Less p q x y n m → (nat_lt p q || ((x == y) && nat_lt n m)) ≡ true
is-less p q x y n m (inl lt) = or_left (nat_lt p q) ((x == y) && nat_lt n m) (lt-ltb p q lt)
is-less p q x y n m (inr both) = or_right (nat_lt p q) ((x == y) && nat_lt n m) (and_from (x == y) (nat_lt n m) (eq-eqb x y both.0) (lt-ltb n m both.1))

-- the longer prefix or the less priority, and then the less number
abbrev IsFirst : Kind → Entry → Entry → Type 0
IsFirst kind.Keyless a b = ⊥
IsFirst kind.Exact a b = ⊥
IsFirst kind.Prefix a b = Less b.rank a.rank a.rank b.rank a.number b.number
IsFirst kind.Ternary a b = Less a.rank b.rank a.rank b.rank a.number b.number

first-is : (k : Kind) (a b : Entry) → goes_first k a b ≡ true → IsFirst k a b
first-is kind.Keyless a b h = absurd (false≢true h)
first-is kind.Exact a b h = absurd (false≢true h)
first-is kind.Prefix a b h = less b.rank a.rank a.rank b.rank a.number b.number h
first-is kind.Ternary a b h = less a.rank b.rank a.rank b.rank a.number b.number h

is-first : (k : Kind) (a b : Entry) → IsFirst k a b → goes_first k a b ≡ true
is-first kind.Keyless a b h = absurd h
is-first kind.Exact a b h = absurd h
is-first kind.Prefix a b h = is-less b.rank a.rank a.rank b.rank a.number b.number h
is-first kind.Ternary a b h = is-less a.rank b.rank a.rank b.rank a.number b.number h

never : (k : Kind) (a : Entry) → IsFirst k a a → ⊥
never kind.Keyless a h = h
never kind.Exact a h = h
never kind.Prefix a (inl lt) = omega (arith, lt)
never kind.Prefix a (inr both) = let lt = both.1 in omega (arith, lt)
never kind.Ternary a (inl lt) = omega (arith, lt)
never kind.Ternary a (inr both) = let lt = both.1 in omega (arith, lt)

-- of two entries with different numbers one goes first
one-goes : (p q x y n m : ℕ) → (p ≡ q → x ≡ y) → n < m → Less p q x y n m ⊎ Less q p y x m n
one-goes p q x y n m same lt = elim (cases_lt p q) [
  | inl less ↦ inl (inl less)
  | inr ge ↦ elim (cases_lt q p) [
    | inl more ↦ inr (inl more)
    | inr le ↦ inl (inr (same (omega (arith, ge, le)), lt))
  ]
]

either : (k : Kind) (a b : Entry) → IsRowKind k → a.number < b.number → IsFirst k a b ⊎ IsFirst k b a
either k a b (inl is) lt = subst (λ j. IsFirst j a b ⊎ IsFirst j b a) (sym is) (one-goes b.rank a.rank a.rank b.rank a.number b.number (λ e. sym e) lt)
either k a b (inr is) lt = subst (λ j. IsFirst j a b ⊎ IsFirst j b a) (sym is) (one-goes a.rank b.rank a.rank b.rank a.number b.number (λ e. e) lt)

-- ---- how many go first

abbrev one_if : Bool → ℕ
one_if b = cond b 1 0

module _ (k : Kind) (es : List Entry) where
  -- how many of the entries go before one
  abbrev pub firsts : Entry → ℕ
  firsts e = count_by (λ f. goes_first k f e) es

  not-first : (e : Entry) → goes_first k e e ≡ false
  not-first e = false_from_ne_true (goes_first k e e) (λ h. never k e (first-is k e e h))

  -- fewer than there are
  pub firsts-within : (e : Entry) → Contains es e → firsts e < length es
  firsts-within e there =
      let lt = count_one_less (λ f. goes_first k f e) (λ f. true) (λ f h. refl) es e there (not-first e) refl in
      let le = count_by-le-length (λ (f : Entry). true) es in
      omega (arith, lt, le)

  -- an entry that goes before another has fewer before it
  fewer : (a b : Entry) → Contains es a → IsFirst k a b → firsts a < firsts b
  fewer a b there h = fewer_first k es a b there (is-first k a b h)

  -- so entries of different numbers have different ones
  pub firsts-differ : IsRowKind k → (a b : Entry) → Contains es a → Contains es b → a.number < b.number → firsts a ≡ firsts b → ⊥
  firsts-differ rowed a b in_a in_b lt same = elim (either k a b rowed lt) [
    | inl h ↦ let less = fewer a b in_a h in omega (arith, less, same)
    | inr h ↦ let less = fewer b a in_b h in omega (arith, less, same)
  ]

  -- and that which has fewer before it goes first
  pub goes-by-count : IsRowKind k → (a b : Entry) → Contains es a → Contains es b → a.number ≢ b.number → firsts a < firsts b → goes_first k a b ≡ true
  goes-by-count rowed a b in_a in_b differ less = elim (cases_lt a.number b.number) [
    | inl lt ↦ elim (either k a b rowed lt) [
      | inl h ↦ is-first k a b h
      | inr h ↦ let more = fewer b a in_b h in absurd (omega (arith, more, less))
    ]
    | inr ge ↦ elim (either k b a rowed (omega (arith, ge, differ))) [
      | inl h ↦ let more = fewer b a in_b h in absurd (omega (arith, more, less))
      | inr h ↦ is-first k a b h
    ]
  ]

-- ---- the numbers by which they are sorted

record Low (e : Entry) : Type 0 where
  rank : e.rank < 2 ^ 32
  number : e.number < 2 ^ 32

order-lexical : (p q n m : ℕ) → n < 2 ^ 32 → m < 2 ^ 32 → nat_lt (p * 2 ^ 32 + n) (q * 2 ^ 32 + m) ≡ (nat_lt p q || ((p == q) && nat_lt n m))
order-lexical p q n m low_n low_m = same_Bool (nat_lt (p * 2 ^ 32 + n) (q * 2 ^ 32 + m)) (nat_lt p q || ((p == q) && nat_lt n m)) there back
  where
    there : nat_lt (p * 2 ^ 32 + n) (q * 2 ^ 32 + m) ≡ true → (nat_lt p q || ((p == q) && nat_lt n m)) ≡ true
    there h =
        let lt = ltb-true (p * 2 ^ 32 + n) (q * 2 ^ 32 + m) h in
        is-less p q p q n m (elim (cases_lt p q) [
          | inl less ↦ inl less
          | inr ge ↦ inr (omega (arith, lt, ge, low_m), omega (arith, lt, ge, low_m))
        ])

    back : (nat_lt p q || ((p == q) && nat_lt n m)) ≡ true → nat_lt (p * 2 ^ 32 + n) (q * 2 ^ 32 + m) ≡ true
    back h = lt-ltb (p * 2 ^ 32 + n) (q * 2 ^ 32 + m) (elim (less p q p q n m h) [
      | inl lt ↦ omega (arith, lt, low_n)
      | inr both ↦ let same = both.0 in let lt = both.1 in omega (arith, same, lt)
    ])

turned : (p q n m : ℕ) → p < 2 ^ 32 → q < 2 ^ 32 → (nat_lt (2 ^ 32 - 1 - p) (2 ^ 32 - 1 - q) || (((2 ^ 32 - 1 - p) == (2 ^ 32 - 1 - q)) && nat_lt n m)) ≡ (nat_lt q p || ((p == q) && nat_lt n m))
turned p q n m low_p low_q =
    same_Bool (nat_lt (2 ^ 32 - 1 - p) (2 ^ 32 - 1 - q) || (((2 ^ 32 - 1 - p) == (2 ^ 32 - 1 - q)) && nat_lt n m)) (nat_lt q p || ((p == q) && nat_lt n m))
    (λ h. is-less q p p q n m (elim (less (2 ^ 32 - 1 - p) (2 ^ 32 - 1 - q) (2 ^ 32 - 1 - p) (2 ^ 32 - 1 - q) n m h) [
      | inl lt ↦ inl (omega (arith, lt, low_p, low_q))
      | inr both ↦ let same = both.0 in inr (omega (arith, same, low_p, low_q), both.1)
    ]))
    (λ h. is-less (2 ^ 32 - 1 - p) (2 ^ 32 - 1 - q) (2 ^ 32 - 1 - p) (2 ^ 32 - 1 - q) n m (elim (less q p p q n m h) [
      | inl lt ↦ inl (omega (arith, lt, low_p, low_q))
      | inr both ↦ inr (ap (λ r. 2 ^ 32 - 1 - r) both.0, both.1)
    ]))

order-is : (k : Kind) (a b : Entry) → IsRowKind k → Low a → Low b → nat_lt (order_by k a) (order_by k b) ≡ goes_first k a b
order-is k a b (inl is) low_a low_b =
    subst (λ j. nat_lt (order_by j a) (order_by j b) ≡ goes_first j a b) (sym is)
    (order-lexical (2 ^ 32 - 1 - a.rank) (2 ^ 32 - 1 - b.rank) a.number b.number low_a.number low_b.number ∙ turned a.rank b.rank a.number b.number low_a.rank low_b.rank)
order-is k a b (inr is) low_a low_b =
    subst (λ j. nat_lt (order_by j a) (order_by j b) ≡ goes_first j a b) (sym is) (order-lexical a.rank b.rank a.number b.number low_a.number low_b.number)

count-same : {X : Type 0} (f g : X → Bool) (xs : List X) → All (λ x. f x ≡ g x) xs → count_by f xs ≡ count_by g xs
count-same f g [] all = refl
count-same f g (x ∷ xs) all =
    sum_by-cons (λ z. one_if (f z)) x xs ∙ ap (λ b. one_if b + count_by f xs) (All-head (λ y. f y ≡ g y) x xs all) ∙ ap (λ n. one_if (g x) + n) (count-same f g xs (All-tail (λ y. f y ≡ g y) x xs all))
    ∙ sym (sum_by-cons (λ z. one_if (g z)) x xs)

pub map-twice : {X Y Z : Type 0} (g : Y → Z) (f : X → Y) (xs : List X) → map g (map f xs) ≡ map (λ x. g (f x)) xs
map-twice g f [] = refl
map-twice g f (x ∷ xs) = ap (λ ys. g (f x) ∷ ys) (map-twice g f xs)

-- how many of the sorted numbers are less tells how many entries go first
pub rows-are : (k : Kind) (es : List Entry) (orders sorted : List ℕ) → IsRowKind k → orders ≡ map (order_by k) es → All (λ (e : Entry). e.rank < 2 ^ 32) es → All (λ (e : Entry). e.number < 2 ^ 32) es
    → IsPermutation orders sorted → map (λ o. count_by (λ n. nat_lt n o) sorted) orders ≡ map (λ e. count_by (λ f. goes_first k f e) es) es
rows-are k es orders sorted rowed are ranks numbers moved =
    ap (map (λ o. count_by (λ n. nat_lt n o) sorted)) are ∙ map-twice (λ o. count_by (λ n. nat_lt n o) sorted) (order_by k) es
    ∙ map_alike (λ e. count_by (λ n. nat_lt n (order_by k e)) sorted) (λ e. count_by (λ f. goes_first k f e) es) es (λ i d lt. one (get_or es i d) (low i d lt))
  where
    low : All Low es
    low i d lt = record { rank = ranks i d lt; number = numbers i d lt }

    one : (e : Entry) → Low e → count_by (λ n. nat_lt n (order_by k e)) sorted ≡ count_by (λ f. goes_first k f e) es
    one e low_e =
        sum_by-IsPermutation (λ n. one_if (nat_lt n (order_by k e))) orders sorted moved ∙ ap (count_by (λ n. nat_lt n (order_by k e))) are
        ∙ sum_by-map (λ n. one_if (nat_lt n (order_by k e))) (order_by k) es
        ∙ count-same (λ f. nat_lt (order_by k f) (order_by k e)) (λ f. goes_first k f e) es (λ i d lt. order-is k (get_or es i d) e rowed (low i d lt) low_e)
