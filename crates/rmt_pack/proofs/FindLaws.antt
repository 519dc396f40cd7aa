-- What `find` gives: an item that passes, the least of a range, and the best by an order.
use Rattle.std.proofs.Common.{◌≡◌, ℕ, zero, suc, ◌+◌, ◌<◌, ◌≤◌, ◌≢◌, Bool, true, false, ◌&&◌, cond, List, [], ◌∷◌, Option, Some, None, get_or, refl, sym, subst, ◌⊎◌, inl, inr, arith, ◌-◌}
use Rattle.std.specs.Prelude.{Contains, find, All}
use Rattle.std.specs.List.{range_with_len}
use Rattle.std.proofs.lemmas.Bool.{and_from, and_parts, both_ways}
use Rattle.std.proofs.lemmas.List.FromFn.{length-range_with_len, get_or-range_with_len}
use Rattle.std.proofs.lemmas.Option.{none-some, same_Some}
use Rattle.rmt_bits.proofs.MemberLaws.{Contains-first, Contains-later, Contains-split}
use Rattle.rmt_bits.proofs.ListLaws.{find-passes}
use Rattle.rmt_bits.proofs.AllLaws.{All-find}
use Rattle.std.proofs.lemmas.List.Elements.{All-contains_itself, All-weaker}
use Rattle.rmt_bits.proofs.FindLaws.{find-some}

-- ---- members

pub Contains-range : (n i : ℕ) → i < n → Contains (range_with_len 0 n) i
Contains-range n i lt =
    let e : 0 + i ≡ i = omega arith in
    (i, subst (λ m. i < m) (sym (length-range_with_len 0 n)) lt, subst (λ m. get_or (range_with_len 0 n) i i ≡ m) e (get_or-range_with_len 0 n i i lt))

pub Contains-range_from : (a n i : ℕ) → i < n → Contains (range_with_len a n) (a + i)
Contains-range_from a n i lt = (i, subst (λ m. i < m) (sym (length-range_with_len a n)) lt, get_or-range_with_len a n i (a + i) lt)

-- a member of a range is within its bounds
pub range_bounds : (a n x : ℕ) → Contains (range_with_len a n) x → (a ≤ x) × (x < a + n)
range_bounds a n x there =
    let lt = there.1 in
    let long = length-range_with_len a n in
    let at = get_or-range_with_len a n there.0 x (omega (arith, lt, long)) in
    let same = there.2 in
    (omega (arith, at, same), omega (arith, at, same, lt, long))

-- ---- an item that passes

cond_cases : {X : Type 0} (b : Bool) (y x : X) (rest : Option X) → cond b (Some y) rest ≡ Some x → ((b ≡ true) × (y ≡ x)) ⊎ ((b ≡ false) × (rest ≡ Some x))
cond_cases true y x rest e = inl (refl, same_Some y x e)
cond_cases false y x rest e = inr (refl, e)

pub found_passes : {X : Type 0} (test : X → Bool) (xs : List X) (x : X) → find test xs ≡ Some x → Contains xs x × (test x ≡ true)
found_passes test xs x e = (All-find (Contains xs) test xs x (All-contains_itself xs) e, find-passes test xs x e)

cond_some : {X : Type 0} (b : Bool) (y : X) (rest : Option X) → (b ≡ false → (z : X) × (rest ≡ Some z)) → (z : X) × (cond b (Some y) rest ≡ Some z)
cond_some true y rest h = (y, refl)
cond_some false y rest h = h refl

-- no item, where each that there may be is refuted
pub none_unless : {X : Type 0} (o : Option X) → ((x : X) → o ≡ Some x → ⊥) → o ≡ None
none_unless None h = refl
none_unless (Some x) h = absurd (h x refl)

-- the first number of a range that passes is the least
pub find-least : (test : ℕ → Bool) (a n j i : ℕ) → find test (range_with_len a n) ≡ Some j → a ≤ i → i < a + n → test i ≡ true → j ≤ i
find-least test a zero j i e le lt pass = absurd (none-some j e)
find-least test a (suc n) j i e le lt pass =
    elim (cond_cases (test a) a j (find test (range_with_len (a + 1) n)) e) [
      | inl h ↦ let same = h.1 in omega (arith, same)
      | inr h ↦
          let ne : i ≢ a = λ same. both_ways (test a) h.0 (subst (λ z. test z ≡ true) same pass) in
          find-least test (a + 1) n j i h.1 (omega (arith, ne, le)) (omega (arith, lt)) pass
    ]

-- ---- the best item

-- an item that passes, and that no other one that passes comes before
pub record IsBest {X : Type 0} (test : X → Bool) (before : X → X → Bool) (xs : List X) (m : X) : Type 0 where
  pub there : Contains xs m
  pub passes : test m ≡ true
  pub best : (o : X) → Contains xs o → test o ≡ true → before o m ≡ true → ⊥

tells : {X : Type 0} (test : X → Bool) (xs : List X) (o : Option X) → find test xs ≡ o
    → ((x : X) → Contains xs x → test x ≡ true → ⊥) ⊎ ((z : X) × Contains xs z × (test z ≡ true))
tells test xs None e = inl (λ x h pass. let r = find-some test xs x h pass in none-some r.0 (subst (λ q. q ≡ Some r.0) e r.1))
tells test xs (Some z) e = let r = found_passes test xs z e in inr (z, r.0, r.1)

better : {X : Type 0} (test : X → Bool) (before : X → X → Bool) → ((x : X) → before x x ≡ true → ⊥)
    → ((x y z : X) → before x y ≡ true → before y z ≡ true → before x z ≡ true)
    → (y : X) (ys : List X) (m : X) → IsBest test before ys m → (b : Bool) → (test y && before y m) ≡ b → (z : X) × IsBest test before (y ∷ ys) z
better test before never chain y ys m is true e =
    let both = and_parts (test y) (before y m) e in (
      y,
      record {
        there = Contains-first y ys;
        passes = both.0;
        best = λ o h pass first.
            elim (Contains-split y ys o h) [
              | inl same ↦ never y (subst (λ z. before z y ≡ true) (sym same) first)
              | inr later ↦ is.best o later pass (chain o y m first both.1)
            ];
      },
    )
better test before never chain y ys m is false e = (
  m,
  record {
    there = Contains-later y ys m is.there;
    passes = is.passes;
    best = λ o h pass first.
        elim (Contains-split y ys o h) [
          | inl same ↦
              both_ways (test y && before y m) e
              (and_from (test y) (before y m) (subst (λ z. test z ≡ true) (sym same) pass) (subst (λ z. before z m ≡ true) (sym same) first))
          | inr later ↦ is.best o later pass first
        ];
  },
)

-- where an order is strict, a list with an item that passes has a best one
pub best_there : {X : Type 0} (test : X → Bool) (before : X → X → Bool) → ((x : X) → before x x ≡ true → ⊥)
    → ((x y z : X) → before x y ≡ true → before y z ≡ true → before x z ≡ true)
    → (xs : List X) (x : X) → Contains xs x → test x ≡ true → (m : X) × IsBest test before xs m
best_there test before never chain [] x h pass = absurd (let lt = h.1 in omega (arith, lt))
best_there test before never chain (y ∷ ys) x h pass =
    elim (tells test ys (find test ys) refl) [
      | inl none ↦ elim (Contains-split y ys x h) [
        | inl e ↦ (
          y,
          record {
            there = Contains-first y ys;
            passes = subst (λ z. test z ≡ true) (sym e) pass;
            best = λ o there passes first.
                elim (Contains-split y ys o there) [
                  | inl same ↦ never y (subst (λ z. before z y ≡ true) (sym same) first)
                  | inr later ↦ none o later passes
                ];
          },
        )
        | inr later ↦ absurd (none x later pass)
      ]
      | inr some ↦
          let r = best_there test before never chain ys some.0 some.1 some.2 in
          better test before never chain y ys r.0 r.1 (test y && before y r.0) refl
    ]

pub all_at : {X : Type 0} (P : X → Type 0) (xs : List X) → ((x : X) → Contains xs x → P x) → All P xs
all_at P xs h = All-weaker (Contains xs) P h xs (All-contains_itself xs)
