-- Facts about written-out lists: item by item, or by a test that decides them.
use Rattle.std.proofs.Common.{◌≡◌, ◌≢◌, ℕ, ◌+◌, ◌≤◌, Bool, true, false, not, ◌&&◌, ◌==◌, List, [], ◌∷◌, refl, arith}
use Rattle.std.specs.Prelude.{All, AllPairs, nat_lt}
use Rattle.std.specs.List.{list_all}
use Rattle.std.proofs.lemmas.Bool.{and_parts, both_ways, eq-eqb, ltb-true, not-true}
use Rattle.std.proofs.lemmas.List.Elements.{All-cons, All-nil}
use Rattle.std.proofs.lemmas.List.Kept.{AllPairs-cons}
use Rattle.std.proofs.lemmas.List.Sums.{AllPass-from_list_all}
use Rattle.rmt_bits.proofs.PairLaws.{AllPairs-none}

-- ---- item by item

pub two : {X : Type 0} (P : X → Type 0) (x y : X) → P x → P y → All P (x ∷ y ∷ [])
two P x y a b = All-cons P x (y ∷ []) a (All-cons P y [] b (All-nil P))

pub three : {X : Type 0} (P : X → Type 0) (x y z : X) → P x → P y → P z → All P (x ∷ y ∷ z ∷ [])
three P x y z a b c = All-cons P x (y ∷ z ∷ []) a (two P y z b c)

-- ---- by a test

pub never : {P : Type 0} → false ≡ true → P
never e = absurd (both_ways false refl e)

pub all_by : {X : Type 0} (test : X → Bool) (P : X → Type 0) → ((x : X) → test x ≡ true → P x) → (xs : List X) → list_all test xs ≡ true → All P xs
all_by test P sound xs e k d lt = sound _ (AllPass-from_list_all test xs e k d lt)

abbrev all_pairs : {X : Type 0} → (X → X → Bool) → List X → Bool
all_pairs test [] = true
all_pairs test (x ∷ xs) = list_all (test x) xs && all_pairs test xs

pub pairs_by : {X : Type 0} (test : X → X → Bool) (R : X → X → Type 0) → ((x y : X) → test x y ≡ true → R x y) → (xs : List X) → all_pairs test xs ≡ true → AllPairs R xs
pairs_by test R sound [] e = AllPairs-none R
pairs_by test R sound (x ∷ xs) e =
    let r = and_parts (list_all (test x) xs) (all_pairs test xs) e in
    AllPairs-cons R x xs (all_by (test x) (R x) (sound x) xs r.0) (pairs_by test R sound xs r.1)

pub differ : (a b : ℕ) → not (a == b) ≡ true → a ≢ b
differ a b e same = both_ways (a == b) (not-true (a == b) e) (eq-eqb a b same)

pub at_most : (a b : ℕ) → nat_lt a (b + 1) ≡ true → a ≤ b
at_most a b e = let lt = ltb-true a (b + 1) e in omega (arith, lt)
