-- Lists of different numbers, each of which stands in another list.
use Rattle.std.proofs.Common.{◌≡◌, ◌≢◌, ◌⊎◌, ℕ, suc, ◌≤◌, ◌<◌, ◌==◌, Bool, true, false, not, cond, List, [], ◌∷◌, length, filter, get_or, All, Contains, refl, sym, ap, subst, inl, inr, arith}
use Rattle.std.specs.Prelude.{AllPairs}
use Rattle.std.specs.List.{list_any}
use Rattle.std.proofs.lemmas.Bool.{both_ways, eq-eqb, eqb-true}
use Rattle.std.proofs.lemmas.List.Elements.{All-cons, Contains-get_or}
use Rattle.std.proofs.lemmas.List.Kept.{AllPairs-cons}
use Rattle.rmt_bits.proofs.ListLaws.{filter-short}
use Rattle.rmt_bits.proofs.MemberLaws.{Contains-from_any, Contains-split, list_any-Contains}
use Rattle.rmt_refine.proofs.ShortLaws.{at_most}

abbrev differs : ℕ → ℕ → Bool
differs x y = not (y == x)

abbrev without : ℕ → List ℕ → List ℕ
without x ys = filter (differs x) ys

shorter : (x : ℕ) (ys : List ℕ) → Contains ys x → length (without x ys) < length ys
shorter x [] there = absurd (let lt = there.1 in omega (arith, lt))
shorter x (y ∷ ys) there = by (y == x) refl (shorter x ys)
  where
    by : (b : Bool) → (y == x) ≡ b → (Contains ys x → length (without x ys) < length ys) → length (cond (not (y == x)) (y ∷ without x ys) (without x ys)) < suc (length ys)
    by true e later =
        let le = filter-short (differs x) ys in
        subst (λ b. length (cond (not b) (y ∷ without x ys) (without x ys)) < suc (length ys)) (sym e) (omega (arith, le))
    by false e later =
        let lt = later (behind (Contains-split y ys x there)) in
        subst (λ b. length (cond (not b) (y ∷ without x ys) (without x ys)) < suc (length ys)) (sym e) (omega (arith, lt))
      where
        behind : (y ≡ x) ⊎ Contains ys x → Contains ys x
        behind (inl same) = absurd (both_ways (y == x) e (eq-eqb y x same))
        behind (inr rest) = rest

differ : (x y : ℕ) → x ≢ y → differs x y ≡ true
differ x y apart = by (y == x) refl
  where
    by : (b : Bool) → (y == x) ≡ b → not (y == x) ≡ true
    by true e = absurd (apart (sym (eqb-true y x e)))
    by false e = ap not e

-- where they are as many, each number there is one of them
pub distinct_all : (xs ys : List ℕ) → AllPairs ◌≢◌ xs → All (Contains ys) xs → length ys ≤ length xs → (y : ℕ) → Contains ys y → Contains xs y
distinct_all xs ys apart all few y there = by (list_any (λ m. m == y) xs) refl
  where
    by : (b : Bool) → list_any (λ m. m == y) xs ≡ b → Contains xs y
    by true e = Contains-from_any xs y e
    by false e =
        let new : All (λ m. y ≢ m) xs = λ i d lt same.
        both_ways (list_any (λ m. m == y) xs) e (list_any-Contains (λ m. m == y) xs (get_or xs i d) (Contains-get_or xs i d lt) (eq-eqb (get_or xs i d) y (sym same))) in
        let le = at_most (y ∷ xs) ys (AllPairs-cons ◌≢◌ y xs new apart) (All-cons (Contains ys) y xs there all) in
        absurd (omega (arith, le, few))
