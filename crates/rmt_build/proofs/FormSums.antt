-- Sums over lists in which no number stands twice: no more than over any list that has their numbers.
use Rattle.std.proofs.Common.{◌≡◌, ◌≢◌, ℕ, suc, ◌+◌, ◌≤◌, Bool, true, false, ◌==◌, cond, List, [], ◌∷◌, refl, sym, ap, ◌∙◌, subst, ◌⊎◌, inl, inr, arith}
use Rattle.std.specs.Prelude.{All, AllPairs, Contains, sum_by}
use Rattle.std.specs.List.{AllZip}
use Rattle.std.proofs.lemmas.Bool.{both_ways, eq-eqb}
use Rattle.std.proofs.lemmas.List.{get_or_default}
use Rattle.std.proofs.lemmas.List.Elements.{All-head, All-tail, All-weaker, All-contains_itself}
use Rattle.std.proofs.lemmas.List.Kept.{AllPairs-cons}
use Rattle.std.proofs.lemmas.List.Sums.{sum_by-cons}
use Rattle.rmt_bits.proofs.PairLaws.{AllPairs-none, AllPairs-tail}
use Rattle.rmt_config.specs.Resources.{distinct}
use Rattle.rmt_bits.proofs.MemberLaws.{Contains-first, Contains-later, Contains-split, Contains-from_any, list_any-Contains}
use Rattle.rmt_bits.specs.Members.{is_among}

-- a list without one of its numbers
record Without (g : ℕ → ℕ) (ms : List ℕ) (n : ℕ) : Type 0 where
  rest : List ℕ
  sums : sum_by g ms ≡ g n + sum_by g rest
  others : (m : ℕ) → m ≢ n → Contains ms m → Contains rest m

without : (g : ℕ → ℕ) (ms : List ℕ) (n : ℕ) → Contains ms n → Without g ms n
without g [] n there = absurd (let lt = there.1 in omega (arith, lt))
without g (x ∷ ms) n there = elim (Contains-split x ms n there) [
  | inl e ↦ record {
    rest = ms;
    sums = sum_by-cons g x ms ∙ ap (λ y. g y + sum_by g ms) e;
    others = λ m ne is. elim (Contains-split x ms m is) [
      | inl f ↦ absurd (ne (sym f ∙ e))
      | inr later ↦ later
    ];
  }
  | inr more ↦
      let r = without g ms n more in
      record {
        rest = x ∷ r.rest;
        sums = omega (arith, sum_by-cons g x ms, sum_by-cons g x r.rest, r.sums);
        others = λ m ne is. elim (Contains-split x ms m is) [
          | inl f ↦ subst (Contains (x ∷ r.rest)) f (Contains-first x r.rest)
          | inr later ↦ Contains-later x r.rest m (r.others m ne later)
        ];
      }
]

others_differ : (n : ℕ) (ns : List ℕ) → AllPairs ◌≢◌ (n ∷ ns) → All (λ m. m ≢ n) ns
others_differ n ns apart k d lt = λ e. apart 0 (suc k) d (omega arith) (omega (arith, lt)) (sym e)

both_hold : {X : Type 0} (P Q : X → Type 0) (xs : List X) → All P xs → All Q xs → All (λ x. P x × Q x) xs
both_hold P Q xs p q k d lt = (p k d lt, q k d lt)

pub sum_within : (g : ℕ → ℕ) (ns ms : List ℕ) → AllPairs ◌≢◌ ns → All (Contains ms) ns → sum_by g ns ≤ sum_by g ms
sum_within g [] ms apart all = omega arith
sum_within g (n ∷ ns) ms apart all =
    let r = without g ms n (All-head (Contains ms) n ns all) in
    let there = All-weaker (λ m. m ≢ n × Contains ms m) (Contains r.rest) (λ m h. r.others m h.0 h.1) ns
    (both_hold (λ m. m ≢ n) (Contains ms) ns (others_differ n ns apart) (All-tail (Contains ms) n ns all)) in
    omega (arith, sum_by-cons g n ns, r.sums, sum_within g ns r.rest (AllPairs-tail ◌≢◌ n ns apart) there)

-- ---- each number once

from_cases : (b : Bool) (m n : ℕ) (ns : List ℕ) → Contains (cond b (distinct ns) (m ∷ distinct ns)) n → (Contains (distinct ns) n → Contains ns n) → Contains (m ∷ ns) n
from_cases true m n ns is rest = Contains-later m ns n (rest is)
from_cases false m n ns is rest = elim (Contains-split m (distinct ns) n is) [
  | inl e ↦ subst (Contains (m ∷ ns)) e (Contains-first m ns)
  | inr later ↦ Contains-later m ns n (rest later)
]

pub distinct_from : (ns : List ℕ) (n : ℕ) → Contains (distinct ns) n → Contains ns n
distinct_from [] n there = there
distinct_from (m ∷ ns) n there = from_cases (is_among ns m) m n ns there (distinct_from ns n)

there_cases : (b : Bool) (m n : ℕ) (ns : List ℕ) → is_among ns m ≡ b → (m ≡ n) ⊎ Contains ns n → (Contains ns n → Contains (distinct ns) n)
    → Contains (cond b (distinct ns) (m ∷ distinct ns)) n
there_cases true m n ns e (inl same) rest = rest (subst (Contains ns) same (Contains-from_any ns m e))
there_cases true m n ns e (inr later) rest = rest later
there_cases false m n ns e (inl same) rest = subst (Contains (m ∷ distinct ns)) same (Contains-first m (distinct ns))
there_cases false m n ns e (inr later) rest = Contains-later m (distinct ns) n (rest later)

pub distinct_there : (ns : List ℕ) (n : ℕ) → Contains ns n → Contains (distinct ns) n
distinct_there [] n there = there
distinct_there (m ∷ ns) n there = there_cases (is_among ns m) m n ns refl (Contains-split m ns n there) (distinct_there ns n)

apart_cases : (b : Bool) (m : ℕ) (ns : List ℕ) → is_among ns m ≡ b → AllPairs ◌≢◌ (distinct ns) → AllPairs ◌≢◌ (cond b (distinct ns) (m ∷ distinct ns))
apart_cases true m ns e rest = rest
apart_cases false m ns e rest =
    AllPairs-cons ◌≢◌ m (distinct ns) (λ k d lt same. both_ways (is_among ns m) e (list_any-Contains (λ x. x == m) ns m (distinct_from ns m (k, lt, get_or_default (distinct ns) k m d lt ∙ sym same)) (eq-eqb m m refl))) rest

pub distinct_apart : (ns : List ℕ) → AllPairs ◌≢◌ (distinct ns)
distinct_apart [] = AllPairs-none ◌≢◌
distinct_apart (m ∷ ns) = apart_cases (is_among ns m) m ns refl (distinct_apart ns)

each_there : (ms xs : List ℕ) → ((n : ℕ) → Contains xs n → Contains ms n) → All (Contains ms) xs
each_there ms xs h = All-weaker (Contains xs) (Contains ms) h xs (All-contains_itself xs)

-- the numbers of one list, each once, are no more than those of another that has them all
pub distinct_within : (g : ℕ → ℕ) (ns ms : List ℕ) → ((n : ℕ) → Contains ns n → Contains ms n) → sum_by g (distinct ns) ≤ sum_by g (distinct ms)
distinct_within g ns ms there =
    sum_within g (distinct ns) (distinct ms) (distinct_apart ns) (each_there (distinct ms) (distinct ns) (λ n is. distinct_there ms n (there n (distinct_from ns n is))))

-- sums of what stands beside each other
pub zip_sum : {X Y : Type 0} (R : X → Y → Type 0) (f : X → ℕ) (g : Y → ℕ) → ((x : X) (y : Y) → R x y → g y ≡ f x) → (xs : List X) (ys : List Y) → AllZip R xs ys → sum_by g ys ≡ sum_by f xs
zip_sum R f g same [] [] zip = refl
zip_sum R f g same [] (y ∷ ys) zip = absurd zip
zip_sum R f g same (x ∷ xs) [] zip = absurd zip
zip_sum R f g same (x ∷ xs) (y ∷ ys) zip =
    sum_by-cons g y ys ∙ ap (λ n. n + sum_by g ys) (same x y zip.0) ∙ ap (λ n. f x + n) (zip_sum R f g same xs ys zip.1) ∙ sym (sum_by-cons f x xs)
