-- In which stages a node stands.
use Rattle.std.proofs.lemmas.Bool.Decides.{nat_tests}
use Rattle.std.proofs.Common.{◌≡◌, ℕ, ◌+◌, ◌<◌, ◌≤◌, Bool, true, false, ◌&&◌, ◌==◌, cond, List, [], ◌∷◌, Some, length, map, refl, sym, ap, ◌∙◌, subst, ◌⊎◌, inl, inr, arith, ◌≢◌}
use Rattle.std.specs.Prelude.{All, Contains, filter, fold, max, nat_lt, slice_get, sum_by}
use Rattle.std.specs.List.{range_with_len}
use Rattle.std.proofs.Math.Nat.{le-max_left, le-max_right, max-eq_left, max-eq_right}
use Rattle.std.proofs.lemmas.Bool.{and_parts, cases_lt, eq-eqb, eqb-true}
use Rattle.std.proofs.lemmas.List.Kept.{AllPairs-filter}
use Rattle.std.proofs.lemmas.List.Sums.{sum_by-cons}
use Rattle.std.proofs.lemmas.Option.{get_or_from_slice_get, slice_get_within}
use Rattle.rmt_refine.specs.Types.{Program}
use Rattle.rmt_pack.specs.declared.placement.Part.{Part}
use Rattle.rmt_pack.specs.Placements.{quanta_in, quanta_of}
use Rattle.rmt_pack.proofs.BlockLaws.{place-same, range-apart}
use Rattle.rmt_refine.specs.Units.{last_stage, nodes_in}
use Rattle.rmt_bits.proofs.MemberLaws.{Contains-first, Contains-later, Contains-split, Contains-filter, Contains-unfilter}
use Rattle.std.proofs.lemmas.List.Elements.{All-contains}

-- ---- none behind its last

abbrev most : ℕ → ℕ → ℕ
most a x = max a x

from_start : (a : ℕ) (xs : List ℕ) → a ≤ fold most a xs
from_start a [] = omega arith
from_start a (x ∷ xs) =
    omega (arith, le-max_left a x, from_start (max a x) xs)

step : (b d : Bool) (k q more a : ℕ) (x : Part) (xs : List Part) → (d ≡ true → x.stage ≡ k) → 0 < cond (b && d) q 0 + more
    → ((a' : ℕ) → 0 < more → k ≤ fold most a' (map (λ (y : Part). y.stage) xs)) → k ≤ fold most a (map (λ (y : Part). y.stage) (cond b (x ∷ xs) xs))
step true true k q more a x xs here h later =
    omega (arith, here refl, le-max_right a x.stage, from_start (max a x.stage) (map (λ (y : Part). y.stage) xs))
step true false k q more a x xs here h later = later (max a x.stage) (omega (arith, h))
step false d k q more a x xs here h later = later a (omega (arith, h))

last_from : (n k : ℕ) (parts : List Part) (a : ℕ) → 0 < quanta_in parts n k → k ≤ fold most a (map (λ (y : Part). y.stage) (filter (λ (y : Part). y.node == n) parts))
last_from n k [] a h = absurd (omega (arith, h))
last_from n k (x ∷ xs) a h =
    step (x.node == n) (x.stage == k) k x.quanta (quanta_in xs n k) a x (filter (λ (y : Part). y.node == n) xs) (eqb-true x.stage k)
    (subst (λ m. 0 < m) (sum_by-cons (λ (y : Part). cond ((y.node == n) && (y.stage == k)) y.quanta 0) x xs) h) (λ b some. last_from n k xs b some)

pub within_last : (parts : List Part) (n k : ℕ) → 0 < quanta_in parts n k → k ≤ last_stage parts n
within_last parts n k h = last_from n k parts 0 h

-- ---- it stands in its last

pub stands_by_part : (parts : List Part) (n k : ℕ) (y : Part) → Contains parts y → y.node ≡ n → y.stage ≡ k → 0 < y.quanta → 0 < quanta_in parts n k
stands_by_part [] n k y there node stage some = absurd (let lt = there.1 in omega (arith, lt))
stands_by_part (x ∷ xs) n k y there node stage some =
    let first = sum_by-cons (λ (z : Part). cond ((z.node == n) && (z.stage == k)) z.quanta 0) x xs in
    elim (Contains-split x xs y there) [
      | inl e ↦
          let own = subst (λ (z : Part). (z.node ≡ n) × (z.stage ≡ k) × (0 < z.quanta)) (sym e) (node, stage, some) in
          grind (arith, nat_tests, first, own)
      | inr later ↦ omega (arith, stands_by_part xs n k y later node stage some, first)
    ]

-- the greatest of some stages is one of them, or where none is greater the first one
reached : (a : ℕ) (xs : List Part) → (fold most a (map (λ (y : Part). y.stage) xs) ≡ a) ⊎ ((y : Part) × Contains xs y × (y.stage ≡ fold most a (map (λ (z : Part). z.stage) xs)))
reached a [] = inl refl
reached a (x ∷ xs) =
    elim (reached (max a x.stage) xs) [
      | inl e ↦ elim (cases_lt a x.stage) [
        | inl lt ↦ inr (x, Contains-first x xs, sym (e ∙ max-eq_right (omega (arith, lt))))
        | inr le ↦ inl (e ∙ max-eq_left le)
      ]
      | inr r ↦ inr (r.0, Contains-later x xs r.0 r.1, r.2)
    ]

greatest_there : (x : Part) (xs : List Part) → (y : Part) × Contains (x ∷ xs) y × (y.stage ≡ fold most 0 (map (λ (z : Part). z.stage) (x ∷ xs)))
greatest_there x xs =
    elim (reached (max 0 x.stage) xs) [
      | inl e ↦ (x, Contains-first x xs, sym (e ∙ max-eq_right (omega arith)))
      | inr r ↦ (r.0, Contains-later x xs r.0 r.1, r.2)
    ]

-- where a sum over the items that pass a test isn't 0, some item passes
some_item : (test : Part → Bool) (xs : List Part) → 0 < sum_by (λ x. cond (test x) x.quanta 0) xs → (y : Part) × Contains xs y × (test y ≡ true)
some_item test [] h = absurd (omega (arith, h))
some_item test (x ∷ xs) h = by (test x) refl (some_item test xs)
  where
    by : (b : Bool) → test x ≡ b → (0 < sum_by (λ z. cond (test z) z.quanta 0) xs → (y : Part) × Contains xs y × (test y ≡ true)) → (y : Part) × Contains (x ∷ xs) y × (test y ≡ true)
    by true e rest = (x, Contains-first x xs, e)
    by false e rest =
        let none : cond (test x) x.quanta 0 ≡ 0 = ap (λ b. cond b x.quanta 0) e in
        let r = rest (omega (arith, h, sum_by-cons (λ (z : Part). cond (test z) z.quanta 0) x xs, none)) in
        (r.0, Contains-later x xs r.0 r.1, r.2)

some_part : (n : ℕ) (parts : List Part) → 0 < quanta_of parts n → (y : Part) × Contains parts y × (y.node ≡ n)
some_part n parts h = let r = some_item (λ (x : Part). x.node == n) parts h in (r.0, r.1, eqb-true r.0.node n r.2)

last_of : (ps : List Part) (y : Part) → Contains ps y → (z : Part) × Contains ps z × (z.stage ≡ fold most 0 (map (λ (x : Part). x.stage) ps))
last_of [] y there = absurd (let lt = there.1 in omega (arith, lt))
last_of (x ∷ xs) y there = greatest_there x xs

pub stands_in_last : (parts : List Part) (n : ℕ) → All (λ (x : Part). 0 < x.quanta) parts → 0 < quanta_of parts n → 0 < quanta_in parts n (last_stage parts n)
stands_in_last parts n all some =
    let y = some_part n parts some in
    let own = filter (λ (x : Part). x.node == n) parts in
    let z = last_of own y.0 (Contains-filter (λ (x : Part). x.node == n) parts y.0 y.1 (eq-eqb _ n y.2)) in
    let f = Contains-unfilter (λ (x : Part). x.node == n) parts z.0 z.1 in
    stands_by_part parts n (last_stage parts n) z.0 f.0 (eqb-true _ n f.1) z.2 (All-contains (λ (x : Part). 0 < x.quanta) parts z.0 all f.0)

-- a node stands in a stage by some part
pub part_there : (parts : List Part) (n k : ℕ) → 0 < quanta_in parts n k → (y : Part) × Contains parts y × (y.node ≡ n) × (y.stage ≡ k)
part_there parts n k h =
    let r = some_item (λ (x : Part). (x.node == n) && (x.stage == k)) parts h in
    let both = and_parts (r.0.node == n) (r.0.stage == k) r.2 in
    (r.0, r.1, eqb-true r.0.node n both.0, eqb-true r.0.stage k both.1)

-- ---- once in a stage

pub one_place : (p : Program) (parts : List Part) (k n i j : ℕ) → slice_get (nodes_in p parts k) i ≡ Some n → slice_get (nodes_in p parts k) j ≡ Some n → i ≡ j
one_place p parts k n i j at_i at_j =
    let nodes = nodes_in p parts k in
    let apart = AllPairs-filter ◌≢◌ (λ m. nat_lt 0 (quanta_in parts m k)) (range_with_len 0 (length p.nodes)) (range-apart 0 (length p.nodes)) in
    place-same nodes i j apart (slice_get_within nodes i n at_i) (slice_get_within nodes j n at_j) (get_or_from_slice_get nodes i n 0 at_i ∙ sym (get_or_from_slice_get nodes j n 0 at_j))
