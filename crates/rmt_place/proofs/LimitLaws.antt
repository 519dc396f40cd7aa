-- Whatever the order, a placement keeps the limits of every stage.
use Rattle.std.proofs.Common.{◌≡◌, ℕ, zero, suc, ◌+◌, ◌-◌, List, [], ◌∷◌, ◌++◌, filter, map, Bool, true, false, cond, eqb, Ok, inl, inr, refl, subst, ap, ◌∙◌, arith}
use Rattle.std.specs.List.{All, range_with_len}
use Rattle.std.proofs.lemmas.Bool.{cases_eq, ne_eqb, eq-eqb}
use Rattle.std.proofs.lemmas.List.{append-nil, map-append}
use Rattle.std.proofs.lemmas.List.Elements.{All-head, All-tail, filter-append}
use Rattle.rmt_ast.specs.declared.deps.Edge.{Edge}
use Rattle.rmt_pack.specs.declared.placement.Part.{Part}
use Rattle.rmt_place.specs.declared.demand.Demand.{Demand}
use Rattle.rmt_place.specs.Needs.{Standing, demand_at, keeps_limits}
use Rattle.rmt_place.specs.Placing.{beside, earliest_stage, fitting, placed_all, placed_node, spread, stages_from, standing_in, taken_part}
use Rattle.rmt_place.proofs.KeepLaws.{placed_induction, placed_is, spread_own}
use Rattle.rmt_place.proofs.LoadLaws.{fitting_kept}

-- ---- what stands in a stage

standing-append : (demands : List Demand) (parts more : List Part) (j : ℕ) → standing_in demands (parts ++ more) j ≡ standing_in demands parts j ++ standing_in demands more j
standing-append demands parts more j =
    let here : Part → Bool = λ (x : Part). eqb x.stage j in
    let as_standing : Part → Standing = λ (x : Part). record { demand = demand_at demands x.node; quanta = x.quanta } in
    ap (map as_standing) (filter-append here parts more) ∙ map-append as_standing (filter here parts) (filter here more)

standing-none : (demands : List Demand) (parts : List Part) (j : ℕ) → All (λ (x : Part). x.stage ≡ j → ⊥) parts → standing_in demands parts j ≡ []
standing-none demands [] j other = refl
standing-none demands (x ∷ parts) j other =
    let as_standing : Part → Standing = λ (y : Part). record { demand = demand_at demands y.node; quanta = y.quanta } in
    ap (λ (b : Bool). map as_standing (cond b (x ∷ filter (λ (y : Part). eqb y.stage j) parts) (filter (λ (y : Part). eqb y.stage j) parts)))
    (ne_eqb x.stage j (All-head (λ (y : Part). y.stage ≡ j → ⊥) x parts other))
    ∙ standing-none demands parts j (All-tail (λ (y : Part). y.stage ≡ j → ⊥) x parts other)

-- a part that is taken stands beside what stands there
taken-beside : (demands : List Demand) (others : List Standing) (n k taken : ℕ)
    → others ++ standing_in demands (taken_part n k taken) k ≡ beside others (demand_at demands n) taken
taken-beside demands others n k taken = by (eqb taken 0)
  where
    as_standing : Part → Standing
    as_standing x = record { demand = demand_at demands x.node; quanta = x.quanta }

    part : Part
    part = record { node = n; stage = k; quanta = taken }

    by : (b : Bool) → others ++ standing_in demands (cond b [] (part ∷ [])) k ≡ others ++ cond b [] (record { demand = demand_at demands n; quanta = taken } ∷ [])
    by true = refl
    by false = ap (λ (b : Bool). others ++ map as_standing (cond b (part ∷ []) [])) (eq-eqb k k refl)

taken-elsewhere : (demands : List Demand) (n k taken j : ℕ) → (k ≡ j → ⊥) → standing_in demands (taken_part n k taken) j ≡ []
taken-elsewhere demands n k taken j other = by (eqb taken 0)
  where
    as_standing : Part → Standing
    as_standing x = record { demand = demand_at demands x.node; quanta = x.quanta }

    part : Part
    part = record { node = n; stage = k; quanta = taken }

    by : (b : Bool) → standing_in demands (cond b [] (part ∷ [])) j ≡ []
    by true = refl
    by false = ap (λ (b : Bool). map as_standing (cond b (part ∷ []) [])) (ne_eqb k j other)

-- ---- one node

-- with what a node takes in some stages, each stage keeps its limits still
spread_kept : (demands : List Demand) (parts : List Part) (n a m left : ℕ) → ((j : ℕ) → keeps_limits (standing_in demands parts j) ≡ true)
    → (j : ℕ) → keeps_limits (standing_in demands parts j ++ standing_in demands (spread demands parts n (range_with_len a m) left).parts j) ≡ true
spread_kept demands parts n a zero left kept j = ap keeps_limits (append-nil (standing_in demands parts j)) ∙ kept j
spread_kept demands parts n a (suc m) left kept j =
    let taken = fitting (standing_in demands parts a) (demand_at demands n) left in
    let rest = (spread demands parts n (range_with_len (a + 1) m) (left - taken)).parts in
    let others = standing_in demands parts j in
    let split = standing-append demands (taken_part n a taken) rest j in
    elim (cases_eq a j) [
      | inl here ↦
          let later = spread_own demands parts n (a + 1) (a + 1 + m) (a + 1) m (left - taken) (omega arith) (omega arith) in
          let none : standing_in demands rest j ≡ [] = standing-none demands rest j (λ i d lt is. (let own = (later i d lt).behind in absurd (omega (arith, own, is, here)))) in
          let own : standing_in demands (taken_part n a taken ++ rest) j ≡ standing_in demands (taken_part n a taken) j =
          split ∙ (ap (λ (l : List Standing). standing_in demands (taken_part n a taken) j ++ l) none ∙ append-nil (standing_in demands (taken_part n a taken) j)) in
          let at_a : keeps_limits (standing_in demands parts a ++ standing_in demands (taken_part n a taken) a) ≡ true =
          ap keeps_limits (taken-beside demands (standing_in demands parts a) n a taken) ∙ fitting_kept (standing_in demands parts a) (demand_at demands n) left (kept a) in
          ap (λ (l : List Standing). keeps_limits (others ++ l)) own
          ∙ subst (λ (k : ℕ). keeps_limits (standing_in demands parts k ++ standing_in demands (taken_part n a taken) k) ≡ true) here at_a
      | inr other ↦
          ap (λ (l : List Standing). keeps_limits (others ++ l)) (split ∙ ap (λ (l : List Standing). l ++ standing_in demands rest j) (taken-elsewhere demands n a taken j other))
          ∙ spread_kept demands parts n (a + 1) m (left - taken) kept j
    ]

-- ---- all nodes

pub limits_kept : (demands : List Demand) (edges : List Edge) (nodes : List ℕ) (final : List Part) → placed_all demands edges nodes [] ≡ Ok final
    → (j : ℕ) → keeps_limits (standing_in demands final j) ≡ true
limits_kept demands edges nodes final is =
    placed_induction demands edges (λ rest parts. (j : ℕ) → keeps_limits (standing_in demands parts j) ≡ true) step nodes [] final (λ j. refl) is
  where
    step : (n : ℕ) (rest : List ℕ) (parts more : List Part) → ((j : ℕ) → keeps_limits (standing_in demands parts j) ≡ true)
        → placed_node demands edges parts n ≡ Ok more → (j : ℕ) → keeps_limits (standing_in demands more j) ≡ true
    step n rest parts more kept placed j =
        let earliest = earliest_stage edges parts n in
        let own = (spread demands parts n (stages_from earliest) (demand_at demands n).quanta).parts in
        ap (λ (l : List Part). keeps_limits (standing_in demands l j)) (placed_is demands edges parts more n placed).behind
        ∙ (ap keeps_limits (standing-append demands parts own j) ∙ spread_kept demands parts n earliest (32 - earliest) (demand_at demands n).quanta kept j)
