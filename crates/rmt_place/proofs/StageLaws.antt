-- Stages with one more part, and steps of the loops over them.
use Rattle.std.proofs.Common.{◌≡◌, ℕ, zero, suc, ◌+◌, ◌-◌, ◌<◌, ◌≤◌, List, [], ◌∷◌, ◌++◌, length, get_or, set, filter, map, max, Bool, true, false, cond, eqb, inl, inr, sym, refl, subst, ap, ◌∙◌, arith}
use Rattle.std.specs.List.{fold, range_with_len}
use Rattle.std.proofs.lemmas.Bool.{leb-true, and_parts, cases_eq, ne_eqb, eq-eqb}
use Rattle.std.proofs.lemmas.List.{append-nil, map-append, get_or-set_same, get_or-set_other, length-set}
use Rattle.std.proofs.lemmas.List.Elements.{filter-append}
use Rattle.std.proofs.lemmas.List.Sums.{fold-append}
use Rattle.rmt_config.specs.declared.limits.LimitHit.{LimitHit}
use Rattle.rmt_pack.specs.declared.placement.Part.{Part}
use Rattle.rmt_place.specs.declared.demand.Demand.{Demand}
use Rattle.rmt_place.specs.declared.load.Load.{Load}
use Rattle.rmt_place.specs.Needs.{Standing, demand_at, keeps_limits}
use Rattle.rmt_place.specs.Placing.{fitting, hit_beside, hit_list, hits_in, last_stage, Spread, spread, standing_in, taken_part}
use Rattle.rmt_place.specs.Steps.{Holds, HoldStages, AreLast, are_kept}
use Rattle.rmt_place.proofs.LoadLaws.{with_one}

-- ---- the order of nodes

-- ---- one part more

-- what stands in stage j with one part more
pub standing_more : (demands : List Demand) (parts : List Part) (x : Part) (j : ℕ)
    → standing_in demands (parts ++ x ∷ []) j ≡ standing_in demands parts j ++ cond (eqb x.stage j) (record { demand = demand_at demands x.node; quanta = x.quanta } ∷ []) []
standing_more demands parts x j =
    let stands : Part → Standing = λ (y : Part). record { demand = demand_at demands y.node; quanta = y.quanta } in
    let here : Part → Bool = λ (y : Part). eqb y.stage j in
    ap (map stands) (filter-append here parts (x ∷ []))
    ∙ (map-append stands (filter here parts) (filter here (x ∷ []))
    ∙ ap (λ (l : List Standing). map stands (filter here parts) ++ l) (by_cases (here x) stands))
  where
    by_cases : (b : Bool) (stands : Part → Standing) → map stands (cond b (x ∷ []) []) ≡ cond b (stands x ∷ []) []
    by_cases true stands = refl
    by_cases false stands = refl

pub standing_here : (demands : List Demand) (parts : List Part) (x : Part) (j : ℕ) → x.stage ≡ j
    → standing_in demands (parts ++ x ∷ []) j ≡ with_one (standing_in demands parts j) (demand_at demands x.node) x.quanta
standing_here demands parts x j is =
    standing_more demands parts x j
    ∙ ap (λ b. standing_in demands parts j ++ cond b (record { demand = demand_at demands x.node; quanta = x.quanta } ∷ []) []) (eq-eqb x.stage j is)

pub standing_elsewhere : (demands : List Demand) (parts : List Part) (x : Part) (j : ℕ) → (x.stage ≡ j → ⊥)
    → standing_in demands (parts ++ x ∷ []) j ≡ standing_in demands parts j
standing_elsewhere demands parts x j other =
    standing_more demands parts x j
    ∙ (ap (λ b. standing_in demands parts j ++ cond b (record { demand = demand_at demands x.node; quanta = x.quanta } ∷ []) []) (ne_eqb x.stage j other)
    ∙ append-nil (standing_in demands parts j))

pub loads_more : (demands : List Demand) (parts : List Part) (loads : List Load) (x : Part) (new : Load) → HoldStages demands parts loads → x.stage < 32
    → Holds (with_one (standing_in demands parts x.stage) (demand_at demands x.node) x.quanta) new
    → keeps_limits (with_one (standing_in demands parts x.stage) (demand_at demands x.node) x.quanta) ≡ true
    → HoldStages demands (parts ++ x ∷ []) (set loads x.stage new)
loads_more demands parts loads x new h there holds kept = record {
  count = length-set loads x.stage new ∙ h.count;
  holds = λ k d lt. elim (cases_eq x.stage k) [
    | inl here ↦
        let in_loads : x.stage < length loads = omega (arith, h.count) in
        let item : get_or (set loads x.stage new) k d ≡ new = ap (λ (j : ℕ). get_or (set loads x.stage new) j d) (sym here) ∙ get_or-set_same loads x.stage new d in_loads in
        let stands : standing_in demands (parts ++ x ∷ []) k ≡ with_one (standing_in demands parts x.stage) (demand_at demands x.node) x.quanta =
        standing_here demands parts x k here ∙ ap (λ (j : ℕ). with_one (standing_in demands parts j) (demand_at demands x.node) x.quanta) (sym here) in
        subst (λ (l : Load). Holds (standing_in demands (parts ++ x ∷ []) k) l) (sym item)
        (subst (λ (xs : List Standing). Holds xs new) (sym stands) holds)
    | inr other ↦
        let item : get_or (set loads x.stage new) k d ≡ get_or loads k d = get_or-set_other loads x.stage k new d (λ same. other (sym same)) in
        subst (λ (l : Load). Holds (standing_in demands (parts ++ x ∷ []) k) l) (sym item)
        (subst (λ (xs : List Standing). Holds xs (get_or loads k d)) (sym (standing_elsewhere demands parts x k other)) (h.holds k d lt))
  ];
  kept = λ k lt. elim (cases_eq x.stage k) [
    | inl here ↦
        let stands : standing_in demands (parts ++ x ∷ []) k ≡ with_one (standing_in demands parts x.stage) (demand_at demands x.node) x.quanta =
        standing_here demands parts x k here ∙ ap (λ (j : ℕ). with_one (standing_in demands parts j) (demand_at demands x.node) x.quanta) (sym here) in
        ap keeps_limits stands ∙ kept
    | inr other ↦ ap keeps_limits (standing_elsewhere demands parts x k other) ∙ h.kept k lt
  ];
}

pub last_more : (parts : List Part) (x : Part) (n : ℕ) → last_stage (parts ++ x ∷ []) n ≡ cond (eqb x.node n) (max (last_stage parts n) x.stage) (last_stage parts n)
last_more parts x n =
    let own : Part → Bool = λ (y : Part). eqb y.node n in
    let later : ℕ → Part → ℕ = λ (most : ℕ) (y : Part). max most y.stage in
    ap (fold later 0) (filter-append own parts (x ∷ []))
    ∙ (fold-append later 0 (filter own parts) (filter own (x ∷ []))
    ∙ by_cases (own x) (last_stage parts n))
  where
    by_cases : (b : Bool) (m : ℕ) → fold (λ (most : ℕ) (y : Part). max most y.stage) m (cond b (x ∷ []) []) ≡ cond b (max m x.stage) m
    by_cases true m = refl
    by_cases false m = refl

pub lasts_more : (parts : List Part) (last : List ℕ) (x : Part) (value : ℕ) → AreLast parts last → x.node < length last → x.stage < 32
    → value ≡ max (get_or last x.node 0) x.stage → AreLast (parts ++ x ∷ []) (set last x.node value)
lasts_more parts last x value a node stage is = record {
  each = λ n. elim (cases_eq x.node n) [
    | inl here ↦
        ap (λ (m : ℕ). get_or (set last x.node value) m 0) (sym here)
        ∙ (get_or-set_same last x.node value 0 node
        ∙ (is
        ∙ (ap (λ (m : ℕ). max m x.stage) (ap (λ (m : ℕ). get_or last m 0) here ∙ a.each n)
        ∙ sym (last_more parts x n ∙ ap (λ b. cond b (max (last_stage parts n) x.stage) (last_stage parts n)) (eq-eqb x.node n here)))))
    | inr other ↦
        get_or-set_other last x.node n value 0 (λ same. other (sym same))
        ∙ (a.each n ∙ sym (last_more parts x n ∙ ap (λ b. cond b (max (last_stage parts n) x.stage) (last_stage parts n)) (ne_eqb x.node n other)))
  ];
  few = λ n. elim (cases_eq x.node n) [
    | inl here ↦
        let item : get_or (set last x.node value) n 0 ≡ value = ap (λ (m : ℕ). get_or (set last x.node value) m 0) (sym here) ∙ get_or-set_same last x.node value 0 node in
        omega (arith, item, is, a.few x.node)
    | inr other ↦ omega (arith, get_or-set_other last x.node n value 0 (λ same. other (sym same)), a.few n)
  ];
}

-- ---- what a stage takes is within its limits

pub kept_at : (mosts sums : List ℕ) (i : ℕ) → are_kept mosts sums ≡ true → i < length mosts → i < length sums → get_or sums i 0 ≤ get_or mosts i 0
kept_at [] sums i kept below inside = absurd (omega arith)
kept_at (most ∷ mosts) [] i kept below inside = absurd (omega arith)
kept_at (most ∷ mosts) (sum ∷ sums) zero kept below inside = leb-true sum most (and_parts _ (are_kept mosts sums) kept).0
kept_at (most ∷ mosts) (sum ∷ sums) (suc i) kept below inside = kept_at mosts sums i (and_parts _ (are_kept mosts sums) kept).1 (omega arith) (omega arith)

-- ---- one stage more

stages_left : (k : ℕ) → k < 32 → 32 - k ≡ suc (32 - (k + 1))
stages_left k lt = omega arith

-- a node is given what fits in stage k, and the rest in later ones
pub spread_step : (demands : List Demand) (parts : List Part) (n k left taken : ℕ) → k < 32 → taken ≡ fitting (standing_in demands parts k) (demand_at demands n) left
    → spread demands parts n (range_with_len k (32 - k)) left
    ≡ record {
      parts = taken_part n k taken ++ (spread demands parts n (range_with_len (k + 1) (32 - (k + 1))) (left - taken)).parts;
      left = (spread demands parts n (range_with_len (k + 1) (32 - (k + 1))) (left - taken)).left;
    }
spread_step demands parts n k left taken lt is =
    let after : ℕ → Spread = λ (t : ℕ). record {
      parts = taken_part n k t ++ (spread demands parts n (range_with_len (k + 1) (32 - (k + 1))) (left - t)).parts;
      left = (spread demands parts n (range_with_len (k + 1) (32 - (k + 1))) (left - t)).left;
    } in
    ap (λ (m : ℕ). spread demands parts n (range_with_len k m) left) (stages_left k lt) ∙ ap after (sym is)

pub hits_step : (demands : List Demand) (parts : List Part) (n k left taken : ℕ) → k < 32 → taken ≡ fitting (standing_in demands parts k) (demand_at demands n) left
    → hits_in demands parts n (range_with_len k (32 - k)) left
    ≡ hit_list (hit_beside k (standing_in demands parts k) (demand_at demands n) taken) ++ hits_in demands parts n (range_with_len (k + 1) (32 - (k + 1))) (left - taken)
hits_step demands parts n k left taken lt is =
    let after : ℕ → List LimitHit = λ (t : ℕ).
    hit_list (hit_beside k (standing_in demands parts k) (demand_at demands n) t) ++ hits_in demands parts n (range_with_len (k + 1) (32 - (k + 1))) (left - t) in
    ap (λ (m : ℕ). hits_in demands parts n (range_with_len k m) left) (stages_left k lt) ∙ ap after (sym is)

-- what a node takes in stage k doesn't stand in another
pub taken_elsewhere : (demands : List Demand) (parts : List Part) (n k taken j : ℕ) → (k ≡ j → ⊥)
    → standing_in demands (parts ++ taken_part n k taken) j ≡ standing_in demands parts j
taken_elsewhere demands parts n k taken j other = by_cases (eqb taken 0)
  where
    by_cases : (b : Bool) → standing_in demands (parts ++ cond b [] (record { node = n; stage = k; quanta = taken } ∷ [])) j ≡ standing_in demands parts j
    by_cases true = ap (λ (l : List Part). standing_in demands l j) (append-nil parts)
    by_cases false = standing_elsewhere demands parts (record { node = n; stage = k; quanta = taken }) j other
