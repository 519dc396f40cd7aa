-- A placement has one part for a node and a stage.
use Rattle.std.proofs.Common.{◌≡◌, ℕ, zero, suc, ◌+◌, ◌-◌, ◌<◌, List, [], ◌∷◌, get_or, Bool, true, false, cond, eqb, Ok, sym, refl, subst, ap, ◌∙◌, arith}
use Rattle.std.specs.List.{All, AllPairs, range_with_len}
use Rattle.std.proofs.lemmas.List.Elements.{All-nil, All-cons, All-head, All-tail, All-append}
use Rattle.std.proofs.lemmas.List.Kept.{AllPairs-cons}
use Rattle.rmt_ast.specs.declared.deps.Edge.{Edge}
use Rattle.rmt_pack.specs.declared.placement.Part.{Part}
use Rattle.rmt_place.specs.declared.demand.Demand.{Demand}
use Rattle.rmt_place.specs.Needs.{demand_at}
use Rattle.rmt_place.specs.Placing.{AreTwo, earliest_stage, fitting, order_of, placed_all, placed_node, spread, stages_from, standing_in, taken_part}
use Rattle.rmt_place.proofs.KeepLaws.{placed_induction, placed_is, spread_own}
use Rattle.rmt_place.proofs.OrderLaws.{order_goes}
use Rattle.rmt_bits.proofs.PairLaws.{AllPairs-tail, AllPairs-head, AllPairs-append, AllPairs-none}

-- the parts of a node stand in rising stages
taken_rises : (n k taken : ℕ) → AllPairs (λ (x y : Part). x.stage < y.stage) (taken_part n k taken)
taken_rises n k taken = by_cases (eqb taken 0)
  where
    by_cases : (b : Bool) → AllPairs (λ (x y : Part). x.stage < y.stage) (cond b [] (record { node = n; stage = k; quanta = taken } ∷ []))
    by_cases true = AllPairs-none (λ (x y : Part). x.stage < y.stage)
    by_cases false =
        AllPairs-cons (λ (x y : Part). x.stage < y.stage) (record { node = n; stage = k; quanta = taken }) []
        (All-nil (λ (y : Part). k < y.stage)) (AllPairs-none (λ (x y : Part). x.stage < y.stage))

taken_at : (n k taken : ℕ) → All (λ (x : Part). x.stage ≡ k) (taken_part n k taken)
taken_at n k taken = by_cases (eqb taken 0)
  where
    by_cases : (b : Bool) → All (λ (x : Part). x.stage ≡ k) (cond b [] (record { node = n; stage = k; quanta = taken } ∷ []))
    by_cases true = All-nil (λ (x : Part). x.stage ≡ k)
    by_cases false = All-cons (λ (x : Part). x.stage ≡ k) (record { node = n; stage = k; quanta = taken }) [] refl (All-nil (λ (x : Part). x.stage ≡ k))

spread_rises : (demands : List Demand) (parts : List Part) (n a m left : ℕ) → AllPairs (λ (x y : Part). x.stage < y.stage) (spread demands parts n (range_with_len a m) left).parts
spread_rises demands parts n a zero left = AllPairs-none (λ (x y : Part). x.stage < y.stage)
spread_rises demands parts n a (suc m) left =
    let taken = fitting (standing_in demands parts a) (demand_at demands n) left in
    let rest = (spread demands parts n (range_with_len (a + 1) m) (left - taken)).parts in
    let later = spread_own demands parts n (a + 1) (a + 1 + m) (a + 1) m (left - taken) (omega arith) (omega arith) in
    AllPairs-append (λ (x y : Part). x.stage < y.stage) (taken_part n a taken) rest (taken_rises n a taken) (spread_rises demands parts n (a + 1) m (left - taken))
    (λ i d lt j f inside. (let at = taken_at n a taken i d lt in let own = (later j f inside).behind in omega (arith, at, own)))

no_range_rises : (demands : List Demand) (parts : List Part) (n a left : ℕ) → AllPairs (λ (x y : Part). x.stage < y.stage) (spread demands parts n (stages_from a) left).parts
no_range_rises demands parts n a left = spread_rises demands parts n a (32 - a) left

-- parts of one node stand in different stages
pub parts_apart : (demands : List Demand) (edges : List Edge) (nodes : List ℕ) (final : List Part) → AllPairs (λ m n. m ≡ n → ⊥) nodes
    → placed_all demands edges nodes [] ≡ Ok final → AllPairs AreTwo final
parts_apart demands edges nodes final distinct is =
    (placed_induction demands edges (λ rest parts. AllPairs AreTwo parts × AllPairs (λ m n. m ≡ n → ⊥) rest × All (λ n. All (λ (x : Part). x.node ≡ n → ⊥) parts) rest) step
    nodes [] final (AllPairs-none AreTwo, distinct, λ i d lt. All-nil (λ (x : Part). x.node ≡ get_or nodes i d → ⊥)) is).0
  where
    step : (n : ℕ) (rest : List ℕ) (parts more : List Part)
        → AllPairs AreTwo parts × AllPairs (λ a b. a ≡ b → ⊥) (n ∷ rest) × All (λ m. All (λ (x : Part). x.node ≡ m → ⊥) parts) (n ∷ rest)
        → placed_node demands edges parts n ≡ Ok more
        → AllPairs AreTwo more × AllPairs (λ a b. a ≡ b → ⊥) rest × All (λ m. All (λ (x : Part). x.node ≡ m → ⊥) more) rest
    step n rest parts more holds placed =
        let p = placed_is demands edges parts more n placed in
        let own = (spread demands parts n (stages_from (earliest_stage edges parts n)) (demand_at demands n).quanta).parts in
        let rises = no_range_rises demands parts n (earliest_stage edges parts n) (demand_at demands n).quanta in
        let others : All (λ (x : Part). x.node ≡ n → ⊥) parts = All-head (λ m. All (λ (x : Part). x.node ≡ m → ⊥) parts) n rest holds.2 in (
          subst (λ (l : List Part). AllPairs AreTwo l) (sym p.behind)
              (AllPairs-append AreTwo parts own holds.0
              (λ i j d lt below node stage. (let up = rises i j d lt below in absurd (omega (arith, up, stage))))
              (λ i d lt j f inside node stage. others i d lt (node ∙ (p.own_parts j f inside).node))),
          AllPairs-tail (λ a b. a ≡ b → ⊥) n rest holds.1,
          λ i d lt.
              subst (λ (l : List Part). All (λ (x : Part). x.node ≡ get_or rest i d → ⊥) l) (sym p.behind)
              (All-append (λ (x : Part). x.node ≡ get_or rest i d → ⊥) parts own
              (All-tail (λ m. All (λ (x : Part). x.node ≡ m → ⊥) parts) n rest holds.2 i d lt)
              (λ j f inside same. AllPairs-head (λ a b. a ≡ b → ⊥) n rest holds.1 i d lt (sym (p.own_parts j f inside).node ∙ same))),
        )

pub order_distinct : (levels : List ℕ) → AllPairs (λ m n. m ≡ n → ⊥) (order_of levels)
order_distinct levels i j d lt below same =
    omega (arith, (order_goes levels i j d lt below).number (ap (λ (m : ℕ). get_or levels m 0) same), same)
