-- The hits of a placement that is stuck tell why.
use Rattle.std.proofs.Common.{◌≡◌, ℕ, ◌≤◌, List, [], ◌∷◌, ◌++◌, Bool, true, false, cond, eqb, Ok, Err, Result, refl, subst, ap, ◌∙◌, arith}
use Rattle.std.proofs.lemmas.Bool.{eqb-false}
use Rattle.rmt_ast.specs.declared.deps.Edge.{Edge}
use Rattle.rmt_config.specs.declared.limits.LimitHit.{LimitHit}
use Rattle.rmt_pack.specs.declared.placement.Part.{Part}
use Rattle.rmt_place.specs.declared.demand.Demand.{Demand}
use Rattle.rmt_place.specs.Needs.{demand_at}
use Rattle.rmt_place.specs.Placing.{earliest_stage, hits_from, placed_all, placed_node, placed_then, settled, Spread, spread, stages_from, Stuck, TellWhy}
use Rattle.rmt_place.proofs.HitLaws.{hits_why}

settled_stuck : (n : ℕ) (parts : List Part) (hits : List LimitHit) (s : Spread) (stuck : Stuck) → settled n parts hits s ≡ Err stuck → (1 ≤ s.left) × (hits ≡ stuck.hits)
settled_stuck n parts hits s stuck is = by (eqb s.left 0) refl is
  where
    by : (b : Bool) → eqb s.left 0 ≡ b → cond {A = Result (List Part) Stuck} b (Ok (parts ++ s.parts)) (Err (record { node = n; placed = parts ++ s.parts; hits = hits })) ≡ Err stuck
        → (1 ≤ s.left) × (hits ≡ stuck.hits)
    by true e done = absurd (cc)
    by false e done =
        let same : record { node = n; placed = parts ++ s.parts; hits = hits } ≡ stuck = cc in
        ((let some : s.left ≡ 0 → ⊥ = eqb-false s.left 0 e in omega arith), ap (λ (x : Stuck). x.hits) same)

node_stuck : (demands : List Demand) (edges : List Edge) (parts : List Part) (n : ℕ) (stuck : Stuck) → placed_node demands edges parts n ≡ Err stuck → TellWhy stuck.hits
node_stuck demands edges parts n stuck is =
    let earliest = earliest_stage edges parts n in
    let s = spread demands parts n (stages_from earliest) (demand_at demands n).quanta in
    let r = settled_stuck n parts (hits_from demands parts n earliest) s stuck is in
    subst TellWhy r.1 (hits_why demands parts n earliest r.0)

pub stuck_why : (demands : List Demand) (edges : List Edge) (nodes : List ℕ) (parts : List Part) (stuck : Stuck) → placed_all demands edges nodes parts ≡ Err stuck → TellWhy stuck.hits
stuck_why demands edges [] parts stuck is = absurd (cc)
stuck_why demands edges (n ∷ nodes) parts stuck is = by (placed_node demands edges parts n) refl is (λ more. stuck_why demands edges nodes more stuck)
  where
    by : (r : Result (List Part) Stuck) → placed_node demands edges parts n ≡ r → placed_then r (placed_all demands edges nodes) ≡ Err stuck
        → ((more : List Part) → placed_all demands edges nodes more ≡ Err stuck → TellWhy stuck.hits) → TellWhy stuck.hits
    by (Ok more) e done rest = rest more done
    by (Err own) e done rest = node_stuck demands edges parts n stuck (e ∙ done)
