-- Each try has a good order, so the best does, and what it gives is the placement of that order.
use Rattle.std.proofs.Common.{◌≡◌, ℕ, zero, suc, ◌+◌, ◌-◌, ◌*◌, ◌%◌, ◌<◌, ◌≤◌, List, [], ◌∷◌, length, map, Bool, cond, sym, refl, subst, ap, ◌∙◌, inl, inr, arith}
use Rattle.std.specs.List.{All, best_of}
use Rattle.std.proofs.lemmas.Bool.{cases_lt, le-ltb, lt-ltb}
use Rattle.std.proofs.lemmas.List.{length-map, length-reverse}
use Rattle.std.proofs.lemmas.List.Sums.{fold-append}
use Rattle.std.proofs.lemmas.List.Elements.{All-nil, All-cons, All-append, All-map}
use Rattle.rmt_ast.specs.declared.deps.Edge.{Edge}
use Rattle.rmt_ast.specs.declared.deps.Deps.{Deps}
use Rattle.rmt_deps.specs.Edges.{GoesForward, GoForward}
use Rattle.rmt_deps.specs.Levels.{all_edges, levels_of}
use Rattle.rmt_deps.proofs.LevelLaws.{length-levels_of}
use Rattle.rmt_place.specs.declared.demand.Demand.{Demand}
use Rattle.rmt_place.specs.Placing.{IsGoodOrder, placement_in}
use Rattle.rmt_place.proofs.GoodLaws.{rule_good}
use Rattle.rmt_improve.specs.Orders.{blocks_of, by_weight, exchanged, heights_of, turned, turned_deps}
use Rattle.rmt_improve.specs.Tries.{Try, best_try, first_try, is_better, later_tries, order_of_try, try_in}
use Rattle.rmt_improve.proofs.BestLaws.{best-holds}
use Rattle.rmt_improve.proofs.OrderLaws.{by_weight_good, exchanged_good, good_length}

-- ---- weights

-- edges that are turned go forward
pub turned_forward : (nodes : ℕ) (edges : List Edge) → All (GoesForward nodes) edges → All (GoesForward nodes) (map (turned nodes) edges)
turned_forward nodes edges forward =
    All-map (GoesForward nodes) (turned nodes) edges
    (λ i d lt. (let goes = forward i d lt in let later = goes.later in let below = goes.is_node in record { later = omega arith; is_node = omega arith }))

pub turned_deps_forward : (nodes : ℕ) (deps : Deps) → GoForward nodes deps → GoForward nodes (turned_deps nodes deps)
turned_deps_forward nodes deps forward = record { field = turned_forward nodes deps.field forward.field; word = turned_forward nodes deps.word forward.word }

pub length-heights_of : (deps : Deps) (nodes : ℕ) → length (heights_of deps nodes) ≡ nodes
length-heights_of deps nodes = length-reverse (levels_of (turned_deps nodes deps) nodes) ∙ length-levels_of (turned_deps nodes deps) nodes

pub length-blocks_of : (demands : List Demand) → length (blocks_of demands) ≡ length demands
length-blocks_of demands = length-map demands (λ (d : Demand). d.quanta * (d.sram + d.tcam))

weight_good : (deps : Deps) (weights : List ℕ) (nodes : ℕ) → length weights ≡ nodes → GoForward nodes deps → IsGoodOrder nodes (all_edges deps) (by_weight (all_edges deps) weights nodes)
weight_good deps weights nodes size forward =
    subst (λ (n : ℕ). IsGoodOrder n (all_edges deps) (by_weight (all_edges deps) weights n)) size
    (by_weight_good deps weights (subst (λ (n : ℕ). GoForward n deps) (sym size) forward))

-- ---- tries

pub order_good : (demands : List Demand) (deps : Deps) (number : ℕ) (best : List ℕ) → GoForward (length demands) deps → IsGoodOrder (length demands) (all_edges deps) best
    → IsGoodOrder (length demands) (all_edges deps) (order_of_try demands deps number best)
order_good demands deps zero best forward good = rule_good deps (length demands) forward
order_good demands deps (suc zero) best forward good = weight_good deps (heights_of deps (length demands)) (length demands) (length-heights_of deps (length demands)) forward
order_good demands deps (suc (suc zero)) best forward good = weight_good deps (blocks_of demands) (length demands) (length-blocks_of demands) forward
order_good demands deps (suc (suc (suc k))) best forward good = elim (cases_lt (length demands) 2) [
  | inl few ↦ subst (λ (b : Bool). IsGoodOrder nodes edges (cond b best (exchanged edges best (k % (nodes - 1))))) (sym (lt-ltb (length demands) 2 few)) good
  | inr some ↦
      let place : k % (nodes - 1) < nodes - 1 = omega arith in
      subst (λ (b : Bool). IsGoodOrder nodes edges (cond b best (exchanged edges best (k % (nodes - 1))))) (sym (le-ltb (length demands) 2 some))
      (exchanged_good nodes edges best (k % (nodes - 1)) good (omega (arith, place, good_length nodes edges best good, some)))
]
  where
    nodes : ℕ
    nodes = length demands

    edges : List Edge
    edges = all_edges deps

-- a try in a good order
pub record IsGoodTry (demands : List Demand) (deps : Deps) (t : Try) : Type 0 where
  pub good : IsGoodOrder (length demands) (all_edges deps) t.order
  pub placed : t.placed ≡ placement_in demands deps t.order

pub first_good : (demands : List Demand) (deps : Deps) → GoForward (length demands) deps → IsGoodTry demands deps (first_try demands deps)
first_good demands deps forward = record { good = rule_good deps (length demands) forward; placed = refl }

pub later_good : (demands : List Demand) (deps : Deps) (k : ℕ) → GoForward (length demands) deps → All (IsGoodTry demands deps) (later_tries demands deps k)
later_good demands deps zero forward = All-nil (IsGoodTry demands deps)
later_good demands deps (suc k) forward =
    let earlier = later_tries demands deps k in
    let before = later_good demands deps k forward in
    let best = best-holds (IsGoodTry demands deps) (is_better (all_edges deps)) (first_try demands deps) earlier (first_good demands deps forward) before in
    let order = order_of_try demands deps (suc k) (best_of (is_better (all_edges deps)) (first_try demands deps) earlier).order in
    All-append (IsGoodTry demands deps) earlier (try_in demands deps order ∷ []) before
    (All-cons (IsGoodTry demands deps) (try_in demands deps order) [] record { good = order_good demands deps (suc k) _ forward best.good; placed = refl } (All-nil (IsGoodTry demands deps)))

pub best_good : (demands : List Demand) (deps : Deps) (budget : ℕ) → GoForward (length demands) deps → IsGoodTry demands deps (best_try demands deps budget)
best_good demands deps budget forward =
    best-holds (IsGoodTry demands deps) (is_better (all_edges deps)) (first_try demands deps) (later_tries demands deps (budget - 1)) (first_good demands deps forward)
    (later_good demands deps (budget - 1) forward)

pub best_order_good : (demands : List Demand) (deps : Deps) (number : ℕ) (order : List ℕ) → GoForward (length demands) deps → order ≡ (best_try demands deps number).order
    → IsGoodOrder (length demands) (all_edges deps) order
best_order_good demands deps number order forward is = subst (IsGoodOrder (length demands) (all_edges deps)) (sym is) (best_good demands deps number forward).good

-- ---- one try more

-- the better of the best so far and the try of a number behind it
abbrev pub next_best : List Demand → Deps → ℕ → Try → Try
next_best demands deps number best =
    let next = try_in demands deps (order_of_try demands deps number best.order) in
    cond (is_better (all_edges deps) next best) next best

best_next : (demands : List Demand) (deps : Deps) (k : ℕ)
    → best_of (is_better (all_edges deps)) (first_try demands deps) (later_tries demands deps (suc k))
    ≡ next_best demands deps (suc k) (best_of (is_better (all_edges deps)) (first_try demands deps) (later_tries demands deps k))
best_next demands deps k =
    let beats = is_better (all_edges deps) in
    let first = first_try demands deps in
    let earlier = later_tries demands deps k in
    fold-append (λ (b t : Try). cond (beats t b) t b) first earlier (try_in demands deps (order_of_try demands deps (suc k) (best_of beats first earlier).order) ∷ [])

pub best_step : (demands : List Demand) (deps : Deps) (number : ℕ) → 1 ≤ number → best_try demands deps (number + 1) ≡ next_best demands deps number (best_try demands deps number)
best_step demands deps number some =
    let until : ℕ → Try = λ k. best_of (is_better (all_edges deps)) (first_try demands deps) (later_tries demands deps k) in
    let more : number + 1 - 1 ≡ suc (number - 1) = omega arith in
    let same : suc (number - 1) ≡ number = omega arith in
    ap until more ∙ (best_next demands deps (number - 1) ∙ ap (λ (m : ℕ). next_best demands deps m (best_try demands deps number)) same)
