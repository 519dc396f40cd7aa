-- The tries at placing a program better than the rule does, and the best of them.
use Rattle.std.specs.Prelude.{ℕ, zero, suc, ◌-◌, ◌%◌, List, [], ◌∷◌, ◌++◌, Bool, true, false, ◌&&◌, ◌||◌, ◌==◌, nat_lt, if◌then◌else◌, length, Result, Ok, Err}
use Rattle.std.specs.List.{best_of}
use Rattle.rmt_bits.specs.declared.lane.Lane.{Lane}
use Rattle.rmt_ast.specs.declared.program.Program.{Program}
use Rattle.rmt_ast.specs.declared.deps.Edge.{Edge}
use Rattle.rmt_ast.specs.declared.deps.Deps.{Deps}
use Rattle.rmt_config.specs.Resources.{greatest_by}
use Rattle.rmt_deps.specs.Levels.{all_edges}
use Rattle.rmt_pack.specs.declared.placement.Part.{Part}
use Rattle.rmt_place.specs.declared.demand.Demand.{Demand}
use Rattle.rmt_place.specs.Needs.{demands_of}
use Rattle.rmt_place.specs.Placing.{Stuck, placement_in, rule_order}
use Rattle.rmt_place.specs.Starting.{stages_in, starts_of}
use Rattle.rmt_improve.specs.Orders.{blocks_of, by_weight, exchanged, heights_of}

-- a try: an order, and what placing the nodes in it gives
pub record Try : Type 0 where
  pub order : List ℕ
  pub placed : Result (List Part) Stuck

abbrev pub try_in : List Demand → Deps → List ℕ → Try
try_in demands deps order = record { order = order; placed = placement_in demands deps order }

-- ---- which try is better

-- the start of the last stage; 0 with no stage
abbrev pub last_start : List Edge → List Part → ℕ
last_start edges parts = greatest_by (λ start. start) (starts_of edges parts)

-- fewer stages, or as many and an earlier start of the last one
abbrev pub is_placed_better : List Edge → List Part → List Part → Bool
is_placed_better edges a b =
    nat_lt (stages_in a) (stages_in b) || ((stages_in a == stages_in b) && nat_lt (last_start edges a) (last_start edges b))

-- a try is better than one that is stuck where it isn't, and else by its placement
abbrev pub is_better_than : List Edge → Result (List Part) Stuck → Result (List Part) Stuck → Bool
is_better_than edges (Err stuck) other = false
is_better_than edges (Ok a) (Err stuck) = true
is_better_than edges (Ok a) (Ok b) = is_placed_better edges a b

abbrev pub is_better : List Edge → Try → Try → Bool
is_better edges a b = is_better_than edges a.placed b.placed

-- ---- the tries

-- The order of a try by its number, where `best` is that of the best try before it: the rule's; of the nodes that may be
-- next each time the one with the most strict edges on a path that begins in it; the one with the most blocks; and then
-- the best with two neighbours exchanged, each time the next two.
abbrev pub order_of_try : List Demand → Deps → ℕ → List ℕ → List ℕ
order_of_try demands deps zero best = rule_order deps (length demands)
order_of_try demands deps (suc zero) best = by_weight (all_edges deps) (heights_of deps (length demands)) (length demands)
order_of_try demands deps (suc (suc zero)) best = by_weight (all_edges deps) (blocks_of demands) (length demands)
order_of_try demands deps (suc (suc (suc k))) best =
    if nat_lt (length demands) 2 then best else exchanged (all_edges deps) best (k % (length demands - 1))

abbrev pub first_try : List Demand → Deps → Try
first_try demands deps = try_in demands deps (rule_order deps (length demands))

-- so many tries behind the first
abbrev pub later_tries : List Demand → Deps → ℕ → List Try
later_tries demands deps zero = []
later_tries demands deps (suc k) =
    let earlier = later_tries demands deps k in
    let best = best_of (is_better (all_edges deps)) (first_try demands deps) earlier in
    earlier ++ try_in demands deps (order_of_try demands deps (suc k) best.order) ∷ []

-- the best of so many tries: the earliest that none is better than (proofs/BestLaws)
abbrev pub best_try : List Demand → Deps → ℕ → Try
best_try demands deps budget = best_of (is_better (all_edges deps)) (first_try demands deps) (later_tries demands deps (budget - 1))

-- what the best of so many tries gives for a program whose fields have these places
abbrev pub better_placement : Program → List (List Lane) → Deps → ℕ → Result (List Part) Stuck
better_placement p places deps budget = (best_try (demands_of p places) deps budget).placed
