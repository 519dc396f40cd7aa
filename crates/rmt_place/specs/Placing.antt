-- How the nodes of a program are placed into stages: by dependency level, each as early as its edges and the limits allow (after the greedy placement of Jose et al. 2015).
use Rattle.std.specs.Prelude.{◌≡◌, ◌≢◌, ◌<◌, ◌≤◌, ⊤, ℕ, ◌+◌, ◌-◌, List, [], ◌∷◌, ◌++◌, ◌==◌, nat_lt, if◌then◌else◌, Option, Some, None, find, filter, map, length, slice_index, unwrap_or, Result, Ok, Err, All, AllPairs, Contains}
use Rattle.std.specs.List.{flat_map, range_with_len}
use Rattle.rmt_bits.specs.declared.lane.Lane.{Lane}
use Rattle.rmt_ast.specs.declared.program.Program.{Program}
use Rattle.rmt_ast.specs.declared.deps.Edge.{Edge}
use Rattle.rmt_ast.specs.declared.deps.Deps.{Deps}
use Rattle.rmt_config.specs.declared.limits.LimitHit.{LimitHit}
use Rattle.rmt_config.specs.Limits.{most_of}
use Rattle.rmt_config.specs.Resources.{greatest_by}
use Rattle.rmt_deps.specs.Levels.{all_edges, levels_of}
use Rattle.rmt_pack.specs.Placements.{is_strict}
use Rattle.rmt_pack.specs.declared.placement.Part.{Part}
use Rattle.rmt_place.specs.declared.demand.Demand.{Demand}
use Rattle.rmt_place.specs.declared.fault.StageFull.{StageFull}
use Rattle.rmt_place.specs.declared.fault.StageFull.TheVariants.{NoMemory, At}
use Rattle.rmt_place.specs.Needs.{Standing, Sum, demands_of, demand_at, sums_of, keeps_limits}

-- ---- the order of the nodes

-- nodes by level, and those of one level by number
abbrev pub order_of : List ℕ → List ℕ
order_of levels = flat_map (λ level. filter (λ n. slice_index levels n == level) (range_with_len 0 (length levels))) (range_with_len 0 (length levels))

-- the rule's order
abbrev pub rule_order : Deps → ℕ → List ℕ
rule_order deps nodes = order_of (levels_of deps nodes)

-- the second node of an edge doesn't stand before the first
abbrev pub InOrder : Edge → List ℕ → Type 0
InOrder e order = AllPairs (λ x y. x ≡ e.to → y ≢ e.from) order

-- A good order of so many nodes has each of them once, and the first node of each edge before the second.
pub record IsGoodOrder (nodes : ℕ) (edges : List Edge) (order : List ℕ) : Type 0 where
  pub numbers : All (λ n. n < nodes) order
  pub all_there : (n : ℕ) → n < nodes → Contains order n
  pub once : AllPairs ◌≢◌ order
  pub forward : All (λ e. InOrder e order) edges

-- ---- one node

-- the last stage in which a node has a part
abbrev pub last_stage : List Part → ℕ → ℕ
last_stage parts n = greatest_by (λ (x : Part). x.stage) (filter (λ (x : Part). x.node == n) parts)

-- the first stage that an edge allows: behind the last part of the earlier node, or in its stage where the edge is weak
abbrev pub allowed_by : List Part → Edge → ℕ
allowed_by parts e = last_stage parts e.from + (if is_strict e.kind then 1 else 0)

-- the earliest stage of a node: the greatest that an edge to it allows
abbrev pub earliest_stage : List Edge → List Part → ℕ → ℕ
earliest_stage edges parts n = greatest_by (allowed_by parts) (filter (λ (e : Edge). e.to == n) edges)

-- what stands in a stage
abbrev pub standing_in : List Demand → List Part → ℕ → List Standing
standing_in demands parts k =
    map (λ (x : Part). record { demand = demand_at demands x.node; quanta = x.quanta }) (filter (λ (x : Part). x.stage == k) parts)

-- beside it some quanta of another node; none of it needs nothing
abbrev pub beside : List Standing → Demand → ℕ → List Standing
beside others demand quanta = others ++ (if quanta == 0 then [] else record { demand = demand; quanta = quanta } ∷ [])

-- the most quanta that fit, of those that are left
abbrev pub fitting : List Standing → Demand → ℕ → ℕ
fitting others demand left =
    unwrap_or (find (λ quanta. keeps_limits (beside others demand quanta)) (map (λ i. left - i) (range_with_len 0 left))) 0

-- the part of a node that takes some quanta in stage k
abbrev pub taken_part : ℕ → ℕ → ℕ → List Part
taken_part n k taken = if taken == 0 then [] else record { node = n; stage = k; quanta = taken } ∷ []

-- the parts of a node in some stages, and the quanta that are left then
pub record Spread : Type 0 where
  pub parts : List Part
  pub left : ℕ

-- a node takes in each stage the most quanta that fit, until it has all
abbrev pub spread : List Demand → List Part → ℕ → List ℕ → ℕ → Spread
spread demands parts n [] left = record { parts = []; left = left }
spread demands parts n (k ∷ stages) left =
    let taken = fitting (standing_in demands parts k) (demand_at demands n) left in
    let rest = spread demands parts n stages (left - taken) in
    record { parts = taken_part n k taken ++ rest.parts; left = rest.left }

-- ---- a node that doesn't fit

-- the first sum that one more quantum makes greater than its limit
abbrev pub passed_first : ℕ → List Sum → List Sum → Option LimitHit
passed_first k [] more = None
passed_first k (x ∷ xs) [] = None
passed_first k (x ∷ xs) (y ∷ ys) =
    if nat_lt y.most y.sum then Some (record { limit = x.limit; stage = k; sum = x.sum; need = y.sum - x.sum }) else passed_first k xs ys

-- why one more quantum of a node doesn't fit in stage k, beside those that it takes there
abbrev pub hit_beside : ℕ → List Standing → Demand → ℕ → Option LimitHit
hit_beside k others demand taken = passed_first k (sums_of (beside others demand taken)) (sums_of (beside others demand (taken + 1)))

abbrev pub hit_list : Option LimitHit → List LimitHit
hit_list None = []
hit_list (Some hit) = hit ∷ []

-- one hit for each of some stages, in each of which the node takes the most quanta that fit
abbrev pub hits_in : List Demand → List Part → ℕ → List ℕ → ℕ → List LimitHit
hits_in demands parts n [] left = []
hits_in demands parts n (k ∷ stages) left =
    let others = standing_in demands parts k in
    let taken = fitting others (demand_at demands n) left in
    hit_list (hit_beside k others (demand_at demands n) taken) ++ hits_in demands parts n stages (left - taken)

-- the stages from one on
abbrev pub stages_from : ℕ → List ℕ
stages_from k = range_with_len k (32 - k)

-- one hit for each stage from the earliest on; where that is past the last one, that there are only 32
abbrev pub hits_from : List Demand → List Part → ℕ → ℕ → List LimitHit
hits_from demands parts n earliest =
    if nat_lt earliest 32
    then hits_in demands parts n (stages_from earliest) (demand_at demands n).quanta
    else record { limit = 1; stage = 32; sum = 32; need = 1 } ∷ []

-- ---- all nodes

-- a node that is stuck: the parts that were placed, its own among them, and the hits
pub record Stuck : Type 0 where
  pub node : ℕ
  pub placed : List Part
  pub hits : List LimitHit

-- the parts behind one more node
abbrev pub settled : ℕ → List Part → List LimitHit → Spread → Result (List Part) Stuck
settled n parts hits s =
    if s.left == 0 then Ok (parts ++ s.parts) else Err (record { node = n; placed = parts ++ s.parts; hits = hits })

abbrev pub placed_node : List Demand → List Edge → List Part → ℕ → Result (List Part) Stuck
placed_node demands edges parts n =
    let earliest = earliest_stage edges parts n in
    let s = spread demands parts n (stages_from earliest) (demand_at demands n).quanta in
    settled n parts (hits_from demands parts n earliest) s

abbrev pub placed_then : Result (List Part) Stuck → (List Part → Result (List Part) Stuck) → Result (List Part) Stuck
placed_then (Err stuck) rest = Err stuck
placed_then (Ok parts) rest = rest parts

abbrev pub placed_all : List Demand → List Edge → List ℕ → List Part → Result (List Part) Stuck
placed_all demands edges [] parts = Ok parts
placed_all demands edges (n ∷ nodes) parts = placed_then (placed_node demands edges parts n) (placed_all demands edges nodes)

-- the parts of all nodes, where they are placed in this order
abbrev pub placement_in : List Demand → Deps → List ℕ → Result (List Part) Stuck
placement_in demands deps order = placed_all demands (all_edges deps) order []

-- by the rule they are placed in its order
abbrev pub placement_of : List Demand → Deps → Result (List Part) Stuck
placement_of demands deps = placement_in demands deps (rule_order deps (length demands))

-- the placement of a program whose fields have these places
abbrev pub placement : Program → List (List Lane) → Deps → Result (List Part) Stuck
placement p places deps = placement_of (demands_of p places) deps

-- a part of one of so many nodes, in a stage of the chip, that has a quantum
pub record IsPart (nodes : ℕ) (x : Part) : Type 0 where
  pub node : x.node < nodes
  pub stage : x.stage < 32
  pub quanta : 1 ≤ x.quanta

-- two parts that are not of one node in one stage
abbrev pub AreTwo : Part → Part → Type 0
AreTwo x y = x.node ≡ y.node → x.stage ≡ y.stage → ⊥

-- what a hit tells of passes its limit
abbrev pub Passes : LimitHit → Type 0
Passes hit = most_of hit.limit < hit.sum + hit.need

-- the stages of which hits tell: those from one on, or that there are only 32
abbrev pub told_stages : ℕ → List ℕ
told_stages first = if nat_lt first 32 then stages_from first else 32 ∷ []

-- there is one hit for each stage from some first one on, and each passes its limit
pub record TellWhy (hits : List LimitHit) : Type 0 where
  pub first : ℕ
  pub stages : map (λ (hit : LimitHit). hit.stage) hits ≡ told_stages first
  pub passed : All Passes hits

-- where a node is stuck, its hits tell why
abbrev pub TellsWhy : StageFull → Type 0
TellsWhy NoMemory = ⊤
TellsWhy (At node placed hits) = TellWhy hits

-- nodes are not placed because one is stuck, or for want of memory
abbrev pub IsStuck : Result (List Part) Stuck → StageFull → Type 0
IsStuck r NoMemory = ⊤
IsStuck r (At node placed hits) = r ≡ Err (record { node = node; placed = placed.parts; hits = hits })
