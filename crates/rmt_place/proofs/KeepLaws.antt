-- What placements keep: each edge, and where parts stand.
use Rattle.std.proofs.Common.{◌≡◌, ℕ, zero, suc, ◌+◌, ◌-◌, ◌<◌, ◌≤◌, List, [], ◌∷◌, ◌++◌, get_or, filter, Bool, true, false, cond, eqb, Ok, Err, Result, inl, inr, sym, refl, subst, ap, ◌∙◌, arith}
use Rattle.std.specs.List.{All, Contains, range_with_len}
use Rattle.std.specs.Prelude.{MatchBool}
use Rattle.std.proofs.lemmas.Bool.{eqb-false, cases_lt, eq-eqb}
use Rattle.std.proofs.lemmas.List.{get_or_default}
use Rattle.std.proofs.lemmas.List.Elements.{All-nil, All-cons, All-head, All-tail, All-append, All-contains, Contains-append_right, Contains-get_or}
use Rattle.rmt_ast.specs.declared.deps.Edge.{Edge}
use Rattle.rmt_ast.specs.declared.deps.Deps.{Deps}
use Rattle.rmt_config.specs.declared.limits.LimitHit.{LimitHit}
use Rattle.rmt_deps.specs.Edges.{GoForward, GoesForward}
use Rattle.rmt_deps.specs.Levels.{all_edges, levels_of, strict_edges, is_strict as later_stage}
use Rattle.std.proofs.lemmas.List.Sums.{sum_by-cons}
use Rattle.rmt_pack.specs.declared.placement.Part.{Part}
use Rattle.rmt_pack.specs.Placements.{is_strict, Keeps}
use Rattle.rmt_place.specs.declared.demand.Demand.{Demand}
use Rattle.rmt_place.specs.Needs.{demand_at}
use Rattle.rmt_place.specs.Placing.{allowed_by, earliest_stage, fitting, hits_from, InOrder, IsPart, last_stage, order_of, placed_all, placement_in, placed_node, placed_then, settled, Spread, spread, stages_from, standing_in, Stuck, taken_part}
use Rattle.rmt_bits.proofs.MostLaws.{items-le}
use Rattle.rmt_deps.proofs.LevelLaws.{edges_forward, path-le, path_there}
use Rattle.rmt_place.proofs.OrderLaws.{Goes, order_goes}
use Rattle.rmt_bits.proofs.AllLaws.{All-unfilter}
use Rattle.rmt_bits.proofs.PairLaws.{AllPairs-tail, AllPairs-head}

-- ---- the parts of a node

-- a part of node n that stands in a stage of a range
pub record IsOwn (n low high : ℕ) (x : Part) : Type 0 where
  pub node : x.node ≡ n
  pub behind : low ≤ x.stage
  pub before : x.stage < high
  pub some : 1 ≤ x.quanta

taken_own : (n k taken low high : ℕ) → low ≤ k → k < high → All (IsOwn n low high) (taken_part n k taken)
taken_own n k taken low high from below = by_cases (eqb taken 0) refl
  where
    by_cases : (b : Bool) → eqb taken 0 ≡ b → All (IsOwn n low high) (cond b [] (record { node = n; stage = k; quanta = taken } ∷ []))
    by_cases true e = All-nil (IsOwn n low high)
    by_cases false e =
        All-cons (IsOwn n low high) (record { node = n; stage = k; quanta = taken }) []
        (record { node = refl; behind = from; before = below; some = (let ne : taken ≡ 0 → ⊥ = eqb-false taken 0 e in omega arith) }) (All-nil (IsOwn n low high))

pub spread_own : (demands : List Demand) (parts : List Part) (n low high a m left : ℕ) → low ≤ a → a + m ≤ high
    → All (IsOwn n low high) (spread demands parts n (range_with_len a m) left).parts
spread_own demands parts n low high a zero left from below = All-nil (IsOwn n low high)
spread_own demands parts n low high a (suc m) left from below =
    let taken = fitting (standing_in demands parts a) (demand_at demands n) left in
    All-append (IsOwn n low high) (taken_part n a taken) (spread demands parts n (range_with_len (a + 1) m) (left - taken)).parts
    (taken_own n a taken low high from (omega arith)) (spread_own demands parts n low high (a + 1) m (left - taken) (omega arith) (omega arith))

-- ---- a node that is placed

settled_ok : (n : ℕ) (parts more : List Part) (hits : List LimitHit) (s : Spread) → settled n parts hits s ≡ Ok more → more ≡ parts ++ s.parts
settled_ok n parts more hits s is = by_cases (eqb s.left 0) is
  where
    by_cases : (b : Bool) → cond {A = Result (List Part) Stuck} b (Ok (parts ++ s.parts)) (Err (record { node = n; placed = parts ++ s.parts; hits = hits })) ≡ Ok more → more ≡ parts ++ s.parts
    by_cases true e = cc
    by_cases false e = cc

-- its parts stand behind those of all others, from its earliest stage on
pub record IsPlaced (edges : List Edge) (n : ℕ) (parts more own : List Part) : Type 0 where
  pub behind : more ≡ parts ++ own
  pub own_parts : All (IsOwn n (earliest_stage edges parts n) 32) own

no_range : (demands : List Demand) (parts : List Part) (n a left : ℕ) → 32 ≤ a → (spread demands parts n (stages_from a) left).parts ≡ []
no_range demands parts n a left past = let none : 32 - a ≡ 0 = omega arith in ap (λ (m : ℕ). (spread demands parts n (range_with_len a m) left).parts) none

own_from : (demands : List Demand) (parts : List Part) (n a left : ℕ) → All (IsOwn n a 32) (spread demands parts n (stages_from a) left).parts
own_from demands parts n a left = elim (cases_lt a 32) [
  | inl within ↦ spread_own demands parts n a 32 a (32 - a) left (omega arith) (omega arith)
  | inr past ↦ subst (λ (l : List Part). All (IsOwn n a 32) l) (sym (no_range demands parts n a left past)) (All-nil (IsOwn n a 32))
]

pub placed_is : (demands : List Demand) (edges : List Edge) (parts more : List Part) (n : ℕ) → placed_node demands edges parts n ≡ Ok more
    → IsPlaced edges n parts more (spread demands parts n (stages_from (earliest_stage edges parts n)) (demand_at demands n).quanta).parts
placed_is demands edges parts more n is =
    let earliest = earliest_stage edges parts n in
    let s = spread demands parts n (stages_from earliest) (demand_at demands n).quanta in
    record {
      behind = settled_ok n parts more (hits_from demands parts n earliest) s is;
      own_parts = own_from demands parts n earliest (demand_at demands n).quanta;
    }

-- ---- edges

-- the parts keep an edge
abbrev pub KeepsEdge : Edge → List Part → Type 0
KeepsEdge e parts = All (λ a. All (Keeps e a) parts) parts

-- a part that stands as far behind the last one as the edge asks
far_enough : (strict : Bool) (a b last : ℕ) → a ≤ last → last + cond strict 1 0 ≤ b → MatchBool strict (a < b) (a ≤ b)
far_enough true a b last le far = omega arith
far_enough false a b last le far = omega arith

last-le : (parts : List Part) (n : ℕ) (a : Part) → Contains parts a → a.node ≡ n → a.stage ≤ last_stage parts n
last-le parts n a there is =
    let all : All (λ (x : Part). x.stage ≤ last_stage parts n) (filter (λ (x : Part). eqb x.node n) parts) =
    items-le (λ (x : Part). x.stage) 0 (filter (λ (x : Part). eqb x.node n) parts) in
    All-contains (λ (x : Part). eqb x.node n ≡ true → x.stage ≤ last_stage parts n) parts a
    (All-unfilter (λ (x : Part). x.stage ≤ last_stage parts n) (λ (x : Part). eqb x.node n) parts all) there (eq-eqb a.node n is)

allowed-le : (edges : List Edge) (parts : List Part) (e : Edge) → Contains edges e → allowed_by parts e ≤ earliest_stage edges parts e.to
allowed-le edges parts e there =
    let all : All (λ (x : Edge). allowed_by parts x ≤ earliest_stage edges parts e.to) (filter (λ (x : Edge). eqb x.to e.to) edges) =
    items-le (allowed_by parts) 0 (filter (λ (x : Edge). eqb x.to e.to) edges) in
    All-contains (λ (x : Edge). eqb x.to e.to ≡ true → allowed_by parts x ≤ earliest_stage edges parts e.to) edges e
    (All-unfilter (λ (x : Edge). allowed_by parts x ≤ earliest_stage edges parts e.to) (λ (x : Edge). eqb x.to e.to) edges all) there (eq-eqb e.to e.to refl)

-- the parts so far keep an edge, and where its earlier node is still to come, none of them is of its later one
pub record KeepsSoFar (e : Edge) (nodes : List ℕ) (parts : List Part) : Type 0 where
  pub kept : KeepsEdge e parts
  pub waits : Contains nodes e.from → All (λ (x : Part). x.node ≡ e.to → ⊥) parts

contains_first : (n : ℕ) (rest : List ℕ) (m : ℕ) → n ≡ m → Contains (n ∷ rest) m
contains_first n rest m is = (0, omega arith, is)

keeps_more : (demands : List Demand) (edges : List Edge) (e : Edge) (n : ℕ) (rest : List ℕ) (parts more own : List Part) → Contains edges e → e.from < e.to
    → InOrder e (n ∷ rest) → KeepsSoFar e (n ∷ rest) parts → IsPlaced edges n parts more own → KeepsSoFar e rest more
keeps_more demands edges e n rest parts more own there forward order so_far placed =
    let old_old : All (λ a. All (Keeps e a) parts) parts = so_far.kept in
    -- a part of the earlier node stands already, and the later node is placed
    let old_new : All (λ a. All (Keeps e a) own) parts = λ i d lt j f inside.
    (λ from to some_a some_b.
    (let a = get_or parts i d in
    let b = get_or own j f in
    let mine = placed.own_parts j f inside in
    let to_n : n ≡ e.to = sym mine.node ∙ to in
    let last = last-le parts e.from a (i, lt, get_or_default parts i a d lt) from in
    let far : allowed_by parts e ≤ b.stage =
    (let le = allowed-le edges parts e there in let at = mine.behind in
    let same : earliest_stage edges parts n ≡ earliest_stage edges parts e.to = ap (earliest_stage edges parts) to_n in omega (arith, le, at, same)) in
    far_enough (is_strict e.kind) a.stage b.stage (last_stage parts e.from) last far)) in
    -- the earlier node is placed: no part of the later one stands yet
    let new_old : All (λ a. All (Keeps e a) parts) own = λ i d lt j f inside.
    (λ from to some_a some_b.
    (let mine = placed.own_parts i d lt in
    absurd (so_far.waits (contains_first n rest e.from (sym mine.node ∙ from)) j f inside to))) in
    let new_new : All (λ a. All (Keeps e a) own) own = λ i d lt j f inside.
    (λ from to some_a some_b.
    (let one = (placed.own_parts i d lt).node in let two = (placed.own_parts j f inside).node in
    let same : e.from ≡ e.to = sym from ∙ (one ∙ (sym two ∙ to)) in absurd (omega (arith, same)))) in
    record {
      kept = subst (KeepsEdge e) (sym placed.behind)
          (All-append (λ a. All (Keeps e a) (parts ++ own)) parts own
          (λ i d lt. All-append (Keeps e (get_or parts i d)) parts own (old_old i d lt) (old_new i d lt))
          (λ i d lt. All-append (Keeps e (get_or own i d)) parts own (new_old i d lt) (new_new i d lt)));
      waits = λ later. subst (λ (l : List Part). All (λ (x : Part). x.node ≡ e.to → ⊥) l) (sym placed.behind)
          (All-append (λ (x : Part). x.node ≡ e.to → ⊥) parts own (so_far.waits (Contains-append_right (n ∷ []) rest e.from later))
          (λ i d lt to. All-contains (λ m. n ≡ e.to → m ≡ e.from → ⊥) rest e.from (AllPairs-head (λ x y. x ≡ e.to → y ≡ e.from → ⊥) n rest order) later
          (sym (placed.own_parts i d lt).node ∙ to) refl));
    }

-- ---- all nodes

-- what holds of the first nodes and is kept with each one more holds of all
pub placed_induction : (demands : List Demand) (edges : List Edge) (P : List ℕ → List Part → Type 0)
    → ((n : ℕ) (rest : List ℕ) (parts more : List Part) → P (n ∷ rest) parts → placed_node demands edges parts n ≡ Ok more → P rest more)
    → (nodes : List ℕ) (parts final : List Part) → P nodes parts → placed_all demands edges nodes parts ≡ Ok final → P [] final
placed_induction demands edges P step [] parts final holds is = subst (P []) (let e : parts ≡ final = cc in e) holds
placed_induction demands edges P step (n ∷ nodes) parts final holds is = by_node (placed_node demands edges parts n) refl is (λ more done. placed_induction demands edges P step nodes more final done)
  where
    by_node : (r : Result (List Part) Stuck) → placed_node demands edges parts n ≡ r → placed_then r (placed_all demands edges nodes) ≡ Ok final
        → ((more : List Part) → P nodes more → placed_all demands edges nodes more ≡ Ok final → P [] final) → P [] final
    by_node (Ok more) e done rest = rest more (step n nodes parts more holds e) done
    by_node (Err stuck) e done rest = absurd (cc)

pub placed_keeps : (demands : List Demand) (edges : List Edge) (e : Edge) (nodes : List ℕ) (final : List Part) → Contains edges e → e.from < e.to → InOrder e nodes
    → placed_all demands edges nodes [] ≡ Ok final → KeepsEdge e final
placed_keeps demands edges e nodes final there forward order is =
    (placed_induction demands edges (λ rest parts. InOrder e rest × KeepsSoFar e rest parts)
    (λ n rest parts more holds placed. (
      AllPairs-tail (λ x y. x ≡ e.to → y ≡ e.from → ⊥) n rest holds.0,
      keeps_more demands edges e n rest parts more _ there forward holds.0 holds.1 (placed_is demands edges parts more n placed),
    ))
    nodes [] final (order, record { kept = All-nil (λ a. All (Keeps e a) []); waits = λ _. All-nil (λ (x : Part). x.node ≡ e.to → ⊥) }) is).1.kept

-- ---- the levels of an edge

-- a path with one edge more has as many strict ones, or one more
longer-strict : (e : Edge) (path : List Edge) → strict_edges path ≤ strict_edges (e ∷ path)
longer-strict e path = omega (arith, sum_by-cons (λ (x : Edge). cond (later_stage x.kind) 1 0) e path)

-- the level doesn't fall along an edge
level-le : (deps : Deps) (nodes : ℕ) (e : Edge) → GoForward nodes deps → Contains (all_edges deps) e → e.from < nodes
    → get_or (levels_of deps nodes) e.from 0 ≤ get_or (levels_of deps nodes) e.to 0
level-le deps nodes e forward there within =
    let path = path_there deps nodes forward nodes e.from within within in
    omega (arith, path-le deps nodes forward e.to (e ∷ path.0) (there, refl, path.1), path.2, longer-strict e path.0)

-- the first node of an edge doesn't come behind the second in the rule's order
pub in_order : (deps : Deps) (nodes : ℕ) (e : Edge) → GoForward nodes deps → Contains (all_edges deps) e → InOrder e (order_of (levels_of deps nodes))
in_order deps nodes e forward there i j d lt below to from =
    let levels = levels_of deps nodes in
    let order = order_of levels in
    let x = get_or order i d in
    let y = get_or order j d in
    let goes : Goes levels x y = order_goes levels i j d lt below in
    let e_forward = All-contains (GoesForward nodes) (all_edges deps) e (edges_forward deps nodes forward) there in
    let le = level-le deps nodes e forward there (omega (arith, e_forward.later, e_forward.is_node)) in
    let level_x : get_or levels x 0 ≡ get_or levels e.to 0 = ap (λ (n : ℕ). get_or levels n 0) to in
    let level_y : get_or levels y 0 ≡ get_or levels e.from 0 = ap (λ (n : ℕ). get_or levels n 0) from in
    let same : get_or levels x 0 ≡ get_or levels y 0 = omega (arith, goes.level, le, level_x, level_y) in
    omega (arith, goes.number same, to, from, e_forward.later)

-- every edge is kept that the order has forward
pub forward_keeps : (demands : List Demand) (deps : Deps) (nodes : ℕ) (order : List ℕ) (final : List Part) → GoForward nodes deps → All (λ e. InOrder e order) (all_edges deps)
    → placement_in demands deps order ≡ Ok final → All (λ e. KeepsEdge e final) (all_edges deps)
forward_keeps demands deps nodes order final forward good is = λ i d lt.
    placed_keeps demands (all_edges deps) (get_or (all_edges deps) i d) order final (Contains-get_or (all_edges deps) i d lt) (edges_forward deps nodes forward i d lt).later (good i d lt) is

-- ---- parts

-- each part is of a node that was placed, stands in a stage of the chip, and has a quantum
pub parts_placed : (demands : List Demand) (edges : List Edge) (count : ℕ) (nodes : List ℕ) (final : List Part) → All (λ n. n < count) nodes
    → placed_all demands edges nodes [] ≡ Ok final → All (IsPart count) final
parts_placed demands edges count nodes final few is =
    (placed_induction demands edges (λ rest parts. All (λ n. n < count) rest × All (IsPart count) parts)
    (λ n rest parts more holds placed.
    (let own = placed_is demands edges parts more n placed in
    let below = All-head (λ n. n < count) n rest holds.0 in (
      All-tail (λ n. n < count) n rest holds.0,
      subst (λ (l : List Part). All (IsPart count) l) (sym own.behind)
          (All-append (IsPart count) parts _ holds.1
          (λ i d lt. (let mine = own.own_parts i d lt in
          record { node = omega (arith, mine.node, below); stage = mine.before; quanta = mine.some }))),
    )))
    nodes [] final (few, All-nil (IsPart count)) is).1
