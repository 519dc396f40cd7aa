use Rattle.std.proofs.Common.{◌≡◌, ◌∙◌, ◌<◌, ℕ, List, sym, ap, subst, arith, length, map, Ok, Err, Result, true}
use Rattle.std.specs.Prelude.{IfOk, MatchResult}
use Rattle.std.specs.List.{All, AllPairs}
use Rattle.std.proofs.lemmas.List.{length-map}
use Rattle.std.proofs.lemmas.Result.{IfOk-weaker}
use Rattle.rmt_ast.specs.declared.program.Node.{Node}
use Rattle.rmt_deps.specs.Edges.{GoForward}
use Rattle.rmt_deps.specs.Levels.{all_edges}
use Rattle.rmt_pack.specs.Placements.{IsLegal, Keeps}
use Rattle.rmt_pack.specs.declared.placement.Part.{Part}
use Rattle.rmt_pack.specs.declared.placement.Placement.{Placement}
use Rattle.rmt_place.specs.Needs.{what_demands, demands_of, keeps_limits}
use Rattle.rmt_place.specs.declared.demand.Demand.{Demand}
use Rattle.rmt_place.specs.declared.fault.StageFull.{StageFull}
use Rattle.rmt_place.specs.Placing.{AreTwo, IsGoodOrder, IsPart, IsStuck, placement, placement_in, rule_order, standing_in}
use Rattle.rmt_place.proofs.GoodLaws.{KeepsAll, good_keeps, rule_good}
use Rattle.rmt_place.proofs.LegalLaws.{format_at}
use Rattle.rmt_place.proofs.placing.place.Goals as goal
use Rattle.rmt_place.proofs.placing.place.Goals.{After-place_in}

-- the demands and the order of the nodes that are placed
abbrev demands : After-place_in → List Demand
demands c = demands_of c.args.program.now c.args.places.now

abbrev order : After-place_in → List ℕ
order c = rule_order c.args.deps.now (length (demands c))

many : (c : After-place_in) → length (demands c) ≡ length c.args.program.now.nodes
many c = simp length-map

good : (c : After-place_in) → IsGoodOrder (length c.args.program.now.nodes) (all_edges c.args.deps.now) (order c)
good c =
    subst (λ (n : ℕ). IsGoodOrder n (all_edges c.args.deps.now) (order c)) (many c)
    (rule_good c.args.deps.now (length (demands c)) (subst (λ (n : ℕ). GoForward n c.args.deps.now) (sym (many c)) c.requires.forward))

demanded : (c : After-place_in) → c.as_slice.result.now ≡ demands c
demanded c = c.as_slice.ensures.value ∙ c.in_ok-demands.ensures

ordered : (c : After-place_in) → c.as_slice-2.result.now ≡ order c
ordered c =
    let nodes : c.len.result ≡ length (demands c) = omega (arith, c.len.ensures, c.in_ok-demands.demands.ok.0, ap length c.in_ok-demands.ensures) in
    c.as_slice-2.ensures ∙ (c.in_ok-order.ensures ∙ ap (rule_order c.args.deps.now) nodes)

-- what is placed
abbrev IsPlacement : After-place_in → Placement → Type 0
IsPlacement c placed = placement c.args.program.now c.args.places.now c.args.deps.now ≡ Ok placed.parts

is_placement : (c : After-place_in) → IfOk c.place_in.result (IsPlacement c)
is_placement c = by c.place_in.result c.place_in.ensures.placed
  where
    by : (r : Result Placement StageFull)
        → MatchResult r (λ placed. placement_in c.as_slice.result.now c.args.deps.now c.as_slice-2.result.now ≡ Ok placed.parts)
        (IsStuck (placement_in c.as_slice.result.now c.args.deps.now c.as_slice-2.result.now))
        → IfOk r (IsPlacement c)
    by (Ok placed) is =
        sym (ap (λ (ds : List Demand). placement_in ds c.args.deps.now c.as_slice-2.result.now) (demanded c)
        ∙ ap (placement_in (demands c) c.args.deps.now) (ordered c)) ∙ is
    by (Err fault) is = tt

-- the rule's placement keeps what each placement in a good order keeps
abbrev Kept : After-place_in → Placement → Type 0
Kept c placed = KeepsAll c.args.program.now c.args.places.now c.args.deps.now placed.parts

keeps : (c : After-place_in) → IfOk c.place_in.result (Kept c)
keeps c =
    IfOk-weaker c.place_in.result (IsPlacement c) (Kept c)
    (λ placed is. good_keeps c.args.program.now c.args.places.now c.args.deps.now (order c) placed.parts c.requires.program c.requires.forward (good c) is) (is_placement c)

pub place_in-requires : goal.place_in-requires
place_in-requires c =
    let k : length c.as_slice.result.now ≡ length c.args.program.now.nodes =
    ap length (c.as_slice.ensures.value ∙ c.in_ok-demands.ensures) ∙ (let e : length (map (λ (node : Node). what_demands c.args.program.now c.args.places.now node.what) c.args.program.now.nodes) ≡ length c.args.program.now.nodes = simp length-map in e) in
    let nodes : c.len.result ≡ length c.args.program.now.nodes = omega (arith, c.len.ensures, c.in_ok-demands.demands.ok.0, k, ap length c.as_slice.ensures.value) in
    let small : All (λ n. n < c.len.result) (rule_order c.args.deps.now c.len.result) =
    (rule_good c.args.deps.now c.len.result (subst (λ (n : ℕ). GoForward n c.args.deps.now) (sym nodes) c.requires.forward)).numbers in
    subst (λ (m : ℕ). All (λ n. n < m) c.as_slice-2.result.now) (nodes ∙ sym k)
    (subst (λ (l : List ℕ). All (λ n. n < c.len.result) l) (sym (c.as_slice-2.ensures ∙ c.in_ok-order.ensures)) small)

pub returns-clause-keeps : goal.returns-clause-keeps
returns-clause-keeps c =
    let k = (goal.at.returns-clause-keeps c).After-place_in in
    IfOk-weaker c.place_in.result (Kept k) (λ placed. All (λ e. All (λ a. All (Keeps e a) placed.parts) placed.parts) (all_edges c.args.deps.now)) (λ placed h. h.edges) (keeps k)

pub returns-clause-limits : goal.returns-clause-limits
returns-clause-limits c =
    let k = (goal.at.returns-clause-limits c).After-place_in in
    IfOk-weaker c.place_in.result (Kept k) (λ placed. (stage : ℕ) → stage < 32 → keeps_limits (standing_in (demands k) placed.parts stage) ≡ true) (λ placed h stage lt. h.limits stage) (keeps k)

pub returns-clause-legal : goal.returns-clause-legal
returns-clause-legal c =
    let k = (goal.at.returns-clause-legal c).After-place_in in
    IfOk-weaker c.place_in.result (Kept k) (IsLegal c.args.program.now c.args.deps.now.field) (λ placed h. (format_at c.args.program.now, h.legal)) (keeps k)

pub returns-clause-parts : goal.returns-clause-parts
returns-clause-parts c =
    let k = (goal.at.returns-clause-parts c).After-place_in in
    IfOk-weaker c.place_in.result (Kept k) (λ placed. All (IsPart (length c.args.program.now.nodes)) placed.parts) (λ placed h. h.parts) (keeps k)

pub returns-clause-stages : goal.returns-clause-stages
returns-clause-stages c =
    let k = (goal.at.returns-clause-stages c).After-place_in in
    IfOk-weaker c.place_in.result (Kept k) (λ placed. All (λ (x : Part). x.stage < 32) placed.parts) (λ placed h i d lt. (h.parts i d lt).stage) (keeps k)

pub returns-clause-apart : goal.returns-clause-apart
returns-clause-apart c =
    let k = (goal.at.returns-clause-apart c).After-place_in in
    IfOk-weaker c.place_in.result (Kept k) (λ placed. AllPairs AreTwo placed.parts) (λ placed h. h.apart) (keeps k)
