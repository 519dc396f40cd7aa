-- The better placement keeps all that the rule's does, has no more stages, and is there wherever the rule's is.
use Rattle.std.proofs.Common.{◌≡◌, ℕ, ◌-◌, ◌≤◌, List, [], length, Ok, refl, sym, subst, ◌∙◌}
use Rattle.std.proofs.lemmas.List.{length-map}
use Rattle.rmt_bits.specs.declared.lane.Lane.{Lane}
use Rattle.rmt_ast.specs.declared.deps.Deps.{Deps}
use Rattle.rmt_ast.specs.declared.program.Program.{Program}
use Rattle.rmt_ast.specs.WellFormed.{IsProgram}
use Rattle.rmt_deps.specs.Edges.{GoForward}
use Rattle.rmt_deps.specs.Levels.{all_edges}
use Rattle.rmt_pack.specs.declared.placement.Part.{Part}
use Rattle.rmt_place.specs.declared.fault.StageFull.{StageFull}
use Rattle.rmt_place.specs.declared.fault.StageFull.TheVariants.{NoMemory, At}
use Rattle.rmt_place.specs.Needs.{demands_of}
use Rattle.rmt_place.specs.Placing.{IsGoodOrder, IsStuck, TellsWhy, placement}
use Rattle.rmt_place.specs.Starting.{stages_in}
use Rattle.rmt_place.proofs.GoodLaws.{KeepsAll, good_keeps}
use Rattle.rmt_place.proofs.StuckLaws.{stuck_why}
use Rattle.rmt_improve.specs.Tries.{best_try, better_placement, first_try, later_tries}
use Rattle.rmt_improve.proofs.BestLaws.{no_more_stages, stuck_as_first}
use Rattle.rmt_improve.proofs.TryLaws.{best_good}

-- it keeps every edge and limit, so it is legal
pub better_keeps : (p : Program) (places : List (List Lane)) (deps : Deps) (budget : ℕ) (parts : List Part) → IsProgram p → GoForward (length p.nodes) deps
    → better_placement p places deps budget ≡ Ok parts → KeepsAll p places deps parts
better_keeps p places deps budget parts program forward is =
    let demands = demands_of p places in
    let many : length demands ≡ length p.nodes = simp length-map in
    let best = best_try demands deps budget in
    let good = best_good demands deps budget (subst (λ (n : ℕ). GoForward n deps) (sym many) forward) in
    good_keeps p places deps best.order parts program forward (subst (λ (n : ℕ). IsGoodOrder n (all_edges deps) best.order) many good.good) (sym good.placed ∙ is)

-- it never has more stages than the rule's
pub never_more : (p : Program) (places : List (List Lane)) (deps : Deps) (budget : ℕ) (by_rule parts : List Part) → placement p places deps ≡ Ok by_rule
    → better_placement p places deps budget ≡ Ok parts → stages_in parts ≤ stages_in by_rule
never_more p places deps budget by_rule parts first best =
    let demands = demands_of p places in
    no_more_stages (all_edges deps) (first_try demands deps) (later_tries demands deps (budget - 1)) by_rule parts first best

-- where it is stuck, the rule's is in the same way
pub stuck_as_rule : (p : Program) (places : List (List Lane)) (deps : Deps) (budget : ℕ) (fault : StageFull) → IsStuck (better_placement p places deps budget) fault
    → IsStuck (placement p places deps) fault
stuck_as_rule p places deps budget NoMemory is = tt
stuck_as_rule p places deps budget (At node placed hits) is =
    let demands = demands_of p places in
    stuck_as_first (all_edges deps) (first_try demands deps) (later_tries demands deps (budget - 1)) record { node = node; placed = placed.parts; hits = hits } is

pub rule_tells_why : (p : Program) (places : List (List Lane)) (deps : Deps) (fault : StageFull) → IsStuck (placement p places deps) fault → TellsWhy fault
rule_tells_why p places deps NoMemory is = tt
rule_tells_why p places deps (At node placed hits) is =
    let demands = demands_of p places in
    stuck_why demands (all_edges deps) (first_try demands deps).order [] record { node = node; placed = placed.parts; hits = hits } is

-- one try is the rule's
pub one_try : (p : Program) (places : List (List Lane)) (deps : Deps) → better_placement p places deps 1 ≡ placement p places deps
one_try p places deps = refl
