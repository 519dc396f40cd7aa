use Rattle.std.proofs.Common.{◌≡◌, ◌∙◌, ◌<◌, ◌≤◌, ℕ, List, Ok, Err, Result, length, true, ap, subst, refl}
use Rattle.std.specs.Prelude.{IfErr, IfOk, MatchResult}
use Rattle.std.specs.List.{All, AllPairs}
use Rattle.rmt_deps.specs.Levels.{all_edges}
use Rattle.rmt_pack.specs.Placements.{IsLegal, Keeps, quanta_of}
use Rattle.rmt_pack.specs.declared.placement.Part.{Part}
use Rattle.rmt_pack.specs.declared.placement.Placement.{Placement}
use Rattle.rmt_place.specs.declared.demand.Demand.{Demand}
use Rattle.rmt_place.specs.declared.fault.StageFull.{StageFull}
use Rattle.rmt_place.specs.Needs.{demand_at, demands_of, keeps_limits}
use Rattle.rmt_place.specs.Placing.{AreTwo, IsPart, IsStuck, Stuck, TellsWhy, placement, standing_in}
use Rattle.rmt_place.specs.Starting.{stages_in}
use Rattle.rmt_place.proofs.GoodLaws.{KeepsAll}
use Rattle.rmt_place.proofs.LegalLaws.{format_at}
use Rattle.rmt_improve.specs.Steps.{placed_by}
use Rattle.rmt_improve.specs.Tries.{Try, best_try, better_placement}
use Rattle.rmt_improve.proofs.BetterLaws.{better_keeps, never_more, rule_tells_why, stuck_as_rule}
use Rattle.rmt_improve.proofs.better.place_better.Goals as goal
use Rattle.rmt_improve.proofs.better.place_better.Goals.{After-answer}

-- what the best try gives
abbrev better : After-answer → Result (List Part) Stuck
better c = better_placement c.args.program.now c.args.places.now c.args.deps.now c.args.budget

exactly : (c : After-answer) → MatchResult c.answer.result (λ placed. better c ≡ Ok placed.parts) (IsStuck (better c))
exactly c =
    let is : placed_by c.in_ok-best.best.outcome ≡ better c =
    ap (λ (t : Try). t.placed) c.in_ok-best.ensures
    ∙ ap (λ (ds : List Demand). (best_try ds c.args.deps.now c.args.budget).placed) (c.as_slice.ensures.value ∙ c.in_ok-demands.ensures) in
    subst (λ (r : Result (List Part) Stuck). MatchResult c.answer.result (λ placed. r ≡ Ok placed.parts) (IsStuck r)) is c.answer.ensures

if_ok : (P Q : Placement → Type 0) (E : StageFull → Type 0) → ((placed : Placement) → P placed → Q placed) → (r : Result Placement StageFull) → MatchResult r P E → IfOk r Q
if_ok P Q E weak (Ok placed) is = weak placed is
if_ok P Q E weak (Err fault) is = tt

if_err : (P : Placement → Type 0) (E F : StageFull → Type 0) → ((fault : StageFull) → E fault → F fault) → (r : Result Placement StageFull) → MatchResult r P E → IfErr r F
if_err P E F weak (Ok placed) is = tt
if_err P E F weak (Err fault) is = weak fault is

abbrev Kept : After-answer → Placement → Type 0
Kept c placed = KeepsAll c.args.program.now c.args.places.now c.args.deps.now placed.parts

-- what a placement has that is the best try's
ok : (c : After-answer) (Q : Placement → Type 0) → ((placed : Placement) → better c ≡ Ok placed.parts → Q placed) → IfOk c.answer.result Q
ok c Q weak = if_ok (λ placed. better c ≡ Ok placed.parts) Q (IsStuck (better c)) weak c.answer.result (exactly c)

kept : (c : After-answer) (Q : Placement → Type 0) → ((placed : Placement) → Kept c placed → Q placed) → IfOk c.answer.result Q
kept c Q weak =
    ok c Q (λ placed is. weak placed (better_keeps c.args.program.now c.args.places.now c.args.deps.now c.args.budget placed.parts c.requires.program c.requires.forward is))

-- and what a refusal has
refused : (c : After-answer) (F : StageFull → Type 0) → ((fault : StageFull) → IsStuck (placement c.args.program.now c.args.places.now c.args.deps.now) fault → F fault)
    → IfErr c.answer.result F
refused c F weak =
    if_err (λ placed. better c ≡ Ok placed.parts) (IsStuck (better c)) F
    (λ fault is. weak fault (stuck_as_rule c.args.program.now c.args.places.now c.args.deps.now c.args.budget fault is)) c.answer.result (exactly c)

pub returns-clause-keeps : goal.returns-clause-keeps
returns-clause-keeps c = kept (goal.at.returns-clause-keeps c).After-answer (λ placed. All (λ e. All (λ a. All (Keeps e a) placed.parts) placed.parts) (all_edges c.args.deps.now)) (λ placed h. h.edges)

pub returns-clause-limits : goal.returns-clause-limits
returns-clause-limits c =
    kept (goal.at.returns-clause-limits c).After-answer (λ placed. (stage : ℕ) → stage < 32 → keeps_limits (standing_in (demands_of c.args.program.now c.args.places.now) placed.parts stage) ≡ true)
    (λ placed h stage lt. h.limits stage)

pub returns-clause-legal : goal.returns-clause-legal
returns-clause-legal c = kept (goal.at.returns-clause-legal c).After-answer (IsLegal c.args.program.now c.args.deps.now.field) (λ placed h. (format_at c.args.program.now, h.legal))

pub returns-clause-parts : goal.returns-clause-parts
returns-clause-parts c = kept (goal.at.returns-clause-parts c).After-answer (λ placed. All (IsPart (length c.args.program.now.nodes)) placed.parts) (λ placed h. h.parts)

pub returns-clause-apart : goal.returns-clause-apart
returns-clause-apart c = kept (goal.at.returns-clause-apart c).After-answer (λ placed. AllPairs AreTwo placed.parts) (λ placed h. h.apart)

pub returns-clause-quanta : goal.returns-clause-quanta
returns-clause-quanta c =
    kept (goal.at.returns-clause-quanta c).After-answer
    (λ placed. (n : ℕ) → n < length c.args.program.now.nodes → quanta_of placed.parts n ≡ (demand_at (demands_of c.args.program.now c.args.places.now) n).quanta) (λ placed h. h.quanta)

pub returns-clause-never_more : goal.returns-clause-never_more
returns-clause-never_more c =
    let p = c.args.program.now in
    let places = c.args.places.now in
    let deps = c.args.deps.now in
    ok (goal.at.returns-clause-never_more c).After-answer (λ placed. IfOk (placement p places deps) (λ by_rule. stages_in placed.parts ≤ stages_in by_rule))
    (λ placed is. by placed (placement p places deps) refl is)
  where
    by : (placed : Placement) (r : Result (List Part) Stuck) → placement c.args.program.now c.args.places.now c.args.deps.now ≡ r
        → better_placement c.args.program.now c.args.places.now c.args.deps.now c.args.budget ≡ Ok placed.parts → IfOk r (λ by_rule. stages_in placed.parts ≤ stages_in by_rule)
    by placed (Ok by_rule) first best = never_more c.args.program.now c.args.places.now c.args.deps.now c.args.budget by_rule placed.parts first best
    by placed (Err stuck) first best = tt

pub returns-clause-refused : goal.returns-clause-refused
returns-clause-refused c =
    refused (goal.at.returns-clause-refused c).After-answer (IsStuck (placement c.args.program.now c.args.places.now c.args.deps.now)) (λ fault is. is)

pub returns-clause-hits : goal.returns-clause-hits
returns-clause-hits c =
    refused (goal.at.returns-clause-hits c).After-answer TellsWhy (λ fault is. rule_tells_why c.args.program.now c.args.places.now c.args.deps.now fault is)
