-- Stages that are put together by a plan.
use Rattle.std.specs.Prelude.{◌≡◌, ◌<◌, ◌≤◌, ◌*◌, ℕ, List, true, All, AllPairs, length, slice_index}
use Rattle.rmt_bits.specs.declared.lane.Lane.{Lane}
use Rattle.rmt_build.specs.Types.{Program, Stage}
use Rattle.rmt_ast.specs.declared.entry.Entry.{Entry}
use Rattle.rmt_ast.specs.EntryLists.{AreEntries}
use Rattle.rmt_ast.specs.NameRules.{CanBeNamed}
use Rattle.rmt_ast.specs.WellFormed.{AllNumbered, IsProgram}
use Rattle.rmt_pack.specs.declared.placement.Part.{Part}
use Rattle.rmt_pack.specs.declared.placement.Placement.{Placement}
use Rattle.rmt_place.specs.Needs.{demand_at, demands_of, keeps_limits}
use Rattle.rmt_place.specs.Placing.{AreTwo, IsPart, standing_in}
use Rattle.rmt_place.specs.Starting.{starts_of}
use Rattle.rmt_refine.specs.declared.map.Map.{Map}
use Rattle.rmt_refine.specs.Carries.{EdgesKept, all_edges}
use Rattle.rmt_filling.specs.declared.plan.Plan.{Plan}
use Rattle.rmt_build.specs.BuiltStage.{IsBuiltStage}
use Rattle.rmt_build.specs.Loads.{AreAllLoaded}
use Rattle.rmt_pack.specs.Placements.{Keeps, quanta_of}
use Rattle.rmt_build.specs.Plans.{IsPlan}
use Rattle.rmt_filling.specs.Formats.{format_at}

-- a well-formed program with these entries, which an image can name
pub record IsGiven (p : Program) (lists : List (List Entry)) : Type 0 where
  pub program : IsProgram p
  pub entries : AreEntries p lists
  pub named : CanBeNamed p lists

-- a map has these places and this placement
abbrev pub LiesSo : List (List Lane) → Placement → Map → Type 0
LiesSo places placement map = (map.places ≡ places) × (map.placement ≡ placement)

-- The parts of the nodes of a program whose fields have these places: they keep every edge, each stage keeps its limits, no two are of one node in
-- one stage, and each node has exactly the quanta that it needs.
pub record ArePlaced (p : Program) (places : List (List Lane)) (placed : List Part) : Type 0 where
  pub keeps : All (λ e. All (λ a. All (Keeps e a) placed) placed) (all_edges p places)
  pub limits : (k : ℕ) → k < 32 → keeps_limits (standing_in (demands_of p places) placed k) ≡ true
  pub parts : All (IsPart (length p.nodes)) placed
  pub apart : AllPairs AreTwo placed
  pub quanta : (n : ℕ) → n < length p.nodes → quanta_of placed n ≡ (demand_at (demands_of p places) n).quanta

-- a plan with such parts, whose stages start by the rule
pub record IsPlanFor (p : Program) (lists : List (List Entry)) (plan : Plan) : Type 0 where
  pub is_plan : IsPlan p lists plan
  pub starts : plan.starts ≡ starts_of (all_edges p plan.places) plan.placement.parts
  pub edges : EdgesKept (all_edges p plan.places) plan.placement.parts plan.starts
  pub placed : ArePlaced p plan.places plan.placement.parts
  pub early : (k : ℕ) → k < length plan.starts → slice_index plan.starts k ≤ 12 * k
  pub loaded : AreAllLoaded p lists plan.placement.parts plan.seed plan.stands
  pub exact : (n : ℕ) → n < length p.nodes → quanta_of plan.placement.parts n ≡ (format_at p n).quanta
  pub few_stages : length plan.starts ≤ 32
  pub in_stages : All (λ (x : Part). x.stage < length plan.starts) plan.placement.parts

-- all stages of a plan
pub record AreStagesOf (p : Program) (lists : List (List Entry)) (plan : Plan) (stages : List Stage) : Type 0 where
  pub all_there : length stages ≡ length plan.starts
  pub each : AllNumbered (IsBuiltStage p lists plan) stages
