-- What placers have in common: the refusals before the nodes are placed, and how many stages there are.
use Rattle.std.proofs.Common.{◌≡◌, ◌≢◌, ◌≤◌, ℕ, List, Option, Some, None, Result, Ok, Err, length, refl, sym, ap, subst, ◌∙◌, arith}
use Rattle.std.specs.Prelude.{IfOk, option_map}
use Rattle.std.specs.Option.{option_or}
use Rattle.std.proofs.lemmas.Option.{none-some, same_Some}
use Rattle.std.proofs.lemmas.List.{length-map}
use Rattle.rmt_bits.specs.declared.lane.Lane.{Lane}
use Rattle.rmt_core.specs.Types.{Program, Config, Stage}
use Rattle.rmt_ast.specs.declared.deps.Deps.{Deps}
use Rattle.rmt_ast.specs.declared.entry.Entry.{Entry}
use Rattle.rmt_config.specs.declared.limits.LimitHit.{LimitHit}
use Rattle.rmt_ast.specs.WellFormed.{IsProgram}
use Rattle.rmt_deps.specs.Edges.{dependencies_of}
use Rattle.rmt_deps.proofs.EdgeLaws.{go_forward}
use Rattle.rmt_pack.specs.declared.placement.Part.{Part}
use Rattle.rmt_pack.specs.declared.placement.Placement.{Placement}
use Rattle.rmt_phv.specs.declared.fault.PhvFull.{PhvFull}
use Rattle.rmt_phv.specs.declared.fault.PhvFull.TheVariants as phv
use Rattle.rmt_phv.specs.Packing.{packing}
use Rattle.rmt_place.specs.Placing.{IsStuck, Stuck, placement}
use Rattle.rmt_place.specs.declared.fault.StageFull.{StageFull}
use Rattle.rmt_place.specs.declared.fault.StageFull.TheVariants as stage
use Rattle.rmt_improve.specs.Tries.{better_placement}
use Rattle.rmt_place.specs.Starting.{stages_in}
use Rattle.rmt_place.proofs.GoodLaws.{KeepsAll}
use Rattle.rmt_place.proofs.LeastLaws.{length-until}
use Rattle.rmt_improve.proofs.BetterLaws.{better_keeps, never_more}
use Rattle.rmt_ptcam.specs.declared.fault.ParserFault.{ParserFault}
use Rattle.rmt_ptcam.specs.declared.fault.ParserFault.TheVariants as parser
use Rattle.rmt_ptcam.specs.Needs.{refusal}
use Rattle.rmt_vliw.specs.declared.fault.ActionDeep.{ActionDeep}
use Rattle.rmt_vliw.specs.declared.fault.ActionDeep.TheVariants as action
use Rattle.rmt_refine.specs.declared.map.Map.{Map}
use Rattle.rmt_refine.specs.Carries.{Carries, all_edges}
use Rattle.rmt_build.specs.declared.built.Built.{Built}
use Rattle.rmt_build.specs.declared.fault.NoFit.{NoFit}
use Rattle.rmt_build.specs.Loads.{AreNotLoaded}
use Rattle.rmt_build.specs.Promises.{KeepsRules}
use Rattle.rmt_build.specs.declared.fault.NoFit.TheVariants as no_fit
use Rattle.rmt_build.specs.Folds.{first_deep}
use Rattle.rmt_build.specs.Refusals.{action_told, first_refusal, packed_told, parser_told, stuck_told}
use Rattle.rmt_core.specs.declared.placer.Placer.{Placer}
use Rattle.rmt_core.specs.declared.placer.Placer.TheVariants.{ByRule, ByTries}
use Rattle.rmt_core.specs.Compiling.{IsMadeBy}
use Rattle.rmt_core.specs.Making.{AreBothRefused}
use Rattle.rmt_core.specs.Placers.{HasFewStages, IsPlacedBy, placed_by, placing_refusal, refusal_by}
use Rattle.rmt_bits.proofs.OptionLaws.{same_Ok}

-- fields have one packing, and nodes one placement
pub same_placed : (placer : Placer) (p : Program) (a b : List (List Lane)) (parts others : List Part) → packing p ≡ Ok a → packing p ≡ Ok b
    → placed_by placer p a ≡ Ok parts → placed_by placer p b ≡ Ok others → parts ≡ others
same_placed placer p a b parts others e f x y =
    let places : a ≡ b = same_Ok a b (sym e ∙ f) in
    same_Ok parts others (sym x ∙ (ap (placed_by placer p) places ∙ y))

-- what was built on a placement is placed so
pub placed_so : (placer : Placer) (p : Program) (lists : List (List Entry)) (parts : List Part) → IsPlacedBy placer p parts → (r : Result Built NoFit) → IfOk r (λ b. KeepsRules p lists b.map b.config)
    → IfOk r (λ b. b.map.placement.parts ≡ parts) → IfOk r (λ b. placed_by placer p b.map.places ≡ Ok b.map.placement.parts)
placed_so placer p lists parts placed (Err fault) rules same = tt
placed_so placer p lists parts placed (Ok b) rules same =
    let places : b.map.places ≡ placed.places = same_Ok b.map.places placed.places (sym rules.places ∙ placed.packed) in
    ap (placed_by placer p) places ∙ (placed.placed ∙ ap Ok (sym same))

-- and does not load on it
pub loaded_so : (placer : Placer) (p : Program) (lists : List (List Entry)) (parts others : List Part) (node members cells : ℕ) → IsPlacedBy placer p parts → IsPlacedBy placer p others
    → AreNotLoaded p lists parts node members cells → AreNotLoaded p lists others node members cells
loaded_so placer p lists parts others node members cells a b full =
    let same = same_placed placer p a.places b.places parts others a.packed b.packed a.placed b.placed in
    subst (λ ps. AreNotLoaded p lists ps node members cells) same full

-- what the placement of the best try keeps
pub kept : (budget : ℕ) (p : Program) (parts : List Part) → IsProgram p → IsPlacedBy (ByTries budget) p parts → (places : List (List Lane)) → packing p ≡ Ok places
    → KeepsAll p places (dependencies_of p places) parts
kept budget p parts program placed places packed =
    let same : placed.places ≡ places = same_Ok placed.places places (sym placed.packed ∙ packed) in
    better_keeps p places (dependencies_of p places) budget parts program (go_forward p places) (ap (placed_by (ByTries budget) p) (sym same) ∙ placed.placed)

-- ---- refusals before the nodes are placed

-- a refusal that is none of the stages
abbrev pub IsNoStage : NoFit → Type 0
IsNoStage no_fit.NoMemory = Unit {0}
IsNoStage (no_fit.Lookup header bytes) = Unit {0}
IsNoStage (no_fit.Step header extracts) = Unit {0}
IsNoStage (no_fit.Parser many) = Unit {0}
IsNoStage (no_fit.Action number field) = Unit {0}
IsNoStage (no_fit.Phv field class) = Unit {0}
IsNoStage (no_fit.Stage node hits) = ⊥
IsNoStage (no_fit.Load node members cells) = Unit {0}

abbrev pub IsApart : NoFit → Type 0
IsApart fault = (node : ℕ) (hits : List LimitHit) → fault ≢ no_fit.Stage node hits

apart : (fault : NoFit) → IsNoStage fault → IsApart fault
apart fault is node hits e = subst IsNoStage e is

parser_apart : (f : ParserFault) → IsNoStage (parser_told f)
parser_apart parser.NoMemory = tt
parser_apart (parser.LookupWide header bytes) = tt
parser_apart (parser.StepWide header extracts) = tt
parser_apart (parser.ParserFull entries) = tt

action_apart : (f : ActionDeep) → IsNoStage (action_told f)
action_apart action.NoMemory = tt
action_apart (action.At number field) = tt

-- the refusal of the parser, else of the actions, else this one
abbrev pub whole : Option ParserFault → Option ActionDeep → Option NoFit → Option NoFit
whole o d x = option_or (option_map parser_told o) (option_or (option_map action_told d) x)

-- where it isn't the last of them, that one doesn't matter
swapped : (o : Option ParserFault) (d : Option ActionDeep) (x y : Option NoFit) (fault : NoFit) → (x ≡ Some fault → ⊥) → whole o d x ≡ Some fault
    → (whole o d y ≡ Some fault) × IsApart fault
swapped (Some f) d x y fault never e = (e, apart fault (subst IsNoStage (same_Some (parser_told f) fault e) (parser_apart f)))
swapped None (Some f) x y fault never e = (e, apart fault (subst IsNoStage (same_Some (action_told f) fault e) (action_apart f)))
swapped None None x y fault never e = absurd (never e)

stuck_is_stage : (r : Result (List Part) Stuck) (fault : NoFit) → IsNoStage fault → stuck_told r ≡ Some fault → ⊥
stuck_is_stage (Ok parts) fault other e = none-some fault e
stuck_is_stage (Err stuck) fault other e = subst IsNoStage (sym (same_Some (no_fit.Stage stuck.node stuck.hits) fault e)) other

module _ (placer : Placer) (p : Program) (parts : List Part) (placed : IsPlacedBy placer p parts) where
  -- what is refused where the nodes are placed is refused by the back end too, and for no stage
  pub refused_first : (fault : NoFit) → refusal_by placer p ≡ Some fault → (first_refusal p ≡ Some fault) × IsApart fault
  refused_first fault e =
      let none : placing_refusal placer p (packing p) ≡ None = ap (placing_refusal placer p) placed.packed ∙ ap stuck_told placed.placed in
      swapped (refusal p) (first_deep 0 p.actions) (placing_refusal placer p (packing p)) (packed_told p (packing p)) fault
      (λ x. none-some fault (sym none ∙ x)) e

  -- and the other way round
  pub first_refused : (fault : NoFit) → IsNoStage fault → first_refusal p ≡ Some fault → refusal_by placer p ≡ Some fault
  first_refused fault other e =
      let same : packed_told p (packing p) ≡ stuck_told (placement p placed.places (dependencies_of p placed.places)) = ap (packed_told p) placed.packed in
      (swapped (refusal p) (first_deep 0 p.actions) (packed_told p (packing p)) (placing_refusal placer p (packing p)) fault
      (λ x. stuck_is_stage (placement p placed.places (dependencies_of p placed.places)) fault other (sym same ∙ x)) e).0

-- with one refusal of placing there is one first refusal
pub whole_as : (p : Program) (x y : Option NoFit) → x ≡ y → whole (refusal p) (first_deep 0 p.actions) x ≡ whole (refusal p) (first_deep 0 p.actions) y
whole_as p x y e = ap (whole (refusal p) (first_deep 0 p.actions)) e

-- so too where one is the other's
pub whole_as-some : (p : Program) (x y : Option NoFit) (fault : NoFit) → (x ≡ Some fault → y ≡ Some fault) → whole (refusal p) (first_deep 0 p.actions) x ≡ Some fault
    → whole (refusal p) (first_deep 0 p.actions) y ≡ Some fault
whole_as-some p x y fault then e = by (refusal p) (first_deep 0 p.actions) e
  where
    by : (o : Option ParserFault) (d : Option ActionDeep) → whole o d x ≡ Some fault → whole o d y ≡ Some fault
    by (Some f) d e = e
    by None (Some f) e = e
    by None None e = then e

-- ---- neither the tries nor the rule place the nodes

some_whole : (o : Option ParserFault) (d : Option ActionDeep) (fault : NoFit) → (first : NoFit) × (whole o d (Some fault) ≡ Some first)
some_whole (Some f) d fault = (parser_told f, refl)
some_whole None (Some f) fault = (action_told f, refl)
some_whole None None fault = (fault, refl)

-- a field that no word serves is refused by both
pub unpacked : (budget : ℕ) (p : Program) (r : Result (List (List Lane)) PhvFull) (field class : ℕ) → r ≡ Err (phv.At field class)
    → (r ≢ Err phv.NoMemory → r ≡ packing p) → AreBothRefused budget p
unpacked budget p r field class is packed =
    let other : r ≢ Err phv.NoMemory = λ e. (let both : ◌≡◌ {A = Result (List (List Lane)) PhvFull} (Err (phv.At field class)) (Err phv.NoMemory) = sym is ∙ e in cc) in
    let told : packing p ≡ Err (phv.At field class) = sym (packed other) ∙ is in
    record {
      fault = no_fit.Phv field class;
      by_tries = ap (placing_refusal (ByTries budget) p) told;
      by_rule = ap (placing_refusal ByRule p) told;
    }

-- and so is a node that is stuck alike
pub both_stuck : (budget : ℕ) (p : Program) (places : List (List Lane)) (deps : Deps) (fault : StageFull) (node : ℕ) (placed : Placement) (hits : List LimitHit)
    → fault ≡ stage.At node placed hits → packing p ≡ Ok places → deps ≡ dependencies_of p places
    → IsStuck (better_placement p places deps budget) fault → IsStuck (placement p places deps) fault → AreBothRefused budget p
both_stuck budget p places deps fault node placed hits is packed edges by_tries by_rule =
    let tries = subst (IsStuck (better_placement p places deps budget)) is by_tries in
    let rule = subst (IsStuck (placement p places deps)) is by_rule in
    record {
      fault = no_fit.Stage node hits;
      by_tries =
          ap (placing_refusal (ByTries budget) p) packed
          ∙ ap stuck_told (ap (λ (d : Deps). better_placement p places d budget) (sym edges) ∙ tries);
      by_rule = ap (placing_refusal ByRule p) packed ∙ ap stuck_told (ap (placement p places) (sym edges) ∙ rule);
    }

-- then there is one first refusal
pub record IsRefusedAlike (budget : ℕ) (p : Program) : Type 0 where
  pub first : NoFit
  pub by_tries : refusal_by (ByTries budget) p ≡ Some first
  pub by_rule : refusal_by ByRule p ≡ Some first

pub refused_alike : (budget : ℕ) (p : Program) → AreBothRefused budget p → IsRefusedAlike budget p
refused_alike budget p both =
    let o = refusal p in
    let d = first_deep 0 p.actions in
    let some = some_whole o d both.fault in
    record {
      first = some.0;
      by_tries = ap (whole o d) both.by_tries ∙ some.1;
      by_rule = ap (whole o d) both.by_rule ∙ some.1;
    }

-- ---- stages

no_more : (placer : Placer) (p : Program) (places : List (List Lane)) (parts by_rule : List Part) → placed_by placer p places ≡ Ok parts
    → placed_by ByRule p places ≡ Ok by_rule → stages_in parts ≤ stages_in by_rule
no_more ByRule p places parts by_rule e f =
    let same : parts ≡ by_rule = same_Ok parts by_rule (sym e ∙ f) in
    rw same (omega arith)
no_more (ByTries budget) p places parts by_rule e f = never_more p places (dependencies_of p places) budget by_rule parts f e

-- a configuration has the stages of its placement
pub stages_are : (placer : Placer) (p : Program) (lists : List (List Entry)) (m : Map) (c : Config) → Carries p lists m c → IsMadeBy placer p lists m c
    → length c.stages ≡ stages_in m.placement.parts
stages_are placer p lists m c carries made =
    sym (length-map c.stages (λ (s : Stage). s.start))
    ∙ (ap length (carries.units.starts_are ∙ made.rules.starts) ∙ length-until (all_edges p m.places) m.placement.parts (stages_in m.placement.parts))

pub few_stages : (placer : Placer) (p : Program) (lists : List (List Entry)) (m : Map) (c : Config) → Carries p lists m c → IsMadeBy placer p lists m c
    → HasFewStages p m.places c
few_stages placer p lists m c carries made = by (placed_by ByRule p m.places) refl
  where
    by : (r : Result (List Part) Stuck) → placed_by ByRule p m.places ≡ r → IfOk r (λ parts. length c.stages ≤ stages_in parts)
    by (Ok parts) e = rw (stages_are placer p lists m c carries made) (no_more placer p m.places m.placement.parts parts made.placement e)
    by (Err stuck) e = tt
