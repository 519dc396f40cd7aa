-- What is the first refusal of a program that the parser, the actions and the fields fit.
use Rattle.std.proofs.Common.{◌≡◌, ◌≢◌, ◌∙◌, ℕ, List, Option, Some, None, Result, Ok, Err, refl, sym, ap}
use Rattle.std.proofs.lemmas.Option.{none-some, same_Some}
use Rattle.std.specs.Option.{option_or}
use Rattle.std.specs.Prelude.{⊤, IfOk, option_map}
use Rattle.rmt_bits.specs.declared.lane.Lane.{Lane}
use Rattle.rmt_build.specs.Types.{Program}
use Rattle.rmt_config.specs.declared.limits.LimitHit.{LimitHit}
use Rattle.rmt_deps.specs.Edges.{dependencies_of}
use Rattle.rmt_pack.specs.declared.placement.Part.{Part}
use Rattle.rmt_pack.specs.declared.placement.Placement.{Placement}
use Rattle.rmt_phv.specs.Packing.{packing}
use Rattle.rmt_place.specs.Placing.{Stuck, placement}
use Rattle.rmt_ptcam.specs.declared.fault.ParserFault.{ParserFault}
use Rattle.rmt_ptcam.specs.Needs.{refusal, unless}
use Rattle.rmt_vliw.specs.declared.fault.ActionDeep.{ActionDeep}
use Rattle.rmt_build.specs.declared.built.Built.{Built}
use Rattle.rmt_build.specs.declared.fault.NoFit.{NoFit}
use Rattle.rmt_build.specs.Folds.{first_deep}
use Rattle.rmt_build.specs.Refusals.{action_told, first_refusal, packed_told, parser_told, stuck_told}
use Rattle.rmt_build.specs.Stages.{LiesSo}
use Rattle.rmt_bits.proofs.OptionLaws.{done_not_failed}
use Rattle.rmt_build.specs.declared.fault.NoFit.TheVariants as no_fit

-- then the nodes are looked at
pub then_placed : (p : Program) (places : List (List Lane)) → refusal p ≡ None → first_deep 0 p.actions ≡ None → packing p ≡ Ok places
    → first_refusal p ≡ stuck_told (placement p places (dependencies_of p places))
then_placed p places fits shallow packed =
    ap (λ (o : Option ParserFault). option_or (option_map parser_told o) (option_or (option_map action_told (first_deep 0 p.actions)) (packed_told p (packing p)))) fits
    ∙ ap (λ (o : Option ActionDeep). option_or (option_map action_told o) (packed_told p (packing p))) shallow
    ∙ ap (packed_told p) packed

-- of a program whose nodes all stand there is none
pub none_refused : (p : Program) (places : List (List Lane)) (parts : List Part) → refusal p ≡ None → first_deep 0 p.actions ≡ None → packing p ≡ Ok places
    → placement p places (dependencies_of p places) ≡ Ok parts → first_refusal p ≡ None
none_refused p places parts fits shallow packed placed = then_placed p places fits shallow packed ∙ ap stuck_told placed

-- else it is that of the placement
only_stuck : (r : Result (List Part) Stuck) (fault : NoFit) → stuck_told r ≡ Some fault → ((node : ℕ) (hits : List LimitHit) → fault ≢ no_fit.Stage node hits) → ⊥
only_stuck (Ok parts) fault is other = none-some fault is
only_stuck (Err stuck) fault is other = other stuck.node stuck.hits (sym (same_Some (no_fit.Stage stuck.node stuck.hits) fault is))

pub stuck_alone : (p : Program) (places : List (List Lane)) (fault : NoFit) → refusal p ≡ None → first_deep 0 p.actions ≡ None → packing p ≡ Ok places
    → first_refusal p ≡ Some fault → ((node : ℕ) (hits : List LimitHit) → fault ≢ no_fit.Stage node hits) → ⊥
stuck_alone p places fault fits shallow packed is other =
    only_stuck (placement p places (dependencies_of p places)) fault (sym (then_placed p places fits shallow packed) ∙ is) other

-- the value of what is done, else this one
given_or : {X E : Type 0} → X → Result X E → X
given_or d (Ok x) = x
given_or d (Err e) = d

-- a program that the parser fits isn't refused
pub not_refused : (o : Option ParserFault) → (let r : Result ⊤ ParserFault = Ok tt in r) ≡ unless o tt → o ≡ None
not_refused None is = refl
not_refused (Some fault) is = absurd (done_not_failed tt fault is)

-- what is built by the rule is what the rule gives
pub by_rule : {X E : Type 0} (x y : X) (none : E) (rule : Result X E) → ((let r : Result X E = Ok x in r) ≢ Err none → Ok x ≡ rule) → rule ≡ Ok y → x ≡ y
unfolding given_or
by_rule x y none rule made is = ap (given_or x) (made (done_not_failed x none) ∙ is)

-- the placement by the rule, or the parts that were handed in
pub placed_there : (p : Program) (places : List (List Lane)) (placed : Placement) (r : Result Built NoFit) → placement p places (dependencies_of p places) ≡ Ok placed.parts
    → IfOk r (λ b. LiesSo places placed b.map) → IfOk r (λ b. placement p b.map.places (dependencies_of p b.map.places) ≡ Ok b.map.placement.parts)
placed_there p places placed (Err e) is laid = tt
placed_there p places placed (Ok b) is laid =
    ap (λ (ps : List (List Lane)). placement p ps (dependencies_of p ps)) laid.0 ∙ is ∙ ap (λ (x : Placement). Ok x.parts) (sym laid.1)

pub parts_there : (places : List (List Lane)) (placed : Placement) (parts : List Part) (r : Result Built NoFit) → placed.parts ≡ parts → IfOk r (λ b. LiesSo places placed b.map)
    → IfOk r (λ b. b.map.placement.parts ≡ parts)
parts_there places placed parts (Err e) is laid = tt
parts_there places placed parts (Ok b) is laid = ap (λ (x : Placement). x.parts) laid.1 ∙ is
