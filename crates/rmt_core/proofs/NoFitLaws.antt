-- Which refusal of the back end a last line tells.
use Rattle.std.proofs.Common.{◌≡◌, ◌≢◌, ℕ, List, Option, Some, None, Result, Ok, Err, inr, refl, sym, ap, subst, ◌∙◌}
use Rattle.std.specs.Prelude.{IfErr, IfOk, option_map}
use Rattle.std.specs.Option.{option_or}
use Rattle.std.proofs.lemmas.Option.{none-some}
use Rattle.rmt_bits.specs.declared.lane.Lane.{Lane}
use Rattle.rmt_core.specs.Types.{Program}
use Rattle.rmt_ast.specs.declared.entry.Entry.{Entry}
use Rattle.rmt_pack.specs.declared.placement.Part.{Part}
use Rattle.rmt_phv.specs.declared.fault.PhvFull.{PhvFull}
use Rattle.rmt_phv.specs.declared.fault.PhvFull.TheVariants as phv
use Rattle.rmt_phv.specs.Packing.{packing}
use Rattle.rmt_place.specs.Placing.{Stuck}
use Rattle.rmt_ptcam.specs.declared.fault.ParserFault.{ParserFault}
use Rattle.rmt_ptcam.specs.declared.fault.ParserFault.TheVariants as parser
use Rattle.rmt_ptcam.specs.Needs.{refusal}
use Rattle.rmt_vliw.specs.declared.fault.ActionDeep.{ActionDeep}
use Rattle.rmt_vliw.specs.declared.fault.ActionDeep.TheVariants as action
use Rattle.rmt_build.specs.declared.built.Built.{Built}
use Rattle.rmt_build.specs.declared.fault.NoFit.{NoFit}
use Rattle.rmt_build.specs.declared.fault.NoFit.TheVariants as no_fit
use Rattle.rmt_build.specs.Folds.{first_deep}
use Rattle.rmt_build.specs.Loads.{AreNotLoaded}
use Rattle.rmt_build.specs.Refusals.{action_told, parser_told, stuck_told}
use Rattle.rmt_core.specs.declared.placer.Placer.{Placer}
use Rattle.rmt_core.specs.declared.placer.Placer.TheVariants.{ByRule, ByTries}
use Rattle.rmt_drive.specs.declared.status.Status.TheVariants as status
use Rattle.rmt_drive.specs.Given.{told}
use Rattle.rmt_core.specs.Compiling.{Fitted, IsFull}
use Rattle.rmt_core.specs.Making.{AreBothRefused, IsBuilt, TellsWhy}
use Rattle.rmt_core.specs.NoFitText.{no_fit_line}
use Rattle.rmt_core.specs.Placers.{IsPlacedBy, placed_by, placing_refusal, refusal_by}
use Rattle.rmt_core.proofs.PlacerLaws.{refused_alike}
use Rattle.rmt_bits.proofs.OptionLaws.{option_or-none_right}

-- ---- the first refusal

abbrev refusal_or : {A E : Type 0} → E → Result A E → E
refusal_or d (Ok x) = d
refusal_or d (Err e) = e

pub same_Err : {A E : Type 0} (x y : E) → (let r : Result A E = Err x in r) ≡ Err y → x ≡ y
same_Err x y e = ap (refusal_or x) e

-- where there is no refusal, the nodes are placed
pub record ArePlaced (placer : Placer) (p : Program) : Type 0 where
  pub parts : List Part
  pub placed : IsPlacedBy placer p parts

pub are_placed : (placer : Placer) (p : Program) → refusal_by placer p ≡ None → ArePlaced placer p
are_placed placer p is = by (packing p) refl (option_or-none_right _ _ (option_or-none_right _ _ is))
  where
    then : (places : List (List Lane)) (r : Result (List Part) Stuck) → packing p ≡ Ok places → placed_by placer p places ≡ r → stuck_told r ≡ None → ArePlaced placer p
    then places (Ok parts) packed e none = record { parts = parts; placed = record { places = places; packed = packed; placed = e } }
    then places (Err stuck) packed e none = absurd (none-some _ (sym none))

    by : (r : Result (List (List Lane)) PhvFull) → packing p ≡ r → placing_refusal placer p r ≡ None → ArePlaced placer p
    by (Ok places) e none = then places (placed_by placer p places) e refl none
    by (Err fault) e none = absurd (none-some _ (sym none))

-- it is none of loading
abbrev IsOfLoad : NoFit → Type 0
IsOfLoad no_fit.NoMemory = ⊥
IsOfLoad (no_fit.Lookup header bytes) = ⊥
IsOfLoad (no_fit.Step header extracts) = ⊥
IsOfLoad (no_fit.Parser many) = ⊥
IsOfLoad (no_fit.Action number field) = ⊥
IsOfLoad (no_fit.Phv field class) = ⊥
IsOfLoad (no_fit.Stage node hits) = ⊥
IsOfLoad (no_fit.Load node members cells) = Unit {0}

abbrev IsOfLoadIf : Option NoFit → Type 0
IsOfLoadIf None = ⊥
IsOfLoadIf (Some fault) = IsOfLoad fault

pub never_load : (placer : Placer) (p : Program) (node members cells : ℕ) → refusal_by placer p ≡ Some (no_fit.Load node members cells) → ⊥
never_load placer p node members cells is = parsed (refusal p) (subst IsOfLoadIf (sym is) tt)
  where
    stuck : (r : Result (List Part) Stuck) → IsOfLoadIf (stuck_told r) → ⊥
    stuck (Ok parts) h = h
    stuck (Err x) h = h

    packed : (r : Result (List (List Lane)) PhvFull) → IsOfLoadIf (placing_refusal placer p r) → ⊥
    packed (Ok places) h = stuck (placed_by placer p places) h
    packed (Err phv.NoMemory) h = h
    packed (Err (phv.At field class)) h = h

    acted : (o : Option ActionDeep) → IsOfLoadIf (option_or (option_map action_told o) (placing_refusal placer p (packing p))) → ⊥
    acted None h = packed (packing p) h
    acted (Some action.NoMemory) h = h
    acted (Some (action.At number field)) h = h

    parsed : (o : Option ParserFault) → IsOfLoadIf (option_or (option_map parser_told o) (option_or (option_map action_told (first_deep 0 p.actions)) (placing_refusal placer p (packing p)))) → ⊥
    parsed None h = acted (first_deep 0 p.actions) h
    parsed (Some parser.NoMemory) h = h
    parsed (Some (parser.LookupWide header bytes)) h = h
    parsed (Some (parser.StepWide header extracts)) h = h
    parsed (Some (parser.ParserFull entries)) h = h

-- ---- what is told

-- the line of the first refusal
tells_first : (placer : Placer) (p : Program) (lists : List (List Entry)) (fault : NoFit) → refusal_by placer p ≡ Some fault → TellsWhy placer p lists (no_fit_line p fault)
tells_first placer p lists fault is files finish =
    let g = told files status.NoFit (no_fit_line p fault) in
    subst (λ o. Fitted placer files finish p lists g o) (sym is) refl

-- that of a table that doesn't load
tells_full : (placer : Placer) (p : Program) (lists : List (List Entry)) (line : List ℕ) → refusal_by placer p ≡ None → IsFull placer p lists line → TellsWhy placer p lists line
tells_full placer p lists line none full files finish =
    let g = told files status.NoFit line in
    subst (λ o. Fitted placer files finish p lists g o) (sym none) (inr (line, full, refl))

-- a line that is told by one placer is told by another with the same first refusal
pub tells_alike : (placer other : Placer) (p : Program) (lists : List (List Entry)) (first : NoFit) (line : List ℕ) → refusal_by placer p ≡ Some first → refusal_by other p ≡ Some first
    → TellsWhy placer p lists line → TellsWhy other p lists line
tells_alike placer other p lists first line e f why files finish =
    let g = told files status.NoFit line in
    let is : Fitted placer files finish p lists g (Some first) = subst (λ o. Fitted placer files finish p lists g o) e (why files finish) in
    subst (λ o. Fitted other files finish p lists g o) (sym f) is

-- where the back end refused, not for want of memory, there is no first refusal that is not its own
not_first : (first : Option NoFit) (r : Result Built NoFit) (told : NoFit) → r ≡ Err told → told ≢ no_fit.NoMemory → ((fault : NoFit) → first ≡ Some fault → told ≢ fault)
    → ((fault : NoFit) → first ≡ Some fault → r ≢ Err no_fit.NoMemory → r ≡ Err fault) → first ≡ None
not_first None r told is some other refused = refl
not_first (Some fault) r told is some other refused =
    absurd (other fault refl (same_Err told fault (sym is ∙ refused fault refl (λ memory. some (same_Err told no_fit.NoMemory (sym is ∙ memory))))))

-- each refusal has its cause
abbrev pub HasCause : Placer → Program → List (List Entry) → NoFit → Type 0
HasCause placer p lists no_fit.NoMemory = Unit {0}
HasCause placer p lists (no_fit.Lookup header bytes) = refusal_by placer p ≡ Some (no_fit.Lookup header bytes)
HasCause placer p lists (no_fit.Step header extracts) = refusal_by placer p ≡ Some (no_fit.Step header extracts)
HasCause placer p lists (no_fit.Parser many) = refusal_by placer p ≡ Some (no_fit.Parser many)
HasCause placer p lists (no_fit.Action number field) = refusal_by placer p ≡ Some (no_fit.Action number field)
HasCause placer p lists (no_fit.Phv field class) = refusal_by placer p ≡ Some (no_fit.Phv field class)
HasCause placer p lists (no_fit.Stage node hits) = refusal_by placer p ≡ Some (no_fit.Stage node hits)
HasCause placer p lists (no_fit.Load node members cells) = (parts : List Part) → IsPlacedBy placer p parts → AreNotLoaded p lists parts node members cells

-- what the back end refused by is what is told
tells_cause : (placer : Placer) (p : Program) (lists : List (List Entry)) (r : Result Built NoFit) (told : NoFit) → r ≡ Err told → told ≢ no_fit.NoMemory
    → ((fault : NoFit) → refusal_by placer p ≡ Some fault → r ≢ Err no_fit.NoMemory → r ≡ Err fault) → HasCause placer p lists told → TellsWhy placer p lists (no_fit_line p told)
tells_cause placer p lists r no_fit.NoMemory is some refused cause = absurd (some refl)
tells_cause placer p lists r (no_fit.Lookup header bytes) is some refused cause = tells_first placer p lists (no_fit.Lookup header bytes) cause
tells_cause placer p lists r (no_fit.Step header extracts) is some refused cause = tells_first placer p lists (no_fit.Step header extracts) cause
tells_cause placer p lists r (no_fit.Parser many) is some refused cause = tells_first placer p lists (no_fit.Parser many) cause
tells_cause placer p lists r (no_fit.Action number field) is some refused cause = tells_first placer p lists (no_fit.Action number field) cause
tells_cause placer p lists r (no_fit.Phv field class) is some refused cause = tells_first placer p lists (no_fit.Phv field class) cause
tells_cause placer p lists r (no_fit.Stage node hits) is some refused cause = tells_first placer p lists (no_fit.Stage node hits) cause
tells_cause placer p lists r (no_fit.Load node members cells) is some refused cause =
    let none = not_first (refusal_by placer p) r (no_fit.Load node members cells) is some (λ fault first same. never_load placer p node members cells (first ∙ ap Some (sym same))) refused in
    let at = are_placed placer p none in
    tells_full placer p lists (no_fit_line p (no_fit.Load node members cells)) none (record {
      parts = at.parts;
      node = node;
      members = members;
      cells = cells;
      placed = at.placed;
      full = cause at.parts at.placed;
      line_is = refl;
    })

pub tells_refusal : (placer : Placer) (p : Program) (lists : List (List Entry)) (r : Result Built NoFit)
    → ((fault : NoFit) → refusal_by placer p ≡ Some fault → r ≢ Err no_fit.NoMemory → r ≡ Err fault)
    → ((fault : NoFit) → r ≡ Err fault → HasCause placer p lists fault)
    → IfErr r (λ fault. fault ≢ no_fit.NoMemory → TellsWhy placer p lists (no_fit_line p fault))
tells_refusal placer p lists (Ok built) refused cause = tt
tells_refusal placer p lists (Err fault) refused cause = λ some. tells_cause placer p lists (Err fault) fault refl some refused (cause fault refl)

-- ---- where neither the tries nor the rule place the nodes

-- the rule builds nothing
pub never_built : (budget : ℕ) (p : Program) (lists : List (List Entry)) → AreBothRefused budget p → (r : Result Built NoFit) → IfOk r (IsBuilt ByRule p lists)
    → IfOk r (IsBuilt (ByTries budget) p lists)
never_built budget p lists both (Err fault) is = tt
never_built budget p lists both (Ok built) is =
    let alike = refused_alike budget p both in
    absurd (none-some alike.first (sym is.no_refusal ∙ alike.by_rule))

-- and tells why the tries don't
pub told_alike : (budget : ℕ) (p : Program) (lists : List (List Entry)) → AreBothRefused budget p → (r : Result Built NoFit)
    → IfErr r (λ fault. fault ≢ no_fit.NoMemory → TellsWhy ByRule p lists (no_fit_line p fault))
    → IfErr r (λ fault. fault ≢ no_fit.NoMemory → TellsWhy (ByTries budget) p lists (no_fit_line p fault))
told_alike budget p lists both (Ok built) why = tt
told_alike budget p lists both (Err fault) why = λ some.
    let alike = refused_alike budget p both in
    tells_alike ByRule (ByTries budget) p lists alike.first (no_fit_line p fault) alike.by_rule alike.by_tries (why some)
