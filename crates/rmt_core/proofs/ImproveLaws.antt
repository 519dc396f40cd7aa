-- What `improve` gives beside `compile`.
use Rattle.std.proofs.Common.{◌≡◌, ◌≤◌, inl, inr, ℕ, List, Option, Some, None, Result, Ok, Err, length, refl, sym, ap, subst, ◌∙◌, arith}
use Rattle.std.specs.Prelude.{IfOk}
use Rattle.std.proofs.lemmas.Option.{none-some}
use Rattle.rmt_bits.specs.declared.lane.Lane.{Lane}
use Rattle.rmt_core.specs.Types.{Program, Config}
use Rattle.rmt_ast.specs.declared.entry.Entry.{Entry}
use Rattle.rmt_bounds.specs.declared.bound.Bound.{Bound}
use Rattle.rmt_bounds.specs.Bounds.{stage_bound}
use Rattle.rmt_check.specs.Means.{Outcome}
use Rattle.rmt_deps.specs.Edges.{dependencies_of, field_edges}
use Rattle.rmt_entries.specs.declared.fault.EntryFault.{EntryFault}
use Rattle.rmt_entries.specs.declared.fault.EntryFault.TheVariants.{NoMemory, At}
use Rattle.rmt_entries.specs.Entries.{entries_of}
use Rattle.rmt_pack.specs.declared.placement.Part.{Part}
use Rattle.rmt_phv.specs.declared.fault.PhvFull.{PhvFull}
use Rattle.rmt_phv.specs.Packing.{packing}
use Rattle.rmt_place.specs.Placing.{Stuck}
use Rattle.rmt_place.specs.Starting.{stages_in}
use Rattle.rmt_place.specs.declared.fault.StageFull.TheVariants as stage
use Rattle.rmt_improve.proofs.BetterLaws.{stuck_as_rule}
use Rattle.rmt_refine.specs.declared.map.Map.{Map}
use Rattle.rmt_build.specs.declared.fault.NoFit.{NoFit}
use Rattle.rmt_build.specs.Refusals.{stuck_told}
use Rattle.rmt_core.specs.declared.placer.Placer.{Placer}
use Rattle.rmt_core.specs.declared.placer.Placer.TheVariants.{ByRule, ByTries}
use Rattle.rmt_drive.specs.declared.status.Status.TheVariants.{Done}
use Rattle.rmt_core.specs.Compiling.{Compiles, Fitted, GivesImage, IsFull, IsMadeBy, Loaded, Makes, written}
use Rattle.rmt_core.specs.CompileText.{compile_text}
use Rattle.rmt_drive.specs.Files.{Files, Found, Absent, Long, Holds, entries_limit, found, program_limit}
use Rattle.rmt_drive.specs.Given.{Given, OfFound, Reads}
use Rattle.rmt_core.specs.Headline.{ImproveHasNoMoreStages, OneTryIsCompile, PrintNoMoreStages, RefusesAsCompile}
use Rattle.rmt_core.specs.MapFiles.{Wanted, image_alone}
use Rattle.rmt_core.specs.Placers.{IsPlacedBy, placed_by, placing_refusal, refusal_by}
use Rattle.rmt_core.specs.Texts.{OfEntries, OfMeaning, Understands}
use Rattle.rmt_core.proofs.GivenDone.{read_within, understood, was_read, was_understood}
use Rattle.rmt_core.proofs.GivenOnce.{OneMeaning, same_places}
use Rattle.rmt_core.proofs.PlacerLaws.{stages_are, whole_as, whole_as-some}

-- ---- placers that place alike

-- two commands go on alike
abbrev GoesOn : (Given → Type 0) → (Given → Type 0) → Type 0
GoesOn P Q = (g : Given) → P g → Q g

found_on : (files : Files) (next other : List ℕ → Given → Type 0) → ((bytes : List ℕ) → GoesOn (next bytes) (other bytes)) → (f : Found)
    → GoesOn (λ g. OfFound files next g f) (λ g. OfFound files other g f)
found_on files next other on Absent g h = h
found_on files next other on Long g h = h
found_on files next other on (Holds bytes) g h = on bytes g h

entries_on : (files : Files) (next other : Program → List (List Entry) → Given → Type 0) → ((p : Program) (lists : List (List Entry)) → GoesOn (next p lists) (other p lists))
    → (p : Program) (r : Result (List (List Entry)) EntryFault) → GoesOn (λ g. OfEntries files next p g r) (λ g. OfEntries files other p g r)
entries_on files next other on p (Ok lists) g h = on p lists g h
entries_on files next other on p (Err (At code line)) g h = h
entries_on files next other on p (Err NoMemory) g h = h

meaning_on : (files : Files) (entries : List ℕ) (next other : Program → List (List Entry) → Given → Type 0)
    → ((p : Program) (lists : List (List Entry)) → GoesOn (next p lists) (other p lists)) → (m : Outcome)
    → GoesOn (λ g. OfMeaning files entries next g m) (λ g. OfMeaning files entries other g m)
meaning_on files entries next other on (Ok p) g h = entries_on files next other on p (entries_of p entries) g h
meaning_on files entries next other on (Err fault) g h = h

understands_on : (files : Files) (text entries : List ℕ) (next other : Program → List (List Entry) → Given → Type 0)
    → ((p : Program) (lists : List (List Entry)) → GoesOn (next p lists) (other p lists)) → GoesOn (Understands files text entries next) (Understands files text entries other)
understands_on files text entries next other on g h = (h.0, h.1, meaning_on files entries next other on h.0 g h.2)

abbrev PlaceAlike : Placer → Placer → Type 0
PlaceAlike placer other = (p : Program) (places : List (List Lane)) → placed_by placer p places ≡ placed_by other p places

module _ (placer other : Placer) (alike : PlaceAlike placer other) where
  placed_alike : (p : Program) (parts : List Part) → IsPlacedBy placer p parts → IsPlacedBy other p parts
  placed_alike p parts is = record { places = is.places; packed = is.packed; placed = sym (alike p is.places) ∙ is.placed }

  made_alike : (p : Program) (lists : List (List Entry)) (m : Map) (c : Config) → IsMadeBy placer p lists m c → IsMadeBy other p lists m c
  made_alike p lists m c is = record { rules = is.rules; placement = sym (alike p m.places) ∙ is.placement; layout = is.layout }

  makes_alike : (p : Program) (lists : List (List Entry)) (image : List ℕ) (m : Map) (c : Config) (b : Bound) → Makes placer p lists image m c b → Makes other p lists image m c b
  makes_alike p lists image m c b is = record {
    spells = is.spells;
    names = is.names;
    short = is.short;
    runs = is.runs;
    carries = is.carries;
    made_by = made_alike p lists m c is.made_by;
    map = is.map;
    bounded = is.bounded;
    few_stages = is.few_stages;
  }

  full_alike : (p : Program) (lists : List (List Entry)) (line : List ℕ) → IsFull placer p lists line → IsFull other p lists line
  full_alike p lists line is = record {
    parts = is.parts;
    node = is.node;
    members = is.members;
    cells = is.cells;
    placed = placed_alike p is.parts is.placed;
    full = is.full;
    line_is = is.line_is;
  }

  refusal_alike : (p : Program) → refusal_by placer p ≡ refusal_by other p
  refusal_alike p = whole_as p (placing_refusal placer p (packing p)) (placing_refusal other p (packing p)) (by (packing p))
    where
      by : (r : Result (List (List Lane)) PhvFull) → placing_refusal placer p r ≡ placing_refusal other p r
      by (Err fault) = refl
      by (Ok places) = ap stuck_told (alike p places)

  compiles_alike : (files : Files) (wanted : Wanted) (p : Program) (lists : List (List Entry)) → GoesOn (Compiles placer files wanted p lists) (Compiles other files wanted p lists)
  compiles_alike files wanted p lists g h =
      by (refusal_by other p) (subst (λ o. Fitted placer files (written files wanted p) p lists g o) (refusal_alike p) h)
    where
      loaded : Loaded placer files (written files wanted p) p lists g → Loaded other files (written files wanted p) p lists g
      loaded (inl x) = inl (x.0, x.1, x.2, x.3, makes_alike p lists x.0 x.1 x.2 x.3 x.4, x.5)
      loaded (inr x) = inr (x.0, full_alike p lists x.0 x.1, x.2)

      by : (o : Option NoFit) → Fitted placer files (written files wanted p) p lists g o → Fitted other files (written files wanted p) p lists g o
      by (Some fault) h = h
      by None h = loaded h

  image_alike : (files : Files) (program entries : List ℕ) (wanted : Wanted) → GoesOn (GivesImage placer files program entries wanted) (GivesImage other files program entries wanted)
  image_alike files program entries wanted g h =
      found_on files (λ text. Reads files entries entries_limit (λ entry_text. Understands files text entry_text (Compiles placer files wanted)))
      (λ text. Reads files entries entries_limit (λ entry_text. Understands files text entry_text (Compiles other files wanted)))
      (λ text. found_on files (λ entry_text. Understands files text entry_text (Compiles placer files wanted)) (λ entry_text. Understands files text entry_text (Compiles other files wanted))
      (λ entry_text. understands_on files text entry_text (Compiles placer files wanted) (Compiles other files wanted) (compiles_alike files wanted)) (found entries_limit (files entries)))
      (found program_limit (files program)) g h

pub one_try_is_compile : OneTryIsCompile
one_try_is_compile files program entries image g = (
  image_alike (ByTries 1) ByRule (λ p places. refl) files program entries (image_alone image) g,
  image_alike ByRule (ByTries 1) (λ p places. refl) files program entries (image_alone image) g,
)

-- ---- refusals

pub refuses_as_compile : RefusesAsCompile
refuses_as_compile budget p fault e = whole_as-some p (placing_refusal (ByTries budget) p (packing p)) (placing_refusal ByRule p (packing p)) fault (by (packing p)) e
  where
    stuck : (places : List (List Lane)) (r : Result (List Part) Stuck) → placed_by (ByTries budget) p places ≡ r → stuck_told r ≡ Some fault → placing_refusal ByRule p (Ok places) ≡ Some fault
    stuck places (Ok parts) is told = absurd (none-some fault told)
    stuck places (Err s) is told =
        ap stuck_told (stuck_as_rule p places (dependencies_of p places) budget (stage.At s.node (record { parts = s.placed }) s.hits) is) ∙ told

    by : (r : Result (List (List Lane)) PhvFull) → placing_refusal (ByTries budget) p r ≡ Some fault → placing_refusal ByRule p r ≡ Some fault
    by (Err f) told = told
    by (Ok places) told = stuck places (placed_by (ByTries budget) p places) refl told

-- ---- stages

-- what was made of a program with its entries, and the lines that tell of it
record WasMade (placer : Placer) (p : Program) (lists : List (List Entry)) (g : Given) : Type 0 where
  image : List ℕ
  map : Map
  config : Config
  bound : Bound
  makes : Makes placer p lists image map config bound
  text : g.text ≡ compile_text p config bound

was_made : (placer : Placer) (files : Files) (wanted : Wanted) (p : Program) (lists : List (List Entry)) (g : Given) → g.status ≡ Done → Compiles placer files wanted p lists g
    → WasMade placer p lists g
was_made placer files wanted p lists g done h = by (refusal_by placer p) h
  where
    loaded : Loaded placer files (written files wanted p) p lists g → WasMade placer p lists g
    loaded (inl x) = record { image = x.0; map = x.1; config = x.2; bound = x.3; makes = x.4; text = ap (λ (k : Given). k.text) x.5 }
    loaded (inr x) = absurd (let e = sym (ap (λ (k : Given). k.status) x.2) ∙ done in cc)

    by : (o : Option NoFit) → Fitted placer files (written files wanted p) p lists g o → WasMade placer p lists g
    by (Some fault) h = absurd (let e = sym (ap (λ (k : Given). k.status) h) ∙ done in cc)
    by None h = loaded h

no_more : (budget : ℕ) (p : Program) (lists : List (List Entry)) (made improved : Given) → WasMade ByRule p lists made → WasMade (ByTries budget) p lists improved
    → PrintNoMoreStages made.text improved.text
no_more budget p lists made improved a b =
    let places : a.map.places ≡ b.map.places = same_places p a.map.places b.map.places a.makes.made_by.rules.places b.makes.made_by.rules.places in
    let bound : b.bound ≡ a.bound = b.makes.bounded.bound ∙ (ap (λ (l : List (List Lane)). stage_bound p (field_edges p l)) (sym places) ∙ sym a.makes.bounded.bound) in
    let placed : placed_by ByRule p b.map.places ≡ Ok a.map.placement.parts = ap (placed_by ByRule p) (sym places) ∙ a.makes.made_by.placement in
    let few : length b.config.stages ≤ stages_in a.map.placement.parts = subst (λ (r : Result (List Part) Stuck). IfOk r (λ parts. length b.config.stages ≤ stages_in parts)) placed b.makes.few_stages in
    record {
      program = p;
      config = a.config;
      other = b.config;
      bound = a.bound;
      first_is = a.text;
      second_is = b.text ∙ ap (compile_text p b.config) bound;
      no_more = omega (arith, few, stages_are ByRule p lists a.map a.config a.makes.carries a.makes.made_by);
    }

pub improve_has_no_more_stages : OneMeaning → ImproveHasNoMoreStages
improve_has_no_more_stages one files program entries image other budget made improved compiles done improves improved_done =
    let next = λ (placer : Placer) (name text : List ℕ). Reads files entries entries_limit (λ entry_text. Understands files text entry_text (Compiles placer files (image_alone name))) in
    let first = was_read files program program_limit (next ByRule image) made done compiles in
    let second = was_read files entries entries_limit (λ entry_text. Understands files first.bytes entry_text (Compiles ByRule files (image_alone image))) made done first.then in
    let meant = was_understood files first.bytes second.bytes (Compiles ByRule files (image_alone image)) made done second.then in
    let read = read_within files program program_limit (next (ByTries budget) other) improved (first.bytes, first.within) improves in
    let read_both = read_within files entries entries_limit (λ entry_text. Understands files first.bytes entry_text (Compiles (ByTries budget) files (image_alone other))) improved (second.bytes, second.within) read in
    let then = understood one files first.bytes second.bytes (Compiles (ByTries budget) files (image_alone other)) improved meant.program meant.lists meant.means meant.says read_both in
    no_more budget meant.program meant.lists made improved (was_made ByRule files (image_alone image) meant.program meant.lists made done meant.then)
    (was_made (ByTries budget) files (image_alone other) meant.program meant.lists improved improved_done then)
