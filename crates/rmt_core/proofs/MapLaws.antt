-- With a map `compile` gives what it gives without one, and all files but the map stand as then.
use Rattle.std.proofs.Common.{◌≡◌, ◌≢◌, inl, inr, ℕ, List, Option, Some, None, Result, Ok, Err, sym, refl, ap, ◌∙◌}
use Rattle.rmt_core.specs.Types.{Program}
use Rattle.rmt_ast.specs.declared.entry.Entry.{Entry}
use Rattle.rmt_build.specs.declared.fault.NoFit.{NoFit}
use Rattle.rmt_check.specs.Means.{Outcome}
use Rattle.rmt_entries.specs.declared.fault.EntryFault.{EntryFault}
use Rattle.rmt_entries.specs.declared.fault.EntryFault.TheVariants.{NoMemory, At}
use Rattle.rmt_entries.specs.Entries.{entries_of}
use Rattle.rmt_verify.specs.Spelling.{spelled_map}
use Rattle.rmt_core.specs.declared.placer.Placer.TheVariants.{ByRule}
use Rattle.rmt_core.specs.Compiling.{Compiles, Fitted, Loaded, written}
use Rattle.rmt_drive.specs.Files.{Files, Found, Absent, Long, Holds, entries_limit, found, program_limit, updated}
use Rattle.rmt_drive.specs.Given.{Given, OfFound, Reads}
use Rattle.rmt_core.specs.Headline.{MapIsBeside}
use Rattle.rmt_core.specs.MapFiles.{image_alone, map_file, with_map}
use Rattle.rmt_core.specs.Placers.{refusal_by}
use Rattle.rmt_core.specs.Texts.{OfEntries, OfMeaning, Understands}
use Rattle.rmt_core.proofs.WritingLaws.{updated_other}

module _ (map : List ℕ) where
  -- what is given beside something else: its status and text, and its files but for the map
  record IsBeside (g alone : Given) : Type 0 where
    status : g.status ≡ alone.status
    text : g.text ≡ alone.text
    others : (name : List ℕ) → name ≢ map → g.files name ≡ alone.files name

  beside_itself : (g : Given) → IsBeside g g
  beside_itself g = record { status = refl; text = refl; others = λ name other. refl }

  abbrev Besides : (Given → Type 0) → (Given → Type 0) → Type 0
  Besides P Q = (g : Given) → P g → (alone : Given) × Q alone × IsBeside g alone

  module _ (files : Files) where
    found_beside : (next other : List ℕ → Given → Type 0) → ((bytes : List ℕ) → Besides (next bytes) (other bytes)) → (f : Found)
        → Besides (λ g. OfFound files next g f) (λ g. OfFound files other g f)
    found_beside next other on Absent g h = (g, h, beside_itself g)
    found_beside next other on Long g h = (g, h, beside_itself g)
    found_beside next other on (Holds bytes) g h = on bytes g h

    entries_beside : (next other : Program → List (List Entry) → Given → Type 0) → ((p : Program) (lists : List (List Entry)) → Besides (next p lists) (other p lists))
        → (p : Program) (r : Result (List (List Entry)) EntryFault) → Besides (λ g. OfEntries files next p g r) (λ g. OfEntries files other p g r)
    entries_beside next other on p (Ok lists) g h = on p lists g h
    entries_beside next other on p (Err (At code line)) g h = (g, h, beside_itself g)
    entries_beside next other on p (Err NoMemory) g h = absurd h

    meaning_beside : (entries : List ℕ) (next other : Program → List (List Entry) → Given → Type 0)
        → ((p : Program) (lists : List (List Entry)) → Besides (next p lists) (other p lists)) → (m : Outcome)
        → Besides (λ g. OfMeaning files entries next g m) (λ g. OfMeaning files entries other g m)
    meaning_beside entries next other on (Ok p) g h = entries_beside next other on p (entries_of p entries) g h
    meaning_beside entries next other on (Err fault) g h = (g, h, beside_itself g)

    understands_beside : (text entries : List ℕ) (next other : Program → List (List Entry) → Given → Type 0)
        → ((p : Program) (lists : List (List Entry)) → Besides (next p lists) (other p lists)) → Besides (Understands files text entries next) (Understands files text entries other)
    understands_beside text entries next other on g h =
        let r = meaning_beside entries next other on h.0 g h.2 in
        (r.0, (h.0, h.1, r.1), r.2)

    module _ (image : List ℕ) (p : Program) (lists : List (List Entry)) where
      loaded_beside : Besides (Loaded ByRule files (written files (with_map image map) p) p lists) (Loaded ByRule files (written files (image_alone image) p) p lists)
      loaded_beside g (inl x) =
          let alone = written files (image_alone image) p x.0 x.1 x.2 x.3 in (
            alone,
            inl (x.0, x.1, x.2, x.3, x.4, refl),
            record {
              status = ap (λ (k : Given). k.status) x.5;
              text = ap (λ (k : Given). k.text) x.5;
              others = λ name other.
                  ap (λ (k : Given). k.files name) x.5
                  ∙ updated_other (updated files image x.0) map (spelled_map (map_file p x.1)) name (λ e. other (sym e));
            },
          )
      loaded_beside g (inr x) = (g, inr x, beside_itself g)

      fitted_beside : (o : Option NoFit) → Besides (λ g. Fitted ByRule files (written files (with_map image map) p) p lists g o) (λ g. Fitted ByRule files (written files (image_alone image) p) p lists g o)
      fitted_beside (Some fault) g h = (g, h, beside_itself g)
      fitted_beside None g h = loaded_beside g h

      compiles_beside : Besides (Compiles ByRule files (with_map image map) p lists) (Compiles ByRule files (image_alone image) p lists)
      compiles_beside g h = fitted_beside (refusal_by ByRule p) g h

pub map_is_beside : MapIsBeside
map_is_beside files program entries image map g h =
    let whole = with_map image map in
    let alone = image_alone image in
    let r = found_beside map files
    (λ text. Reads files entries entries_limit (λ entry_text. Understands files text entry_text (Compiles ByRule files whole)))
    (λ text. Reads files entries entries_limit (λ entry_text. Understands files text entry_text (Compiles ByRule files alone)))
    (λ text. found_beside map files (λ entry_text. Understands files text entry_text (Compiles ByRule files whole)) (λ entry_text. Understands files text entry_text (Compiles ByRule files alone))
    (λ entry_text. understands_beside map files text entry_text (Compiles ByRule files whole) (Compiles ByRule files alone) (compiles_beside map files image)) (found entries_limit (files entries)))
    (found program_limit (files program)) g h in
    record { alone = r.0; is_given = r.1; status = r.2.status; text = r.2.text; others = r.2.others }
