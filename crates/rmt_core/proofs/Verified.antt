-- `verify` of the image and the map that `compile` wrote prints `yes`.
use Rattle.std.proofs.Common.{◌≡◌, ◌≢◌, ℕ, List, Option, Some, None, Ok, inl, inr, refl, sym, ap, ◌∙◌}
use Rattle.rmt_bits.proofs.AllLaws.{All-slice_get}
use Rattle.rmt_core.specs.Types.{Program, Config}
use Rattle.rmt_ast.specs.declared.entry.Entry.{Entry}
use Rattle.rmt_bounds.specs.declared.bound.Bound.{Bound}
use Rattle.rmt_build.specs.declared.fault.NoFit.{NoFit}
use Rattle.rmt_build.specs.Promises.{HasCodeOfRule}
use Rattle.rmt_ptcam.specs.declared.fault.ParserFault.{ParserFault}
use Rattle.rmt_ptcam.specs.Clustering.{clustered}
use Rattle.rmt_ptcam.specs.Joins.{joins}
use Rattle.rmt_ptcam.specs.Needs.{refusal, unless}
use Rattle.rmt_ptcam.specs.Plain.{plain}
use Rattle.rmt_ptcam.proofs.JoinsLaws.{joins_give}
use Rattle.rmt_refine.specs.declared.map.Map.{Map}
use Rattle.rmt_refine.specs.Units.{table_at}
use Rattle.rmt_verify.specs.Checks.{AllHold}
use Rattle.rmt_verify.specs.Instructions.{IsCoded}
use Rattle.rmt_verify.specs.ParserMade.{IsMadeOf}
use Rattle.rmt_verify.specs.Spelling.{spelled_map}
use Rattle.rmt_core.specs.declared.placer.Placer.{Placer}
use Rattle.rmt_core.specs.declared.placer.Placer.TheVariants.{ByRule}
use Rattle.rmt_drive.specs.declared.status.Status.TheVariants.{Done}
use Rattle.rmt_core.specs.Compiling.{Compiles, Fitted, Loaded, Makes, written}
use Rattle.rmt_drive.specs.Files.{Files, entries_limit, image_limit, map_limit, program_limit, updated}
use Rattle.rmt_drive.specs.Given.{Given, Reads}
use Rattle.rmt_core.specs.Headline.{IsImage, IsMapFile, MeanBoth, VerifiesCompiled}
use Rattle.rmt_core.specs.MapFiles.{map_file, with_map}
use Rattle.rmt_core.specs.Placers.{refusal_by}
use Rattle.rmt_core.specs.Texts.{Understands}
use Rattle.rmt_core.specs.Verifying.{Checks, ChecksBytes, ChecksTexts, GivesVerify, HasMap, answer_line}
use Rattle.rmt_core.proofs.GivenDone.{later_within, map_is, read_within, spelled_is, understood, was_read, was_understood}
use Rattle.rmt_core.proofs.GivenOnce.{OneMap, OneMeaning}
use Rattle.rmt_core.proofs.WritingLaws.{updated_other, updated_same}

-- ---- what is checked

-- of four files that are as they must be, the configuration and the map are checked against the program and its entries
pub verify_checks : OneMeaning → OneMap → (files : Files) (program entries image map : List ℕ) (g : Given) (p : Program) (lists : List (List Entry))
    → (both : MeanBoth files program entries p lists) (i : IsImage files image) (k : IsMapFile files map) → GivesVerify files program entries image map g
    → Checks files p lists i.config k.map g
verify_checks one maps files program entries image map g p lists both i k h =
    let read = read_within files program program_limit
    (λ text. Reads files entries entries_limit (λ entry_text. Reads files image image_limit (λ image_bytes. Reads files map map_limit (λ map_bytes. ChecksTexts files text entry_text image_bytes map_bytes)))) g (both.text, both.has_text) h in
    let second = read_within files entries entries_limit
    (λ entry_text. Reads files image image_limit (λ image_bytes. Reads files map map_limit (λ map_bytes. ChecksTexts files both.text entry_text image_bytes map_bytes))) g (both.entry_text, both.has_entries) read in
    let third = read_within files image image_limit (λ image_bytes. Reads files map map_limit (λ map_bytes. ChecksTexts files both.text both.entry_text image_bytes map_bytes)) g (i.bytes, i.has_bytes) second in
    let fourth = read_within files map map_limit (λ map_bytes. ChecksTexts files both.text both.entry_text i.bytes map_bytes) g (k.bytes, k.has_bytes) third in
    let meant = understood one files both.text both.entry_text (ChecksBytes files i.bytes k.bytes) g p lists both.means both.says fourth in
    let spelled = spelled_is files i.bytes (λ c. HasMap files k.bytes (Checks files p lists c)) g i.config i.spells meant in
    map_is maps files k.bytes (Checks files p lists i.config) g k.map k.spells spelled

-- ---- what is made has all parts

module _ (placer : Placer) (p : Program) (lists : List (List Entry)) (image : List ℕ) (m : Map) (c : Config) (b : Bound) (made : Makes placer p lists image m c b) where
  -- the parser is the clustered one, which nothing refuses
  parser_there : (o : Option ParserFault) → unless o (clustered p m.places) ≡ Ok c.parser → (o ≡ None) × (clustered p m.places ≡ c.parser)
  parser_there None e = (refl, cc)
  parser_there (Some fault) e = absurd cc

  made_of_joins : IsMadeOf p m.places (joins p m.places) c.parser
  made_of_joins =
      let there = parser_there (refusal p) made.made_by.rules.parser in
      record {
        first = plain p m.places;
        plain = ap (λ o. unless o (plain p m.places)) there.0;
        made = joins_give p m.places ∙ ap Some there.1;
      }

  coded : IsCoded p m.places c
  coded = record {
    fold = made.made_by.rules.folds;
    tables = λ n k place t stage slot is at_stage at_slot node.
        All-slice_get (HasCodeOfRule p m.places) c.stages k stage made.made_by.rules.code at_stage place slot t at_slot (ap (table_at p) node ∙ is);
  }

  all_hold : AllHold p lists c (map_file p m)
  all_hold n = record {
    places = λ _. made.carries.places;
    parser = λ _. made_of_joins;
    units = λ _. made.carries.units;
    cells = λ _. made.carries.cells;
    code = λ _. coded;
    edges = λ _. made.carries.edges;
    names = λ _. made.carries.names;
  }

  -- so no part fails
  says_yes : (files : Files) (g : Given) → Checks files p lists c (map_file p m) g → (g.status ≡ Done) × (g.text ≡ answer_line None)
  says_yes files g (None, hold, is) = (ap (λ (k : Given). k.status) is, ap (λ (k : Given). k.text) is)
  says_yes files g (Some part, first, is) = absurd (first.fails (all_hold part))

-- ---- what was made

-- an image and a map in files
record WasMade (p : Program) (lists : List (List Entry)) (files : Files) (image map : List ℕ) : Type 0 where
  bytes : List ℕ
  own : Map
  config : Config
  bound : Bound
  makes : Makes ByRule p lists bytes own config bound
  has_image : files image ≡ Some bytes
  has_map : files map ≡ Some (spelled_map (map_file p own))

module _ (p : Program) (lists : List (List Entry)) (files : Files) (image map : List ℕ) (apart : map ≢ image) (g : Given) (done : g.status ≡ Done) where
  loaded_made : Loaded ByRule files (written files (with_map image map) p) p lists g → WasMade p lists g.files image map
  loaded_made (inl x) =
      let before = updated files image x.0 in
      let spelled = spelled_map (map_file p x.1) in
      record {
        bytes = x.0;
        own = x.1;
        config = x.2;
        bound = x.3;
        makes = x.4;
        has_image = ap (λ (k : Given). k.files image) x.5 ∙ updated_other before map spelled image apart ∙ updated_same files image x.0;
        has_map = ap (λ (k : Given). k.files map) x.5 ∙ updated_same before map spelled;
      }
  loaded_made (inr x) = absurd (let e = sym (ap (λ (k : Given). k.status) x.2) ∙ done in cc)

  fitted_made : (o : Option NoFit) → Fitted ByRule files (written files (with_map image map) p) p lists g o → WasMade p lists g.files image map
  fitted_made None h = loaded_made h
  fitted_made (Some fault) h = absurd (let e = sym (ap (λ (k : Given). k.status) h) ∙ done in cc)

  was_made : Compiles ByRule files (with_map image map) p lists g → WasMade p lists g.files image map
  was_made h = fitted_made (refusal_by ByRule p) h

-- ---- the law

pub verifies_compiled : OneMeaning → OneMap → VerifiesCompiled
verifies_compiled one maps files later program entries image map made verified apart compiles done same_image same_map same_program same_entries verifies =
    let next = Compiles ByRule files (with_map image map) in
    let first = was_read files program program_limit (λ text. Reads files entries entries_limit (λ entry_text. Understands files text entry_text next)) made done compiles in
    let second = was_read files entries entries_limit (λ entry_text. Understands files first.bytes entry_text next) made done first.then in
    let meant = was_understood files first.bytes second.bytes next made done second.then in
    let p = meant.program in
    let lists = meant.lists in
    let was = was_made p lists files image map apart made done meant.then in
    let both : MeanBoth later program entries p lists = record {
      text = first.bytes;
      entry_text = second.bytes;
      has_text = later_within files later program first.bytes program_limit same_program first.within;
      has_entries = later_within files later entries second.bytes entries_limit same_entries second.within;
      means = meant.means;
      says = meant.says;
    } in
    let i : IsImage later image = record {
      bytes = was.bytes;
      config = was.config;
      has_bytes = record { is_there = same_image ∙ was.has_image; is_short = was.makes.short };
      spells = was.makes.spells;
    } in
    let k : IsMapFile later map = record {
      bytes = spelled_map (map_file p was.own);
      map = map_file p was.own;
      has_bytes = record { is_there = same_map ∙ was.has_map; is_short = was.makes.map.short };
      spells = record { spelled = refl; fits = was.makes.map.fits };
    } in
    says_yes ByRule p lists was.bytes was.own was.config was.bound was.makes later verified
    (verify_checks one maps later program entries image map verified p lists both i k verifies)
