-- A command that writes at most one file leaves all files where it stops.
use Rattle.std.proofs.Common.{◌≡◌, ◌≤◌, ◌⊎◌, inl, inr, ⊎_elim, ℕ, List, [], ◌∷◌, Option, Some, None, Result, Ok, Err, length, length-append, sym, subst, ap, ◌∙◌, arith}
use Rattle.rmt_core.specs.Types.{Program, Config}
use Rattle.rmt_ast.specs.declared.entry.Entry.{Entry}
use Rattle.rmt_bounds.specs.declared.bound.Bound.{Bound}
use Rattle.rmt_build.specs.declared.fault.NoFit.{NoFit}
use Rattle.rmt_check.specs.Means.{Outcome}
use Rattle.rmt_entries.specs.declared.fault.EntryFault.{EntryFault}
use Rattle.rmt_entries.specs.declared.fault.EntryFault.TheVariants.{NoMemory, At}
use Rattle.rmt_entries.specs.Entries.{entries_of}
use Rattle.rmt_items.specs.declared.fault.ImageFault.{ImageFault}
use Rattle.rmt_refine.specs.declared.map.Map.{Map}
use Rattle.rmt_verify.specs.declared.map_file.MapFile.{MapFile}
use Rattle.rmt_core.specs.declared.placer.Placer.{Placer}
use Rattle.rmt_core.specs.declared.placer.Placer.TheVariants.{ByRule, ByTries}
use Rattle.rmt_drive.specs.declared.status.Status.{Status}
use Rattle.rmt_drive.specs.declared.status.Status.TheVariants as status
use Rattle.rmt_drive.specs.declared.watch.Watch.{Watch}
use Rattle.rmt_drive.specs.declared.watch.Watch.TheVariants as watch
use Rattle.rmt_drive.specs.ChipRuns.{RunsChip}
use Rattle.rmt_core.specs.Commands.{Command, Compile, CompileMap, Improve, Sim, Probe, Plain, Report, Sample, Switch, Verify}
use Rattle.rmt_core.specs.Compiling.{Builds, Finish, Fitted, GivesImage, Loaded, written}
use Rattle.rmt_drive.specs.Ends.{Answered, AreSame, Outside, Stops, StoppedBetween}
use Rattle.rmt_drive.specs.Files.{Files, Found, Absent, Long, Holds, entries_limit, found, image_limit, map_limit, packets_limit, program_limit}
use Rattle.rmt_drive.specs.Given.{Given, OfFound, OfOpened, told}
use Rattle.rmt_core.specs.Gives.{Gives}
use Rattle.rmt_core.specs.Headline.{LeavesFiles, WritesSeveral}
use Rattle.rmt_drive.specs.EventText.{with_changes}
use Rattle.rmt_drive.specs.PlainText.{plain_text}
use Rattle.rmt_core.specs.MapFiles.{image_alone}
use Rattle.rmt_core.specs.Placers.{refusal_by}
use Rattle.rmt_core.specs.Reporting.{report_line}
use Rattle.rmt_drive.specs.Runs.{RunsBy, Way}
use Rattle.rmt_core.specs.Sampling.{sample_line}
use Rattle.rmt_core.specs.Simulating.{GivesRun, OfAnswer, Spelled}
use Rattle.rmt_core.specs.Texts.{OfEntries, OfMeaning, Understands}
use Rattle.rmt_core.specs.Verifying.{Checks, GivesVerify, HasMap, answer_line, bad_map_line}

-- what gives no more than one file to write
abbrev WritesFew : (Given → Type 0) → Type 0
WritesFew P = (g : Given) → P g → length g.writes ≤ 1

tells_few : (k : Given) → length k.writes ≤ 1 → WritesFew (λ g. g ≡ k)
tells_few k few g h = subst (λ (x : Given). length x.writes ≤ 1) (sym h) few

module _ (files : Files) where
  none_told : (status : Status) (text : List ℕ) → WritesFew (λ g. g ≡ told files status text)
  none_told status text = tells_few (told files status text) (omega arith)

  found_few : (next : List ℕ → Given → Type 0) → ((bytes : List ℕ) → WritesFew (next bytes)) → (f : Found) → WritesFew (λ g. OfFound files next g f)
  found_few next few Absent g h = none_told status.ReadFault [] g h
  found_few next few Long g h = none_told status.TooLong [] g h
  found_few next few (Holds bytes) g h = few bytes g h

  opened_few : (next : List ℕ → Given → Type 0) → ((bytes : List ℕ) → WritesFew (next bytes)) → (o : Option (List ℕ)) → WritesFew (λ g. OfOpened files next g o)
  opened_few next few None g h = none_told status.ReadFault [] g h
  opened_few next few (Some bytes) g h = few bytes g h

  entries_few : (next : Program → List (List Entry) → Given → Type 0) → ((p : Program) (lists : List (List Entry)) → WritesFew (next p lists)) → (p : Program) (r : Result (List (List Entry)) EntryFault)
      → WritesFew (λ g. OfEntries files next p g r)
  entries_few next few p (Ok lists) g h = few p lists g h
  entries_few next few p (Err (At code line)) g h = none_told status.BadEntries _ g h
  entries_few next few p (Err NoMemory) g h = absurd h

  meaning_few : (entries : List ℕ) (next : Program → List (List Entry) → Given → Type 0) → ((p : Program) (lists : List (List Entry)) → WritesFew (next p lists)) → (m : Outcome)
      → WritesFew (λ g. OfMeaning files entries next g m)
  meaning_few entries next few (Ok p) g h = entries_few next few p (entries_of p entries) g h
  meaning_few entries next few (Err fault) g h = none_told status.BadProgram _ g h

  understands_few : (program entries : List ℕ) (next : Program → List (List Entry) → Given → Type 0) → ((p : Program) (lists : List (List Entry)) → WritesFew (next p lists)) → WritesFew (Understands files program entries next)
  understands_few program entries next few g h = meaning_few entries next few h.0 g h.2

  answer_few : (next : Config → Given → Type 0) → ((c : Config) → WritesFew (next c)) → (r : Result Config ImageFault) → WritesFew (λ g. OfAnswer files next g r)
  answer_few next few (Ok c) g h = few c g h
  answer_few next few (Err fault) g h = none_told status.BadImage _ g h

  spelled_few : (bytes : List ℕ) (next : Config → Given → Type 0) → ((c : Config) → WritesFew (next c)) → WritesFew (Spelled files bytes next)
  spelled_few bytes next few g h = answer_few next few h.0 g h.2

  map_few : (bytes : List ℕ) (next : MapFile → Given → Type 0) → ((m : MapFile) → WritesFew (next m)) → WritesFew (HasMap files bytes next)
  map_few bytes next few g (inl x) = few x.0 g x.2
  map_few bytes next few g (inr x) = none_told status.BadImage bad_map_line g x.1

  checks_few : (p : Program) (lists : List (List Entry)) (c : Config) (m : MapFile) → WritesFew (Checks files p lists c m)
  checks_few p lists c m g h = none_told status.Done (answer_line h.0) g h.2

  runs_few : {X : Type 0} (way : Way X) (printed : X → List ℕ) (limit : ℕ) (text : List ℕ) → WritesFew (RunsBy way files printed limit text)
  runs_few way printed limit text g h = none_told _ _ g h

  chip_few : (w : Watch) (c : Config) (limit : ℕ) (text : List ℕ) → WritesFew (RunsChip w files c limit text)
  chip_few w c limit text g h = none_told _ _ g h.3.given_is

  module _ (placer : Placer) (finish : Finish) (few : (image : List ℕ) (m : Map) (c : Config) (b : Bound) → length (finish image m c b).writes ≤ 1) (p : Program) (lists : List (List Entry)) where
    loaded_few : WritesFew (Loaded placer files finish p lists)
    loaded_few g (inl x) = tells_few (finish x.0 x.1 x.2 x.3) (few x.0 x.1 x.2 x.3) g x.5
    loaded_few g (inr x) = none_told status.NoFit x.0 g x.2

    fitted_few : (o : Option NoFit) → WritesFew (λ g. Fitted placer files finish p lists g o)
    fitted_few (Some fault) g h = none_told status.NoFit _ g h
    fitted_few None g h = loaded_few g h

    builds_few : WritesFew (Builds placer files finish p lists)
    builds_few g h = fitted_few (refusal_by placer p) g h

  image_few : (placer : Placer) (program entries image : List ℕ) → WritesFew (GivesImage placer files program entries (image_alone image))
  image_few placer program entries image =
      found_few _ (λ text. found_few _ (λ entry_text. understands_few text entry_text _
      (λ p lists. builds_few placer (written files (image_alone image) p) (λ _ _ _ _. omega arith) p lists)) (found entries_limit (files entries))) (found program_limit (files program))

  run_few : (w : Watch) (image packets : List ℕ) → WritesFew (GivesRun w files image packets)
  run_few w image packets =
      found_few _ (λ bytes. opened_few _ (λ text. spelled_few bytes _ (λ c. chip_few w c packets_limit text)) (files packets)) (found image_limit (files image))

  verify_few : (program entries image map : List ℕ) → WritesFew (GivesVerify files program entries image map)
  verify_few program entries image map =
      found_few _ (λ text. found_few _ (λ entry_text. found_few _ (λ image_bytes. found_few _ (λ map_bytes. understands_few text entry_text _
      (λ p lists. spelled_few image_bytes _ (λ c. map_few map_bytes (Checks files p lists c) (checks_few p lists c))))
      (found map_limit (files map))) (found image_limit (files image))) (found entries_limit (files entries))) (found program_limit (files program))

  gives_few : (command : Command) → (WritesSeveral command → ⊥) → WritesFew (Gives files command)
  gives_few (Compile program entries image) not = image_few ByRule program entries image
  gives_few (CompileMap program entries image map) not = absurd (not tt)
  gives_few (Improve program entries image budget) not = image_few (ByTries budget) program entries image
  gives_few (Sim image packets) not = run_few watch.Answers image packets
  gives_few (Probe image packets cycle) not = run_few (watch.Vectors cycle) image packets
  gives_few (Plain program entries packets) not =
      found_few _ (λ text. found_few _ (λ entry_text. opened_few _ (λ packet_text. understands_few text entry_text _
      (λ p lists. runs_few (with_changes p lists) (plain_text p lists) packets_limit packet_text)) (files packets)) (found entries_limit (files entries))) (found program_limit (files program))
  gives_few (Report image) not =
      found_few _ (λ bytes. spelled_few bytes _ (λ c. none_told status.Done (report_line c))) (found image_limit (files image))
  gives_few (Switch image groups capture out every) not = absurd (not tt)
  gives_few (Verify program entries image map) not = verify_few program entries image map
  gives_few (Sample number) not = λ g h.
      builds_few ByRule (λ image m c b. told files status.Done (sample_line number h.0 h.1 c)) (λ _ _ _ _. omega arith) h.0 h.1 g h.3

-- ---- the law

-- a command that is stopped between two files writes two
never_between : (before after : Outside) (gives : Given → Type 0) (status : Status) → WritesFew gives → StoppedBetween before after gives status → ⊥
never_between before after gives status few b =
    let size = ap length b.files.writes_are ∙ length-append (b.files.first ∷ b.files.done) (b.files.next ∷ b.files.rest) in
    omega (arith, few b.given b.is_given, size)

pub leaves_files : LeavesFiles
leaves_files before after command not result stop h = by result stop h
  where
    few : WritesFew (Gives before.shelf.files command)
    few = gives_few before.shelf.files command not

    left : (s : Status) → Stops before after (Gives before.shelf.files command) s → AreSame after.shelf.files before.shelf.files
    left s h = ⊎_elim (λ same. same) (λ between. absurd (never_between before after (Gives before.shelf.files command) s few between)) h.files

    by : (s : Status) → (s ≡ status.ReadFault) ⊎ (s ≡ status.NoMemory) → Answered before after (Gives before.shelf.files command) s → AreSame after.shelf.files before.shelf.files
    by s (inl e) h = left status.ReadFault (subst (λ x. Answered before after (Gives before.shelf.files command) x) e h)
    by s (inr e) h = left status.NoMemory (subst (λ x. Answered before after (Gives before.shelf.files command) x) e h)
