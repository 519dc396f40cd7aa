-- A command gives ReadFault exactly where the first of its files that it can't read is absent.
use Rattle.std.proofs.Common.{◌≡◌, ◌≢◌, inl, inr, ℕ, Bool, true, false, List, ◌∷◌, [], Option, Some, None, Result, Ok, Err, sym, refl, ap, ◌∙◌}
use Rattle.std.specs.Prelude.{◌↔◌}
use Rattle.rmt_core.specs.Types.{Program, Config}
use Rattle.rmt_ast.specs.declared.entry.Entry.{Entry}
use Rattle.rmt_bounds.specs.declared.bound.Bound.{Bound}
use Rattle.rmt_build.specs.declared.fault.NoFit.{NoFit}
use Rattle.rmt_check.specs.Means.{Outcome}
use Rattle.rmt_entries.specs.declared.fault.EntryFault.{EntryFault}
use Rattle.rmt_entries.specs.declared.fault.EntryFault.TheVariants.{NoMemory, At}
use Rattle.rmt_entries.specs.Entries.{entries_of}
use Rattle.rmt_items.specs.declared.fault.ImageFault.{ImageFault}
use Rattle.rmt_packets.specs.PacketText.{BadLine}
use Rattle.rmt_pcap.specs.declared.capture.Capture.{Capture}
use Rattle.rmt_pcap.specs.Captures.{capture_of}
use Rattle.rmt_refine.specs.declared.map.Map.{Map}
use Rattle.rmt_switch.specs.declared.fault.GroupFault.{GroupFault}
use Rattle.rmt_switch.specs.declared.fault.GroupFault.TheVariants as group
use Rattle.rmt_switch.specs.GroupText.{groups_of}
use Rattle.rmt_verify.specs.declared.map_file.MapFile.{MapFile}
use Rattle.rmt_core.specs.declared.placer.Placer.{Placer}
use Rattle.rmt_core.specs.declared.placer.Placer.TheVariants.{ByRule, ByTries}
use Rattle.rmt_drive.specs.declared.status.Status.{Status}
use Rattle.rmt_drive.specs.declared.status.Status.TheVariants as status
use Rattle.rmt_drive.specs.declared.watch.Watch.{Watch}
use Rattle.rmt_drive.specs.declared.watch.Watch.TheVariants as watch
use Rattle.rmt_drive.specs.ChipRuns.{RunsChip}
use Rattle.rmt_core.specs.Commands.{Command, Compile, CompileMap, Improve, Sim, Probe, Plain, Report, Sample, Switch, Verify}
use Rattle.rmt_core.specs.Compiling.{Builds, Finish, Fitted, GivesImage, Loaded, written}
use Rattle.rmt_drive.specs.EventText.{with_changes}
use Rattle.rmt_drive.specs.Files.{Files, Found, Absent, Long, Holds, capture_limit, entries_limit, found, groups_limit, image_limit, map_limit, packets_limit, program_limit}
use Rattle.rmt_core.specs.FilesRead.{FileRead, ReadFaultIsAbsence, SteadyFaultIsAbsence, files_read, found_of, lacks_one, lacks_with, opened, within}
use Rattle.rmt_core.specs.Gives.{Gives}
use Rattle.rmt_drive.specs.Given.{Given, OfFound, OfOpened, Opens, Reads, told}
use Rattle.rmt_core.specs.MapFiles.{Wanted, image_alone, with_map}
use Rattle.rmt_core.specs.Placers.{refusal_by}
use Rattle.rmt_drive.specs.PlainText.{plain_text}
use Rattle.rmt_drive.specs.Runs.{RunsBy, Way, run_status}
use Rattle.rmt_core.specs.Sampling.{sample_line}
use Rattle.rmt_core.specs.Simulating.{GivesRun, OfAnswer, Spelled}
use Rattle.rmt_core.specs.Switching.{OfCapture, OfGroups, Switches}
use Rattle.rmt_core.specs.Texts.{OfEntries, OfMeaning, Understands}
use Rattle.rmt_core.specs.Verifying.{Checks, HasMap}

-- ReadFault is given exactly where this is so
abbrev Exactly : Bool → (Given → Type 0) → Type 0
Exactly b P = (g : Given) → P g → (g.status ≡ status.ReadFault) ↔ (b ≡ true)

-- what is given has another status
never : (s : Status) → s ≢ status.ReadFault → (g : Given) → g.status ≡ s → (g.status ≡ status.ReadFault) ↔ (false ≡ true)
never s not g is = ((λ e. absurd (not (sym is ∙ e))), (λ e. absurd (cc)))

run_never : (long : Bool) (bad : Option BadLine) → run_status long bad ≢ status.ReadFault
run_never true None = λ e. cc
run_never false None = λ e. cc
run_never true (Some b) = λ e. cc
run_never false (Some b) = λ e. cc

module _ (files : Files) where
  -- ---- files that are read

  found_exactly : (behind : Bool) (next : List ℕ → Given → Type 0) → ((bytes : List ℕ) → Exactly behind (next bytes)) → (f : Found) → Exactly (lacks_with behind f) (λ g. OfFound files next g f)
  found_exactly behind next own Absent g h = ((λ _. refl), (λ _. ap (λ (x : Given). x.status) h))
  found_exactly behind next own Long g h = never status.TooLong (λ e. cc) g (ap (λ (x : Given). x.status) h)
  found_exactly behind next own (Holds bytes) g h = own bytes g h

  opened_exactly : (behind : Bool) (next : List ℕ → Given → Type 0) → ((bytes : List ℕ) → Exactly behind (next bytes)) → (o : Option (List ℕ))
      → Exactly (lacks_with behind (found_of None o)) (λ g. OfOpened files next g o)
  opened_exactly behind next own None g h = ((λ _. refl), (λ _. ap (λ (x : Given). x.status) h))
  opened_exactly behind next own (Some bytes) g h = own bytes g h

  reads_exactly : (name : List ℕ) (limit : ℕ) (fs : List FileRead) (next : List ℕ → Given → Type 0) → ((bytes : List ℕ) → Exactly (lacks_one files fs) (next bytes))
      → Exactly (lacks_one files (within name limit ∷ fs)) (Reads files name limit next)
  reads_exactly name limit fs next own = found_exactly (lacks_one files fs) next own (found limit (files name))

  opens_exactly : (name : List ℕ) (fs : List FileRead) (next : List ℕ → Given → Type 0) → ((bytes : List ℕ) → Exactly (lacks_one files fs) (next bytes))
      → Exactly (lacks_one files (opened name ∷ fs)) (Opens files name next)
  opens_exactly name fs next own = opened_exactly (lacks_one files fs) next own (files name)

  -- ---- what stands in them

  entries_exactly : (next : Program → List (List Entry) → Given → Type 0) → ((p : Program) (lists : List (List Entry)) → Exactly false (next p lists)) → (p : Program) (r : Result (List (List Entry)) EntryFault)
      → Exactly false (λ g. OfEntries files next p g r)
  entries_exactly next own p (Ok lists) g h = own p lists g h
  entries_exactly next own p (Err (At code line)) g h = never status.BadEntries (λ e. cc) g (ap (λ (x : Given). x.status) h)
  entries_exactly next own p (Err NoMemory) g h = absurd h

  meaning_exactly : (entries : List ℕ) (next : Program → List (List Entry) → Given → Type 0) → ((p : Program) (lists : List (List Entry)) → Exactly false (next p lists)) → (m : Outcome)
      → Exactly false (λ g. OfMeaning files entries next g m)
  meaning_exactly entries next own (Ok p) g h = entries_exactly next own p (entries_of p entries) g h
  meaning_exactly entries next own (Err fault) g h = never status.BadProgram (λ e. cc) g (ap (λ (x : Given). x.status) h)

  understands_exactly : (program entries : List ℕ) (next : Program → List (List Entry) → Given → Type 0) → ((p : Program) (lists : List (List Entry)) → Exactly false (next p lists))
      → Exactly false (Understands files program entries next)
  understands_exactly program entries next own g h = meaning_exactly entries next own h.0 g h.2

  answer_exactly : (next : Config → Given → Type 0) → ((c : Config) → Exactly false (next c)) → (r : Result Config ImageFault) → Exactly false (λ g. OfAnswer files next g r)
  answer_exactly next own (Ok c) g h = own c g h
  answer_exactly next own (Err fault) g h = never status.BadImage (λ e. cc) g (ap (λ (x : Given). x.status) h)

  spelled_exactly : (bytes : List ℕ) (next : Config → Given → Type 0) → ((c : Config) → Exactly false (next c)) → Exactly false (Spelled files bytes next)
  spelled_exactly bytes next own g h = answer_exactly next own h.0 g h.2

  map_exactly : (bytes : List ℕ) (next : MapFile → Given → Type 0) → ((m : MapFile) → Exactly false (next m)) → Exactly false (HasMap files bytes next)
  map_exactly bytes next own g (inl x) = own x.0 g x.2
  map_exactly bytes next own g (inr x) = never status.BadImage (λ e. cc) g (ap (λ (k : Given). k.status) x.1)

  groups_exactly : (next : List (List ℕ) → Given → Type 0) → ((groups : List (List ℕ)) → Exactly false (next groups)) → (r : Result (List (List ℕ)) GroupFault) → Exactly false (λ g. OfGroups files next g r)
  groups_exactly next own (Ok groups) g h = own groups g h
  groups_exactly next own (Err (group.At code line)) g h = never status.BadEntries (λ e. cc) g (ap (λ (x : Given). x.status) h)
  groups_exactly next own (Err group.NoMemory) g h = absurd h

  capture_exactly : (next : Capture → Given → Type 0) → ((capture : Capture) → Exactly false (next capture)) → (r : Result Capture ℕ) → Exactly false (λ g. OfCapture files next g r)
  capture_exactly next own (Ok capture) g h = own capture g h
  capture_exactly next own (Err code) g h = never status.BadPackets (λ e. cc) g (ap (λ (x : Given). x.status) h)

  -- ---- runs and what is made

  runs_exactly : {X : Type 0} (way : Way X) (printed : X → List ℕ) (limit : ℕ) (text : List ℕ) → Exactly false (RunsBy way files printed limit text)
  runs_exactly way printed limit text g h = never _ (run_never _ _) g (ap (λ (x : Given). x.status) h)

  chip_exactly : (w : Watch) (c : Config) (limit : ℕ) (text : List ℕ) → Exactly false (RunsChip w files c limit text)
  chip_exactly w c limit text g h = never _ (run_never _ _) g (ap (λ (x : Given). x.status) h.3.given_is)

  module _ (placer : Placer) (finish : Finish) (done : (image : List ℕ) (m : Map) (c : Config) (b : Bound) → (finish image m c b).status ≡ status.Done) (p : Program) (lists : List (List Entry)) where
    loaded_exactly : Exactly false (Loaded placer files finish p lists)
    loaded_exactly g (inl x) = never status.Done (λ e. cc) g (ap (λ (k : Given). k.status) x.5 ∙ done x.0 x.1 x.2 x.3)
    loaded_exactly g (inr x) = never status.NoFit (λ e. cc) g (ap (λ (k : Given). k.status) x.2)

    fitted_exactly : (o : Option NoFit) → Exactly false (λ g. Fitted placer files finish p lists g o)
    fitted_exactly (Some fault) g h = never status.NoFit (λ e. cc) g (ap (λ (k : Given). k.status) h)
    fitted_exactly None g h = loaded_exactly g h

    builds_exactly : Exactly false (Builds placer files finish p lists)
    builds_exactly g h = fitted_exactly (refusal_by placer p) g h

  -- ---- the commands

  image_exactly : (placer : Placer) (program entries : List ℕ) (wanted : Wanted)
      → Exactly (lacks_one files (within program program_limit ∷ within entries entries_limit ∷ [])) (GivesImage placer files program entries wanted)
  image_exactly placer program entries wanted =
      reads_exactly program program_limit (within entries entries_limit ∷ []) _
      (λ text. reads_exactly entries entries_limit [] _
      (λ entry_text. understands_exactly text entry_text _ (λ p lists. builds_exactly placer (written files wanted p) (λ _ _ _ _. refl) p lists)))

  run_exactly : (w : Watch) (image packets : List ℕ) → Exactly (lacks_one files (within image image_limit ∷ opened packets ∷ [])) (GivesRun w files image packets)
  run_exactly w image packets =
      reads_exactly image image_limit (opened packets ∷ []) _
      (λ bytes. opens_exactly packets [] _ (λ text. spelled_exactly bytes _ (λ c. chip_exactly w c packets_limit text)))

  switches_exactly : (out : List ℕ) (every : ℕ) (image group_text capture : List ℕ) → Exactly false (Switches files out every image group_text capture)
  switches_exactly out every image group_text capture =
      spelled_exactly image _ (λ c. groups_exactly _
      (λ ports. capture_exactly _ (λ said g h. never status.Done (λ e. cc) g (ap (λ (k : Given). k.status) h)) (capture_of capture)) (groups_of group_text))

  gives_exactly : (command : Command) → Exactly (lacks_one files (files_read command)) (Gives files command)
  gives_exactly (Compile program entries image) = image_exactly ByRule program entries (image_alone image)
  gives_exactly (CompileMap program entries image map) = image_exactly ByRule program entries (with_map image map)
  gives_exactly (Improve program entries image budget) = image_exactly (ByTries budget) program entries (image_alone image)
  gives_exactly (Sim image packets) = run_exactly watch.Answers image packets
  gives_exactly (Probe image packets cycle) = run_exactly (watch.Vectors cycle) image packets
  gives_exactly (Plain program entries packets) =
      reads_exactly program program_limit (within entries entries_limit ∷ opened packets ∷ []) _
      (λ text. reads_exactly entries entries_limit (opened packets ∷ []) _
      (λ entry_text. opens_exactly packets [] _
      (λ packet_text. understands_exactly text entry_text _ (λ p lists. runs_exactly (with_changes p lists) (plain_text p lists) packets_limit packet_text))))
  gives_exactly (Report image) =
      reads_exactly image image_limit [] _ (λ bytes. spelled_exactly bytes _ (λ c g h. never status.Done (λ e. cc) g (ap (λ (k : Given). k.status) h)))
  gives_exactly (Sample number) = λ g h.
      builds_exactly ByRule (λ image m c b. told files status.Done (sample_line number h.0 h.1 c)) (λ _ _ _ _. refl) h.0 h.1 g h.3
  gives_exactly (Switch image groups capture out every) =
      reads_exactly image image_limit (within groups groups_limit ∷ within capture capture_limit ∷ []) _
      (λ bytes. reads_exactly groups groups_limit (within capture capture_limit ∷ []) _
      (λ group_text. reads_exactly capture capture_limit [] _ (λ file. switches_exactly out every bytes group_text file)))
  gives_exactly (Verify program entries image map) =
      reads_exactly program program_limit (within entries entries_limit ∷ within image image_limit ∷ within map map_limit ∷ []) _
      (λ text. reads_exactly entries entries_limit (within image image_limit ∷ within map map_limit ∷ []) _
      (λ entry_text. reads_exactly image image_limit (within map map_limit ∷ []) _
      (λ image_bytes. reads_exactly map map_limit [] _
      (λ map_bytes. understands_exactly text entry_text _ (λ p lists. spelled_exactly image_bytes _
      (λ c. map_exactly map_bytes (Checks files p lists c) (λ m g h. never status.Done (λ e. cc) g (ap (λ (k : Given). k.status) h.2))))))))

pub fault_is_absence : ReadFaultIsAbsence
fault_is_absence files command g h = gives_exactly files command g h

pub steady_fault_is_absence : SteadyFaultIsAbsence
steady_fault_is_absence before after command steady h =
    let x = h.steady steady refl in
    (gives_exactly before.shelf.files command x.0 x.1).0 x.2
