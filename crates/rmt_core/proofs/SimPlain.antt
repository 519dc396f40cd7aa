-- What `sim` prints of an image that `compile` or `improve` made is what `plain` prints of the program, and then the cycles and the flight.
use Rattle.std.proofs.Common.{◌≡◌, ◌≢◌, ℕ, ◌≤◌, false, ltb, List, ◌++◌, Option, Some, None, Ok, length, sym, inl, inr, ap, ◌∙◌, subst}
use Rattle.std.specs.List.{flat_map}
use Rattle.std.proofs.lemmas.Bool.{ltb-false}
use Rattle.std.proofs.lemmas.Option.{none-some}
use Rattle.rmt_core.specs.Types.{Program, Config}
use Rattle.rmt_ast.specs.declared.entry.Entry.{Entry}
use Rattle.rmt_ast.specs.EntryLists.{AreEntries}
use Rattle.rmt_ast.specs.Events.{answers_of_events, counts_of_events}
use Rattle.rmt_ast.specs.Naming.{names_of}
use Rattle.rmt_ast.specs.WellFormed.{IsProgram}
use Rattle.rmt_bits.specs.Lines.{numbered_lines}
use Rattle.rmt_check.specs.Means.{Means}
use Rattle.rmt_entries.specs.Entries.{entries_of}
use Rattle.rmt_config.specs.Commits.{RunState}
use Rattle.rmt_config.specs.RunInputs.{Input}
use Rattle.rmt_config.specs.Spells.{Spells}
use Rattle.rmt_refine.specs.declared.map.Map.{Map}
use Rattle.rmt_refine.specs.Carries.{Carries}
use Rattle.rmt_refine.specs.EventRuns.{EventsAreAnswered}
use Rattle.rmt_build.specs.declared.fault.NoFit.{NoFit}
use Rattle.rmt_verify.specs.Spelling.{spelled_map}
use Rattle.rmt_packets.specs.PacketText.{BadLine}
use Rattle.rmt_runs.proofs.ReaderLaws.{within_short}
use Rattle.rmt_core.specs.declared.placer.Placer.{Placer}
use Rattle.rmt_core.specs.declared.placer.Placer.TheVariants.{ByRule, ByTries}
use Rattle.rmt_drive.specs.declared.status.Status.TheVariants.{Done}
use Rattle.rmt_drive.specs.declared.watch.Watch.TheVariants as watch
use Rattle.rmt_drive.specs.ChipEvents.{Comes, empty_cycles, lists_in, names_in}
use Rattle.rmt_drive.specs.ChipReading.{read_by}
use Rattle.rmt_drive.specs.ChipRuns.{RunsChip, RunsSo, bad_within, told_of}
use Rattle.rmt_drive.specs.ChipText.{run_text}
use Rattle.rmt_core.specs.Commands.{Command}
use Rattle.rmt_core.specs.Compiling.{Compiles, Fitted, GivesImage, Loaded, written}
use Rattle.rmt_drive.specs.Files.{Files, all_written, entries_limit, image_limit, packets_limit, program_limit, updated}
use Rattle.rmt_drive.specs.Given.{Given, Opens, Reads}
use Rattle.rmt_core.specs.Gives.{Gives}
use Rattle.rmt_core.specs.Headline.{IsWithin, SimPrintsPlain, WritesImage, by_compile, by_compile_map, by_improve}
use Rattle.rmt_core.specs.MapFiles.{Wanted, made_files, map_file}
use Rattle.rmt_core.specs.Placers.{refusal_by}
use Rattle.rmt_drive.specs.EventText.{EventReading, events_of, with_changes}
use Rattle.rmt_core.specs.PlainText.{GivesPlain, RunsPlain}
use Rattle.rmt_drive.specs.PlainText.{plain_end, plain_lines, plain_text}
use Rattle.rmt_drive.specs.SimText.{count_line, cycles_line, flight_line}
use Rattle.rmt_core.specs.Simulating.{GivesRun, Spelled}
use Rattle.rmt_core.specs.Texts.{Understands}
use Rattle.rmt_core.proofs.GivenOnce.{OneMeaning}
use Rattle.rmt_core.proofs.GivenDone.{Understood, later_within, opened_there, read_within, run_done, spelled_is, status_done, understood, was_opened, was_read, was_understood}
use Rattle.rmt_drive.proofs.ReadOnce.{told_is}
use Rattle.rmt_drive.proofs.SimRuns.{prints_so, read_same}
use Rattle.rmt_core.proofs.WritingLaws.{updated_other, updated_same}

-- ---- the texts

plain_is : (p : Program) (lists : List (List Entry)) (r : EventReading) → r.bad ≡ None → plain_text p lists r ≡ plain_lines 0 (answers_of_events p lists r.events) ++ flat_map count_line (counts_of_events p lists r.events)
plain_is p lists r e = ap (λ (b : Option BadLine). plain_lines 0 (answers_of_events p lists r.events) ++ plain_end p lists r.events b) e

-- ---- what was made

-- an image in files, of a configuration with a program's names that carries it with its entries
record IsMade (p : Program) (lists : List (List Entry)) (file : Option (List ℕ)) : Type 0 where
  bytes : List ℕ
  map : Map
  config : Config
  stands : file ≡ Some bytes
  short : length bytes ≤ image_limit
  spells : Spells bytes config
  names : config.names ≡ Some (names_of p lists)
  carries : Carries p lists map config

-- a map is not written over the image
abbrev IsApart : List ℕ → Option (List ℕ) → Type 0
IsApart image None = Unit {0}
IsApart image (Some map) = map ≢ image

-- so the image stands
image_stands : (files : Files) (p : Program) (name bytes : List ℕ) (m : Map) (map : Option (List ℕ)) → IsApart name map
    → all_written files (made_files (record { image = name; map = map }) p bytes m) name ≡ Some bytes
image_stands files p name bytes m None apart = updated_same files name bytes
image_stands files p name bytes m (Some map) apart =
    updated_other (updated files name bytes) map (spelled_map (map_file p m)) name apart ∙ updated_same files name bytes

module _ (placer : Placer) (p : Program) (lists : List (List Entry)) (files : Files) (wanted : Wanted) (apart : IsApart wanted.image wanted.map) (g : Given) (done : g.status ≡ Done) where
  loaded_done : Loaded placer files (written files wanted p) p lists g → IsMade p lists (g.files wanted.image)
  loaded_done (inl x) = record {
    bytes = x.0;
    map = x.1;
    config = x.2;
    stands = ap (λ (k : Given). k.files wanted.image) x.5 ∙ image_stands files p wanted.image x.0 x.1 wanted.map apart;
    short = x.4.short;
    spells = x.4.spells;
    names = x.4.names;
    carries = x.4.carries;
  }
  loaded_done (inr x) = absurd (let e = sym (ap (λ (k : Given). k.status) x.2) ∙ done in cc)

  fitted_done : (o : Option NoFit) → Fitted placer files (written files wanted p) p lists g o → IsMade p lists (g.files wanted.image)
  fitted_done None h = loaded_done h
  fitted_done (Some fault) h = absurd (let e = sym (ap (λ (k : Given). k.status) h) ∙ done in cc)

  compiled : Compiles placer files wanted p lists g → IsMade p lists (g.files wanted.image)
  compiled h = fitted_done (refusal_by placer p) h

-- the two texts, and what was made of them
record Compiled (placer : Placer) (files : Files) (program entries : List ℕ) (wanted : Wanted) (g : Given) : Type 0 where
  text : List ℕ
  entry_text : List ℕ
  has_text : IsWithin files program program_limit text
  has_entries : IsWithin files entries entries_limit entry_text
  meant : Understood text entry_text (Compiles placer files wanted) g
  made : IsMade meant.program meant.lists (g.files wanted.image)

was_compiled : (placer : Placer) (files : Files) (program entries : List ℕ) (wanted : Wanted) → IsApart wanted.image wanted.map → (g : Given) → g.status ≡ Done → GivesImage placer files program entries wanted g
    → Compiled placer files program entries wanted g
was_compiled placer files program entries wanted apart g done h =
    let first = was_read files program program_limit (λ text. Reads files entries entries_limit (λ entry_text. Understands files text entry_text (Compiles placer files wanted))) g done h in
    let second = was_read files entries entries_limit (λ entry_text. Understands files first.bytes entry_text (Compiles placer files wanted)) g done first.then in
    let meant = was_understood files first.bytes second.bytes (Compiles placer files wanted) g done second.then in
    record {
      text = first.bytes;
      entry_text = second.bytes;
      has_text = first.within;
      has_entries = second.within;
      meant = meant;
      made = compiled placer meant.program meant.lists files wanted apart g done meant.then;
    }

-- ---- the runs

-- a run of an image to the end of a packet text
record Simulated (files : Files) (packets : List ℕ) (c : Config) (g : Given) : Type 0 where
  text : List ℕ
  is_there : files packets ≡ Some text
  short : length text ≤ packets_limit
  good : (read_by c None (numbered_lines 1 text)).bad ≡ None
  made : List Input
  state : RunState
  comes : Comes c (names_in c) (lists_in c) (read_by c None (numbered_lines 1 text)).events made state
  text_is : g.text ≡ run_text watch.Answers c made (empty_cycles state) None

-- with Done a text is short, and no commit is refused
chip_ran : (files : Files) (packets text : List ℕ) (c : Config) (g : Given) → files packets ≡ Some text → g.status ≡ Done → RunsChip watch.Answers files c packets_limit text g → Simulated files packets c g
chip_ran files packets text c g is_there done h = by h.0 h.3
  where
    -- of a short text what is told is what is read within the limit
    told_bad : (full : Option ℕ) → (ltb packets_limit (length text) ≡ false) × (bad_within c full packets_limit text ≡ None) → (told_of c full packets_limit text).bad ≡ None
    told_bad full parts =
        ap (λ (x : EventReading). x.bad) (told_is c packets_limit text full)
        ∙ sym (ap (λ (ls : List (ℕ × List ℕ)). (read_by c full ls).bad) (within_short packets_limit text (ltb-false packets_limit (length text) parts.0))) ∙ parts.1

    by : (full : Option ℕ) → RunsSo watch.Answers files c packets_limit text full h.1 h.2 g → Simulated files packets c g
    by full so = of full so (status_done (ltb packets_limit (length text)) (bad_within c full packets_limit text) (sym (ap (λ (x : Given). x.status) so.given_is) ∙ done))
      where
        of : (full : Option ℕ) → RunsSo watch.Answers files c packets_limit text full h.1 h.2 g → (ltb packets_limit (length text) ≡ false) × (bad_within c full packets_limit text ≡ None) → Simulated files packets c g
        of None so parts =
            let told = told_is c packets_limit text None in
            let good : (told_of c None packets_limit text).bad ≡ None = told_bad None parts in
            record {
              text = text;
              is_there = is_there;
              short = ltb-false packets_limit (length text) parts.0;
              good = ap (λ (x : EventReading). x.bad) (sym told) ∙ good;
              made = h.1;
              state = h.2;
              comes = subst (λ (x : EventReading). Comes c (names_in c) (lists_in c) x.events h.1 h.2) told so.comes;
              text_is = ap (λ (x : Given). x.text) so.given_is ∙ ap (run_text watch.Answers c h.1 (empty_cycles h.2)) good;
            }
        of (Some k) so parts = absurd (none-some _ (sym (told_bad (Some k) parts) ∙ so.ends.1))

simulated_is : (files : Files) (image packets bytes : List ℕ) (c : Config) (g : Given) → g.status ≡ Done → IsWithin files image image_limit bytes → Spells bytes c → GivesRun watch.Answers files image packets g
    → Simulated files packets c g
simulated_is files image packets bytes c g done within spells h =
    let read = read_within files image image_limit (λ bytes. Opens files packets (λ text. Spelled files bytes (λ c. RunsChip watch.Answers files c packets_limit text))) g (bytes, within) h in
    let opened = was_opened files packets (λ text. Spelled files bytes (λ c. RunsChip watch.Answers files c packets_limit text)) g done read in
    chip_ran files packets opened.0 c g opened.1 done (spelled_is files bytes (λ c. RunsChip watch.Answers files c packets_limit opened.0) g c spells opened.2)

plain_run : OneMeaning → (files : Files) (program entries packets text entry_text packet_text : List ℕ) (p : Program) (lists : List (List Entry)) (g : Given) → IsWithin files program program_limit text
    → IsWithin files entries entries_limit entry_text → files packets ≡ Some packet_text → Means text (Ok p) → entries_of p entry_text ≡ Ok lists → GivesPlain files program entries packets g
    → RunsPlain files packet_text p lists g
plain_run one files program entries packets text entry_text packet_text p lists g has_text has_entries is means says h =
    let first = read_within files program program_limit
    (λ text. Reads files entries entries_limit
    (λ entry_text. Opens files packets (λ packet_text. Understands files text entry_text (RunsPlain files packet_text)))) g (text, has_text) h in
    let second = read_within files entries entries_limit
    (λ entry_text. Opens files packets (λ packet_text. Understands files text entry_text (RunsPlain files packet_text))) g (entry_text, has_entries) first in
    let opened = opened_there files packets packet_text (λ packet_text. Understands files text entry_text (RunsPlain files packet_text)) g is second in
    understood one files text entry_text (RunsPlain files packet_text) g p lists means says opened

-- ---- the law

-- how a command writes an image
record Maker (files : Files) (program entries image : List ℕ) (g : Given) : Type 0 where
  placer : Placer
  map : Option (List ℕ)
  apart : IsApart image map
  gives : GivesImage placer files program entries (record { image = image; map = map }) g

maker : (files : Files) (program entries image : List ℕ) (g : Given) {command : Command} → WritesImage program entries image command → Gives files command g → Maker files program entries image g
maker files program entries image g by_compile h = record { placer = ByRule; map = None; apart = tt; gives = h }
maker files program entries image g (by_compile_map map apart) h = record { placer = ByRule; map = Some map; apart = apart; gives = h }
maker files program entries image g (by_improve budget) h = record { placer = ByTries budget; map = None; apart = tt; gives = h }

-- each text that means a program means a well-formed one
abbrev pub MeansPrograms : Type 0
MeansPrograms = (text : List ℕ) (p : Program) → Means text (Ok p) → IsProgram p

-- and the entries that a text says for it are well formed
abbrev pub SaysEntries : Type 0
SaysEntries = (p : Program) (text : List ℕ) (lists : List (List Entry)) → IsProgram p → entries_of p text ≡ Ok lists → AreEntries p lists

pub sim_prints_plain : OneMeaning → MeansPrograms → SaysEntries → EventsAreAnswered → SimPrintsPlain
sim_prints_plain one means_program says_entries answered command files later program entries image packets made simulated run writes compiles done same_image same_program same_entries simulates sim_done plains =
    let how = maker files program entries image made writes compiles in
    let c = was_compiled how.placer files program entries (record { image = image; map = how.map }) how.apart made done how.gives in
    let within : IsWithin later image image_limit c.made.bytes = record { is_there = same_image ∙ c.made.stands; is_short = c.made.short } in
    let s = simulated_is later image packets c.made.bytes c.made.config simulated sim_done within c.made.spells simulates in
    let r = plain_run one later program entries packets c.text c.entry_text s.text c.meant.program c.meant.lists run (later_within files later program c.text program_limit same_program c.has_text)
    (later_within files later entries c.entry_text entries_limit same_entries c.has_entries) s.is_there c.meant.means c.meant.says plains in
    let p = c.meant.program in
    let lists = c.meant.lists in
    let k = c.made.config in
    let ls = numbered_lines 1 s.text in
    let is_program = means_program c.text p c.meant.means in
    let are_entries = says_entries p c.entry_text lists is_program c.meant.says in
    let read = read_same p lists c.made.map k c.made.spells.formed c.made.names c.made.carries ls in
    let good : (events_of p lists ls).bad ≡ None = ap (λ (x : EventReading). x.bad) (sym read) ∙ s.good in
    let told = run_done (with_changes p lists) later (plain_text p lists) packets_limit s.text run s.short good r in
    let prints = prints_so p lists c.made.map k c.made.spells.formed c.made.names c.made.carries answered is_program are_entries c.made.spells.limits ls s.made s.state s.comes in
    let plain_text_is : run.text ≡ plain_lines 0 (answers_of_events p lists (events_of p lists ls).events) ++ flat_map count_line (counts_of_events p lists (events_of p lists ls).events) =
    ap (λ (x : Given). x.text) told ∙ plain_is p lists (events_of p lists ls) good in
    let last = cycles_line prints.cycles ++ flight_line prints.flight in
    (ap (λ (x : Given). x.status) told, prints.cycles, prints.flight, s.text_is ∙ prints.text_is ∙ ap (λ l. l ++ last) (sym plain_text_is))
