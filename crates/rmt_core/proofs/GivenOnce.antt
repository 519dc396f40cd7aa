-- Each command gives one status and one text over the same files, but for the numbers of a table that doesn't load, and for the text of a run in which a commit moves cells.
use Rattle.std.proofs.Common.{◌≡◌, ◌⊎◌, inl, inr, ⊎_elim, ℕ, ◌+◌, ◌<◌, ◌≤◌, Bool, true, false, cond, ltb, List, [], ◌∷◌, ◌++◌, length, map, Option, Some, None, Result, Ok, Err, sym, refl, ap, ◌∙◌, subst, arith}
use Rattle.std.specs.Prelude.{MatchOption, replicate}
use Rattle.std.proofs.lemmas.Bool.{cases_order}
use Rattle.std.proofs.lemmas.List.{length-map}
use Rattle.rmt_bits.specs.Packet.{Packet}
use Rattle.rmt_bits.specs.declared.lane.Lane.{Lane}
use Rattle.rmt_update.proofs.LoadedLaws.{NeverBoth}
use Rattle.rmt_core.specs.Types.{Program, Config, Stage}
use Rattle.rmt_ast.specs.declared.entry.Entry.{Entry}
use Rattle.rmt_ast.specs.Answers.{answers_of}
use Rattle.rmt_check.specs.Means.{Means, Outcome}
use Rattle.rmt_entries.specs.declared.fault.EntryFault.{EntryFault}
use Rattle.rmt_entries.specs.declared.fault.EntryFault.TheVariants.{NoMemory, At}
use Rattle.rmt_entries.specs.Entries.{entries_of}
use Rattle.rmt_config.specs.ChipRun.{cycles_of, inputs_of, latency_of}
use Rattle.rmt_items.specs.declared.fault.ImageFault.{ImageFault}
use Rattle.rmt_image.specs.Reading.{Answers as ImageAnswers}
use Rattle.rmt_image.proofs.Whole.{answered_once}
use Rattle.rmt_deps.specs.Edges.{field_edges}
use Rattle.rmt_pack.specs.declared.placement.Part.{Part}
use Rattle.rmt_phv.specs.Packing.{packing}
use Rattle.rmt_phv.specs.declared.fault.PhvFull.{PhvFull}
use Rattle.rmt_place.specs.Starting.{starts_of}
use Rattle.rmt_bounds.specs.declared.bound.Bound.{Bound}
use Rattle.rmt_bounds.specs.Bounds.{stage_bound}
use Rattle.rmt_refine.specs.declared.map.Map.{Map}
use Rattle.rmt_refine.specs.Carries.{all_edges}
use Rattle.rmt_refine.specs.RunsAs.{told_by_answer}
use Rattle.rmt_sample.specs.Texts.{entries_text, program_text}
use Rattle.rmt_build.specs.declared.fault.NoFit.{NoFit}
use Rattle.rmt_build.specs.declared.fault.NoFit.TheVariants.{Load}
use Rattle.rmt_build.specs.Loads.{AreFullBefore, AreLoaded, AreLoadedBefore, AreNotLoaded, IsFull as IsFullTable}
use Rattle.rmt_pcap.specs.declared.capture.Capture.{Capture}
use Rattle.rmt_pcap.specs.Captures.{capture_of}
use Rattle.rmt_switch.specs.declared.fault.GroupFault.{GroupFault}
use Rattle.rmt_switch.specs.declared.fault.GroupFault.TheVariants as group
use Rattle.rmt_switch.specs.GroupText.{groups_of}
use Rattle.rmt_switch.specs.Switch.{switched}
use Rattle.rmt_verify.specs.Checks.{AllHold, FailsFirst}
use Rattle.rmt_verify.specs.Spells.{Spells as SpellsMap}
use Rattle.rmt_verify.specs.declared.map_file.MapFile.{MapFile}
use Rattle.rmt_core.specs.declared.placer.Placer.{Placer}
use Rattle.rmt_core.specs.declared.placer.Placer.TheVariants.{ByRule, ByTries}
use Rattle.rmt_drive.specs.declared.status.Status.TheVariants.{Done}
use Rattle.rmt_drive.specs.declared.watch.Watch.{Watch}
use Rattle.rmt_drive.specs.declared.watch.Watch.TheVariants as watch
use Rattle.rmt_drive.specs.ChipRuns.{RunsChip}
use Rattle.rmt_core.specs.Commands.{Compile, CompileMap, Improve, Sim, Probe, Plain, Report, Sample, Switch, Verify}
use Rattle.rmt_core.specs.CompileText.{compile_text}
use Rattle.rmt_core.specs.Compiling.{Builds, Compiles, Finish, Fitted, GivesImage, IsFull, Loaded, Makes, written}
use Rattle.rmt_drive.specs.Files.{Files, Found, Absent, Long, Holds, capture_limit, entries_limit, found, groups_limit, image_limit, map_limit, packets_limit, program_limit}
use Rattle.rmt_drive.specs.Given.{Given, OfFound, OfOpened, Opens, Reads, told}
use Rattle.rmt_core.specs.Headline.{GivesOne, HasMovingCommit, OtherNumbers}
use Rattle.rmt_core.specs.MapFiles.{Wanted, image_alone, with_map}
use Rattle.rmt_core.specs.NoFitText.{no_fit_line}
use Rattle.rmt_core.specs.Placers.{IsPlacedBy, refusal_by}
use Rattle.rmt_drive.specs.EventText.{with_changes}
use Rattle.rmt_core.specs.PlainText.{RunsPlain}
use Rattle.rmt_drive.specs.PlainText.{plain_text}
use Rattle.rmt_core.specs.Reporting.{report_line}
use Rattle.rmt_drive.specs.Runs.{RunsBy, Way}
use Rattle.rmt_core.specs.Sampling.{GivesSample, sample_line, sample_packets}
use Rattle.rmt_drive.specs.SampleText.{answers_line}
use Rattle.rmt_core.specs.Simulating.{GivesRun, OfAnswer, Spelled}
use Rattle.rmt_core.specs.Switching.{GivesSwitch, HasCapture, HasGroups, OfCapture, OfGroups, switch_given}
use Rattle.rmt_core.specs.Texts.{OfEntries, OfMeaning, Understands}
use Rattle.rmt_core.specs.Verifying.{Checks, ChecksBytes, ChecksTexts, GivesVerify, HasMap, answer_line}
use Rattle.rmt_core.proofs.AnswersFormed.{answers_formed}
use Rattle.rmt_core.proofs.PlacerLaws.{same_placed}
use Rattle.rmt_drive.proofs.RunOnce.{run_once}

-- each text has one meaning
abbrev pub OneMeaning : Type 0
OneMeaning = (text : List ℕ) (m n : Outcome) → Means text m → Means text n → m ≡ n

-- no bytes spell two maps
abbrev pub OneMap : Type 0
OneMap = (bytes : List ℕ) (m n : MapFile) → SpellsMap bytes m → SpellsMap bytes n → m ≡ n

-- ---- two givens

abbrev pub AreOne : Given → Given → Type 0
AreOne g h = (g.status ≡ h.status) × ((g.text ≡ h.text) ⊎ OtherNumbers g.text h.text)

-- all that a command gives is one
abbrev pub GivesOnce : (Given → Type 0) → Type 0
GivesOnce P = (g h : Given) → P g → P h → AreOne g h

same_given : (g h k : Given) → g ≡ k → h ≡ k → AreOne g h
same_given g h k a b =
    let same : g ≡ h = a ∙ sym b in
    (ap (λ (x : Given). x.status) same, inl (ap (λ (x : Given). x.text) same))

-- ---- files, texts and images

once_found : (files : Files) (next : List ℕ → Given → Type 0) (f : Found) → ((bytes : List ℕ) → GivesOnce (next bytes)) → GivesOnce (λ g. OfFound files next g f)
once_found files next Absent once g h a b = same_given g h _ a b
once_found files next Long once g h a b = same_given g h _ a b
once_found files next (Holds bytes) once g h a b = once bytes g h a b

reads_once : (files : Files) (name : List ℕ) (limit : ℕ) (next : List ℕ → Given → Type 0) → ((bytes : List ℕ) → GivesOnce (next bytes)) → GivesOnce (Reads files name limit next)
reads_once files name limit next once g h a b = once_found files next (found limit (files name)) once g h a b

once_opened : (files : Files) (next : List ℕ → Given → Type 0) (f : Option (List ℕ)) → ((bytes : List ℕ) → GivesOnce (next bytes)) → GivesOnce (λ g. OfOpened files next g f)
once_opened files next None once g h a b = same_given g h _ a b
once_opened files next (Some bytes) once g h a b = once bytes g h a b

opens_once : (files : Files) (name : List ℕ) (next : List ℕ → Given → Type 0) → ((bytes : List ℕ) → GivesOnce (next bytes)) → GivesOnce (Opens files name next)
opens_once files name next once g h a b = once_opened files next (files name) once g h a b

once_says : (files : Files) (next : Program → List (List Entry) → Given → Type 0) (p : Program) (r : Result (List (List Entry)) EntryFault) → ((lists : List (List Entry)) → GivesOnce (next p lists))
    → GivesOnce (λ g. OfEntries files next p g r)
once_says files next p (Ok lists) once g h a b = once lists g h a b
once_says files next p (Err (At code line)) once g h a b = same_given g h _ a b
once_says files next p (Err NoMemory) once g h a b = absurd a

once_means : (files : Files) (entries : List ℕ) (next : Program → List (List Entry) → Given → Type 0) (m : Outcome) → ((p : Program) (lists : List (List Entry)) → GivesOnce (next p lists))
    → GivesOnce (λ g. OfMeaning files entries next g m)
once_means files entries next (Ok p) once g h a b = once_says files next p (entries_of p entries) (once p) g h a b
once_means files entries next (Err fault) once g h a b = same_given g h _ a b

understands_once : OneMeaning → (files : Files) (program entries : List ℕ) (next : Program → List (List Entry) → Given → Type 0) → ((p : Program) (lists : List (List Entry)) → GivesOnce (next p lists))
    → GivesOnce (Understands files program entries next)
understands_once one files program entries next once g h a b =
    once_means files entries next a.0 once g h a.2 (subst (λ m. OfMeaning files entries next h m) (one program b.0 a.0 b.1 a.1) b.2)

once_answered : (files : Files) (next : Config → Given → Type 0) (r : Result Config ImageFault) → ((c : Config) → GivesOnce (next c)) → GivesOnce (λ g. OfAnswer files next g r)
once_answered files next (Ok c) once g h a b = once c g h a b
once_answered files next (Err fault) once g h a b = same_given g h _ a b

spelled_once : (files : Files) (bytes : List ℕ) (next : Config → Given → Type 0) → ((c : Config) → GivesOnce (next c)) → GivesOnce (Spelled files bytes next)
spelled_once files bytes next once g h a b =
    once_answered files next a.0 once g h a.2 (subst (λ r. OfAnswer files next h r) (answered_once bytes b.0 a.0 b.1 a.1) b.2)

once_grouped : (files : Files) (next : List (List ℕ) → Given → Type 0) (r : Result (List (List ℕ)) GroupFault) → ((groups : List (List ℕ)) → GivesOnce (next groups)) → GivesOnce (λ g. OfGroups files next g r)
once_grouped files next (Ok groups) once g h a b = once groups g h a b
once_grouped files next (Err (group.At code line)) once g h a b = same_given g h _ a b
once_grouped files next (Err group.NoMemory) once g h a b = absurd a

groups_once : (files : Files) (text : List ℕ) (next : List (List ℕ) → Given → Type 0) → ((groups : List (List ℕ)) → GivesOnce (next groups)) → GivesOnce (HasGroups files text next)
groups_once files text next once g h a b = once_grouped files next (groups_of text) once g h a b

once_captured : (files : Files) (next : Capture → Given → Type 0) (r : Result Capture ℕ) → ((said : Capture) → GivesOnce (next said)) → GivesOnce (λ g. OfCapture files next g r)
once_captured files next (Ok said) once g h a b = once said g h a b
once_captured files next (Err code) once g h a b = same_given g h _ a b

capture_once : (files : Files) (file : List ℕ) (next : Capture → Given → Type 0) → ((said : Capture) → GivesOnce (next said)) → GivesOnce (HasCapture files file next)
capture_once files file next once g h a b = once_captured files next (capture_of file) once g h a b

-- ---- maps and what fails of them

map_once : OneMap → (files : Files) (bytes : List ℕ) (next : MapFile → Given → Type 0) → ((m : MapFile) → GivesOnce (next m)) → GivesOnce (HasMap files bytes next)
map_once one files bytes next once g h (inl a) (inl b) = once a.0 g h a.2 (subst (λ m. next m h) (one bytes b.0 a.0 b.1 a.1) b.2)
map_once one files bytes next once g h (inl a) (inr b) = absurd (b.0 a.0 a.1)
map_once one files bytes next once g h (inr a) (inl b) = absurd (a.0 b.0 b.1)
map_once one files bytes next once g h (inr a) (inr b) = same_given g h _ a.1 b.1

module _ (p : Program) (lists : List (List Entry)) (c : Config) (m : MapFile) where
  abbrev Answers : Option ℕ → Type 0
  Answers failing = MatchOption failing (AllHold p lists c m) (FailsFirst p lists c m)

  one_failing : (a b : Option ℕ) → Answers a → Answers b → a ≡ b
  one_failing None None x y = refl
  one_failing None (Some n) x y = absurd (y.fails (x n))
  one_failing (Some n) None x y = absurd (x.fails (y n))
  one_failing (Some n) (Some k) x y =
      elim (cases_order n k) as (λ _. ◌≡◌ {A = Option ℕ} (Some n) (Some k)) [
        | inl same ↦ ap Some same
        | inr (inl less) ↦ absurd (x.fails (y.before n less))
        | inr (inr more) ↦ absurd (y.fails (x.before k more))
      ]

  checks_once : (files : Files) → GivesOnce (Checks files p lists c m)
  checks_once files g h a b =
      same_given g h (told files Done (answer_line a.0)) a.2 (b.2 ∙ ap (λ o. told files Done (answer_line o)) (one_failing b.0 a.0 b.1 a.1))

-- ---- what is made, or is not loaded

pub same_places : (p : Program) (a b : List (List Lane)) → packing p ≡ Ok a → packing p ≡ Ok b → a ≡ b
same_places p a b e f = let both : ◌≡◌ {A = Result (List (List Lane)) PhvFull} (Ok a) (Ok b) = sym e ∙ f in cc

latency_by : List ℕ → ℕ
latency_by [] = 0
latency_by (s ∷ []) = s + 12
latency_by (s ∷ t ∷ starts) = latency_by (t ∷ starts)

latency_is : (stages : List Stage) → latency_of stages ≡ latency_by (map (λ (s : Stage). s.start) stages)
unfolding latency_by
latency_is [] = refl
latency_is (s ∷ []) = refl
latency_is (s ∷ t ∷ stages) = latency_is (t ∷ stages)

abbrev starts_in : Config → List ℕ
starts_in c = map (λ (s : Stage). s.start) c.stages

-- as many stages, and one latency
same_length : (c d : Config) → starts_in c ≡ starts_in d → length c.stages ≡ length d.stages
same_length c d starts = sym (length-map c.stages (λ (s : Stage). s.start)) ∙ (ap length starts ∙ length-map d.stages (λ (s : Stage). s.start))

same_latency : (c d : Config) → starts_in c ≡ starts_in d → latency_of c.stages ≡ latency_of d.stages
same_latency c d starts = latency_is c.stages ∙ (ap latency_by starts ∙ sym (latency_is d.stages))

one_text : (p : Program) (c d : Config) (b e : Bound) → starts_in c ≡ starts_in d → b ≡ e → compile_text p c b ≡ compile_text p d e
one_text p c d b e starts is =
    let long = same_length c d starts in
    let late = same_latency c d starts in
    rw (long, late, is) refl

one_line : (n : ℕ) (p : Program) (lists : List (List Entry)) (c d : Config) → starts_in c ≡ starts_in d → sample_line n p lists c ≡ sample_line n p lists d
one_line n p lists c d starts =
    let answers = map told_by_answer (answers_of p lists (sample_packets n)) in
    ap (λ s. answers_line n answers s (cycles_of c (sample_packets n))) (same_length c d starts)
    ∙ ap (λ k. answers_line n answers (length d.stages) k) (ap length (inputs (sample_packets n)))
  where
    inputs : (packets : List Packet) → inputs_of c packets ≡ inputs_of d packets
    inputs [] = refl
    inputs (x ∷ xs) = ap (λ l. map Some (x ∷ xs) ++ replicate l None) (same_latency c d starts)

module _ (apart : NeverBoth) (placer : Placer) (p : Program) (lists : List (List Entry)) where
  -- no table is loaded and full under one seed
  pub not_loaded_and_full : (parts : List Part) (seed n members cells : ℕ) → AreLoaded p lists parts seed → IsFullTable p lists parts seed n members cells → ⊥
  not_loaded_and_full parts seed n members cells loaded full =
      let own = loaded n full.table full.entries full.applies in
      apart _ _ _ own.0 full.own cells own.1 full.overfull

  -- under a seed before which some table is full none is loaded
  pub none_before : (parts : List Part) (s seed : ℕ) → AreFullBefore p lists parts seed → AreLoaded p lists parts s → s < seed → ⊥
  none_before parts s seed each loaded less =
      let full = each s less in
      not_loaded_and_full parts s full.0 full.1 full.2 loaded full.3

  -- the first full table of the last seed
  full_later : (parts : List Part) (n m members cells : ℕ) → IsFullTable p lists parts 7 n members cells → AreLoadedBefore p lists parts 7 m → n < m → ⊥
  full_later parts n m members cells full loaded less =
      let own = loaded n full.table full.entries less full.applies in
      apart _ _ _ own.0 full.own cells own.1 full.overfull

  one_node : (parts : List Part) (n members cells m others few : ℕ) → AreNotLoaded p lists parts n members cells → AreNotLoaded p lists parts m others few → n ≡ m
  one_node parts n members cells m others few a b =
      ⊎_elim (λ less. absurd (full_later parts n m members cells a.last b.first less))
      (λ le. ⊎_elim (λ less. absurd (full_later parts m n others few b.last a.first less)) (λ ge. omega arith) (order m n)) (order n m)
    where
      order : (x y : ℕ) → (x < y) ⊎ (y ≤ x)
      order x y = grind arith

  -- the stages of what is made start at the same times
  same_starts : (image other : List ℕ) (m n : Map) (c d : Config) (b e : Bound) → Makes placer p lists image m c b → Makes placer p lists other n d e → starts_in c ≡ starts_in d
  same_starts image other m n c d b e x y =
      let places = same_places p m.places n.places x.made_by.rules.places y.made_by.rules.places in
      let parts = same_placed placer p m.places n.places m.placement.parts n.placement.parts x.made_by.rules.places y.made_by.rules.places x.made_by.placement y.made_by.placement in
      let starts : m.starts ≡ n.starts = x.made_by.rules.starts ∙ (ap (λ l. starts_of (all_edges p l) m.placement.parts) places ∙ (ap (λ l. starts_of (all_edges p n.places) l) parts ∙ sym y.made_by.rules.starts)) in
      x.carries.units.starts_are ∙ (starts ∙ sym y.carries.units.starts_are)

  made_once : (image other : List ℕ) (m n : Map) (c d : Config) (b e : Bound) → Makes placer p lists image m c b → Makes placer p lists other n d e → compile_text p c b ≡ compile_text p d e
  made_once image other m n c d b e x y =
      let places = same_places p m.places n.places x.made_by.rules.places y.made_by.rules.places in
      one_text p c d b e (same_starts image other m n c d b e x y) (x.bounded.bound ∙ (ap (λ l. stage_bound p (field_edges p l)) places ∙ sym y.bounded.bound))

  -- no program is made and full
  pub never_both : (parts : List Part) (seed : ℕ) (line : List ℕ) → IsPlacedBy placer p parts → AreLoaded p lists parts seed → seed < 8 → IsFull placer p lists line → ⊥
  never_both parts seed line placed loaded few y =
      let same = same_placed placer p placed.places y.placed.places parts y.parts placed.packed y.placed.packed placed.placed y.placed.placed in
      none_before y.parts seed 8 y.full.each (subst (λ l. AreLoaded p lists l seed) same loaded) few

  -- what is made is loaded, so it isn't full
  made_not_full : (image line : List ℕ) (m : Map) (c : Config) (b : Bound) → Makes placer p lists image m c b → IsFull placer p lists line → ⊥
  made_not_full image line m c b x y =
      never_both m.placement.parts c.seed line (record { places = m.places; packed = x.made_by.rules.places; placed = x.made_by.placement }) x.made_by.rules.seed.loaded x.made_by.rules.seed.few y

  full_once : (line other : List ℕ) → IsFull placer p lists line → IsFull placer p lists other → OtherNumbers line other
  full_once line other x y =
      let same = same_placed placer p x.placed.places y.placed.places x.parts y.parts x.placed.packed y.placed.packed x.placed.placed y.placed.placed in
      let node = one_node y.parts x.node x.members x.cells y.node y.members y.cells (subst (λ l. AreNotLoaded p lists l x.node x.members x.cells) same x.full) y.full in
      record {
        program = p;
        node = x.node;
        members = x.members;
        cells = x.cells;
        others = y.members;
        few = y.cells;
        first = x.line_is;
        second = y.line_is ∙ ap (λ n. no_fit_line p (Load n y.members y.cells)) (sym node);
      }

  -- a command tells of all that is made in one way
  abbrev pub TellsOnce : Finish → Type 0
  TellsOnce finish =
      (image other : List ℕ) (m n : Map) (c d : Config) (b e : Bound) → Makes placer p lists image m c b → Makes placer p lists other n d e
      → ((finish image m c b).status ≡ (finish other n d e).status) × ((finish image m c b).text ≡ (finish other n d e).text)

  loaded_once : (files : Files) (finish : Finish) → TellsOnce finish → GivesOnce (Loaded placer files finish p lists)
  loaded_once files finish one g h (inl x) (inl y) =
      let same = one x.0 y.0 x.1 y.1 x.2 y.2 x.3 y.3 x.4 y.4 in (
        ap (λ (k : Given). k.status) x.5 ∙ (same.0 ∙ sym (ap (λ (k : Given). k.status) y.5)),
        inl (ap (λ (k : Given). k.text) x.5 ∙ (same.1 ∙ sym (ap (λ (k : Given). k.text) y.5))),
      )
  loaded_once files finish one g h (inl x) (inr y) = absurd (made_not_full x.0 y.0 x.1 x.2 x.3 x.4 y.1)
  loaded_once files finish one g h (inr x) (inl y) = absurd (made_not_full y.0 x.0 y.1 y.2 y.3 y.4 x.1)
  loaded_once files finish one g h (inr x) (inr y) = (
    ap (λ (k : Given). k.status) x.2 ∙ sym (ap (λ (k : Given). k.status) y.2),
    inr (
        subst (λ (t : List ℕ). OtherNumbers t h.text) (sym (ap (λ (k : Given). k.text) x.2))
        (subst (λ (t : List ℕ). OtherNumbers x.0 t) (sym (ap (λ (k : Given). k.text) y.2)) (full_once x.0 y.0 x.1 y.1))
        ),
  )

  fitted_once : (files : Files) (finish : Finish) → TellsOnce finish → (fault : Option NoFit) → GivesOnce (λ g. Fitted placer files finish p lists g fault)
  fitted_once files finish one (Some fault) g h a b = same_given g h _ a b
  fitted_once files finish one None g h a b = loaded_once files finish one g h a b

  builds_once : (files : Files) (finish : Finish) → TellsOnce finish → GivesOnce (Builds placer files finish p lists)
  builds_once files finish one g h a b = fitted_once files finish one (refusal_by placer p) g h a b

  compiles_once : (files : Files) (wanted : Wanted) → GivesOnce (Compiles placer files wanted p lists)
  compiles_once files wanted = builds_once files (written files wanted p) (λ image other m n c d b e x y. (refl, made_once image other m n c d b e x y))

  samples_once : (files : Files) (number : ℕ) → GivesOnce (Builds placer files (λ image m c b. told files Done (sample_line number p lists c)) p lists)
  samples_once files number =
      builds_once files (λ image m c b. told files Done (sample_line number p lists c))
      (λ image other m n c d b e x y. (refl, one_line number p lists c d (same_starts image other m n c d b e x y)))

image_once : OneMeaning → NeverBoth → (placer : Placer) (files : Files) (program entries : List ℕ) (wanted : Wanted) → GivesOnce (GivesImage placer files program entries wanted)
image_once one apart placer files program entries wanted =
    reads_once files program program_limit _
    (λ text. reads_once files entries entries_limit _ (λ entry_text. understands_once one files text entry_text _ (λ p lists. compiles_once apart placer p lists files wanted)))

tells_once : (k : Given) → GivesOnce (λ g. g ≡ k)
tells_once k g h a b = same_given g h k a b

runs_once : {X : Type 0} (way : Way X) (files : Files) (printed : X → List ℕ) (limit : ℕ) (text : List ℕ) → GivesOnce (RunsBy way files printed limit text)
runs_once way files printed limit text g h a b = same_given g h _ a b

-- ---- runs of the chip

-- two givens of a run: one text, but where a commit moves cells
abbrev pub AreOneRun : Files → List ℕ → List ℕ → Given → Given → Type 0
AreOneRun files image packets g h = (g.status ≡ h.status) × ((g.text ≡ h.text) ⊎ OtherNumbers g.text h.text ⊎ HasMovingCommit files image packets)

module _ (w : Watch) (files : Files) (image packets : List ℕ) where
  same_run : (g h k : Given) → g ≡ k → h ≡ k → AreOneRun files image packets g h
  same_run g h k a b =
      let same : g ≡ h = a ∙ sym b in
      (ap (λ (x : Given). x.status) same, inl (ap (λ (x : Given). x.text) same))

  abbrev Run : List ℕ → Config → Given → Type 0
  Run text c = RunsChip w files c packets_limit text

  module _ (bytes : List ℕ) (has_bytes : files image ≡ Some bytes) where
    run_answered : (text : List ℕ) → files packets ≡ Some text → (r : Result Config ImageFault) → ImageAnswers bytes r → (g h : Given) → OfAnswer files (Run text) g r → OfAnswer files (Run text) h r
        → AreOneRun files image packets g h
    run_answered text has_text (Ok c) answers g h a b =
        let form = answers_formed bytes c answers in
        let o = run_once w files c form.0 form.1 packets_limit text g h a b in (
          o.0,
          elim o.1 [
            | inl e ↦ inl e
            | inr m ↦
                inr (inr (record {
                  bytes = bytes;
                  config = c;
                  text = text;
                  full = m.full;
                  made = m.made;
                  state = m.state;
                  has_bytes = has_bytes;
                  answers = answers;
                  has_text = has_text;
                  comes = m.comes;
                  moved = m.moved;
                }))
          ],
        )
    run_answered text has_text (Err fault) answers g h a b = same_run g h _ a b

    run_spelled : (text : List ℕ) → files packets ≡ Some text → (g h : Given) → Spelled files bytes (Run text) g → Spelled files bytes (Run text) h → AreOneRun files image packets g h
    run_spelled text has_text g h a b =
        run_answered text has_text a.0 a.1 g h a.2 (subst (λ r. OfAnswer files (Run text) h r) (answered_once bytes b.0 a.0 b.1 a.1) b.2)

    run_opened : (o : Option (List ℕ)) → files packets ≡ o → (g h : Given) → OfOpened files (λ text. Spelled files bytes (Run text)) g o → OfOpened files (λ text. Spelled files bytes (Run text)) h o
        → AreOneRun files image packets g h
    run_opened None e g h a b = same_run g h _ a b
    run_opened (Some text) e g h a b = run_spelled text e g h a b

  run_found : (o : Option (List ℕ)) → files image ≡ o → (g h : Given) → OfFound files (λ bytes. Opens files packets (λ text. Spelled files bytes (Run text))) g (found image_limit o)
      → OfFound files (λ bytes. Opens files packets (λ text. Spelled files bytes (Run text))) h (found image_limit o) → AreOneRun files image packets g h
  run_found None e g h a b = same_run g h _ a b
  run_found (Some bytes) e g h a b = by (ltb image_limit (length bytes)) a b
    where
      next : List ℕ → Given → Type 0
      next read = Opens files packets (λ text. Spelled files read (Run text))

      by : (long : Bool) → OfFound files next g (cond long Long (Holds bytes)) → OfFound files next h (cond long Long (Holds bytes)) → AreOneRun files image packets g h
      by true x y = same_run g h _ x y
      by false x y = run_opened bytes e (files packets) refl g h x y

  gives_run_once : (g h : Given) → GivesRun w files image packets g → GivesRun w files image packets h → AreOneRun files image packets g h
  gives_run_once g h a b = run_found (files image) refl g h a b

switch_once : (files : Files) (image groups capture out : List ℕ) (every : ℕ) → GivesOnce (GivesSwitch files image groups capture out every)
switch_once files image groups capture out every =
    reads_once files image image_limit _
    (λ bytes. reads_once files groups groups_limit _
    (λ text. reads_once files capture capture_limit _
    (λ file. spelled_once files bytes (λ c. HasGroups files text (λ ports. HasCapture files file (λ said g. g ≡ switch_given files out (switched c ports every file said))))
    (λ c. groups_once files text (λ ports. HasCapture files file (λ said g. g ≡ switch_given files out (switched c ports every file said)))
    (λ ports. capture_once files file (λ said g. g ≡ switch_given files out (switched c ports every file said)) (λ said. tells_once (switch_given files out (switched c ports every file said))))))))

verify_once : OneMeaning → OneMap → (files : Files) (program entries image map : List ℕ) → GivesOnce (GivesVerify files program entries image map)
verify_once one maps files program entries image map =
    reads_once files program program_limit _
    (λ text. reads_once files entries entries_limit _
    (λ entry_text. reads_once files image image_limit _
    (λ image_bytes. reads_once files map map_limit (λ map_bytes. ChecksTexts files text entry_text image_bytes map_bytes)
    (λ map_bytes. understands_once one files text entry_text (ChecksBytes files image_bytes map_bytes)
    (λ p lists. spelled_once files image_bytes (λ c. HasMap files map_bytes (Checks files p lists c))
    (λ c. map_once maps files map_bytes (Checks files p lists c) (λ m. checks_once p lists c m files)))))))

-- `sample` understands its texts
pub sample_understood : (files : Files) (number : ℕ) (g : Given) → GivesSample files number g
    → Understands files (program_text number) (entries_text number) (λ p lists. Builds ByRule files (λ image m c k. told files Done (sample_line number p lists c)) p lists) g
sample_understood files number g h =
    let next = λ (p : Program) (lists : List (List Entry)). Builds ByRule files (λ image m c k. told files Done (sample_line number p lists c)) p lists in
    (Ok h.0, h.2.means, subst (λ (r : Result (List (List Entry)) EntryFault). OfEntries files next h.0 g r) (sym h.2.says) h.3)

-- ---- the law

-- what is one but for the numbers of a table, for a command that runs no chip
no_run : {M : Type 0} (g h : Given) → AreOne g h → (g.status ≡ h.status) × ((g.text ≡ h.text) ⊎ OtherNumbers g.text h.text ⊎ M)
no_run g h x = (
  x.0,
  elim x.1 [
    | inl e ↦ inl e
    | inr o ↦ inr (inl o)
  ],
)

pub gives_one : OneMeaning → NeverBoth → OneMap → GivesOne
gives_one one apart maps files (Compile program entries image) g h a b = no_run g h (image_once one apart ByRule files program entries (image_alone image) g h a b)
gives_one one apart maps files (CompileMap program entries image map) g h a b = no_run g h (image_once one apart ByRule files program entries (with_map image map) g h a b)
gives_one one apart maps files (Improve program entries image budget) g h a b = no_run g h (image_once one apart (ByTries budget) files program entries (image_alone image) g h a b)
gives_one one apart maps files (Sim image packets) g h a b = gives_run_once watch.Answers files image packets g h a b
gives_one one apart maps files (Probe image packets cycle) g h a b = gives_run_once (watch.Vectors cycle) files image packets g h a b
gives_one one apart maps files (Plain program entries packets) g h a b =
    no_run g h
    (reads_once files program program_limit _
    (λ text. reads_once files entries entries_limit _
    (λ entry_text. opens_once files packets _ (λ packet_text. understands_once one files text entry_text
    (RunsPlain files packet_text) (λ p lists. runs_once (with_changes p lists) files (plain_text p lists) packets_limit packet_text)))) g h a b)
gives_one one apart maps files (Report image) g h a b =
    no_run g h
    (reads_once files image image_limit _ (λ bytes. spelled_once files bytes (λ c g. g ≡ told files Done (report_line c)) (λ c. tells_once (told files Done (report_line c)))) g h a b)
gives_one one apart maps files (Sample number) g h a b =
    no_run g h
    (understands_once one files (program_text number) (entries_text number) (λ p lists. Builds ByRule files (λ image m c k. told files Done (sample_line number p lists c)) p lists)
    (λ p lists. samples_once apart ByRule p lists files number) g h (sample_understood files number g a) (sample_understood files number h b))
gives_one one apart maps files (Switch image groups capture out every) g h a b = no_run g h (switch_once files image groups capture out every g h a b)
gives_one one apart maps files (Verify program entries image map) g h a b = no_run g h (verify_once one maps files program entries image map g h a b)
