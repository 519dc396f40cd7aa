-- What commands give with Done, and when they give it.
use Rattle.std.proofs.Common.{◌≡◌, inl, inr, ℕ, ◌≤◌, Bool, true, false, cond, ltb, List, length, Option, Some, None, Result, Ok, Err, sym, refl, ap, ◌∙◌, subst}
use Rattle.std.proofs.lemmas.Bool.{le-ltb, ltb-false}
use Rattle.rmt_runs.proofs.ReaderLaws.{within_short}
use Rattle.rmt_core.specs.Types.{Program, Config}
use Rattle.rmt_ast.specs.declared.entry.Entry.{Entry}
use Rattle.rmt_check.specs.Means.{Means, Outcome}
use Rattle.rmt_config.specs.Spells.{Spells}
use Rattle.rmt_entries.specs.declared.fault.EntryFault.{EntryFault}
use Rattle.rmt_entries.specs.declared.fault.EntryFault.TheVariants.{NoMemory, At}
use Rattle.rmt_entries.specs.Entries.{entries_of}
use Rattle.rmt_image.proofs.Whole.{image_again}
use Rattle.rmt_bits.specs.Lines.{numbered_lines}
use Rattle.rmt_packets.specs.PacketText.{BadLine}
use Rattle.rmt_sample.specs.Texts.{entries_text, program_text}
use Rattle.rmt_verify.specs.Spells.{Spells as SpellsMap}
use Rattle.rmt_verify.specs.declared.map_file.MapFile.{MapFile}
use Rattle.rmt_core.specs.declared.placer.Placer.TheVariants.{ByRule}
use Rattle.rmt_drive.specs.declared.status.Status.TheVariants.{Done}
use Rattle.rmt_core.specs.Compiling.{Builds}
use Rattle.rmt_drive.specs.Files.{Files, Long, Holds, found}
use Rattle.rmt_drive.specs.Given.{Given, OfFound, OfOpened, Opens, Reads, told}
use Rattle.rmt_core.specs.Headline.{IsWithin}
use Rattle.rmt_drive.specs.Runs.{RunsBy, Way, run_status, said_within, told_within}
use Rattle.rmt_sample.specs.Meaning.{AreOfSample}
use Rattle.rmt_core.specs.Sampling.{GivesSample, sample_line}
use Rattle.rmt_core.specs.Simulating.{OfAnswer, Spelled}
use Rattle.rmt_core.specs.Texts.{OfEntries, OfMeaning, Understands}
use Rattle.rmt_core.specs.Verifying.{HasMap}
use Rattle.rmt_core.proofs.GivenOnce.{OneMap, OneMeaning, sample_understood}

-- ---- a file that is there is read

found_within : (limit : ℕ) (bytes : List ℕ) (file : Option (List ℕ)) → file ≡ Some bytes → length bytes ≤ limit → found limit file ≡ Holds bytes
found_within limit bytes file is short =
    let few : ltb limit (length bytes) ≡ false = le-ltb limit (length bytes) short in
    rw (is, few) refl

pub read_within : (files : Files) (name : List ℕ) (limit : ℕ) (next : List ℕ → Given → Type 0) (g : Given) (w : (bytes : List ℕ) × IsWithin files name limit bytes) → Reads files name limit next g → next w.0 g
read_within files name limit next g w h = subst (λ f. OfFound files next g f) (found_within limit w.0 (files name) w.1.is_there w.1.is_short) h

-- a file that stays is within the limit later
pub later_within : (files later : Files) (name bytes : List ℕ) (limit : ℕ) → later name ≡ files name → IsWithin files name limit bytes → IsWithin later name limit bytes
later_within files later name bytes limit same w = record { is_there = same ∙ w.is_there; is_short = w.is_short }

pub opened_there : (files : Files) (name text : List ℕ) (next : List ℕ → Given → Type 0) (g : Given) → files name ≡ Some text → Opens files name next g → next text g
opened_there files name text next g is h = subst (λ f. OfOpened files next g f) is h

-- ---- texts that mean a program and its entries

pub understood : OneMeaning → (files : Files) (text entry_text : List ℕ) (next : Program → List (List Entry) → Given → Type 0) (g : Given) (p : Program) (lists : List (List Entry))
    → Means text (Ok p) → entries_of p entry_text ≡ Ok lists → Understands files text entry_text next g → next p lists g
understood one files text entry_text next g p lists means says h =
    let meant : OfMeaning files entry_text next g (Ok p) = subst (λ m. OfMeaning files entry_text next g m) (one text h.0 (Ok p) h.1 means) h.2 in
    subst (λ r. OfEntries files next p g r) says meant

-- what is made of a program with entries that the texts of a number mean
pub sample_built : OneMeaning → (files : Files) (number : ℕ) (g : Given) (p : Program) (lists : List (List Entry)) → AreOfSample number p lists → GivesSample files number g
    → Builds ByRule files (λ image m c b. told files Done (sample_line number p lists c)) p lists g
sample_built one files number g p lists of h =
    understood one files (program_text number) (entries_text number) (λ q l. Builds ByRule files (λ image m c b. told files Done (sample_line number q l c)) q l) g p lists of.means of.says (sample_understood files number g h)

-- ---- an image of a configuration

pub spelled_is : (files : Files) (bytes : List ℕ) (next : Config → Given → Type 0) (g : Given) (c : Config) → Spells bytes c → Spelled files bytes next g → next c g
spelled_is files bytes next g c spells h = subst (λ r. OfAnswer files next g r) (image_again bytes c spells h.0 h.1) h.2

-- ---- the bytes of a map

pub map_is : OneMap → (files : Files) (bytes : List ℕ) (next : MapFile → Given → Type 0) (g : Given) (m : MapFile) → SpellsMap bytes m → HasMap files bytes next g → next m g
map_is one files bytes next g m spells (inl x) = subst (λ k. next k g) (one bytes x.0 m x.1 spells) x.2
map_is one files bytes next g m spells (inr x) = absurd (x.0 m spells)

-- ---- runs

pub status_done : (is_long : Bool) (bad : Option BadLine) → run_status is_long bad ≡ Done → (is_long ≡ false) × (bad ≡ None)
status_done true None e = absurd (cc)
status_done false None e = (refl, refl)
status_done true (Some b) e = absurd (cc)
status_done false (Some b) e = absurd (cc)

module _ {X : Type 0} (way : Way X) where
  -- what all lines of a text say
  abbrev pub whole : List ℕ → X
  whole text = way.read (numbered_lines 1 text)

  -- a text that is short and good runs to its end
  pub run_done : (files : Files) (printed : X → List ℕ) (limit : ℕ) (text : List ℕ) (g : Given) → length text ≤ limit → way.bad (whole text) ≡ None → RunsBy way files printed limit text g
      → g ≡ told files Done (printed (whole text))
  run_done files printed limit text g short good h =
      let few : ltb limit (length text) ≡ false = le-ltb limit (length text) short in
      let bad : way.bad (said_within way limit text) ≡ None = ap (λ (ls : List (ℕ × List ℕ)). way.bad (way.read ls)) (within_short limit text short) ∙ good in
      subst (λ (b : Option BadLine). g ≡ told files (run_status false b) (printed (told_within way limit text b))) bad
      (subst (λ (l : Bool). g ≡ told files (run_status l (way.bad (said_within way limit text))) (printed (told_within way limit text (way.bad (said_within way limit text))))) few h)

-- ---- what stands behind Done

found_done : (files : Files) (limit : ℕ) (file : Option (List ℕ)) (next : List ℕ → Given → Type 0) (g : Given) → g.status ≡ Done → OfFound files next g (found limit file)
    → (bytes : List ℕ) × (file ≡ Some bytes) × (length bytes ≤ limit) × next bytes g
found_done files limit None next g done h = absurd (let e = sym (ap (λ (x : Given). x.status) h) ∙ done in cc)
found_done files limit (Some bytes) next g done h = let s = short (ltb limit (length bytes)) refl h in (bytes, refl, s.0, s.1)
  where
    short : (b : Bool) → ltb limit (length bytes) ≡ b → OfFound files next g (cond b Long (Holds bytes)) → (length bytes ≤ limit) × next bytes g
    short true e h = absurd (let f = sym (ap (λ (x : Given). x.status) h) ∙ done in cc)
    short false e h = (ltb-false limit (length bytes) e, h)

-- a file was read
pub record WasRead (files : Files) (name : List ℕ) (limit : ℕ) (next : List ℕ → Given → Type 0) (g : Given) : Type 0 where
  pub bytes : List ℕ
  pub within : IsWithin files name limit bytes
  pub then : next bytes g

pub was_read : (files : Files) (name : List ℕ) (limit : ℕ) (next : List ℕ → Given → Type 0) (g : Given) → g.status ≡ Done → Reads files name limit next g → WasRead files name limit next g
was_read files name limit next g done h =
    let r = found_done files limit (files name) next g done h in
    record { bytes = r.0; within = record { is_there = r.1; is_short = r.2 }; then = r.3 }

opened_done : (files : Files) (file : Option (List ℕ)) (next : List ℕ → Given → Type 0) (g : Given) → g.status ≡ Done → OfOpened files next g file → (bytes : List ℕ) × (file ≡ Some bytes) × next bytes g
opened_done files None next g done h = absurd (let e = sym (ap (λ (x : Given). x.status) h) ∙ done in cc)
opened_done files (Some bytes) next g done h = (bytes, refl, h)

pub was_opened : (files : Files) (name : List ℕ) (next : List ℕ → Given → Type 0) (g : Given) → g.status ≡ Done → Opens files name next g → (bytes : List ℕ) × (files name ≡ Some bytes) × next bytes g
was_opened files name next g done h = opened_done files (files name) next g done h

-- two texts were understood
pub record Understood (text entry_text : List ℕ) (next : Program → List (List Entry) → Given → Type 0) (g : Given) : Type 0 where
  pub program : Program
  pub lists : List (List Entry)
  pub means : Means text (Ok program)
  pub says : entries_of program entry_text ≡ Ok lists
  pub then : next program lists g

says_done : (files : Files) (text entry_text : List ℕ) (next : Program → List (List Entry) → Given → Type 0) (g : Given) → g.status ≡ Done → (p : Program) → Means text (Ok p)
    → (r : Result (List (List Entry)) EntryFault) → entries_of p entry_text ≡ r → OfEntries files next p g r → Understood text entry_text next g
says_done files text entry_text next g done p means (Ok lists) e h = record { program = p; lists = lists; means = means; says = e; then = h }
says_done files text entry_text next g done p means (Err (At code line)) e h = absurd (let f = sym (ap (λ (x : Given). x.status) h) ∙ done in cc)
says_done files text entry_text next g done p means (Err NoMemory) e h = absurd h

means_done : (files : Files) (text entry_text : List ℕ) (next : Program → List (List Entry) → Given → Type 0) (g : Given) → g.status ≡ Done → (m : Outcome) → Means text m → OfMeaning files entry_text next g m
    → Understood text entry_text next g
means_done files text entry_text next g done (Ok p) means h = says_done files text entry_text next g done p means (entries_of p entry_text) refl h
means_done files text entry_text next g done (Err fault) means h = absurd (let f = sym (ap (λ (x : Given). x.status) h) ∙ done in cc)

pub was_understood : (files : Files) (text entry_text : List ℕ) (next : Program → List (List Entry) → Given → Type 0) (g : Given) → g.status ≡ Done → Understands files text entry_text next g
    → Understood text entry_text next g
was_understood files text entry_text next g done h = means_done files text entry_text next g done h.0 h.1 h.2
