-- What a call of `sample` told.
use Rattle.std.proofs.Common.{◌≡◌, ◌≢◌, ◌⊎◌, ◌≤◌, inl, inr, ⊎_elim, ℕ, Result, Err, Ok, List, map, length, refl, sym, ap, subst, ◌∙◌}
use Rattle.rmt_io.specs.Outside.{ShelfState, SinkState}
use Rattle.rmt_core.specs.Types.{Program, Config}
use Rattle.rmt_ast.specs.declared.entry.Entry.{Entry}
use Rattle.rmt_build.specs.declared.built.Built.{Built}
use Rattle.rmt_config.specs.ChipRun.{cycles_of, outcomes_of}
use Rattle.rmt_packets.specs.PacketText.{packets_of}
use Rattle.rmt_refine.specs.RunsAs.{told_by_outcome}
use Rattle.rmt_check.specs.Means.{Means, Outcome, fault_at}
use Rattle.rmt_entries.specs.Entries.{entries_of}
use Rattle.rmt_entries.specs.declared.fault.EntryFault.TheVariants.{At}
use Rattle.rmt_sample.specs.Texts.{entries_text, packets_text, program_text}
use Rattle.rmt_core.specs.declared.texts.Meant.{Meant}
use Rattle.rmt_core.specs.declared.texts.TextFault.{TextFault}
use Rattle.rmt_core.specs.declared.texts.TextFault.TheVariants as text
use Rattle.rmt_sample.specs.Meaning.{AreOfSample}
use Rattle.rmt_sample.specs.SampleProgram.{sample_program}
use Rattle.rmt_core.specs.declared.placer.Placer.TheVariants.{ByRule}
use Rattle.rmt_drive.specs.declared.status.Status.{Status}
use Rattle.rmt_drive.specs.declared.status.Status.TheVariants.{Done, NoFit, NoMemory, ReadFault, TooLong, WriteFault}
use Rattle.rmt_core.specs.Commands.{IsPossible, Sample}
use Rattle.rmt_drive.specs.Ends.{Answered, outside}
use Rattle.rmt_drive.specs.Given.{told}
use Rattle.rmt_core.specs.Making.{IsBuilt, TellsWhy}
use Rattle.rmt_core.specs.Sampling.{GivesSample, sample_line, sample_packets, chip_line}
use Rattle.rmt_drive.specs.SampleText.{answers_line}
use Rattle.rmt_drive.specs.Telling.{Tells}
use Rattle.rmt_core.proofs.MakeLaws.{builds}
use Rattle.rmt_drive.proofs.PacketLaws.{text_says_packets}
use Rattle.rmt_core.proofs.GivenOnce.{OneMeaning}
use Rattle.rmt_core.proofs.TextLaws.{IsFaultOf, is_fault_of, line_answered}
use Rattle.rmt_sample.proofs.MeaningLaws.{sample_is_meant}

-- the chip's answers are those of the plain run
pub line_of_plain : (n : ℕ) (p : Program) (lists : List (List Entry)) (built : Built) → IsBuilt ByRule p lists built → sample_line n p lists built.config ≡ chip_line n built.config
line_of_plain n p lists built is =
    ap (λ answers. answers_line n answers (length built.config.stages) (cycles_of built.config (sample_packets n)))
    (sym (is.makes.runs.answers (sample_packets n) (text_says_packets (packets_text n))))

-- the line of the packets that the text says
pub chip_line_of : (n : ℕ) (c : Config) (text found line : List ℕ) → text ≡ packets_text n
    → found ≡ answers_line n (map told_by_outcome (outcomes_of c (packets_of text).packets)) (length c.stages) (cycles_of c (packets_of text).packets) → line ≡ chip_line n c → found ≡ line
chip_line_of n c text found line text_is found_is line_is =
    found_is ∙ ap (λ t. answers_line n (map told_by_outcome (outcomes_of c (packets_of t).packets)) (length c.stages) (cycles_of c (packets_of t).packets)) text_is ∙ sym line_is

-- the texts that were made mean a program with entries
pub of_sample : (n : ℕ) (p : Program) (lists : List (List Entry)) (text entry_text : List ℕ) → text ≡ program_text n → entry_text ≡ entries_text n → Means text (Ok p) → entries_of p entry_text ≡ Ok lists
    → AreOfSample n p lists
of_sample n p lists text entry_text text_is entries_are means says = record {
  means = subst (λ t. Means t (Ok p)) text_is means;
  says = subst (λ t. entries_of p t ≡ Ok lists) entries_are says;
}

module _ (shelf : ShelfState) (before after : SinkState) (n : ℕ) (p : Program) (lists : List (List Entry)) (of : AreOfSample n p lists) (result : Status) where
  -- the line of what was built was told
  pub sample_answered : (built : Built) → IsBuilt ByRule p lists built → Tells before after (sample_line n p lists built.config) Done result
      → Answered (outside shelf before) (outside shelf after) (GivesSample shelf.files n) result
  sample_answered built is t =
      line_answered _ _ (GivesSample shelf.files n) Done result (sample_line n p lists built.config)
      (p, lists, of, builds ByRule shelf.files (λ image m c b. told shelf.files Done (sample_line n p lists c)) p lists built is) (λ _. refl) (inl refl) t

  -- it was told why nothing was built
  pub refusal_answered : (line : List ℕ) → TellsWhy ByRule p lists line → Tells before after line NoFit result
      → Answered (outside shelf before) (outside shelf after) (GivesSample shelf.files n) result
  refusal_answered line why t =
      line_answered _ _ (GivesSample shelf.files n) NoFit result line
      (p, lists, of, why shelf.files (λ image m c b. told shelf.files Done (sample_line n p lists c))) (λ _. refl) (inr (inr (inr (inl refl)))) t

-- what may come of telling it
pub told_possible : (n : ℕ) {before after : SinkState} {line : List ℕ} {result : Status} → Tells before after line Done result → IsPossible (Sample n) result
told_possible n t = ⊎_elim (λ e. inl (inl e)) (λ rest. ⊎_elim (λ e. inr (inr e)) (λ e. inr (inl e)) rest) t.kind

-- what printed nothing where memory was wanting ended by no fault of reading and with no file that is too long
pub quiet_possible : {P : Type 0} (n : ℕ) (s : Status) → IsPossible (Sample n) s → (s ≡ NoMemory → P) → (s ≡ NoMemory) ⊎ (s ≡ ReadFault) ⊎ (s ≡ TooLong) → P
quiet_possible n s is quiet (inl e) = quiet e
quiet_possible n s (inl (inl h)) quiet (inr (inl e)) = absurd (cc)
quiet_possible n s (inl (inr h)) quiet (inr (inl e)) = absurd (cc)
quiet_possible n s (inr (inl h)) quiet (inr (inl e)) = absurd (cc)
quiet_possible n s (inr (inr h)) quiet (inr (inl e)) = absurd (cc)
quiet_possible n s (inl (inl h)) quiet (inr (inr e)) = absurd (cc)
quiet_possible n s (inl (inr h)) quiet (inr (inr e)) = absurd (cc)
quiet_possible n s (inr (inl h)) quiet (inr (inr e)) = absurd (cc)
quiet_possible n s (inr (inr h)) quiet (inr (inr e)) = absurd (cc)

pub told_no_reading : {before after : SinkState} {line : List ℕ} {result : Status} → Tells before after line Done result → result ≢ ReadFault
told_no_reading {before} {after} {line} {result} t e = by result e t.kind
  where
    by : (r : Status) → r ≡ ReadFault → (r ≡ Done) ⊎ ((r ≡ WriteFault) ⊎ (r ≡ NoMemory)) → ⊥
    by r e (inl d) = cc
    by r e (inr (inl w)) = cc
    by r e (inr (inr m)) = cc

-- of two texts of a number no fault is told
pub only_memory : OneMeaning → (n : ℕ) → 1 ≤ n → n ≤ 100000 → (fault : TextFault) → IsFaultOf (program_text n) (entries_text n) fault → fault ≡ text.NoMemory
only_memory one n some few text.NoMemory is = refl
only_memory one n some few (text.BadProgram code line column) is =
    let e = one (program_text n) (fault_at code line column) (Ok (sample_program n)) is (sample_is_meant n some few).means in
    cc
only_memory one n some few (text.BadEntries code line) is =
    let of = sample_is_meant n some few in
    let e : ◌≡◌ {A = Outcome} (Ok is.0) (Ok (sample_program n)) = one (program_text n) (Ok is.0) (Ok (sample_program n)) is.1 of.means in
    let same : is.0 ≡ sample_program n = cc in
    let bad : entries_of (sample_program n) (entries_text n) ≡ Err (At code line) = ap (λ p. entries_of p (entries_text n)) (sym same) ∙ is.2 in
    let good = of.says in
    cc

-- what the answer to them says
pub no_fault : OneMeaning → (n : ℕ) → 1 ≤ n → n ≤ 100000 → (program entries : List ℕ) (r : Result Meant TextFault) (fault : TextFault) → program ≡ program_text n → entries ≡ entries_text n → r ≡ Err fault
    → ((code line column : ℕ) → r ≡ Err (text.BadProgram code line column) → Means program (fault_at code line column))
    → ((code line : ℕ) → r ≡ Err (text.BadEntries code line) → (p : Program) × Means program (Ok p) × (entries_of p entries ≡ Err (At code line)))
    → fault ≡ text.NoMemory
no_fault one n some few program entries r fault program_is entries_is is bad_program bad_entries =
    let told = is_fault_of program entries r fault is bad_program bad_entries in
    only_memory one n some few fault (subst (λ t. IsFaultOf (program_text n) t fault) entries_is (subst (λ t. IsFaultOf t entries fault) program_is told))
