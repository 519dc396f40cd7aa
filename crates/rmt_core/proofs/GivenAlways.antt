-- Something is given for each files and command that builds no configuration; of `verify` it can't be that nothing is.
use Rattle.std.proofs.Common.{◌≡◌, inl, inr, ⊎_elim, ℕ, zero, suc, ◌+◌, ◌<◌, ◌≤◌, Bool, true, false, List, [], ◌∷◌, drop, Option, Some, None, Result, Ok, Err, refl, sym, subst, arith}
use Rattle.std.specs.Prelude.{codes, nat_eq}
use Rattle.std.specs.List.{starts_with}
use Rattle.std.proofs.lemmas.Bool.{cases_lt}
use Rattle.rmt_core.specs.Types.{Program, Config}
use Rattle.rmt_ast.specs.declared.entry.Entry.{Entry}
use Rattle.rmt_check.specs.Means.{Means, Outcome}
use Rattle.rmt_entries.specs.declared.fault.EntryFault.{EntryFault}
use Rattle.rmt_entries.specs.declared.fault.EntryFault.TheVariants.{NoMemory, At}
use Rattle.rmt_entries.specs.Entries.{entries_of}
use Rattle.rmt_config.specs.declared.limits.LimitHit.{LimitHit}
use Rattle.rmt_config.specs.Form.{Formed}
use Rattle.rmt_config.specs.Limits.{IsWithinLimits, limit_hit}
use Rattle.rmt_bits.specs.Lines.{numbered_lines}
use Rattle.rmt_items.specs.declared.fault.ImageFault.{ImageFault}
use Rattle.rmt_items.specs.declared.fault.ImageFault.TheVariants as image
use Rattle.rmt_items.specs.declared.fault.ReadFault.{ReadFault}
use Rattle.rmt_items.specs.declared.fault.ReadFault.TheVariants.{Short, Form}
use Rattle.rmt_image.specs.Reading.{Answers, ConfigAnswers, EndAnswers, MagicAnswers, VersionAnswers, WholeAnswers, image_at, version_told}
use Rattle.rmt_pcap.specs.declared.capture.Capture.{Capture}
use Rattle.rmt_pcap.specs.Captures.{capture_of}
use Rattle.rmt_switch.specs.declared.fault.GroupFault.{GroupFault}
use Rattle.rmt_switch.specs.declared.fault.GroupFault.TheVariants as group
use Rattle.rmt_switch.specs.GroupText.{group_of, groups_of, line_then, no_groups, numbers_of, reading, with_group}
use Rattle.rmt_switch.specs.Switch.{switched}
use Rattle.rmt_verify.specs.Checks.{PartHolds}
use Rattle.rmt_verify.specs.declared.map_file.MapFile.{MapFile}
use Rattle.rmt_drive.specs.declared.status.Status.TheVariants.{Done}
use Rattle.rmt_drive.specs.declared.watch.Watch.{Watch}
use Rattle.rmt_drive.specs.declared.watch.Watch.TheVariants as watch
use Rattle.rmt_core.specs.Commands.{Command, Compile, CompileMap, Improve, Sim, Probe, Plain, Report, Sample, Switch, Verify}
use Rattle.rmt_drive.specs.Files.{Files, Found, Absent, Long, Holds, capture_limit, entries_limit, found, groups_limit, image_limit, map_limit, packets_limit, program_limit}
use Rattle.rmt_drive.specs.Given.{Given, OfFound, OfOpened, Opens, Reads, told}
use Rattle.rmt_core.specs.Gives.{Gives}
use Rattle.rmt_core.specs.Headline.{GivesAlways, GivesNeverNothing, IsBuilding, IsChecking}
use Rattle.rmt_drive.specs.ChipRuns.{RunsChip}
use Rattle.rmt_drive.specs.EventText.{with_changes}
use Rattle.rmt_core.specs.PlainText.{RunsPlain}
use Rattle.rmt_drive.specs.PlainText.{plain_text}
use Rattle.rmt_core.specs.Reporting.{report_line}
use Rattle.rmt_drive.specs.Runs.{RunsBy, Way}
use Rattle.rmt_core.specs.Simulating.{GivesRun, OfAnswer, Spelled}
use Rattle.rmt_core.specs.Switching.{HasCapture, HasGroups, OfCapture, OfGroups, Switches, switch_given}
use Rattle.rmt_core.specs.Texts.{OfEntries, OfMeaning, Understands}
use Rattle.rmt_core.specs.Verifying.{Checks, ChecksBytes, ChecksTexts, GivesVerify, HasMap}
use Rattle.rmt_drive.proofs.ChipExtends.{always}
use Rattle.rmt_core.proofs.Decided.{IsDecided, form_is_decided}

-- ---- each image has an answer

abbrev HasAnswer : (Result Config ImageFault → Type 0) → Type 0
HasAnswer P = (answer : Result Config ImageFault) × P answer

whole_answer : (c : Config) → HasAnswer (WholeAnswers c)
whole_answer c = of_form (form_is_decided c)
  where
    of_hit : (o : Option LimitHit) → limit_hit c ≡ o → Formed c → HasAnswer (WholeAnswers c)
    of_hit None e formed = (Ok c, (refl, formed, e))
    of_hit (Some hit) e formed = (Err (image.Limit hit), (formed, e))

    of_form : IsDecided (Formed c) → HasAnswer (WholeAnswers c)
    of_form (inl formed) = of_hit (limit_hit c) refl formed
    of_form (inr never) = (Err image.Form, never)

end_answer : (c : Config) (rest : List ℕ) → HasAnswer (EndAnswers (c, rest))
end_answer c [] = whole_answer c
end_answer c (byte ∷ rest) = (Err image.Trailing, refl)

config_answer : (r : Result (Config × List ℕ) ReadFault) → HasAnswer (ConfigAnswers r)
config_answer (Err Short) = (Err image.Short, refl)
config_answer (Err Form) = (Err image.Form, refl)
config_answer (Ok x) = end_answer x.0 x.1

version_answer : (version : Option ℕ) (bytes : List ℕ) → HasAnswer (VersionAnswers version bytes)
version_answer (Some version) bytes = config_answer (image_at version bytes)
version_answer None bytes = (Err image.Version, refl)

magic_answer : (begins : Bool) (bytes : List ℕ) → HasAnswer (MagicAnswers begins bytes)
magic_answer true bytes = version_answer (version_told bytes) (drop 2 bytes)
magic_answer false bytes = (Err image.Magic, refl)

has_answer : (bytes : List ℕ) → HasAnswer (Answers bytes)
has_answer bytes = magic_answer (starts_with nat_eq bytes (codes "RMTI")) (drop 4 bytes)

-- a configuration that an image has is well formed and within the limits
abbrev IsWhole : Config → Type 0
IsWhole c = Formed c × IsWithinLimits c

whole_is : (c d : Config) → WholeAnswers c (Ok d) → IsWhole d
whole_is c d h = subst IsWhole (sym h.0) (h.1, h.2)

end_is : (c : Config) (rest : List ℕ) (d : Config) → EndAnswers (c, rest) (Ok d) → IsWhole d
end_is c [] d h = whole_is c d h
end_is c (byte ∷ rest) d h = absurd (cc)

config_is : (r : Result (Config × List ℕ) ReadFault) (d : Config) → ConfigAnswers r (Ok d) → IsWhole d
config_is (Err Short) d h = absurd (cc)
config_is (Err Form) d h = absurd (cc)
config_is (Ok x) d h = end_is x.0 x.1 d h

version_is : (version : Option ℕ) (bytes : List ℕ) (d : Config) → VersionAnswers version bytes (Ok d) → IsWhole d
version_is (Some version) bytes d h = config_is (image_at version bytes) d h
version_is None bytes d h = absurd (cc)

magic_is : (begins : Bool) (bytes : List ℕ) (d : Config) → MagicAnswers begins bytes (Ok d) → IsWhole d
magic_is true bytes d h = version_is (version_told bytes) (drop 2 bytes) d h
magic_is false bytes d h = absurd (cc)

answer_is : (bytes : List ℕ) (d : Config) → Answers bytes (Ok d) → IsWhole d
answer_is bytes d h = magic_is (starts_with nat_eq bytes (codes "RMTI")) (drop 4 bytes) d h

-- no group text is a want of memory
line_memory : (number : ℕ) (o : Option (List (List ℕ))) (rest : List (List ℕ) → Result (List (List ℕ)) GroupFault) → ((more : List (List ℕ)) → rest more ≡ Err group.NoMemory → ⊥)
    → line_then number o rest ≡ Err group.NoMemory → ⊥
line_memory number None rest never e = cc
line_memory number (Some more) rest never e = never more e

no_group_memory : (groups : List (List ℕ)) (lines : List (ℕ × List ℕ)) → reading groups lines ≡ Err group.NoMemory → ⊥
no_group_memory groups [] e = cc
no_group_memory groups (l ∷ ls) e = line_memory l.0 (with_group groups (group_of (numbers_of l.1))) (λ more. reading more ls) (λ more. no_group_memory more ls) e

-- ---- something is given

-- what each thing that is given leads to is there
abbrev Leads : Type 0 → (Given → Type 0) → Type 0
Leads R P = ((g : Given) → P g → R) → R

module _ (R : Type 0) (files : Files) where
  found_given : (next : List ℕ → Given → Type 0) → ((bytes : List ℕ) → Leads R (next bytes)) → (f : Found) → Leads R (λ g. OfFound files next g f)
  found_given next given Absent to = to _ refl
  found_given next given Long to = to _ refl
  found_given next given (Holds bytes) to = given bytes to

  opened_given : (next : List ℕ → Given → Type 0) → ((bytes : List ℕ) → Leads R (next bytes)) → (o : Option (List ℕ)) → Leads R (λ g. OfOpened files next g o)
  opened_given next given None to = to _ refl
  opened_given next given (Some bytes) to = given bytes to

  answer_given : (next : Config → Given → Type 0) → ((c : Config) → Leads R (next c)) → (r : Result Config ImageFault) → Leads R (λ g. OfAnswer files next g r)
  answer_given next given (Ok c) to = given c to
  answer_given next given (Err fault) to = to _ refl

  spelled_given : (bytes : List ℕ) (next : Config → Given → Type 0) → ((c : Config) → Leads R (next c)) → Leads R (Spelled files bytes next)
  spelled_given bytes next given to =
      let a = has_answer bytes in
      answer_given next given a.0 (λ g h. to g (a.0, a.1, h))

  runs_given : {X : Type 0} (way : Way X) (printed : X → List ℕ) (limit : ℕ) (text : List ℕ) → Leads R (RunsBy way files printed limit text)
  runs_given way printed limit text to = to _ refl

  -- a command that runs the configuration of an image
  formed_given : (bytes : List ℕ) (next : Config → Given → Type 0) → ((c : Config) → IsWhole c → Leads R (next c)) → Leads R (Spelled files bytes next)
  formed_given bytes next given to =
      let a = has_answer bytes in
      by a.0 a.1 (λ g h. to g (a.0, a.1, h))
    where
      by : (r : Result Config ImageFault) → Answers bytes r → Leads R (λ g. OfAnswer files next g r)
      by (Ok c) is to = given c (answer_is bytes c is) to
      by (Err fault) is to = to _ refl

  run_given : (w : Watch) (image packets : List ℕ) → Leads R (GivesRun w files image packets)
  run_given w image packets =
      found_given (λ bytes. Opens files packets (λ text. Spelled files bytes (λ c. RunsChip w files c packets_limit text)))
      (λ bytes. opened_given (λ text. Spelled files bytes (λ c. RunsChip w files c packets_limit text))
      (λ text. formed_given bytes (λ c. RunsChip w files c packets_limit text) (λ c whole to. let x = always c whole.0 whole.1 w files packets_limit text in to x.0 x.1)) (files packets))
      (found image_limit (files image))

  groups_given : (text : List ℕ) (next : List (List ℕ) → Given → Type 0) → ((groups : List (List ℕ)) → Leads R (next groups)) → Leads R (HasGroups files text next)
  groups_given text next given = by (groups_of text) refl
    where
      by : (r : Result (List (List ℕ)) GroupFault) → groups_of text ≡ r → Leads R (λ g. OfGroups files next g r)
      by (Ok groups) e to = given groups to
      by (Err (group.At code line)) e to = to _ refl
      by (Err group.NoMemory) e to = absurd (no_group_memory no_groups (numbered_lines 1 text) e)

  capture_given : (file : List ℕ) (next : Capture → Given → Type 0) → ((said : Capture) → Leads R (next said)) → Leads R (HasCapture files file next)
  capture_given file next given = by (capture_of file)
    where
      by : (r : Result Capture ℕ) → Leads R (λ g. OfCapture files next g r)
      by (Ok said) to = given said to
      by (Err code) to = to _ refl

  switches_given : (out : List ℕ) (every : ℕ) (bytes text file : List ℕ) → Leads R (Switches files out every bytes text file)
  switches_given out every bytes text file =
      spelled_given bytes (λ c. HasGroups files text (λ ports. HasCapture files file (λ said g. g ≡ switch_given files out (switched c ports every file said))))
      (λ c. groups_given text (λ ports. HasCapture files file (λ said g. g ≡ switch_given files out (switched c ports every file said)))
      (λ ports. capture_given file (λ said g. g ≡ switch_given files out (switched c ports every file said)) (λ said to. to _ refl)))

-- what is known of texts: each means something, and no entry text is a want of memory
pub record Known : Type 0 where
  pub means : (text : List ℕ) → (m : Outcome) × Means text m
  pub memory : (p : Program) (text : List ℕ) → entries_of p text ≡ Err NoMemory → ⊥

module _ (k : Known) (R : Type 0) (files : Files) where
  entries_given : (next : Program → List (List Entry) → Given → Type 0) (p : Program) (text : List ℕ) → ((lists : List (List Entry)) → Leads R (next p lists)) → (r : Result (List (List Entry)) EntryFault)
      → entries_of p text ≡ r → Leads R (λ g. OfEntries files next p g r)
  entries_given next p text given (Ok lists) e to = given lists to
  entries_given next p text given (Err (At code line)) e to = to _ refl
  entries_given next p text given (Err NoMemory) e to = absurd (k.memory p text e)

  meaning_given : (entries : List ℕ) (next : Program → List (List Entry) → Given → Type 0) → ((p : Program) (lists : List (List Entry)) → Leads R (next p lists)) → (m : Outcome)
      → Leads R (λ g. OfMeaning files entries next g m)
  meaning_given entries next given (Ok p) to = entries_given next p entries (given p) (entries_of p entries) refl to
  meaning_given entries next given (Err fault) to = to _ refl

  understands_given : (program entries : List ℕ) (next : Program → List (List Entry) → Given → Type 0) → ((p : Program) (lists : List (List Entry)) → Leads R (next p lists)) → Leads R (Understands files program entries next)
  understands_given program entries next given to =
      let m = k.means program in
      meaning_given entries next given m.0 (λ g h. to g (m.0, m.1, h))

  leads : (command : Command) → (IsBuilding command → ⊥) → (IsChecking command → ⊥) → Leads R (Gives files command)
  leads (Compile program entries image) not other = absurd (not tt)
  leads (CompileMap program entries image map) not other = absurd (not tt)
  leads (Improve program entries image budget) not other = absurd (not tt)
  leads (Sim image packets) not other = run_given R files watch.Answers image packets
  leads (Probe image packets cycle) not other = run_given R files (watch.Vectors cycle) image packets
  leads (Plain program entries packets) not other =
      found_given R files
      (λ text. Reads files entries entries_limit (λ entry_text. Opens files packets (λ packet_text. Understands files text entry_text (RunsPlain files packet_text))))
      (λ text. found_given R files (λ entry_text. Opens files packets (λ packet_text. Understands files text entry_text (RunsPlain files packet_text)))
      (λ entry_text. opened_given R files (λ packet_text. Understands files text entry_text (RunsPlain files packet_text))
      (λ packet_text. understands_given text entry_text (RunsPlain files packet_text) (λ p lists. runs_given R files (with_changes p lists) (plain_text p lists) packets_limit packet_text))
      (files packets)) (found entries_limit (files entries))) (found program_limit (files program))
  leads (Report image) not other =
      found_given R files (λ bytes. Spelled files bytes (λ c g. g ≡ told files Done (report_line c)))
      (λ bytes. spelled_given R files bytes (λ c g. g ≡ told files Done (report_line c)) (λ c to. to _ refl)) (found image_limit (files image))
  leads (Sample number) not other = absurd (not tt)
  leads (Switch image groups capture out every) not other =
      found_given R files (λ bytes. Reads files groups groups_limit (λ text. Reads files capture capture_limit (λ file. Switches files out every bytes text file)))
      (λ bytes. found_given R files (λ text. Reads files capture capture_limit (λ file. Switches files out every bytes text file))
      (λ text. found_given R files (λ file. Switches files out every bytes text file) (λ file. switches_given R files out every bytes text file)
      (found capture_limit (files capture))) (found groups_limit (files groups))) (found image_limit (files image))
  leads (Verify program entries image map) not other = absurd (other tt)

pub gives_always : Known → GivesAlways
gives_always k files command not other = leads k ((g : Given) × Gives files command g) files command not other (λ g h. (g, h))

-- ---- a check gives something

-- no part has the number 0, or one above 7
none_there : (p : Program) (lists : List (List Entry)) (c : Config) (m : MapFile) (n : ℕ) → 8 ≤ n → PartHolds p lists c m n
none_there p lists c m n le = record {
  places = λ e. absurd (omega (arith, e, le));
  parser = λ e. absurd (omega (arith, e, le));
  units = λ e. absurd (omega (arith, e, le));
  cells = λ e. absurd (omega (arith, e, le));
  code = λ e. absurd (omega (arith, e, le));
  edges = λ e. absurd (omega (arith, e, le));
  names = λ e. absurd (omega (arith, e, le));
}

module _ (files : Files) (p : Program) (lists : List (List Entry)) (c : Config) (m : MapFile) where
  -- the parts below n hold: then all do, or one from there on fails first
  from_part : (count n : ℕ) → n + count ≡ 8 → ((j : ℕ) → j < n → PartHolds p lists c m j) → Leads ⊥ (Checks files p lists c m)
  from_part zero n is before to =
      to _ (None, (λ j. ⊎_elim (λ less. before j less) (λ le. none_there p lists c m j (omega (arith, is, le))) (cases_lt j n)), refl)
  from_part (suc count) n is before to =
      to _ (Some n, record { before = before; fails = λ holds. from_part count (n + 1) (omega (arith, is)) (further holds) to }, refl)
    where
      further : PartHolds p lists c m n → (j : ℕ) → j < n + 1 → PartHolds p lists c m j
      further holds j less = ⊎_elim (λ below. before j below) (λ le. let same : n ≡ j = omega (arith, less, le) in subst (PartHolds p lists c m) same holds) (cases_lt j n)

  checks_given : Leads ⊥ (Checks files p lists c m)
  checks_given = from_part 8 0 refl (λ j less. absurd (omega (arith, less)))

map_given : (files : Files) (bytes : List ℕ) (next : MapFile → Given → Type 0) → ((m : MapFile) → Leads ⊥ (next m)) → Leads ⊥ (HasMap files bytes next)
map_given files bytes next given to = to _ (inr ((λ m spells. given m (λ g h. to g (inl (m, spells, h)))), refl))

verify_given : Known → (files : Files) (program entries image map : List ℕ) → Leads ⊥ (GivesVerify files program entries image map)
verify_given k files program entries image map =
    found_given ⊥ files
    (λ text. Reads files entries entries_limit (λ entry_text. Reads files image image_limit (λ image_bytes. Reads files map map_limit (λ map_bytes. ChecksTexts files text entry_text image_bytes map_bytes))))
    (λ text. found_given ⊥ files
    (λ entry_text. Reads files image image_limit (λ image_bytes. Reads files map map_limit (λ map_bytes. ChecksTexts files text entry_text image_bytes map_bytes)))
    (λ entry_text. found_given ⊥ files (λ image_bytes. Reads files map map_limit (λ map_bytes. ChecksTexts files text entry_text image_bytes map_bytes))
    (λ image_bytes. found_given ⊥ files (λ map_bytes. ChecksTexts files text entry_text image_bytes map_bytes)
    (λ map_bytes. understands_given k ⊥ files text entry_text (ChecksBytes files image_bytes map_bytes)
    (λ p lists. spelled_given ⊥ files image_bytes (λ c. HasMap files map_bytes (Checks files p lists c))
    (λ c. map_given files map_bytes (Checks files p lists c) (checks_given files p lists c))))
    (found map_limit (files map))) (found image_limit (files image))) (found entries_limit (files entries))) (found program_limit (files program))

pub gives_never_nothing : Known → GivesNeverNothing
gives_never_nothing k files (Verify program entries image map) not none = verify_given k files program entries image map none
gives_never_nothing k files (Compile program entries image) not none = absurd (not tt)
gives_never_nothing k files (CompileMap program entries image map) not none = absurd (not tt)
gives_never_nothing k files (Improve program entries image budget) not none = absurd (not tt)
gives_never_nothing k files (Sim image packets) not none = leads k ⊥ files (Sim image packets) not (λ x. x) none
gives_never_nothing k files (Probe image packets cycle) not none = leads k ⊥ files (Probe image packets cycle) not (λ x. x) none
gives_never_nothing k files (Plain program entries packets) not none = leads k ⊥ files (Plain program entries packets) not (λ x. x) none
gives_never_nothing k files (Report image) not none = leads k ⊥ files (Report image) not (λ x. x) none
gives_never_nothing k files (Sample number) not none = absurd (not tt)
gives_never_nothing k files (Switch image groups capture out every) not none = leads k ⊥ files (Switch image groups capture out every) not (λ x. x) none
