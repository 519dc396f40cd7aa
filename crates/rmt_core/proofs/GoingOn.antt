-- What is said of a command that goes on with an image, or with a program and its entries, is said of the command that first reads them.
use Rattle.std.proofs.Common.{◌≡◌, ◌≢◌, ◌≤◌, ℕ, length, List, Result, Ok, Err, sym, refl, subst, inl, inr}
use Rattle.rmt_core.specs.Types.{Program, Config}
use Rattle.rmt_ast.specs.declared.entry.Entry.{Entry}
use Rattle.rmt_check.specs.Means.{Means}
use Rattle.rmt_config.specs.Spells.{Spells}
use Rattle.rmt_entries.specs.declared.fault.EntryFault.{EntryFault}
use Rattle.rmt_entries.specs.Entries.{entries_of}
use Rattle.rmt_items.specs.declared.fault.ImageFault.{ImageFault}
use Rattle.rmt_items.specs.declared.fault.ImageFault.TheVariants.{NoMemory, Magic, Version, Short, Form, Trailing, Limit}
use Rattle.rmt_image.specs.Reading.{Answers}
use Rattle.rmt_drive.specs.declared.status.Status.{Status}
use Rattle.rmt_drive.specs.declared.status.Status.TheVariants as status
use Rattle.rmt_drive.specs.Ends.{Answered, AreSame, Outside}
use Rattle.rmt_drive.specs.Files.{entries_limit, program_limit}
use Rattle.rmt_drive.specs.Given.{Given}
use Rattle.rmt_core.specs.Making.{AreOfTexts}
use Rattle.rmt_core.specs.Simulating.{Spelled}
use Rattle.rmt_core.specs.ImageFaults.{bad_image_line}
use Rattle.rmt_drive.specs.Telling.{Tells}
use Rattle.rmt_core.specs.Texts.{OfEntries, Understands}
use Rattle.rmt_drive.proofs.EndLaws.{answered_as, no_memory}
use Rattle.rmt_core.proofs.GivenDone.{spelled_is, understood}
use Rattle.rmt_core.proofs.GivenOnce.{OneMeaning}
use Rattle.rmt_core.proofs.TextLaws.{line_answered}

-- what two texts within their limits mean and say
pub said_by : (p : Program) (lists : List (List Entry)) (text entry_text : List ℕ) → Means text (Ok p) → entries_of p entry_text ≡ Ok lists → length text ≤ program_limit
    → length entry_text ≤ entries_limit → AreOfTexts p lists
said_by p lists text entry_text means says short short_entries =
    record { text = text; entry_text = entry_text; means = means; says = says; is_short = short; has_short_entries = short_entries }

-- two texts mean a program and its entries
pub understood_answered : OneMeaning → (before after : Outside) (text entry_text : List ℕ) (next : Program → List (List Entry) → Given → Type 0) (p : Program) (lists : List (List Entry)) (s : Status)
    → Means text (Ok p) → entries_of p entry_text ≡ Ok lists → Answered before after (next p lists) s → Answered before after (Understands before.shelf.files text entry_text next) s
understood_answered one before after text entry_text next p lists s means says h =
    answered_as before after (next p lists) (Understands before.shelf.files text entry_text next) s
    (λ g n. (Ok p, means, subst (λ (r : Result (List (List Entry)) EntryFault). OfEntries before.shelf.files next p g r) (sym says) n))
    (λ g u. understood one before.shelf.files text entry_text next g p lists means says u) h

-- bytes spell the image of a configuration
pub spelled_answered : (before after : Outside) (bytes : List ℕ) (next : Config → Given → Type 0) (c : Config) (s : Status) → Spells bytes c → Answers bytes (Ok c)
    → Answered before after (next c) s → Answered before after (Spelled before.shelf.files bytes next) s
spelled_answered before after bytes next c s spells answers h =
    answered_as before after (next c) (Spelled before.shelf.files bytes next) s (λ g n. (Ok c, answers, n)) (λ g u. spelled_is before.shelf.files bytes next g c spells u) h

abbrev pub refused : ImageFault → Result Config ImageFault
refused fault = Err fault

-- bytes are no image, or there was no memory to read them
pub bad_image_answered : (before after : Outside) (bytes : List ℕ) (next : Config → Given → Type 0) (fault : ImageFault) (s : Status)
    → (refused fault ≢ refused NoMemory → Answers bytes (refused fault)) → (fault ≡ NoMemory → s ≡ status.NoMemory)
    → AreSame after.shelf.files before.shelf.files → Tells before.sink after.sink (bad_image_line fault) status.BadImage s
    → Answered before after (Spelled before.shelf.files bytes next) s
bad_image_answered before after bytes next fault s answers want same t = by fault answers want t
  where
    line : (fault : ImageFault) → Answers bytes (refused fault) → Tells before.sink after.sink (bad_image_line fault) status.BadImage s → Answered before after (Spelled before.shelf.files bytes next) s
    line fault answer t =
        line_answered before after (Spelled before.shelf.files bytes next) status.BadImage s (bad_image_line fault) (refused fault, answer, refl) same (inr (inr (inr (inr (inl refl))))) t

    by : (fault : ImageFault) → (refused fault ≢ refused NoMemory → Answers bytes (refused fault)) → (fault ≡ NoMemory → s ≡ status.NoMemory)
        → Tells before.sink after.sink (bad_image_line fault) status.BadImage s → Answered before after (Spelled before.shelf.files bytes next) s
    by NoMemory answers want t = rw (want refl) (no_memory before after (Spelled before.shelf.files bytes next) same (t.quiet (want refl)))
    by Magic answers want t = line Magic (answers (λ e. cc)) t
    by Version answers want t = line Version (answers (λ e. cc)) t
    by Short answers want t = line Short (answers (λ e. cc)) t
    by Form answers want t = line Form (answers (λ e. cc)) t
    by Trailing answers want t = line Trailing (answers (λ e. cc)) t
    by (Limit hit) answers want t = line (Limit hit) (answers (λ e. cc)) t
