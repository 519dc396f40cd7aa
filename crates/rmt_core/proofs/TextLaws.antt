-- A last line for two texts that mean no program with entries is what a command gives that understands them.
use Rattle.std.proofs.Common.{◌≡◌, ◌≢◌, ◌⊎◌, inl, inr, ⊎_elim, ℕ, List, [], Result, Ok, Err, refl, sym, subst, ◌∙◌}
use Rattle.std.specs.Prelude.{⊤}
use Rattle.rmt_io.specs.Outside.{SinkState, Gained, PrintingFailed}
use Rattle.rmt_core.specs.Types.{Program}
use Rattle.rmt_ast.specs.declared.entry.Entry.{Entry}
use Rattle.rmt_check.specs.Means.{Means, fault_at}
use Rattle.rmt_entries.specs.Entries.{entries_of}
use Rattle.rmt_entries.specs.declared.fault.EntryFault.{EntryFault}
use Rattle.rmt_entries.specs.declared.fault.EntryFault.TheVariants.{At}
use Rattle.rmt_drive.specs.declared.status.Status.{Status}
use Rattle.rmt_drive.specs.declared.status.Status.TheVariants as status
use Rattle.rmt_core.specs.declared.texts.Meant.{Meant}
use Rattle.rmt_core.specs.declared.texts.TextFault.{TextFault}
use Rattle.rmt_core.specs.declared.texts.TextFault.TheVariants.{NoMemory, BadProgram, BadEntries}
use Rattle.rmt_drive.specs.Given.{Given, told}
use Rattle.rmt_drive.specs.Ends.{Answered, AreSame, Outside, PrintsAll}
use Rattle.rmt_runs.specs.Printing.{GainedFront}
use Rattle.rmt_drive.specs.Telling.{Tells}
use Rattle.rmt_core.specs.Texts.{OfEntries, Understands, bad_entries_line, bad_program_line}
use Rattle.rmt_core.specs.TextFaults.{text_fault_line, text_fault_status}
use Rattle.rmt_drive.proofs.EndLaws.{no_memory, told_answered}

-- a call that told a line with a status, or had no memory for it, and wrote no file
pub line_answered : (before after : Outside) (gives : Given → Type 0) (wanted result : Status) (line : List ℕ) → gives (told before.shelf.files wanted line)
    → AreSame after.shelf.files before.shelf.files → PrintsAll wanted → Tells before.sink after.sink line wanted result → Answered before after gives result
line_answered before after gives wanted result line is same all t =
    ⊎_elim (λ e. printed (inl e))
    (λ rest. ⊎_elim (λ e. printed (inr e)) (λ e. rw e (no_memory before after gives same (t.quiet e))) rest) t.kind
  where
    printed : (result ≡ wanted) ⊎ (result ≡ status.WriteFault) → Answered before after gives result
    printed how = told_answered before after gives wanted result line is same all t.some how t.whole t.front t.failed

-- a call that printed a line with a status told it
pub printed_tells : {before after : SinkState} {line : List ℕ} {wanted result : Status} → wanted ≢ status.NoMemory → (result ≡ wanted) ⊎ (result ≡ status.WriteFault)
    → (result ≡ wanted → Gained before after line) → GainedFront before after line → (result ≡ status.WriteFault → PrintingFailed before after) → (result ≡ status.WriteFault → line ≢ [])
    → Tells before after line wanted result
printed_tells {wanted = wanted} {result = result} other how whole front failed some = record {
  kind = ⊎_elim (λ e. inl e) (λ e. inr (inl e)) how;
  whole = whole;
  front = front;
  quiet = λ m. never result m how;
  failed = failed;
  some = some;
}
  where
    never : {P : Type 0} (r : Status) → r ≡ status.NoMemory → (r ≡ wanted) ⊎ (r ≡ status.WriteFault) → P
    never r m (inl e) = absurd (other (sym e ∙ m))
    never r m (inr e) = absurd (cc)

-- what a fault of two texts says of them
abbrev pub IsFaultOf : List ℕ → List ℕ → TextFault → Type 0
IsFaultOf text entry_text NoMemory = ⊤
IsFaultOf text entry_text (BadProgram code line column) = Means text (fault_at code line column)
IsFaultOf text entry_text (BadEntries code line) = (p : Program) × Means text (Ok p) × (entries_of p entry_text ≡ Err (At code line))

pub is_fault_of : (text entry_text : List ℕ) (r : Result Meant TextFault) (fault : TextFault) → r ≡ Err fault
    → ((code line column : ℕ) → r ≡ Err (BadProgram code line column) → Means text (fault_at code line column))
    → ((code line : ℕ) → r ≡ Err (BadEntries code line) → (p : Program) × Means text (Ok p) × (entries_of p entry_text ≡ Err (At code line)))
    → IsFaultOf text entry_text fault
is_fault_of text entry_text r NoMemory is program entries = tt
is_fault_of text entry_text r (BadProgram code line column) is program entries = program code line column is
is_fault_of text entry_text r (BadEntries code line) is program entries = entries code line is

-- its status is no fault of reading
pub text_fault_unread : (fault : TextFault) → text_fault_status fault ≢ status.ReadFault
text_fault_unread NoMemory e = cc
text_fault_unread (BadProgram code line column) e = cc
text_fault_unread (BadEntries code line) e = cc

-- nor that of a file that is too long
pub text_fault_short : (fault : TextFault) → text_fault_status fault ≢ status.TooLong
text_fault_short NoMemory e = cc
text_fault_short (BadProgram code line column) e = cc
text_fault_short (BadEntries code line) e = cc

-- a call that told a fault of two texts
pub text_fault_answered : (before after : Outside) (text entry_text : List ℕ) (next : Program → List (List Entry) → Given → Type 0) (fault : TextFault) (result : Status)
    → IsFaultOf text entry_text fault → AreSame after.shelf.files before.shelf.files
    → Tells before.sink after.sink (text_fault_line fault) (text_fault_status fault) result
    → Answered before after (Understands before.shelf.files text entry_text next) result
text_fault_answered before after text entry_text next fault result is same t = by fault is t
  where
    by : (fault : TextFault) → IsFaultOf text entry_text fault → Tells before.sink after.sink (text_fault_line fault) (text_fault_status fault) result → Answered before after (Understands before.shelf.files text entry_text next) result
    by NoMemory is t =
        ⊎_elim (λ e. rw e (no_memory before after (Understands before.shelf.files text entry_text next) same (t.quiet e)))
        (λ rest. ⊎_elim (λ e. absurd (t.some e refl)) (λ e. rw e (no_memory before after (Understands before.shelf.files text entry_text next) same (t.quiet e))) rest) t.kind
    by (BadProgram code line column) is t =
        line_answered before after (Understands before.shelf.files text entry_text next) status.BadProgram result (bad_program_line code line column) (fault_at code line column, is, refl) same (inr (inl refl)) t
    by (BadEntries code line) is t =
        line_answered before after (Understands before.shelf.files text entry_text next) status.BadEntries result (bad_entries_line code line)
        (Ok is.0, is.1, subst (λ (r : Result (List (List Entry)) EntryFault). OfEntries before.shelf.files next is.0 (told before.shelf.files status.BadEntries (bad_entries_line code line)) r) (sym is.2) refl)
        same (inr (inr (inl refl))) t

-- what was told with a status, by another name of it
pub tells_as : {before after : SinkState} {line : List ℕ} {wanted other result : Status} → other ≡ wanted → Tells before after line wanted result → Tells before after line other result
tells_as {before} {after} {line} {wanted} {other} {result} e t = subst (λ s. Tells before after line s result) (sym e) t
