-- What calls leave that first read a program text and an entry text.
use Rattle.std.proofs.Common.{◌≡◌, ◌⊎◌, ℕ, List}
use Rattle.std.specs.Prelude.{IsTrue}
use Rattle.rmt_io.specs.Outside.{ShelfState, SinkState, OnlyRead, ReadingFailed}
use Rattle.rmt_io.proofs.OutsideLaws.{only_printed_refl, tells_later}
use Rattle.rmt_drive.specs.declared.status.Status.{Status}
use Rattle.rmt_drive.specs.declared.status.Status.TheVariants as status
use Rattle.rmt_core.specs.declared.text_files.TextFiles.{TextFiles}
use Rattle.rmt_drive.specs.Ends.{Answered, Outside, ReadsAndPrints, WritesAndPrints, outside}
use Rattle.rmt_drive.specs.Files.{Files, entries_limit, program_limit}
use Rattle.rmt_drive.specs.Given.{Given, Reads}
use Rattle.rmt_core.specs.TextFiles.{AreFound, NoneRead, ReadsTexts, no_entries, no_program}
use Rattle.rmt_core.proofs.CallLaws.{read_behind, unread_unwritten, write_behind}
use Rattle.rmt_drive.proofs.EndLaws.{later, not_read}
use Rattle.rmt_core.proofs.SwitchLaws.{answered_found}

module _ (program entries : List ℕ) (next : Files → List ℕ → List ℕ → Given → Type 0) where
  none_kind : {shelf : ShelfState} {s : Status} → NoneRead shelf program entries s → (s ≡ status.ReadFault) ⊎ (s ≡ status.TooLong) ⊎ (s ≡ status.NoMemory)
  none_kind (no_program w) = w.kind
  none_kind (no_entries t i w) = w.kind

  -- ---- both were read

  module _ (before after : Outside) (mid : ShelfState) (texts : TextFiles) (s : Status) (r : OnlyRead before.shelf mid) (found : AreFound before.shelf program entries texts) where
    abbrev text : List ℕ
    text = texts.program.items

    abbrev entry_text : List ℕ
    entry_text = texts.entries.items

    found_answered : (IsTrue mid.tells → Answered (outside mid before.sink) after (next mid.files text entry_text) s)
        → IsTrue before.shelf.tells → Answered before after (ReadsTexts before.shelf.files program entries (next before.shelf.files)) s
    found_answered h tells =
        answered_found before after program program_limit text (λ t. Reads before.shelf.files entries entries_limit (next before.shelf.files t)) s found.program tells
        (answered_found before after entries entries_limit entry_text (next before.shelf.files text) s found.entries tells
        (later before after mid (λ fs. next fs text entry_text) s r (h (tells_later r tells))))

    pub reads_texts : ReadsAndPrints (outside mid before.sink) after (λ files. next files text entry_text) s
        → ReadsAndPrints before after (λ files. ReadsTexts files program entries (next files)) s
    reads_texts h = read_behind before after mid (λ files. next files text entry_text) (λ files. ReadsTexts files program entries (next files)) s r (found_answered h.answered) h

    pub texts_then : WritesAndPrints (outside mid before.sink) after (λ files. next files text entry_text) s
        → WritesAndPrints before after (λ files. ReadsTexts files program entries (next files)) s
    texts_then h = write_behind before after mid (λ files. next files text entry_text) (λ files. ReadsTexts files program entries (next files)) s r (found_answered h.answered) h

  -- ---- one was not read

  module _ (before : ShelfState) (sink : SinkState) (after : ShelfState) (s : Status) (r : OnlyRead before after) where
    none_answered : NoneRead before program entries s → IsTrue before.tells → Answered (outside before sink) (outside after sink) (ReadsTexts before.files program entries (next before.files)) s
    none_answered (no_program w) tells = not_read before sink after program (λ t. Reads before.files entries entries_limit (next before.files t)) program_limit s r w tells
    none_answered (no_entries t i w) tells =
        answered_found (outside before sink) (outside after sink) program program_limit t (λ b. Reads before.files entries entries_limit (next before.files b)) s i tells
        (not_read before sink after entries (next before.files t) entries_limit s r w tells)

    pub texts_unread : NoneRead before program entries s → (s ≡ status.ReadFault → ReadingFailed before after)
        → ReadsAndPrints (outside before sink) (outside after sink) (λ files. ReadsTexts files program entries (next files)) s
    texts_unread why fault = record {
      answered = none_answered why;
      read_fault = fault;
      write_fault = unread_unwritten s (none_kind why);
      only_read = r;
      only_printed = only_printed_refl sink;
    }
