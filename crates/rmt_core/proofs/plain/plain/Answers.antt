-- The texts are read, the packets' file is opened, the texts are understood, and the program runs; or the call ends at one of these steps.
use Rattle.std.proofs.Common.{List, ℕ, Err, ap, refl, ◌∙◌}
use Rattle.std.specs.Prelude.{string_bytes}
use Rattle.rmt_io.specs.Outside.{ShelfState, HasFile, OnlyRead}
use Rattle.rmt_drive.specs.declared.status.Status.{Status}
use Rattle.rmt_drive.specs.Ends.{Outside, ReadsAndPrints, outside}
use Rattle.rmt_core.specs.declared.text_files.TextFiles.{TextFiles}
use Rattle.rmt_core.specs.TextFiles.{AreFound}
use Rattle.rmt_core.specs.PlainText.{GivesPlain, OfOpen, OfTexts, RunsPlain}
use Rattle.rmt_core.specs.TextFaults.{text_fault_line, text_fault_status}
use Rattle.rmt_core.proofs.CallLaws.{ends_at_once, ends_told, ends_unopened, goes_on_as, opens_then, runs_on}
use Rattle.rmt_core.proofs.GoingOn.{said_by, understood_answered}
use Rattle.rmt_core.proofs.TextFileLaws.{reads_texts, texts_unread}
use Rattle.rmt_core.proofs.TextLaws.{is_fault_of, text_fault_answered, text_fault_unread}
use Rattle.rmt_core.proofs.plain.plain.Goals as goal

-- a call that read the texts and opened the packets' file
opened_then : (before after : Outside) (program entries packets : List ℕ) (read opening : ShelfState) (texts : TextFiles) (s : Status) → OnlyRead before.shelf read → AreFound before.shelf program entries texts
    → OnlyRead read opening → HasFile read packets opening.rest → ReadsAndPrints (outside opening before.sink) after (λ files. OfOpen files texts.program.items texts.entries.items opening.rest) s
    → ReadsAndPrints before after (λ files. GivesPlain files program entries packets) s
opened_then before after program entries packets read opening texts s r found o opened h =
    reads_texts program entries (λ files. OfTexts files packets) before after read texts s r found
    (opens_then (outside read before.sink) after opening packets (λ files. OfOpen files texts.program.items texts.entries.items) s o opened h)

pub begin-requires-clause-said : goal.begin-requires-clause-said
begin-requires-clause-said g c =
    said_by _ _ _ _ (rw c.as_slice.ensures.value at c.in-Ok-understand.ensures.means) (rw c.as_slice-2.ensures.value at c.in-Ok-understand.ensures.says) c.in-Ok.ensures.program c.in-Ok.ensures.entries

pub run_plain-requires-clause-starts : goal.run_plain-requires-clause-starts
run_plain-requires-clause-starts g c = (c.in-Ok-understand.meant.program, c.in-Ok-understand.meant.entries, c.in-Ok-begin.ensures (g.O.Sink.state c.args.out.now))

pub returns-in-Err-clause-call : goal.returns-in-Err-clause-call
returns-in-Err-clause-call g c =
    texts_unread (string_bytes c.args.program.now) (string_bytes c.args.entries.now) (λ files. OfTexts files (string_bytes c.args.packets.now))
    (g.F.Shelf.state c.args.shelf.now) (g.O.Sink.state c.args.out.now) (g.F.Shelf.state c.read_texts.new.shelf) c.in-Err.status c.read_texts.ensures.only_read c.in-Err.ensures.refused
    (λ e. c.read_texts.ensures.fault (c.in-Err.is ∙ ap Err e))

pub returns-in-Err-open_file-clause-call : goal.returns-in-Err-open_file-clause-call
returns-in-Err-open_file-clause-call g c =
    let out = g.O.Sink.state c.args.out.now in
    let texts = c.in-Ok.texts in
    reads_texts (string_bytes c.args.program.now) (string_bytes c.args.entries.now) (λ files. OfTexts files (string_bytes c.args.packets.now))
    (outside (g.F.Shelf.state c.args.shelf.now) out) (outside (g.F.Shelf.state c.open_file.new.shelf) out) (g.F.Shelf.state c.read_texts.new.shelf) texts c.in-Err-open_file.status
    c.read_texts.ensures.only_read c.in-Ok.ensures.found
    (ends_unopened _ _ _ (string_bytes c.args.packets.now) (λ files. OfOpen files texts.program.items texts.entries.items) c.in-Err-open_file.status c.open_file.ensures.only_read c.in-Err-open_file.ensures.refused
    (λ e. c.open_file.ensures.fault (c.in-Err-open_file.is ∙ ap Err e)))

pub returns-in-Err-understand-clause-call : goal.returns-in-Err-understand-clause-call
returns-in-Err-understand-clause-call g c =
    let texts = c.in-Ok.texts in
    let opening = g.F.Shelf.state c.open_file.new.shelf in
    let fault = c.in-Err-understand.fault in
    opened_then (outside (g.F.Shelf.state c.args.shelf.now) (g.O.Sink.state c.args.out.now)) (outside opening (g.O.Sink.state c.tell_text_fault.new.out)) (string_bytes c.args.program.now) (string_bytes c.args.entries.now) (string_bytes c.args.packets.now)
    (g.F.Shelf.state c.read_texts.new.shelf) opening texts c.tell_text_fault.result c.read_texts.ensures.only_read c.in-Ok.ensures.found c.open_file.ensures.only_read c.in-Ok-open_file.ensures.opened
    (ends_told opening _ _ (λ files. OfOpen files texts.program.items texts.entries.items opening.rest) (text_fault_status fault) c.tell_text_fault.result (text_fault_line fault)
    (text_fault_unread fault) c.tell_text_fault.ensures.line c.tell_text_fault.ensures.only_printed
    (text_fault_answered _ _ texts.program.items texts.entries.items (RunsPlain opening.files opening.rest) fault c.tell_text_fault.result
    (rw (c.as_slice.ensures.value, c.as_slice-2.ensures.value) at (is_fault_of c.as_slice.result.now c.as_slice-2.result.now c.understand.result fault c.in-Err-understand.is c.understand.ensures.bad_program c.understand.ensures.bad_entries))
    (λ _. refl) c.tell_text_fault.ensures.line))

pub returns-in-Ok-begin-clause-call : goal.returns-in-Ok-begin-clause-call
returns-in-Ok-begin-clause-call g c =
    let texts = c.in-Ok.texts in
    let opening = g.F.Shelf.state c.open_file.new.shelf in
    let middle = outside opening (g.O.Sink.state c.args.out.now) in
    let after = outside (g.F.Shelf.state c.run_plain.new.shelf) (g.O.Sink.state c.run_plain.new.out) in
    let meant = c.in-Ok-understand.meant in
    opened_then (outside (g.F.Shelf.state c.args.shelf.now) (g.O.Sink.state c.args.out.now)) after (string_bytes c.args.program.now) (string_bytes c.args.entries.now) (string_bytes c.args.packets.now)
    (g.F.Shelf.state c.read_texts.new.shelf) opening texts c.run_plain.result c.read_texts.ensures.only_read c.in-Ok.ensures.found c.open_file.ensures.only_read c.in-Ok-open_file.ensures.opened
    (goes_on_as middle after (λ files. RunsPlain files opening.rest meant.program meant.entries) (λ files. OfOpen files texts.program.items texts.entries.items opening.rest) c.run_plain.result
    (λ answered. understood_answered c.one_meaning.ensures.alone middle after texts.program.items texts.entries.items (RunsPlain opening.files opening.rest) meant.program meant.entries c.run_plain.result
    (rw c.as_slice.ensures.value at c.in-Ok-understand.ensures.means) (rw c.as_slice-2.ensures.value at c.in-Ok-understand.ensures.says) answered)
    (runs_on c.run_plain.ensures.befalls (λ tells. c.run_plain.ensures.answered tells meant.program meant.entries (c.in-Ok-begin.ensures (g.O.Sink.state c.args.out.now)))))

pub returns-clause-call : goal.returns-clause-call
returns-clause-call g c =
    let texts = c.in-Ok.texts in
    let opening = g.F.Shelf.state c.open_file.new.shelf in
    let middle = outside opening (g.O.Sink.state c.args.out.now) in
    opened_then (outside (g.F.Shelf.state c.args.shelf.now) (g.O.Sink.state c.args.out.now)) middle (string_bytes c.args.program.now) (string_bytes c.args.entries.now) (string_bytes c.args.packets.now)
    (g.F.Shelf.state c.read_texts.new.shelf) opening texts _ c.read_texts.ensures.only_read c.in-Ok.ensures.found c.open_file.ensures.only_read c.in-Ok-open_file.ensures.opened
    (ends_at_once middle (λ files. OfOpen files texts.program.items texts.entries.items opening.rest))
