-- The texts are read, understood and made, and what is made is delivered; or the call ends at one of these steps.
use Rattle.std.proofs.Common.{◌≡◌, List, ℕ, Option, Some, None, Ok, Err, Vec, ap, ◌∙◌, inr, inl, refl, string_bytes, subst, sym}
use Rattle.std.specs.Prelude.{is_some, option_copied, option_map}
use Rattle.std.specs.Global.{Global}
use Rattle.rmt_ast.specs.declared.entry.Entry.{Entry}
use Rattle.rmt_check.specs.Means.{Means}
use Rattle.rmt_entries.specs.Entries.{entries_of}
use Rattle.rmt_core.specs.Types.{Program}
use Rattle.rmt_core.specs.declared.placer.Placer.{Placer}
use Rattle.rmt_drive.specs.declared.status.Status.{Status}
use Rattle.rmt_drive.specs.declared.status.Status.TheVariants.{NoFit}
use Rattle.rmt_core.specs.Compiling.{Compiles, written}
use Rattle.rmt_drive.specs.Ends.{Outside, WritesAndPrints, outside}
use Rattle.rmt_drive.specs.Files.{Files}
use Rattle.rmt_drive.specs.Given.{Given, told}
use Rattle.rmt_core.specs.Making.{bytes_of, image_and}
use Rattle.rmt_core.specs.MapFiles.{Wanted}
use Rattle.rmt_core.specs.TextFaults.{text_fault_line, text_fault_status}
use Rattle.rmt_core.specs.Texts.{Understands}
use Rattle.rmt_core.specs.WantedNames.{names_of}
use Rattle.rmt_core.proofs.CallLaws.{ends_at_once, ends_told, told_quiet, writes_as, writes_none}
use Rattle.rmt_core.proofs.DeliverLaws.{delivers}
use Rattle.rmt_core.proofs.GivenOnce.{OneMeaning}
use Rattle.rmt_core.proofs.GoingOn.{said_by, understood_answered}
use Rattle.rmt_core.proofs.TextFileLaws.{texts_then, texts_unread}
use Rattle.rmt_core.proofs.TextLaws.{is_fault_of, line_answered, printed_tells, text_fault_answered, text_fault_short, text_fault_unread}
use Rattle.rmt_core.proofs.compiling.compile.Goals as goal

-- what follows the reading of both texts
abbrev next : Placer → Wanted → Files → List ℕ → List ℕ → Given → Type 0
next placer wanted files text entry_text = Understands files text entry_text (Compiles placer files wanted)

-- a call that goes on with what they mean
meant_then : OneMeaning → (before after : Outside) (placer : Placer) (wanted : Wanted) (text entry_text : List ℕ) (p : Program) (lists : List (List Entry)) (s : Status) → Means text (Ok p)
    → entries_of p entry_text ≡ Ok lists → WritesAndPrints before after (λ files. Compiles placer files wanted p lists) s
    → WritesAndPrints before after (λ files. next placer wanted files text entry_text) s
meant_then one before after placer wanted text entry_text p lists s means says =
    writes_as before after (λ files. Compiles placer files wanted p lists) (λ files. next placer wanted files text entry_text) s
    (λ answered. understood_answered one before after text entry_text (Compiles placer before.shelf.files wanted) p lists s means says answered)

-- a name is there where it is read
is_wanted : {A B : Type 0} (f : A → B) (o : Option A) → is_some (option_map f o) ≡ is_some o
is_wanted f None = refl
is_wanted f (Some x) = refl

pub make-requires-clause-said : goal.make-requires-clause-said
make-requires-clause-said g c =
    said_by _ _ _ _ (rw c.as_slice.ensures.value at c.in-Ok-understand.ensures.means) (rw c.as_slice-2.ensures.value at c.in-Ok-understand.ensures.says) c.in-Ok.ensures.program c.in-Ok.ensures.entries

pub returns-in-Err-clause-call : goal.returns-in-Err-clause-call
returns-in-Err-clause-call g c =
    writes_none _ _ _ _
    (texts_unread (string_bytes c.args.program.now) (string_bytes c.args.entries.now) (next c.args.placer (names_of c.args.wanted))
    (g.F.Shelf.state c.args.shelf.now) (g.O.Sink.state c.args.out.now) (g.F.Shelf.state c.read_texts.new.shelf) c.in-Err.status c.read_texts.ensures.only_read c.in-Err.ensures.refused
    (λ e. c.read_texts.ensures.fault (c.in-Err.is ∙ ap Err e)))
    (λ _ _. refl)

pub returns-in-Err-understand-clause-call : goal.returns-in-Err-understand-clause-call
returns-in-Err-understand-clause-call g c =
    let before = outside (g.F.Shelf.state c.args.shelf.now) (g.O.Sink.state c.args.out.now) in
    let shelf = g.F.Shelf.state c.read_texts.new.shelf in
    let out = g.O.Sink.state c.tell_text_fault.new.out in
    let wanted = names_of c.args.wanted in
    let texts = c.in-Ok.texts in
    let fault = c.in-Err-understand.fault in
    let line = c.tell_text_fault.ensures.line in
    texts_then (string_bytes c.args.program.now) (string_bytes c.args.entries.now) (next c.args.placer wanted) before (outside shelf out) shelf texts c.tell_text_fault.result
    c.read_texts.ensures.only_read c.in-Ok.ensures.found
    (writes_none _ _ _ _
    (ends_told shelf _ _ (λ files. next c.args.placer wanted files texts.program.items texts.entries.items) (text_fault_status fault) c.tell_text_fault.result (text_fault_line fault)
    (text_fault_unread fault) line c.tell_text_fault.ensures.only_printed
    (text_fault_answered _ _ texts.program.items texts.entries.items (Compiles c.args.placer shelf.files wanted) fault c.tell_text_fault.result
    (rw (c.as_slice.ensures.value, c.as_slice-2.ensures.value) at (is_fault_of c.as_slice.result.now c.as_slice-2.result.now c.understand.result fault c.in-Err-understand.is c.understand.ensures.bad_program c.understand.ensures.bad_entries))
    (λ _. refl) line))
    (told_quiet (text_fault_status fault) c.tell_text_fault.result (text_fault_unread fault) (text_fault_short fault) line.quiet line.kind))

pub returns-in-Ok-make-clause-call : goal.returns-in-Ok-make-clause-call
returns-in-Ok-make-clause-call g c =
    let before = outside (g.F.Shelf.state c.args.shelf.now) (g.O.Sink.state c.args.out.now) in
    let shelf = g.F.Shelf.state c.read_texts.new.shelf in
    let mid = outside shelf (g.O.Sink.state c.args.out.now) in
    let after = outside (g.F.Shelf.state c.deliver_made.new.shelf) (g.O.Sink.state c.deliver_made.new.out) in
    let wanted = names_of c.args.wanted in
    let texts = c.in-Ok.texts in
    let meant = c.in-Ok-understand.meant in
    let made = c.in-Ok-make.made in
    texts_then (string_bytes c.args.program.now) (string_bytes c.args.entries.now) (next c.args.placer wanted) before after shelf texts c.deliver_made.result
    c.read_texts.ensures.only_read c.in-Ok.ensures.found
    (meant_then c.one_meaning.ensures.alone mid after c.args.placer wanted texts.program.items texts.entries.items meant.program meant.entries c.deliver_made.result
    (rw c.as_slice.ensures.value at c.in-Ok-understand.ensures.means) (rw c.as_slice-2.ensures.value at c.in-Ok-understand.ensures.says)
    (delivers mid after (λ files. Compiles c.args.placer files wanted meant.program meant.entries) (image_and wanted made.image.items (bytes_of made.map)) made.lines c.deliver_made.result
    (c.in-Ok-make.ensures.made shelf.files wanted (is_wanted string_bytes (option_copied c.args.wanted.map) ∙ (is_wanted _ c.args.wanted.map ∙ sym c.is_some-has_map.ensures)))
    c.deliver_made.ensures.kind c.deliver_made.ensures.call))

pub returns-in-Err-NoMemory-clause-call : goal.returns-in-Err-NoMemory-clause-call
returns-in-Err-NoMemory-clause-call g c =
    let before = outside (g.F.Shelf.state c.args.shelf.now) (g.O.Sink.state c.args.out.now) in
    let shelf = g.F.Shelf.state c.read_texts.new.shelf in
    let mid = outside shelf (g.O.Sink.state c.args.out.now) in
    let wanted = names_of c.args.wanted in
    let texts = c.in-Ok.texts in
    texts_then (string_bytes c.args.program.now) (string_bytes c.args.entries.now) (next c.args.placer wanted) before mid shelf texts _
    c.read_texts.ensures.only_read c.in-Ok.ensures.found
    (writes_none _ _ _ _ (ends_at_once mid (λ files. next c.args.placer wanted files texts.program.items texts.entries.items)) (λ _ _. refl))

pub returns-clause-call : goal.returns-clause-call
returns-clause-call g c =
    let before = outside (g.F.Shelf.state c.args.shelf.now) (g.O.Sink.state c.args.out.now) in
    let shelf = g.F.Shelf.state c.read_texts.new.shelf in
    let mid = outside shelf (g.O.Sink.state c.args.out.now) in
    let after = outside shelf (g.O.Sink.state c.end_with.new.out) in
    let wanted = names_of c.args.wanted in
    let texts = c.in-Ok.texts in
    let p = c.in-Ok-understand.meant.program in
    let lists = c.in-Ok-understand.meant.entries in
    let gives : Given → Type 0 = Compiles c.args.placer shelf.files wanted p lists in
    let line_why = c.make.ensures.refused c.in-Err-NoFit.line (c.in-Err-NoFit.is ∙ ap Err c.in-Err-NoFit.field-0-is) shelf.files (written shelf.files wanted p) in
    let why = subst (λ (line : List ℕ). gives (told shelf.files NoFit line)) (ap (λ (line : Vec ℕ Global). line.items) (sym c.in-Err-NoFit.line-is) ∙ sym c.as_slice-in-Err-NoFit.ensures.value) line_why in
    let e = c.end_with.ensures in
    let line = printed_tells {before = g.O.Sink.state c.args.out.now} {after = g.O.Sink.state c.end_with.new.out} {line = c.as_slice-in-Err-NoFit.result.now} {wanted = NoFit} {result = c.end_with.result}
    (λ m. cc) e.status e.printed e.front e.failed e.some in
    texts_then (string_bytes c.args.program.now) (string_bytes c.args.entries.now) (next c.args.placer wanted) before after shelf texts c.end_with.result
    c.read_texts.ensures.only_read c.in-Ok.ensures.found
    (meant_then c.one_meaning.ensures.alone mid after c.args.placer wanted texts.program.items texts.entries.items p lists c.end_with.result
    (rw c.as_slice.ensures.value at c.in-Ok-understand.ensures.means) (rw c.as_slice-2.ensures.value at c.in-Ok-understand.ensures.says)
    (writes_none _ _ _ _
    (ends_told shelf _ _ (λ files. Compiles c.args.placer files wanted p lists) NoFit c.end_with.result c.as_slice-in-Err-NoFit.result.now (λ m. cc) line e.only_printed
    (line_answered _ _ gives NoFit c.end_with.result c.as_slice-in-Err-NoFit.result.now why (λ _. refl) (inr (inr (inr (inl refl)))) line))
    (told_quiet NoFit c.end_with.result (λ m. cc) (λ m. cc) line.quiet line.kind)))
