-- The texts are understood, the image and the map are read, and the answer is told; or the call ends at one of these steps.
use Rattle.std.proofs.Common.{◌≡◌, ◌⊎◌, [], ℕ, Vec, Ok, Err, inl, inr, refl, ap, ◌∙◌}
use Rattle.std.specs.Global.{Global}
use Rattle.rmt_check.specs.Means.{Means}
use Rattle.rmt_config.specs.Spells.{Spells}
use Rattle.rmt_entries.specs.Entries.{entries_of}
use Rattle.rmt_image.specs.Reading.{Answers}
use Rattle.rmt_verify.specs.Spells.{Spells as SpellsMap}
use Rattle.rmt_verify.specs.declared.map_file.MapFile.{MapFile}
use Rattle.rmt_core.specs.Types.{Config}
use Rattle.rmt_core.specs.declared.text_files.TextFiles.{TextFiles}
use Rattle.rmt_core.specs.declared.texts.Meant.{Meant}
use Rattle.rmt_drive.specs.declared.status.Status.{Status}
use Rattle.rmt_drive.specs.declared.status.Status.TheVariants.{BadImage, Done, NoMemory, WriteFault}
use Rattle.rmt_core.specs.Commands.{IsPossible, Verify}
use Rattle.rmt_drive.specs.Ends.{Outside, ReadsAndPrints}
use Rattle.rmt_core.specs.ImageFaults.{bad_image_line}
use Rattle.rmt_core.specs.TextFaults.{text_fault_line, text_fault_status}
use Rattle.rmt_core.specs.Verifying.{Checks, ChecksBytes, ChecksTexts, HasMap, answer_line, bad_map_line}
use Rattle.rmt_core.proofs.CallLaws.{ends_at_once, ends_told, goes_on_as, told_quiet}
use Rattle.rmt_core.proofs.GivenOnce.{OneMap, OneMeaning}
use Rattle.rmt_core.proofs.GoingOn.{bad_image_answered, spelled_answered, understood_answered}
use Rattle.rmt_core.proofs.TextLaws.{is_fault_of, line_answered, text_fault_answered, text_fault_short, text_fault_unread}
use Rattle.rmt_core.proofs.VerifyLaws.{map_answered, no_map}
use Rattle.rmt_core.proofs.verifying.verify_bytes.Goals as goal

bad_possible : (s : Status) → (s ≡ BadImage) ⊎ (s ≡ WriteFault) ⊎ (s ≡ NoMemory) → IsPossible (Verify [] [] [] []) s
bad_possible s (inl e) = inl (inr (inr (inr (inl e))))
bad_possible s (inr (inl e)) = inr (inr (inr e))
bad_possible s (inr (inr e)) = inr (inl e)

done_possible : (s : Status) → (s ≡ Done) ⊎ (s ≡ WriteFault) ⊎ (s ≡ NoMemory) → IsPossible (Verify [] [] [] []) s
done_possible s (inl e) = inl (inl e)
done_possible s (inr (inl e)) = inr (inr (inr e))
done_possible s (inr (inr e)) = inr (inl e)

-- a call that goes on with what the texts mean, with the configuration of the image, and with the map
module _ (before after : Outside) (texts : TextFiles) (image map : Vec ℕ Global) (s : Status) (meant : Meant) where
  meant_then : OneMeaning → Means texts.program.items (Ok meant.program) → entries_of meant.program texts.entries.items ≡ Ok meant.entries
      → ReadsAndPrints before after (λ files. ChecksBytes files image.items map.items meant.program meant.entries) s
      → ReadsAndPrints before after (λ files. ChecksTexts files texts.program.items texts.entries.items image.items map.items) s
  meant_then one means says =
      goes_on_as before after (λ files. ChecksBytes files image.items map.items meant.program meant.entries) (λ files. ChecksTexts files texts.program.items texts.entries.items image.items map.items) s
      (λ answered. understood_answered one before after texts.program.items texts.entries.items (ChecksBytes before.shelf.files image.items map.items) meant.program meant.entries s means says answered)

  spelled_then : (k : Config) → Spells image.items k → Answers image.items (Ok k)
      → ReadsAndPrints before after (λ files. HasMap files map.items (Checks files meant.program meant.entries k)) s
      → ReadsAndPrints before after (λ files. ChecksBytes files image.items map.items meant.program meant.entries) s
  spelled_then k spells answers =
      goes_on_as before after (λ files. HasMap files map.items (Checks files meant.program meant.entries k)) (λ files. ChecksBytes files image.items map.items meant.program meant.entries) s
      (λ answered. spelled_answered before after image.items (λ x. HasMap before.shelf.files map.items (Checks before.shelf.files meant.program meant.entries x)) k s spells answers answered)

  mapped_then : OneMap → (k : Config) (m : MapFile) → SpellsMap map.items m → ReadsAndPrints before after (λ files. Checks files meant.program meant.entries k m) s
      → ReadsAndPrints before after (λ files. HasMap files map.items (Checks files meant.program meant.entries k)) s
  mapped_then one k m spells =
      goes_on_as before after (λ files. Checks files meant.program meant.entries k m) (λ files. HasMap files map.items (Checks files meant.program meant.entries k)) s
      (λ answered. map_answered one before after map.items (Checks before.shelf.files meant.program meant.entries k) m s spells answered)

-- ---- the texts mean nothing

pub returns-in-Err-clause-call : goal.returns-in-Err-clause-call
returns-in-Err-clause-call g c = λ shelf.
    let texts = c.args.texts.now in
    let image = c.args.image_bytes.now.items in
    let map = c.args.map_bytes.now.items in
    let fault = c.in-Err.fault in
    ends_told shelf _ _ (λ files. ChecksTexts files texts.program.items texts.entries.items image map) (text_fault_status fault) c.tell_text_fault.result (text_fault_line fault)
    (text_fault_unread fault) c.tell_text_fault.ensures.line c.tell_text_fault.ensures.only_printed
    (text_fault_answered _ _ texts.program.items texts.entries.items (ChecksBytes shelf.files image map) fault c.tell_text_fault.result
    (rw (c.as_slice.ensures.value, c.as_slice-2.ensures.value) at (is_fault_of c.as_slice.result.now c.as_slice-2.result.now c.understand.result fault c.in-Err.is c.understand.ensures.bad_program c.understand.ensures.bad_entries))
    (λ _. refl) c.tell_text_fault.ensures.line)

pub returns-in-Err-clause-quiet : goal.returns-in-Err-clause-quiet
returns-in-Err-clause-quiet g c =
    let fault = c.in-Err.fault in
    let line = c.tell_text_fault.ensures.line in
    told_quiet (text_fault_status fault) c.tell_text_fault.result (text_fault_unread fault) (text_fault_short fault) line.quiet line.kind

-- ---- the bytes are no image

pub returns-in-Err-read_image-clause-call : goal.returns-in-Err-read_image-clause-call
returns-in-Err-read_image-clause-call g c = λ shelf.
    let meant = c.in-Ok.meant in
    let fault = c.in-Err-read_image.fault in
    meant_then _ _ c.args.texts.now c.args.image_bytes.now c.args.map_bytes.now c.tell_bad_image.result meant c.one_meaning.ensures.alone
    (rw c.as_slice.ensures.value at c.in-Ok.ensures.means) (rw c.as_slice-2.ensures.value at c.in-Ok.ensures.says)
    (ends_told shelf _ _ (λ files. ChecksBytes files c.args.image_bytes.now.items c.args.map_bytes.now.items meant.program meant.entries) BadImage c.tell_bad_image.result (bad_image_line fault) (λ e. cc)
    c.tell_bad_image.ensures.line c.tell_bad_image.ensures.only_printed
    (bad_image_answered _ _ c.args.image_bytes.now.items (λ k. HasMap shelf.files c.args.map_bytes.now.items (Checks shelf.files meant.program meant.entries k)) fault c.tell_bad_image.result
    (rw c.as_slice-3.ensures.value at c.in-Err-read_image.ensures.exact) c.tell_bad_image.ensures.no_memory (λ _. refl) c.tell_bad_image.ensures.line))

pub returns-in-Err-read_image-clause-quiet : goal.returns-in-Err-read_image-clause-quiet
returns-in-Err-read_image-clause-quiet g c =
    let line = c.tell_bad_image.ensures.line in
    told_quiet BadImage c.tell_bad_image.result (λ e. cc) (λ e. cc) line.quiet line.kind

-- ---- the bytes are no map

pub returns-in-Err-NoMemory-clause-call : goal.returns-in-Err-NoMemory-clause-call
returns-in-Err-NoMemory-clause-call g c = λ shelf. ends_at_once _ _

pub returns-in-Err-Form-clause-possible : goal.returns-in-Err-Form-clause-possible
returns-in-Err-Form-clause-possible g c = bad_possible c.tell_bad_map.result c.tell_bad_map.ensures.line.kind

pub returns-in-Err-Form-clause-call : goal.returns-in-Err-Form-clause-call
returns-in-Err-Form-clause-call g c = λ shelf.
    let meant = c.in-Ok.meant in
    let k = c.in-Ok-read_image.config in
    let line = c.tell_bad_map.ensures.line in
    meant_then _ _ c.args.texts.now c.args.image_bytes.now c.args.map_bytes.now c.tell_bad_map.result meant c.one_meaning.ensures.alone
    (rw c.as_slice.ensures.value at c.in-Ok.ensures.means) (rw c.as_slice-2.ensures.value at c.in-Ok.ensures.says)
    (spelled_then _ _ c.args.texts.now c.args.image_bytes.now c.args.map_bytes.now c.tell_bad_map.result meant k
    (rw c.as_slice-3.ensures.value at c.in-Ok-read_image.ensures.found) (rw c.as_slice-3.ensures.value at (c.in-Ok-read_image.ensures.exact (λ e. cc)))
    (ends_told shelf _ _ (λ files. HasMap files c.args.map_bytes.now.items (Checks files meant.program meant.entries k)) BadImage c.tell_bad_map.result bad_map_line (λ e. cc) line c.tell_bad_map.ensures.only_printed
    (line_answered _ _ (HasMap shelf.files c.args.map_bytes.now.items (Checks shelf.files meant.program meant.entries k)) BadImage c.tell_bad_map.result bad_map_line
    (inr (rw c.as_slice-4.ensures.value at (no_map c.as_slice-4.result.now c.read_map.result (c.in-Err-Form.is ∙ ap Err c.in-Err-Form.field-0-is) c.read_map.ensures.only), refl)) (λ _. refl) (inr (inr (inr (inr (inl refl))))) line)))

pub returns-in-Err-Form-clause-quiet : goal.returns-in-Err-Form-clause-quiet
returns-in-Err-Form-clause-quiet g c =
    let line = c.tell_bad_map.ensures.line in
    told_quiet BadImage c.tell_bad_map.result (λ e. cc) (λ e. cc) line.quiet line.kind

-- ---- the answer

pub returns-in-Ok-check_map-clause-possible : goal.returns-in-Ok-check_map-clause-possible
returns-in-Ok-check_map-clause-possible g c = done_possible c.tell.result (c.tell.ensures.line (answer_line c.in-Ok-check_map.failing) c.answer_text.ensures).kind

pub returns-in-Ok-check_map-clause-call : goal.returns-in-Ok-check_map-clause-call
returns-in-Ok-check_map-clause-call g c = λ shelf.
    let meant = c.in-Ok.meant in
    let k = c.in-Ok-read_image.config in
    let m = c.in-Ok-read_map.map in
    let failing = c.in-Ok-check_map.failing in
    let line = c.tell.ensures.line (answer_line failing) c.answer_text.ensures in
    meant_then _ _ c.args.texts.now c.args.image_bytes.now c.args.map_bytes.now c.tell.result meant c.one_meaning.ensures.alone
    (rw c.as_slice.ensures.value at c.in-Ok.ensures.means) (rw c.as_slice-2.ensures.value at c.in-Ok.ensures.says)
    (spelled_then _ _ c.args.texts.now c.args.image_bytes.now c.args.map_bytes.now c.tell.result meant k
    (rw c.as_slice-3.ensures.value at c.in-Ok-read_image.ensures.found) (rw c.as_slice-3.ensures.value at (c.in-Ok-read_image.ensures.exact (λ e. cc)))
    (mapped_then _ _ c.args.texts.now c.args.image_bytes.now c.args.map_bytes.now c.tell.result meant c.spells_one.ensures k m (rw c.as_slice-4.ensures.value at c.in-Ok-read_map.ensures.found)
    (ends_told shelf _ _ (λ files. Checks files meant.program meant.entries k m) Done c.tell.result (answer_line failing) (λ e. cc) line c.tell.ensures.only_printed
    (line_answered _ _ (Checks shelf.files meant.program meant.entries k m) Done c.tell.result (answer_line failing) (failing, c.in-Ok-check_map.ensures.exact, refl) (λ _. refl) (inl refl) line))))

pub returns-in-Ok-check_map-clause-quiet : goal.returns-in-Ok-check_map-clause-quiet
returns-in-Ok-check_map-clause-quiet g c =
    let line = c.tell.ensures.line (answer_line c.in-Ok-check_map.failing) c.answer_text.ensures in
    told_quiet Done c.tell.result (λ e. cc) (λ e. cc) line.quiet line.kind

pub returns-clause-call : goal.returns-clause-call
returns-clause-call g c = λ shelf. ends_at_once _ _
