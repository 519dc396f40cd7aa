-- The four files are read, or not.
use Rattle.std.proofs.Common.{Err, List, ℕ, ap, refl, string_bytes, ◌∙◌}
use Rattle.rmt_drive.specs.Ends.{outside}
use Rattle.rmt_drive.specs.Files.{Files, image_limit, map_limit}
use Rattle.rmt_drive.specs.Given.{Given, Reads}
use Rattle.rmt_core.specs.Verifying.{ChecksTexts}
use Rattle.rmt_core.proofs.CallLaws.{ends_unread, reads_then}
use Rattle.rmt_core.proofs.TextFileLaws.{reads_texts, texts_unread}
use Rattle.rmt_core.proofs.verifying.verify.Goals as goal

-- what follows the image, and what follows both texts
abbrev then_map : List ℕ → List ℕ → List ℕ → Files → List ℕ → Given → Type 0
then_map map text entry_text files image_bytes = Reads files map map_limit (λ map_bytes. ChecksTexts files text entry_text image_bytes map_bytes)

abbrev then_image : List ℕ → List ℕ → Files → List ℕ → List ℕ → Given → Type 0
then_image image map files text entry_text = Reads files image image_limit (then_map map text entry_text files)

pub returns-in-Err-clause-call : goal.returns-in-Err-clause-call
returns-in-Err-clause-call g c =
    texts_unread (string_bytes c.args.program.now) (string_bytes c.args.entries.now) (then_image (string_bytes c.args.image.now) (string_bytes c.args.map.now))
    (g.F.Shelf.state c.args.shelf.now) (g.O.Sink.state c.args.out.now) (g.F.Shelf.state c.read_texts.new.shelf) c.in-Err.status c.read_texts.ensures.only_read c.in-Err.ensures.refused
    (λ e. c.read_texts.ensures.fault (c.in-Err.is ∙ ap Err e))

pub returns-in-Err-clause-quiet : goal.returns-in-Err-clause-quiet
returns-in-Err-clause-quiet g c = λ _ _. refl

pub returns-in-Err-read_file-clause-call : goal.returns-in-Err-read_file-clause-call
returns-in-Err-read_file-clause-call g c =
    let out = g.O.Sink.state c.args.out.now in
    let texts = c.in-Ok.texts in
    reads_texts (string_bytes c.args.program.now) (string_bytes c.args.entries.now) (then_image (string_bytes c.args.image.now) (string_bytes c.args.map.now))
    (outside (g.F.Shelf.state c.args.shelf.now) out) (outside (g.F.Shelf.state c.read_file.new.shelf) out) (g.F.Shelf.state c.read_texts.new.shelf) texts c.in-Err-read_file.status
    c.read_texts.ensures.only_read c.in-Ok.ensures.found
    (ends_unread _ _ _ (string_bytes c.args.image.now) (then_map (string_bytes c.args.map.now) texts.program.items texts.entries.items) image_limit c.in-Err-read_file.status
    c.read_file.ensures.only_read c.in-Err-read_file.ensures.refused (λ e. c.read_file.ensures.fault (c.in-Err-read_file.is ∙ ap Err e)))

pub returns-in-Err-read_file-clause-quiet : goal.returns-in-Err-read_file-clause-quiet
returns-in-Err-read_file-clause-quiet g c = λ _ _. refl

pub returns-clause-call : goal.returns-clause-call
returns-clause-call g c =
    let out = g.O.Sink.state c.args.out.now in
    let texts = c.in-Ok.texts in
    let read = g.F.Shelf.state c.read_texts.new.shelf in
    let mid = g.F.Shelf.state c.read_file.new.shelf in
    let after = outside (g.F.Shelf.state c.read_file-2.new.shelf) out in
    let image_bytes = c.in-Ok-read_file.bytes.items in
    reads_texts (string_bytes c.args.program.now) (string_bytes c.args.entries.now) (then_image (string_bytes c.args.image.now) (string_bytes c.args.map.now))
    (outside (g.F.Shelf.state c.args.shelf.now) out) after read texts c.in-Err-read_file-2.status c.read_texts.ensures.only_read c.in-Ok.ensures.found
    (reads_then (outside read out) after mid (string_bytes c.args.image.now) (then_map (string_bytes c.args.map.now) texts.program.items texts.entries.items) image_limit image_bytes c.in-Err-read_file-2.status
    c.read_file.ensures.only_read c.in-Ok-read_file.ensures.found
    (ends_unread _ _ _ (string_bytes c.args.map.now) (λ files map_bytes. ChecksTexts files texts.program.items texts.entries.items image_bytes map_bytes) map_limit c.in-Err-read_file-2.status
    c.read_file-2.ensures.only_read c.in-Err-read_file-2.ensures.refused (λ e. c.read_file-2.ensures.fault (c.in-Err-read_file-2.is ∙ ap Err e))))

pub returns-clause-quiet : goal.returns-clause-quiet
returns-clause-quiet g c = λ _ _. refl

pub returns-in-Ok-read_file-2-clause-call : goal.returns-in-Ok-read_file-2-clause-call
returns-in-Ok-read_file-2-clause-call g c =
    let out = g.O.Sink.state c.args.out.now in
    let texts = c.in-Ok.texts in
    let read = g.F.Shelf.state c.read_texts.new.shelf in
    let mid = g.F.Shelf.state c.read_file.new.shelf in
    let last = g.F.Shelf.state c.read_file-2.new.shelf in
    let after = outside last (g.O.Sink.state c.verify_bytes.new.out) in
    let image_bytes = c.in-Ok-read_file.bytes.items in
    let map_bytes = c.in-Ok-read_file-2.map_bytes.items in
    reads_texts (string_bytes c.args.program.now) (string_bytes c.args.entries.now) (then_image (string_bytes c.args.image.now) (string_bytes c.args.map.now))
    (outside (g.F.Shelf.state c.args.shelf.now) out) after read texts c.verify_bytes.result c.read_texts.ensures.only_read c.in-Ok.ensures.found
    (reads_then (outside read out) after mid (string_bytes c.args.image.now) (then_map (string_bytes c.args.map.now) texts.program.items texts.entries.items) image_limit image_bytes c.verify_bytes.result
    c.read_file.ensures.only_read c.in-Ok-read_file.ensures.found
    (reads_then (outside mid out) after last (string_bytes c.args.map.now) (λ files bytes. ChecksTexts files texts.program.items texts.entries.items image_bytes bytes) map_limit map_bytes c.verify_bytes.result
    c.read_file-2.ensures.only_read c.in-Ok-read_file-2.ensures.found (c.verify_bytes.ensures.call last)))
