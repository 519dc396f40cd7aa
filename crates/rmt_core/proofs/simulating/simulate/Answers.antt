-- The image is read, the packets' file is opened, the bytes are an image, and the chip runs; or the call ends at one of these steps.
use Rattle.std.proofs.Common.{List, ℕ, Ok, Err, ap, refl, ◌∙◌}
use Rattle.std.specs.Prelude.{string_bytes}
use Rattle.rmt_config.specs.Spells.{Spells}
use Rattle.rmt_image.specs.Reading.{Answers}
use Rattle.rmt_io.specs.Outside.{ShelfState, HasFile, OnlyRead}
use Rattle.rmt_core.specs.Types.{Config}
use Rattle.rmt_drive.specs.declared.status.Status.{Status}
use Rattle.rmt_drive.specs.declared.status.Status.TheVariants.{BadImage}
use Rattle.rmt_drive.specs.declared.watch.Watch.{Watch}
use Rattle.rmt_drive.specs.ChipRuns.{RunsChip}
use Rattle.rmt_drive.specs.Ends.{Outside, ReadsAndPrints, outside}
use Rattle.rmt_drive.specs.Files.{image_limit, packets_limit}
use Rattle.rmt_drive.specs.Loading.{IsFound}
use Rattle.rmt_core.specs.Simulating.{OfImage, OfOpen, GivesRun}
use Rattle.rmt_core.specs.ImageFaults.{bad_image_line}
use Rattle.rmt_core.proofs.CallLaws.{ends_at_once, ends_told, ends_unopened, ends_unread, goes_on_as, opens_then, reads_then, runs_on}
use Rattle.rmt_core.proofs.GoingOn.{bad_image_answered, spelled_answered}
use Rattle.rmt_core.proofs.simulating.simulate.Goals as goal

module _ (w : Watch) (before : Outside) (image packets bytes : List ℕ) (read : ShelfState) (r : OnlyRead before.shelf read) (found : IsFound before.shelf image image_limit bytes) where
  -- a call that read the image
  read_then : (after : Outside) (s : Status) → ReadsAndPrints (outside read before.sink) after (λ files. OfImage w files packets bytes) s
      → ReadsAndPrints before after (λ files. GivesRun w files image packets) s
  read_then after s = reads_then before after read image (λ files. OfImage w files packets) image_limit bytes s r found

  module _ (opening : ShelfState) (o : OnlyRead read opening) (opened : HasFile read packets opening.rest) where
    -- and opened the packets' file
    opened_then : (after : Outside) (s : Status) → ReadsAndPrints (outside opening before.sink) after (λ files. OfOpen w files bytes opening.rest) s
        → ReadsAndPrints before after (λ files. GivesRun w files image packets) s
    opened_then after s h = read_then after s (opens_then (outside read before.sink) after opening packets (λ files. OfOpen w files bytes) s o opened h)

    -- and has a configuration
    spelled_then : (after : Outside) (s : Status) (k : Config) → Spells bytes k → Answers bytes (Ok k)
        → ReadsAndPrints (outside opening before.sink) after (λ files. RunsChip w files k packets_limit opening.rest) s
        → ReadsAndPrints before after (λ files. GivesRun w files image packets) s
    spelled_then after s k spells answers h =
        opened_then after s
        (goes_on_as (outside opening before.sink) after (λ files. RunsChip w files k packets_limit opening.rest) (λ files. OfOpen w files bytes opening.rest) s
        (λ answered. spelled_answered (outside opening before.sink) after bytes (λ x. RunsChip w opening.files x packets_limit opening.rest) k s spells answers answered) h)

pub run_watched-requires-clause-stands : goal.run_watched-requires-clause-stands
run_watched-requires-clause-stands g c = (c.in-Ok-read_image.config, c.in-Ok-open.ensures, tt)

pub returns-in-Err-clause-call : goal.returns-in-Err-clause-call
returns-in-Err-clause-call g c =
    ends_unread _ _ _ (string_bytes c.args.image.now) (λ files. OfImage c.args.watch files (string_bytes c.args.packets.now)) image_limit c.in-Err.status c.read_file.ensures.only_read c.in-Err.ensures.refused
    (λ e. c.read_file.ensures.fault (c.in-Err.is ∙ ap Err e))

pub returns-in-Err-open_file-clause-call : goal.returns-in-Err-open_file-clause-call
returns-in-Err-open_file-clause-call g c =
    let out = g.O.Sink.state c.args.out.now in
    let bytes = c.in-Ok.bytes.items in
    read_then c.args.watch (outside (g.F.Shelf.state c.args.shelf.now) out) (string_bytes c.args.image.now) (string_bytes c.args.packets.now) bytes (g.F.Shelf.state c.read_file.new.shelf)
    c.read_file.ensures.only_read c.in-Ok.ensures.found (outside (g.F.Shelf.state c.open_file.new.shelf) out) c.in-Err-open_file.status
    (ends_unopened _ _ _ (string_bytes c.args.packets.now) (λ files. OfOpen c.args.watch files bytes) c.in-Err-open_file.status c.open_file.ensures.only_read c.in-Err-open_file.ensures.refused
    (λ e. c.open_file.ensures.fault (c.in-Err-open_file.is ∙ ap Err e)))

pub returns-in-Err-read_image-clause-call : goal.returns-in-Err-read_image-clause-call
returns-in-Err-read_image-clause-call g c =
    let bytes = c.in-Ok.bytes.items in
    let opening = g.F.Shelf.state c.open_file.new.shelf in
    let fault = c.in-Err-read_image.fault in
    opened_then c.args.watch (outside (g.F.Shelf.state c.args.shelf.now) (g.O.Sink.state c.args.out.now)) (string_bytes c.args.image.now) (string_bytes c.args.packets.now) bytes (g.F.Shelf.state c.read_file.new.shelf)
    c.read_file.ensures.only_read c.in-Ok.ensures.found opening c.open_file.ensures.only_read c.in-Ok-open_file.ensures.opened
    (outside opening (g.O.Sink.state c.tell_bad_image.new.out)) c.tell_bad_image.result
    (ends_told opening _ _ (λ files. OfOpen c.args.watch files bytes opening.rest) BadImage c.tell_bad_image.result (bad_image_line fault)
    (λ e. cc) c.tell_bad_image.ensures.line c.tell_bad_image.ensures.only_printed
    (bad_image_answered _ _ bytes (λ k. RunsChip c.args.watch opening.files k packets_limit opening.rest) fault c.tell_bad_image.result
    (rw c.as_slice.ensures.value at c.in-Err-read_image.ensures.exact) c.tell_bad_image.ensures.no_memory (λ _. refl) c.tell_bad_image.ensures.line))

pub returns-in_default-clause-call : goal.returns-in_default-clause-call
returns-in_default-clause-call g c =
    let out = g.O.Sink.state c.args.out.now in
    let bytes = c.in-Ok.bytes.items in
    let opening = g.F.Shelf.state c.open_file.new.shelf in
    opened_then c.args.watch (outside (g.F.Shelf.state c.args.shelf.now) out) (string_bytes c.args.image.now) (string_bytes c.args.packets.now) bytes (g.F.Shelf.state c.read_file.new.shelf)
    c.read_file.ensures.only_read c.in-Ok.ensures.found opening c.open_file.ensures.only_read c.in-Ok-open_file.ensures.opened (outside opening out) _
    (ends_at_once (outside opening out) (λ files. OfOpen c.args.watch files bytes opening.rest))

pub returns-clause-call : goal.returns-clause-call
returns-clause-call g c =
    let bytes = c.in-Ok.bytes.items in
    let opening = g.F.Shelf.state c.open_file.new.shelf in
    let k = c.in-Ok-read_image.config in
    spelled_then c.args.watch (outside (g.F.Shelf.state c.args.shelf.now) (g.O.Sink.state c.args.out.now)) (string_bytes c.args.image.now) (string_bytes c.args.packets.now) bytes (g.F.Shelf.state c.read_file.new.shelf)
    c.read_file.ensures.only_read c.in-Ok.ensures.found opening c.open_file.ensures.only_read c.in-Ok-open_file.ensures.opened
    (outside (g.F.Shelf.state c.run_watched.new.shelf) (g.O.Sink.state c.run_watched.new.out)) c.run_watched.result k
    (rw c.as_slice.ensures.value at c.in-Ok-read_image.ensures.found) (rw c.as_slice.ensures.value at (c.in-Ok-read_image.ensures.exact (λ e. cc)))
    (runs_on c.run_watched.ensures.befalls (λ tells. c.run_watched.ensures.answered tells k c.in-Ok-open.ensures tt))
