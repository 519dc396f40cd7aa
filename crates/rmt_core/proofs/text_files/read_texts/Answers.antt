-- The entries behind the program, over the shelf as it was before both.
use Rattle.std.proofs.Common.{string_bytes}
use Rattle.rmt_drive.specs.Files.{entries_limit}
use Rattle.rmt_core.specs.TextFiles.{no_entries}
use Rattle.rmt_core.proofs.SwitchLaws.{unread_before}
use Rattle.rmt_core.proofs.text_files.read_texts.Goals as goal

pub returns-in-Err-read_file-clause-refused : goal.returns-in-Err-read_file-clause-refused
returns-in-Err-read_file-clause-refused g c =
    let before = g.F.Shelf.state c.args.shelf.now in
    no_entries c.in-Ok.program.items c.in-Ok.ensures.found
    (unread_before before (g.F.Shelf.state c.read_file.new.shelf) (string_bytes c.args.entries.now) entries_limit c.in-Err-read_file.status c.read_file.ensures.only_read c.in-Err-read_file.ensures.refused)
