-- A file behind another, over the shelf as it was before both.
use Rattle.std.proofs.Common.{string_bytes}
use Rattle.rmt_io.proofs.OutsideLaws.{only_read_trans}
use Rattle.rmt_drive.specs.Files.{capture_limit, groups_limit}
use Rattle.rmt_core.specs.SwitchSetup.{no_capture, no_groups}
use Rattle.rmt_core.proofs.SwitchLaws.{found_before, unread_before}
use Rattle.rmt_core.proofs.switching.inputs.read_inputs.Goals as goal

pub returns-in-Err-read_file-clause-refused : goal.returns-in-Err-read_file-clause-refused
returns-in-Err-read_file-clause-refused g c =
    let before = g.F.Shelf.state c.args.shelf.now in
    no_groups c.in-Ok.image.items c.in-Ok.ensures.found
    (unread_before before (g.F.Shelf.state c.read_file.new.shelf) (string_bytes c.args.names.groups.now) groups_limit c.in-Err-read_file.status c.read_file.ensures.only_read c.in-Err-read_file.ensures.refused)

pub returns-in-Err-read_file-2-clause-refused : goal.returns-in-Err-read_file-2-clause-refused
returns-in-Err-read_file-2-clause-refused g c =
    let before = g.F.Shelf.state c.args.shelf.now in
    let mid = g.F.Shelf.state c.read_file.new.shelf in
    no_capture c.in-Ok.image.items c.in-Ok-read_file.groups.items c.in-Ok.ensures.found
    (found_before before mid (string_bytes c.args.names.groups.now) groups_limit c.in-Ok-read_file.groups.items c.read_file.ensures.only_read c.in-Ok-read_file.ensures.found)
    (unread_before before (g.F.Shelf.state c.read_file-2.new.shelf) (string_bytes c.args.names.capture.now) capture_limit c.in-Err-read_file-2.status
    (only_read_trans c.read_file.ensures.only_read c.read_file-2.ensures.only_read) c.in-Err-read_file-2.ensures.refused)
