use Rattle.std.proofs.Common.{◌≡◌, string_bytes, ◌∙◌}
use Rattle.std.specs.FinMap as map
use Rattle.rmt_io.specs.Files.{text_entries}
use Rattle.rmt_io.proofs.ByName.{put-text, get-put, get-put-other}
use Rattle.rmt_io.proofs.mem_shelf.MemShelf.put_file.Goals as goal
use Rattle.rmt_io.proofs.mem_shelf.MemShelf.put_file.Goals.{Joined-insert-2}

-- the files after the insert
put : (c : Joined-insert-2) → map.from_entries (text_entries c.insert.new.self.entries) ≡ map.insert c.args.self.now.files (string_bytes c.args.name.now) c.args.bytes.now.items
put c =
    let e = put-text c.self.inside.files c.insert.new.self c.in-Ok.name c.in-Ok-from_slice.bytes c.in-Ok-insert.ensures.updates in
    let n : string_bytes c.in-Ok.name ≡ string_bytes c.args.name.now = c.in-Ok.ensures.ok ∙ c.as_str.ensures.value in
    let b : c.in-Ok-from_slice.bytes.items ≡ c.args.bytes.now.items = c.in-Ok-from_slice.ensures.items ∙ c.as_slice.ensures.value in
    rw (← c.self.view_is) (rw e (rw (n, b)))

pub returns-in-Ok-insert-clause-put : goal.returns-in-Ok-insert-clause-put
returns-in-Ok-insert-clause-put c =
    let e = put c in
    rw e (rw (← c.self.view_is))

pub returns-in-Ok-insert-clause-stored : goal.returns-in-Ok-insert-clause-stored
returns-in-Ok-insert-clause-stored c =
    let e = put c in
    rw e (get-put c.args.self.now.files (string_bytes c.args.name.now) c.args.bytes.now.items)

pub returns-in-Ok-insert-clause-others : goal.returns-in-Ok-insert-clause-others
returns-in-Ok-insert-clause-others c =
    let e = put c in
    λ other ne. rw e (get-put-other c.args.self.now.files (string_bytes c.args.name.now) c.args.bytes.now.items other ne)
