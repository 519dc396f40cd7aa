use Rattle.std.proofs.Common.{◌≡◌, ◌<◌, length, Some, sym, ap, ◌∙◌, arith}
use Rattle.std.specs.Prelude.{slice_get}
use Rattle.std.proofs.lemmas.Option.{slice_get-get_or}
use Rattle.rmt_chip.proofs.PendingLaws.{room_put}
use Rattle.rmt_chip.proofs.operands.read_operands.Goals as goal

pub returns-then-is_accepted-clause-room : goal.returns-then-is_accepted-clause-room
returns-then-is_accepted-clause-room c =
    let ps = c.args.place.now.pending.items in
    let k = c.args.k in
    let stages = c.args.stages.now in
    let stage = c.index-stages-k.result in
    let inside : k < length ps = (let many = c.requires.room.all_stages in let exists = c.requires.exists in omega arith) in
    let found : slice_get stages k ≡ Some stage = slice_get-get_or stages k stage c.requires.exists ∙ ap Some (sym c.index-stages-k.is) in
    room_put stages ps k stage c.keep_writes.new.pending inside found c.keep_writes.ensures.room c.requires.room
