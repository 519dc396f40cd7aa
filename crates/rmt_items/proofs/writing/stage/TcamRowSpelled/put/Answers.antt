use Rattle.std.proofs.Common.{[], ◌∷◌}
use Rattle.rmt_bits.specs.Bits.{bytes_of}
use Rattle.rmt_config.specs.Spelling.{two_bytes}
use Rattle.rmt_items.proofs.Appending.{appended_four}
use Rattle.rmt_items.proofs.writing.stage.TcamRowSpelled.put.Goals as goal

pub returns : goal.returns
returns c =
    let row = c.args.self.now in
    appended_four c.put_five-2.result c.args.out.now.items (row.block ∷ []) (two_bytes row.row) (bytes_of 5 row.value) (bytes_of 5 row.mask)
    c.push.new.self.items c.put_two.new.out.items c.put_five.new.out.items c.put_five-2.new.out.items
    c.in_ok-push.ensures.items c.in_ok-put_two.ensures.put c.in_ok-put_five.ensures c.put_five-2.ensures
