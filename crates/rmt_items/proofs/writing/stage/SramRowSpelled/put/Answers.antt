use Rattle.std.proofs.Common.{[], ◌∷◌}
use Rattle.rmt_bits.specs.Bits.{bytes_of}
use Rattle.rmt_config.specs.Spelling.{two_bytes}
use Rattle.rmt_items.proofs.Appending.{appended_three}
use Rattle.rmt_items.proofs.writing.stage.SramRowSpelled.put.Goals as goal

pub returns : goal.returns
returns c =
    let row = c.args.self.now in
    appended_three c.put_bits.result c.args.out.now.items (row.block ∷ []) (two_bytes row.row) (bytes_of 14 row.bits)
    c.push.new.self.items c.put_two.new.out.items c.put_bits.new.out.items
    c.in_ok-push.ensures.items c.in_ok-put_two.ensures.put c.put_bits.ensures
