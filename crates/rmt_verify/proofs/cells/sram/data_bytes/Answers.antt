use Rattle.rmt_bits.specs.Bits.{slice}
use Rattle.rmt_bits.proofs.BitLaws.{slice-lt}
use Rattle.rmt_verify.specs.SramCells.{entry_of}
use Rattle.rmt_verify.proofs.ContentLaws.{data_holds, data_long}
use Rattle.rmt_verify.proofs.cells.sram.data_bytes.Goals as goal

pub returns-clause-number : goal.returns-clause-number
returns-clause-number c =
    let at = c.args.at.now in
    let x = entry_of at.layout.now at.blocks.now at.rows.now at.cell in
    data_holds c.in_ok-bytes.bytes.items c.push_entry.new.into.items c.args.len (slice x c.args.from c.args.len) (c.in_ok-bytes.ensures.items_if_clones_equal (λ y e. e)) c.in_ok-push_entry.ensures (slice-lt x c.args.from c.args.len)

pub returns-clause-long : goal.returns-clause-long
returns-clause-long c =
    let at = c.args.at.now in
    let x = entry_of at.layout.now at.blocks.now at.rows.now at.cell in
    data_long c.in_ok-bytes.bytes.items c.push_entry.new.into.items c.args.len (slice x c.args.from c.args.len) (c.in_ok-bytes.ensures.items_if_clones_equal (λ y e. e)) c.in_ok-push_entry.ensures
