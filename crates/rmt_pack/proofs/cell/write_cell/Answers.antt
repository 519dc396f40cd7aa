use Rattle.std.proofs.Common.{ℕ, ◌+◌, ◌*◌, ap, ◌∙◌, take, drop, List}
use Rattle.rmt_bits.specs.Bits.{number_of}
use Rattle.rmt_pack.specs.Rows.{blocks_of}
use Rattle.rmt_pack.specs.Head.{number_of_head}
use Rattle.rmt_pack.proofs.CellLaws.{cell-put, entry-below, cell-entry, cell-holds, cell-others, cell-records}
use Rattle.rmt_pack.proofs.cell.write_cell.Goals as goal

pub returns-clause-bits : goal.returns-clause-bits
returns-clause-bits c =
    let s = c.args.shape.now in
    let spot = c.spot_of-spot.result in
    cell-put (blocks_of c.args.rows.now) (blocks_of c.write_run.new.rows) (blocks_of c.write_run-2.new.rows) s c.args.cell c.args.head c.args.key.now
    spot.first spot.row spot.low c.byte_of.result c.blocks_from-blocks.result.now
    c.spot_of-spot.ensures.first c.spot_of-spot.ensures.row c.spot_of-spot.ensures.low
    (c.blocks_from-blocks.ensures.part ∙ ap (λ (xs : List ℕ). take s.width (drop spot.first xs)) c.as_slice.ensures)
    c.byte_of.ensures c.requires.visible c.requires.code c.requires.small c.write_run.ensures c.write_run-2.ensures

pub returns-clause-entry : goal.returns-clause-entry
returns-clause-entry c =
    let s = c.args.shape.now in
    let x = number_of_head c.args.head + 256 * number_of c.args.key.now in
    cell-entry (blocks_of c.args.rows.now) (blocks_of c.write_run-2.new.rows) s c.args.cell x
    (entry-below s c.args.head c.args.key.now c.requires.visible c.requires.code c.requires.small) (returns-clause-bits c)

pub returns-clause-holds : goal.returns-clause-holds
returns-clause-holds c =
    cell-holds (blocks_of c.write_run-2.new.rows) c.args.shape.now c.args.cell c.args.head c.args.key.now c.requires.visible c.requires.code
    (λ i. (c.type_inv.key i).fits) c.requires.key (returns-clause-entry c)

pub returns-clause-others : goal.returns-clause-others
returns-clause-others c =
    let s = c.args.shape.now in
    let x = number_of_head c.args.head + 256 * number_of c.args.key.now in
    cell-others (blocks_of c.args.rows.now) (blocks_of c.write_run-2.new.rows) s c.args.cell x c.requires.shape c.requires.exact c.requires.cell
    (entry-below s c.args.head c.args.key.now c.requires.visible c.requires.code c.requires.small) (returns-clause-bits c)

pub returns-clause-records : goal.returns-clause-records
returns-clause-records c =
    let x = number_of_head c.args.head + 256 * number_of c.args.key.now in
    cell-records (blocks_of c.args.rows.now) (blocks_of c.write_run-2.new.rows) c.args.shape.now c.args.cell x c.requires.shape (returns-clause-bits c)
