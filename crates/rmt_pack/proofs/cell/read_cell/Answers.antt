use Rattle.std.proofs.Common.{ℕ, List, take, drop, ap, ◌∙◌}
use Rattle.rmt_pack.specs.Rows.{blocks_of}
use Rattle.rmt_pack.proofs.CellLaws.{cell-read}
use Rattle.rmt_pack.proofs.cell.read_cell.Goals as goal

pub returns : goal.returns
returns c =
    let s = c.args.shape.now in
    let spot = c.spot_of-spot.result in
    cell-read (blocks_of c.args.rows.now) s c.args.cell spot.first spot.row spot.low c.blocks_from-blocks.result.now c.read_run.new.bytes c.read_run-2.new.bytes c.head_from.result
    c.spot_of-spot.ensures.first c.spot_of-spot.ensures.row c.spot_of-spot.ensures.low
    (c.blocks_from-blocks.ensures.part ∙ ap (λ (xs : List ℕ). take s.width (drop spot.first xs)) c.as_slice.ensures)
    c.read_run.ensures c.read_run-2.ensures c.head_from.ensures
