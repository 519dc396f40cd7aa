use Rattle.std.proofs.Common.{sym, ◌∙◌}
use Rattle.rmt_update.specs.Open.{is_open}
use Rattle.rmt_book.specs.PartShape.{row_cells}
use Rattle.rmt_update.proofs.OpenLaws.{way-here, way-past}
use Rattle.rmt_update.proofs.book.open.open_in_ways.Goals as goal

pub returns-in-Some : goal.returns-in-Some
returns-in-Some c =
    let w = c.args.ways in
    way-here (is_open c.args.look.now.odd c.args.look.now.part.now c.args.look.now.given.now) (row_cells c.args.look.now.seed c.args.look.now.key.now w.first w.rows w.per) c.loop-way.way 4 c.loop-way-test.true _ c.loop-way.invariant
    c.in-Some.cell (sym c.open_in_way-found.ensures ∙ c.in-Some.is)

pub loop-way-preserved : goal.loop-way-preserved
loop-way-preserved c =
    let w = c.args.ways in
    way-past (is_open c.args.look.now.odd c.args.look.now.part.now c.args.look.now.given.now) (row_cells c.args.look.now.seed c.args.look.now.key.now w.first w.rows w.per) c.loop-way.way 4 c.loop-way-test.true _ c.loop-way.invariant
    (sym c.open_in_way-found.ensures ∙ c.in_default.is)
