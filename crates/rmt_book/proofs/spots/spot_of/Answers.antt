use Rattle.std.proofs.Common.{arith}
use Rattle.rmt_book.proofs.SpotLaws.{spot-behind, spot-here, spot-later}
use Rattle.rmt_book.proofs.spots.spot_of.Goals as goal

pub returns-then-left-cells : goal.returns-then-left-cells
returns-then-left-cells c =
    spot-here c.args.parts.now c.args.number c.loop-at.at c.loop-at.left c.cells-cells.result c.index-parts-at.result c.loop-at-test.true c.index-parts-at.is c.loop-at.invariant c.cells-cells.ensures.count c.if-left-cells.true

pub loop-at-preserved : goal.loop-at-preserved
loop-at-preserved c =
    spot-later c.args.parts.now c.args.number c.loop-at.at c.loop-at.left c.cells-cells.result c.index-parts-at.result c.loop-at-test.true c.index-parts-at.is c.loop-at.invariant c.cells-cells.ensures.count c.if-left-cells.false

pub returns : goal.returns
returns c = spot-behind c.args.parts.now c.args.number c.loop-at.at c.loop-at.left c.loop-at-test.false (omega arith) c.loop-at.invariant
