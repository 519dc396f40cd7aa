use Rattle.std.proofs.Common.{refl, arith}
use Rattle.rmt_cells.proofs.Fresh.{fresh}
use Rattle.rmt_cells.proofs.cells.Cells.new.Goals as goal

pub returns-clause-free : goal.returns-clause-free
returns-clause-free c =
    fresh c.args.count _ c.in_ok-links.ensures (omega (arith, c.in_ok-blocks.ensures.len, c.in_ok-blocks.blocks.ok.0)) refl refl c.requires.few
