use Rattle.std.proofs.Common.{get_or, refl}
use Rattle.rmt_config.specs.Types.{CellNumber}
use Rattle.rmt_config.proofs.LoopLaws.{mapped-all, mapped-more}
use Rattle.rmt_config.proofs.form.numbers.put_numbers.Goals as goal

pub loop-cell-preserved : goal.loop-cell-preserved
loop-cell-preserved c =
    let d : CellNumber = record { cell = 0; number = 0 } in
    mapped-more c.args.numbers.now.items c.args.cells.now c.loop-cell.cell-index (λ (n : CellNumber). n.number) c.loop-cell.numbers.items c.push.new.self.items
    (get_or c.args.cells.now c.loop-cell.cell-index d) d c.loop-cell-test.true refl c.in_ok-push.ensures.items c.loop-cell.invariant

pub returns : goal.returns
returns c = mapped-all c.args.numbers.now.items c.args.cells.now c.loop-cell.cell-index (λ (n : CellNumber). n.number) c.loop-cell.numbers.items c.loop-cell-test.false c.loop-cell.invariant
