use Rattle.std.proofs.Common.{◌∙◌, get_or, sym, ap}
use Rattle.std.specs.Prelude.{is_some}
use Rattle.std.proofs.lemmas.List.{get_or_default}
use Rattle.rmt_verify.specs.Types.{CellOf}
use Rattle.rmt_verify.proofs.ToldLaws.{none_from, told_more, told_twice}
use Rattle.rmt_verify.proofs.cells.told.told_of.Goals as goal

abbrev no_cell : CellOf
no_cell = record { entry = 0; stage = 0; cell = 0 }

pub returns-then-is_some : goal.returns-then-is_some
returns-then-is_some c =
    let cells = c.args.cells.now in
    let i = c.loop-cell.cell-index in
    let x = get_or cells i no_cell in
    told_twice cells i x c.loop-cell.told c.loop-cell-test.true (get_or_default cells i no_cell x c.loop-cell-test.true) c.loop-cell.invariant
    (ap is_some (sym c.in_ok-before.ensures.old) ∙ sym c.is_some.ensures ∙ c.if-is_some.true)

pub loop-cell-preserved : goal.loop-cell-preserved
loop-cell-preserved c =
    let cells = c.args.cells.now in
    let i = c.loop-cell.cell-index in
    let x = get_or cells i no_cell in
    told_more cells i x c.loop-cell.told c.loop-cell-test.true (get_or_default cells i no_cell x c.loop-cell-test.true) c.loop-cell.invariant c.insert.new.self
    (sym c.in_ok-before.ensures.old ∙ none_from c.in_ok-before.before (sym c.is_some.ensures ∙ c.if-is_some.false)) c.in_ok-before.ensures.updates.0
