use Rattle.std.proofs.Common.{sym, ap, ◌∙◌}
use Rattle.rmt_book.specs.PartShape.{cell_count}
use Rattle.rmt_book.proofs.ShapeLaws.{cells-are}
use Rattle.rmt_book.proofs.shape.PartShape.cells.Goals as goal

pub returns-in-Ways-clause-memory : goal.returns-in-Ways-clause-memory
returns-in-Ways-clause-memory c = λ slot is. sym (ap cell_count c.in-Ways.is) ∙ cells-are slot c.args.self.now is

pub returns-in-Rows-clause-memory : goal.returns-in-Rows-clause-memory
returns-in-Rows-clause-memory c = λ slot is. sym (ap cell_count c.in-Rows.is) ∙ cells-are slot c.args.self.now is
