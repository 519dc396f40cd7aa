use Rattle.rmt_cells.proofs.Orders.{reordered}
use Rattle.rmt_cells.proofs.cells.any_order.Goals as goal

pub returns : goal.returns
returns c = reordered
