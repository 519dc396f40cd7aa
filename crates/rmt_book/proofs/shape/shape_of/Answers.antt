use Rattle.rmt_book.proofs.ShapeLaws.{slot-few}
use Rattle.rmt_book.proofs.shape.shape_of.Goals as goal

pub grid_of-requires : goal.grid_of-requires
grid_of-requires c = slot-few c.args.slot.now c.requires.formed c.requires.memory c.requires.ways
