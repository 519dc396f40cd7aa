use Rattle.std.proofs.Common.{rules}
use Rattle.rmt_items.specs.Reading.{unit_at}
use Rattle.rmt_items.proofs.reading.slot.UnitItem.read.Goals as goal

pub returns-in_default : goal.returns-in_default
unfolding unit_at
returns-in_default c = search rules
