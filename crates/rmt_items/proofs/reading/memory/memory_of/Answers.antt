use Rattle.std.proofs.Common.{rules}
use Rattle.rmt_items.specs.Reading.{memory_at}
use Rattle.rmt_items.proofs.reading.memory.memory_of.Goals as goal

pub returns-in_default : goal.returns-in_default
unfolding memory_at
returns-in_default c = search rules
