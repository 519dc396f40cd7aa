use Rattle.std.proofs.Common.{rules}
use Rattle.rmt_items.specs.Reading.{guard_at}
use Rattle.rmt_items.proofs.reading.gate.guard_of.Goals as goal

pub returns-in_default : goal.returns-in_default
unfolding guard_at
returns-in_default c = search rules
