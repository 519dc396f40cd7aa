use Rattle.std.proofs.Common.{rules}
use Rattle.rmt_items.specs.Reading.{next_at}
use Rattle.rmt_items.proofs.reading.parser.next_of.Goals as goal

pub returns-in_default : goal.returns-in_default
unfolding next_at
returns-in_default c = search rules
