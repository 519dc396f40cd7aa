use Rattle.std.proofs.Common.{rules}
use Rattle.rmt_items.specs.Reading.{source_at}
use Rattle.rmt_items.proofs.reading.vliw.source_of.Goals as goal

pub returns-in_default : goal.returns-in_default
unfolding source_at
returns-in_default c = search rules
