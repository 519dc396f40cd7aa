use Rattle.std.proofs.Common.{rules}
use Rattle.rmt_items.specs.Reading.{extract_at}
use Rattle.rmt_items.proofs.reading.parser.ExtractItemU8.read.Goals as goal

pub returns-in_default : goal.returns-in_default
unfolding extract_at
returns-in_default c = search rules
