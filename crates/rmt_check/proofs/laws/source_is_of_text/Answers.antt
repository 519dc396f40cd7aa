use Rattle.rmt_check.proofs.texts.TextLaws.{text_law}
use Rattle.rmt_check.proofs.laws.source_is_of_text.Goals as goal

pub returns : goal.returns
returns c t text plain = text_law c.node_parts.ensures c.token_part.ensures t text plain
