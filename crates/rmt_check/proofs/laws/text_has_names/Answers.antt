use Rattle.rmt_check.proofs.texts.NamedLaws.{text_named}
use Rattle.rmt_check.proofs.laws.text_has_names.Goals as goal

pub returns : goal.returns
returns c = text_named c.node_parts.ensures c.token_part.ensures
