use Rattle.rmt_check.proofs.texts.FoundLaws.{all_found}
use Rattle.rmt_check.proofs.laws.parts_are_found.Goals as goal

pub returns : goal.returns
returns c r t h = all_found c.node_parts.ensures c.token_part.ensures r t h
