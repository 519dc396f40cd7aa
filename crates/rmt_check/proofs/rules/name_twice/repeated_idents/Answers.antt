use Rattle.std.proofs.lemmas.List.{map-id}
use Rattle.rmt_check.proofs.rules.name_twice.repeated_idents.Goals as goal

pub returns : goal.returns
returns c = simp map-id at c.repeated_names.ensures
