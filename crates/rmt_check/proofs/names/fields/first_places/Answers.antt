use Rattle.rmt_ast.specs.NameList.{HasNumbers}
use Rattle.rmt_check.specs.StoredFields.{all_codes, stored}
use Rattle.rmt_check.proofs.Together.{kept_holds}
use Rattle.rmt_check.proofs.names.fields.first_places.Goals as goal

pub returns : goal.returns
returns c = kept_holds (λ m. HasNumbers stored m.entries (all_codes c.args.fields.now)) c.kept.result c.add_places-added.result c.add_places-added.new.numbers c.kept.ensures c.add_places-added.ensures
