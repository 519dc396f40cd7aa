use Rattle.std.proofs.Common.{◌∙◌}
use Rattle.rmt_check.proofs.FieldNumbers.{number_found}
use Rattle.rmt_check.proofs.names.fields.FieldList.number.Goals as goal

pub returns : goal.returns
returns c =
    rw (← c.self.view_is) (c.copied.ensures ∙ c.get.ensures.value ∙ number_found c.self.inside.fields c.self.inside.numbers.entries c.args.key c.self.invariant)
