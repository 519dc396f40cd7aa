use Rattle.std.proofs.Common.{◌≡◌, map, take}
use Rattle.rmt_check.specs.Parts.{Position, FieldText}
use Rattle.rmt_check.specs.Names.{Named, named}
use Rattle.rmt_check.specs.StoredFields.{named_at}
use Rattle.rmt_check.proofs.rules.keys.repeated_fields.Given as goal

abbrev pub invariant-loop-field : goal.invariant-loop-field
invariant-loop-field g l = map {B = Named × Position} (λ m. (named_at m.0, m.1)) l.marks.items ≡ map (λ (f : FieldText). (named (g.N.Lookup.text l.names) f, f.place)) (take l.field-index l.fields)
