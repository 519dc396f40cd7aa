use Rattle.std.proofs.Common.{map, ap, ◌∙◌}
use Rattle.std.proofs.lemmas.List.{take_all}
use Rattle.rmt_check.specs.Parts.{Position, FieldText}
use Rattle.rmt_check.specs.Names.{Named, named}
use Rattle.rmt_check.proofs.SeenNames.{repeated_keys}
use Rattle.rmt_check.proofs.rules.keys.repeated_fields.Goals as goal

pub returns : goal.returns
returns g c =
    let s = g.N.Lookup.text c.args.names.now in
    let all = take_all c.loop-field.field-index c.args.fields.now c.loop-field-test.false in
    let marks = c.loop-field.invariant ∙ ap (map {B = Named × Position} (λ (f : FieldText). (named s f, f.place))) all in
    rw (← repeated_keys s c.loop-field.marks.items c.args.fields.now marks, ← c.as_slice.ensures.value) c.repeated.ensures
