use Rattle.std.proofs.Common.{◌≡◌, ◌∙◌, ◌++◌, [], ◌∷◌, ap, get_or, map, sym, take}
use Rattle.std.proofs.lemmas.List.{map-append, take_more}
use Rattle.rmt_filling.specs.Types.{Field}
use Rattle.rmt_ast.specs.State.{width_of}
use Rattle.rmt_filling.proofs.KeyLaws.{width_is}
use Rattle.rmt_filling.proofs.data.widths_of.Goals as goal

pub loop-field-preserved : goal.loop-field-preserved
loop-field-preserved c =
    let p = c.args.program.now in
    let xs = c.args.fields.now in
    let i = c.loop-field.field-index in
    let field = get_or xs i 0 in
    let item = get_or c.as_slice.result.now field c.index-as_slice-field.result in
    let width : item.width ≡ width_of p field =
    ap (λ (x : Field). x.width) (sym c.index-as_slice-field.is) ∙ width_is p c.as_slice.result.now field c.index-as_slice-field.result c.as_slice.ensures (c.requires i 0 c.loop-field-test.true) c.index-as_slice-field.is in
    c.in_ok-push.ensures.ok
    ∙ ap (λ ws. ws ++ item.width ∷ []) c.loop-field.invariant
    ∙ ap (λ w. map (width_of p) (take i xs) ++ w ∷ []) width
    ∙ sym (ap (map (width_of p)) (take_more xs i 0 c.loop-field-test.true) ∙ map-append (width_of p) (take i xs) (field ∷ []))
