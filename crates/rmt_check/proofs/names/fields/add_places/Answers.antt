use Rattle.std.proofs.Common.{sym, ap, ◌∙◌}
use Rattle.rmt_check.specs.Names.{Known}
use Rattle.rmt_ast.proofs.NameListLaws.{copied_none, copied_some}
use Rattle.rmt_check.proofs.FieldNumbers.{field_new, field_again}
use Rattle.rmt_check.proofs.names.fields.add_places.Goals as goal
use Rattle.rmt_check.proofs.names.fields.add_places.Goals.{then-is_none+in_ok-insert, else-is_none}

pub loop-place-preserved : goal.loop-place-preserved
loop-place-preserved c =
    let fs = c.args.fields.now in
    let key = ap (λ (f : Known). f.named) c.field.view_is in
    elim c.if-is_none.branch [
      | then-is_none+in_ok-insert w ↦ (
          let none = sym c.get.ensures.value ∙ copied_none c.get.result c.is_none.result c.is_none.ensures w.if-is_none.true in
          rw (w.numbers-is, w.in_ok-insert.ensures.entries) (field_new c.loop-place.numbers fs c.loop-place.place _ c.field.inside.key key c.loop-place-test.true c.index-fields-place.is c.loop-place.invariant none)
          )
      | else-is_none w ↦ (
          let some = copied_some c.get.result c.is_none.result c.is_none.ensures w.if-is_none.false in
          rw w.numbers-is (field_again c.loop-place.numbers fs c.loop-place.place _ c.field.inside.key key c.loop-place-test.true c.index-fields-place.is c.loop-place.invariant some.0 (sym c.get.ensures.value ∙ some.1))
          )
    ]
