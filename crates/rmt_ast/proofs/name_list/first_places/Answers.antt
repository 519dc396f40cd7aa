use Rattle.std.proofs.Common.{sym, ◌∙◌}
use Rattle.rmt_ast.proofs.NameListLaws.{place_new, place_old, copied_none, copied_some}
use Rattle.rmt_ast.proofs.name_list.first_places.Goals as goal
use Rattle.rmt_ast.proofs.name_list.first_places.Goals.{then-is_none+in_ok-insert, else-is_none}

pub loop-place-preserved : goal.loop-place-preserved
loop-place-preserved c =
    elim c.if-is_none.branch [
      | then-is_none+in_ok-insert w ↦ (
          let none = sym c.get.ensures.value ∙ copied_none c.get.result c.is_none.result c.is_none.ensures w.if-is_none.true in
          rw (w.numbers-is, w.in_ok-insert.ensures.entries) (place_new c.loop-place.numbers c.args.names.now c.loop-place.place _ c.loop-place-test.true c.loop-place.invariant none)
          )
      | else-is_none w ↦ (
          let some = copied_some c.get.result c.is_none.result c.is_none.ensures w.if-is_none.false in
          rw w.numbers-is (place_old c.loop-place.numbers c.args.names.now c.loop-place.place _ c.loop-place-test.true c.loop-place.invariant some.0 (sym c.get.ensures.value ∙ some.1))
          )
    ]
