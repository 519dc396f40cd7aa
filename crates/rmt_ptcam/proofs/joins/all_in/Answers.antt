use Rattle.std.proofs.Common.{◌≡◌, ◌+◌, cond, List, None, Some, ap, drop, get_or, sym, ◌∙◌}
use Rattle.rmt_ptcam.specs.declared.joining.rows.StateRows.{StateRows}
use Rattle.rmt_ptcam.specs.declared.joins.Join.{Join}
use Rattle.rmt_ptcam.specs.Grouping.{joined_in, parser_in}
use Rattle.rmt_ptcam.specs.Joins.{behind_joins}
use Rattle.rmt_ptcam.proofs.InPlaceLaws.{joined_stand, list_ends, list_more, list_step}
use Rattle.rmt_ptcam.proofs.joins.all_in.Goals as goal

pub returns-then-not-branch : goal.returns-then-not-branch
returns-then-not-branch c =
    let js : List Join = c.args.joins.now in
    let i = c.loop-join.join-index in
    let g : List StateRows = c.loop-join.groups in
    let stand = c.loop-join.invariant.stand in
    let d : Join = record { state = 0; entry = 0 } in
    let none : joined_in g (get_or js i d) ≡ None = sym c.in_ok-join_in.ensures.made ∙ ap (λ b. cond b (Some c.join_in.new.groups) None) c.if-not-branch.true in
    sym (list_ends g stand (get_or js i d) (drop (i + 1) js) none) ∙ ap (behind_joins (parser_in g)) (sym (list_more js i d c.loop-join-test.true)) ∙ c.loop-join.invariant.left

pub loop-join-preserved : goal.loop-join-preserved
loop-join-preserved c =
    let js : List Join = c.args.joins.now in
    let i = c.loop-join.join-index in
    let g : List StateRows = c.loop-join.groups in
    let h : List StateRows = c.join_in.new.groups in
    let stand = c.loop-join.invariant.stand in
    let d : Join = record { state = 0; entry = 0 } in
    let some : joined_in g (get_or js i d) ≡ Some h = sym c.in_ok-join_in.ensures.made ∙ ap (λ b. cond b (Some h) None) c.if-not-branch.false in
    record {
      left =
          sym (list_step g h stand (get_or js i d) (drop (i + 1) js) some) ∙ ap (behind_joins (parser_in g)) (sym (list_more js i d c.loop-join-test.true)) ∙ c.loop-join.invariant.left;
      stand = (joined_stand g h stand (get_or js i d) some).1;
    }
