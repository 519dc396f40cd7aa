use Rattle.std.proofs.Common.{◌++◌, ◌∷◌, [], List, ap, length, refl, sym, take, ◌∙◌}
use Rattle.std.proofs.lemmas.Option.{slice_get_read}
use Rattle.rmt_bits.proofs.ListLaws.{take-slice_get}
use Rattle.rmt_ptcam.specs.Types.{ParserState}
use Rattle.rmt_ptcam.specs.declared.joining.rows.StateRows.{StateRows}
use Rattle.rmt_ptcam.specs.Grouping.{groups_from}
use Rattle.rmt_ptcam.specs.Joining.{Row}
use Rattle.rmt_ptcam.proofs.GroupLaws.{groups_push}
use Rattle.rmt_ptcam.proofs.joining.rows.without_rows.Goals as goal

pub loop-state-preserved : goal.loop-state-preserved
loop-state-preserved c =
    let states : List ParserState = c.args.states.now in
    let i = c.loop-state.state-index in
    let s : ParserState = c.state-item.result in
    let front : List StateRows = groups_from [] 0 (take i states) in
    c.in_ok-push.ensures.items
    ∙ ap (λ (g : List StateRows). g ++ record { lookups = c.in_ok-lookups.lookups; rows = c.new-rows.result } ∷ []) c.loop-state.invariant
    ∙ ap (λ ls. front ++ record { lookups = ls; rows = c.new-rows.result } ∷ []) (c.in_ok-lookups.ensures ∙ c.as_slice.ensures)
    ∙ ap (λ (rows : List Row). front ++ record { lookups = s.lookups; rows = rows } ∷ []) c.new-rows.ensures
    ∙ sym (groups_push 0 (take i states) s)
    ∙ ap (groups_from [] 0) (sym (take-slice_get states i s (slice_get_read states (length states) i s refl c.loop-state-test.true c.state-item.is)))
