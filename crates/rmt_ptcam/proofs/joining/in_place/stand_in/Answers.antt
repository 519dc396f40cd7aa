use Rattle.std.proofs.Common.{◌≡◌, List, ℕ, length, Some, true, ap, refl, sym, ◌∙◌}
use Rattle.std.specs.Prelude.{slice_get}
use Rattle.std.proofs.lemmas.Bool.{ltb-true}
use Rattle.std.proofs.lemmas.Option.{slice_get_read}
use Rattle.rmt_ptcam.specs.declared.joining.rows.StateRows.{StateRows}
use Rattle.rmt_ptcam.specs.Grouping.{may_stand, stand_in}
use Rattle.rmt_ptcam.specs.Joining.{Row, together}
use Rattle.rmt_ptcam.proofs.InPlaceLaws.{can_follow, stand_is}
use Rattle.rmt_ptcam.proofs.joining.in_place.stand_in.Goals as goal

pub joined_rows-requires-clause-light : goal.joined_rows-requires-clause-light
joined_rows-requires-clause-light c =
    let g : List StateRows = c.args.groups.now in
    let t : StateRows = c.in-Some.state.now in
    let there : slice_get g c.from.result ≡ Some t = slice_get_read g (length g) c.from.result t refl (ltb-true c.from.result (length g) (sym c.in-Some.ensures.lookup.0)) c.in-Some.ensures.lookup.1 in
    let may : may_stand c.count_all.result c.as_slice-here.result.now c.args.first.now t ≡ true = sym c.may_stand.ensures ∙ c.if-not-may_stand.false in
    can_follow g c.requires.stand c.count_all.result c.from.result c.as_slice-here.result.now c.args.first.now t there may

pub returns : goal.returns
returns c =
    let g : List StateRows = c.args.groups.now in
    let t : StateRows = c.in-Some.state.now in
    let x : Row = c.args.first.now in
    let here : List ℕ = c.as_slice-here.result.now in
    let there : slice_get g c.from.result ≡ Some t = slice_get_read g (length g) c.from.result t refl (ltb-true c.from.result (length g) (sym c.in-Some.ensures.lookup.0)) c.in-Some.ensures.lookup.1 in
    let at : slice_get g c.in-State.number ≡ Some t = ap (slice_get g) (sym c.from.ensures) ∙ there in
    let may : may_stand c.count_all.result here x t ≡ true = sym c.may_stand.ensures ∙ c.if-not-may_stand.false in
    let to : c.in_ok-to.to ≡ together here x.entry.advance t.lookups = c.in_ok-to.ensures ∙ ap (together here x.entry.advance) c.as_slice.ensures in
    let new : StateRows = record { lookups = c.in_ok-to.to; rows = c.in_ok-rows.rows } in
    let is : new ≡ stand_in here x t =
    ap (λ ls. record { lookups = ls; rows = c.in_ok-rows.rows }) to ∙ ap (λ (rows : List Row). record { lookups = together here x.entry.advance t.lookups; rows = rows }) c.in_ok-rows.ensures in
    stand_is g c.args.own.now x c.in-State.number t c.count_all.result here new c.in-State.is at c.count_all.ensures c.as_slice-here.ensures may is
