use Rattle.std.proofs.Common.{◌≡◌, List, None, Some, ap, arith, length, refl, sym, ◌∙◌}
use Rattle.std.specs.Prelude.{slice_get}
use Rattle.std.proofs.lemmas.Bool.{ltb-false, ltb-true}
use Rattle.std.proofs.lemmas.Option.{slice_get_past, slice_get_read}
use Rattle.rmt_ptcam.specs.declared.joining.rows.StateRows.{StateRows}
use Rattle.rmt_ptcam.proofs.InPlaceLaws.{absent_in, count_in_state}
use Rattle.rmt_ptcam.proofs.clustered.clustering.count_rows.Goals as goal

pub returns-in-Some : goal.returns-in-Some
returns-in-Some c =
    let g : List StateRows = c.args.groups.now in
    let s : StateRows = c.in-Some.group.now in
    let there : slice_get g c.from.result ≡ Some s = slice_get_read g (length g) c.from.result s refl (ltb-true c.from.result (length g) (sym c.in-Some.ensures.lookup.0)) c.in-Some.ensures.lookup.1 in
    c.len.ensures ∙ sym (count_in_state g c.args.state s c.requires.stand.own (ap (slice_get g) (sym c.from.ensures) ∙ there))

pub returns-in-None : goal.returns-in-None
returns-in-None c =
    let g : List StateRows = c.args.groups.now in
    let high = ltb-false c.from.result (length g) (sym c.in-None.ensures.lookup.0) in
    let none : slice_get g c.from.result ≡ None = slice_get_past g c.from.result (omega (arith, high)) in
    sym (ap length (absent_in g c.args.state c.requires.stand.own (ap (slice_get g) (sym c.from.ensures) ∙ none)))
