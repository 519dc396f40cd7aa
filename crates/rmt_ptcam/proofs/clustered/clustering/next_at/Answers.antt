use Rattle.std.proofs.Common.{◌≡◌, List, None, Some, ap, arith, length, refl, sym, ◌∙◌}
use Rattle.std.specs.Prelude.{slice_get}
use Rattle.std.proofs.lemmas.Bool.{ltb-false, ltb-true}
use Rattle.std.proofs.lemmas.Option.{slice_get_past, slice_get_read}
use Rattle.rmt_ptcam.specs.Joining.{Row}
use Rattle.rmt_ptcam.specs.declared.joining.rows.StateRows.{StateRows}
use Rattle.rmt_ptcam.proofs.ClusterSteps.{goes_on, named_nowhere, named_row}
use Rattle.rmt_ptcam.proofs.clustered.clustering.next_at.Goals as goal

pub returns-in_default : goal.returns-in_default
returns-in_default c =
    let g : List StateRows = c.args.groups.now in
    let high = ltb-false c.from.result (length g) (sym c.in_default.ensures.lookup.0) in
    let none : slice_get g c.from.result ≡ None = slice_get_past g c.from.result (omega (arith, high)) in
    sym (ap goes_on (named_nowhere g c.requires.stand c.args.join (ap (slice_get g) (sym c.from.ensures) ∙ none)))

pub returns-in-Some-get : goal.returns-in-Some-get
returns-in-Some-get c =
    let g : List StateRows = c.args.groups.now in
    let s : StateRows = c.in-Some.group.now in
    let x : Row = c.in-Some-get.row.now in
    let there : slice_get g c.from.result ≡ Some s = slice_get_read g (length g) c.from.result s refl (ltb-true c.from.result (length g) (sym c.in-Some.ensures.lookup.0)) c.in-Some.ensures.lookup.1 in
    sym (ap goes_on (named_row g c.requires.stand c.args.join s (Some x) (ap (slice_get g) (sym c.from.ensures) ∙ there) (ap (slice_get s.rows) (sym c.from-2.ensures) ∙ c.in-Some-get.ensures.item)))

pub returns-in-None : goal.returns-in-None
returns-in-None c =
    let g : List StateRows = c.args.groups.now in
    let s : StateRows = c.in-Some.group.now in
    let there : slice_get g c.from.result ≡ Some s = slice_get_read g (length g) c.from.result s refl (ltb-true c.from.result (length g) (sym c.in-Some.ensures.lookup.0)) c.in-Some.ensures.lookup.1 in
    sym (ap goes_on (named_row g c.requires.stand c.args.join s None (ap (slice_get g) (sym c.from.ensures) ∙ there) (ap (slice_get s.rows) (sym c.from-2.ensures) ∙ c.in-None.ensures.item)))
