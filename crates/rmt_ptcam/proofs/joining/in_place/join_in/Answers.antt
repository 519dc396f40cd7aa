use Rattle.std.proofs.Common.{◌≡◌, ◌<◌, List, Some, ap, get_or, length, sym, subst, ◌∙◌}
use Rattle.std.specs.Prelude.{map, slice_set}
use Rattle.std.proofs.lemmas.Option.{get_or_from_slice_get, slice_get_within}
use Rattle.rmt_ptcam.specs.declared.joining.rows.StateRows.{StateRows}
use Rattle.rmt_ptcam.specs.Grouping.{put_in, stand_in_for, widened_row}
use Rattle.rmt_ptcam.proofs.InPlaceLaws.{IsMade, made, made_in, made_low, made_same, made_some}
use Rattle.rmt_ptcam.proofs.joining.in_place.join_in.Goals as goal

pub bounds-groups-from : goal.bounds-groups-from
bounds-groups-from c =
    let g : List StateRows = c.args.groups.now in
    let is : IsMade g c.args.join c.in-Some.others = made g c.args.join c.in-Some.others (sym c.in_ok-stand_in_for.ensures ∙ c.in-Some.is) in
    subst (λ k. k < length g) (sym c.from.ensures) (slice_get_within g c.args.join.state is.s is.at_n)

pub put_in-requires : goal.put_in-requires
put_in-requires c =
    let g : List StateRows = c.args.groups.now in
    let new : StateRows = c.in-Some.others in
    let d : StateRows = c.index-groups-from.result in
    let j = c.args.join in
    let some : stand_in_for g j ≡ Some new = sym c.in_ok-stand_in_for.ensures ∙ c.in-Some.is in
    let is : IsMade g j new = made g j new some in
    let own : get_or g c.from.result d ≡ is.s = ap (λ k. get_or g k d) c.from.ensures ∙ get_or_from_slice_get g j.state is.s d is.at_n in
    record {
      there = subst (λ k. k < length (get_or g c.from.result d).rows) (sym c.from-at.ensures) (subst (λ (u : StateRows). j.entry < length u.rows) (sym own) (made_low g c.requires.stand j new some));
      some = made_some g c.requires.stand j new some;
      same = subst (λ (u : StateRows). new.lookups ≡ u.lookups → map (widened_row u.lookups u.lookups) u.rows ≡ u.rows) (sym own) (made_same g c.requires.stand j new some);
    }

pub returns-in_ok-put_in-in-Some : goal.returns-in_ok-put_in-in-Some
returns-in_ok-put_in-in-Some c =
    let g : List StateRows = c.args.groups.now in
    let new : StateRows = c.in-Some.others in
    let d : StateRows = c.index-groups-from.result in
    let j = c.args.join in
    let some : stand_in_for g j ≡ Some new = sym c.in_ok-stand_in_for.ensures ∙ c.in-Some.is in
    let is : IsMade g j new = made g j new some in
    let own : get_or g c.from.result d ≡ is.s = ap (λ k. get_or g k d) c.from.ensures ∙ get_or_from_slice_get g j.state is.s d is.at_n in
    let put : c.put_in.new.state ≡ put_in is.s j.entry new =
    c.in_ok-put_in-in-Some.ensures ∙ ap (λ (u : StateRows). put_in u c.from-at.result new) own ∙ ap (λ k. put_in is.s k new) c.from-at.ensures in
    record {
      made = ap Some (ap (λ k. slice_set g k c.put_in.new.state) c.from.ensures ∙ ap (slice_set g j.state) put) ∙ sym (made_in g c.requires.stand j new some);
      kept = λ not. absurd cc;
    }
