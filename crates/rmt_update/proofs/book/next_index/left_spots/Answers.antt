use Rattle.std.proofs.Common.{◌≡◌, ◌++◌, ◌∷◌, [], Some, sym, ap, ◌∙◌, get_or}
use Rattle.std.specs.List.{filter_map}
use Rattle.std.specs.Prelude.{option_copied, slice_get}
use Rattle.std.specs.BTreeMap.{get}
use Rattle.std.specs.Ordering.{nat_cmp}
use Rattle.std.proofs.lemmas.List.{take_all}
use Rattle.std.proofs.lemmas.Option.{slice_get-get_or}
use Rattle.rmt_update.proofs.NextIndexSteps.{left-none, left-some}
use Rattle.rmt_update.proofs.book.next_index.left_spots.Goals.{in-Some+in_ok-push, in_default}
use Rattle.rmt_update.proofs.book.next_index.left_spots.Goals as goal

pub loop-number-preserved : goal.loop-number-preserved
loop-number-preserved c =
    let i = c.loop-number.number-index in
    let ns = c.args.gone.now in
    let n = get_or ns i 0 in
    let at : slice_get ns i ≡ Some n = slice_get-get_or ns i 0 c.loop-number-test.true in
    elim c.match-get.branch [
      | in-Some+in_ok-push w ↦
          ap (λ v. v.items) w.left-is ∙ w.in_ok-push.ensures.items ∙ ap (λ ys. ys ++ w.in-Some.spot.now ∷ []) c.loop-number.invariant
          ∙ sym (left-some (get nat_cmp c.args.spots.now) ns i n w.in-Some.spot.now at (sym c.get.ensures.value ∙ ap option_copied w.in-Some.is))
      | in_default w ↦ ap (λ v. v.items) w.left-is ∙ c.loop-number.invariant ∙ sym (left-none (get nat_cmp c.args.spots.now) ns i n at (sym c.get.ensures.value ∙ ap option_copied w.in_default.is))
    ]

pub loop-number-init : goal.loop-number-init
loop-number-init c = c.in_ok-left.ensures.items

pub returns : goal.returns
returns c = c.loop-number.invariant ∙ ap (filter_map (get nat_cmp c.args.spots.now)) (take_all c.loop-number.number-index c.args.gone.now c.loop-number-test.false)
