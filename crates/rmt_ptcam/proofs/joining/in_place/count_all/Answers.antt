use Rattle.std.proofs.Common.{◌+◌, ◌≡◌, ◌≤◌, ap, arith, get_or, length, take}
use Rattle.std.proofs.lemmas.List.Folds.{length-flat_map-take}
use Rattle.rmt_ptcam.specs.declared.joining.rows.StateRows.{StateRows}
use Rattle.rmt_ptcam.specs.Grouping.{all_rows}
use Rattle.rmt_ptcam.proofs.joining.in_place.count_all.Goals as goal

pub overflow_add-count : goal.overflow_add-count
overflow_add-count c =
    let g = c.args.groups.now in
    let i = c.loop-group.group-index in
    let s : StateRows = c.group-item.result in
    let part : length (all_rows (take i g)) + length (get_or g i s).rows ≤ length (all_rows g) = length-flat_map-take (λ (x : StateRows). x.rows) g i s c.loop-group-test.true in
    let item : length s.rows ≡ length (get_or g i s).rows = ap (λ (x : StateRows). length x.rows) c.group-item.is in
    let few = c.requires in
    let so_far = c.loop-group.invariant in
    let count = c.len-count.ensures in
    omega (arith, part, item, few, so_far, count)
