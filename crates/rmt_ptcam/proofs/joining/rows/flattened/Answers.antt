use Rattle.std.proofs.Common.{◌≡◌, ◌≤◌, ◌+◌, ◌++◌, ◌∷◌, [], List, Some, ap, arith, get_or, length, refl, sym, subst, take, ◌∙◌}
use Rattle.std.specs.Prelude.{slice_get}
use Rattle.std.proofs.lemmas.List.Folds.{length-flat_map-take}
use Rattle.std.proofs.lemmas.Option.{slice_get_read}
use Rattle.rmt_ptcam.specs.Types.{ParserConfig, ParserState}
use Rattle.rmt_ptcam.specs.declared.joining.rows.StateRows.{StateRows}
use Rattle.rmt_ptcam.specs.Adding.{Adds}
use Rattle.rmt_ptcam.specs.Grouping.{all_rows, state_in}
use Rattle.rmt_ptcam.specs.Joining.{Row}
use Rattle.rmt_ptcam.proofs.AddingLaws.{adds_more, length_added}
use Rattle.rmt_ptcam.proofs.GroupLaws.{all_flat, rows_more, states_more}
use Rattle.rmt_ptcam.proofs.joining.rows.flattened.Goals as goal

pub push_group-requires : goal.push_group-requires
push_group-requires c =
    let g : List StateRows = c.args.groups.now in
    let i = c.loop-group.group-index in
    let s : StateRows = c.group-item.result in
    let part : length (all_rows (take i g)) + length (get_or g i s).rows ≤ length (all_rows g) = length-flat_map-take (λ (x : StateRows). x.rows) g i s c.loop-group-test.true in
    let item : length s.rows ≡ length (get_or g i s).rows = ap (λ (x : StateRows). length x.rows) c.group-item.is in
    let so_far = length_added (all_rows (take i g)) [] c.loop-group.parser.entries [] c.loop-group.parser.tails c.loop-group.invariant.rows in
    let few = c.requires in
    omega (arith, part, item, so_far, few)

pub loop-group-preserved : goal.loop-group-preserved
loop-group-preserved c =
    let g : List StateRows = c.args.groups.now in
    let i = c.loop-group.group-index in
    let s : StateRows = c.group-item.result in
    let before : ParserConfig = c.loop-group.parser in
    let after : ParserConfig = c.push_group.new.parser in
    let there : slice_get g i ≡ Some s = slice_get_read g (length g) i s refl c.loop-group-test.true c.group-item.is in
    record {
      states = c.in_ok-push_group.ensures.states ∙ ap (λ (ss : List ParserState). ss ++ state_in s ∷ []) c.loop-group.invariant.states ∙ sym (states_more g i s there);
      rows = subst (λ (l : List Row). Adds l [] after.entries [] after.tails) (sym (rows_more g i s there))
          (adds_more (all_rows (take i g)) s.rows [] before.entries after.entries [] before.tails after.tails c.loop-group.invariant.rows c.in_ok-push_group.ensures.rows);
    }

pub returns : goal.returns
returns c =
    let end = c.loop-group-test.false in
    all_flat c.args.groups.now c.loop-group.group-index c.loop-group.parser (omega (arith, end)) c.loop-group.invariant.states c.loop-group.invariant.rows
