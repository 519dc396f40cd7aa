use Rattle.std.proofs.Common.{◌≡◌, ◌+◌, ◌++◌, Bool, List, true, false, ap, drop, length, map, refl, sym, take, ◌∙◌}
use Rattle.std.specs.Prelude.{not}
use Rattle.std.proofs.Math.Seq.{take-append_seam}
use Rattle.std.specs.Cmp.Lexicographic.{same_text}
use Rattle.rmt_ptcam.specs.declared.joining.rows.StateRows.{StateRows}
use Rattle.rmt_ptcam.specs.Grouping.{widened_row}
use Rattle.rmt_ptcam.specs.Joining.{Row}
use Rattle.rmt_ptcam.proofs.InPlaceLaws.{put_is}
use Rattle.rmt_ptcam.proofs.joining.in_place.put_in.Goals.{then-ne, else-ne}
use Rattle.rmt_ptcam.proofs.joining.in_place.put_in.Goals as goal

from_not : (b : Bool) → false ≡ not b → true ≡ b
from_not true is = refl
from_not false is = absurd cc

pub returns : goal.returns
returns c =
    let s : StateRows = c.args.state.now in
    let others : StateRows = c.args.others in
    let rows : c.into_vec-rows.result.items ≡ s.rows = c.into_vec-rows.ensures ∙ c.replace.ensures.value in
    let wide : c.if-ne.rows.items ≡ map (widened_row s.lookups others.lookups) s.rows = elim c.if-ne.branch [
      | then-ne w ↦
          let ws : List Row = w.widen.new.rows in
          let len : length ws ≡ c.into_vec-rows.result.len = w.widen.auto.rows ∙ w.deref_mut.ensures.len in
          let rest : List Row = drop (length ws) c.into_vec-rows.result.items in
          ap (λ v. v.items) w.rows-is ∙ ap (λ k. take k (ws ++ rest)) (sym len) ∙ take-append_seam ws rest ∙ w.widen.ensures
          ∙ ap (λ ls. map (widened_row ls w.as_slice-then-ne-2.result.now) w.deref_mut.result.now) w.as_slice-then-ne.ensures
          ∙ ap (λ ls. map (widened_row s.lookups ls) w.deref_mut.result.now) w.as_slice-then-ne-2.ensures
          ∙ ap (map (widened_row s.lookups others.lookups)) (w.deref_mut.ensures.value ∙ rows)
      | else-ne w ↦
          let same : others.lookups ≡ s.lookups = sym c.as_slice-2.ensures ∙ sym (same_text c.as_slice.result.now c.as_slice-2.result.now (from_not _ w.if-ne.ensures)) ∙ c.as_slice.ensures in
          ap (λ v. v.items) w.rows-is ∙ rows ∙ sym (c.requires.same same) ∙ ap (λ ls. map (widened_row s.lookups ls) s.rows) (sym same)
    ] in
    let put : c.from_vec.result ≡ take c.args.at c.if-ne.rows.items ++ (others.rows ++ drop (c.args.at + 1) c.if-ne.rows.items) =
    c.from_vec.ensures ∙ c.in_ok-replace_row.ensures ∙ ap (λ (xs : List Row). take c.args.at c.if-ne.rows.items ++ (xs ++ drop (c.args.at + 1) c.if-ne.rows.items)) c.into_vec.ensures in
    ap (λ (xs : List Row). record { lookups = others.lookups; rows = xs }) (put ∙ put_is s others c.args.at c.if-ne.rows.items wide)
