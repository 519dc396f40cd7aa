use Rattle.std.proofs.Common.{◌≡◌, ◌<◌, ◌++◌, ◌∷◌, [], ℕ, List, length, get_or, sym, ap, subst, ◌∙◌}
use Rattle.rmt_refine.specs.Types.{Field}
use Rattle.rmt_verify.proofs.KnownLaws.{widths_more}
use Rattle.rmt_verify.proofs.cells.widths_of.Goals as goal

pub loop-field-preserved : goal.loop-field-preserved
loop-field-preserved c =
    let p = c.args.program.now in
    let key = c.args.table.now.key in
    let i = c.loop-field.field-index in
    let x = c.index-as_slice-field.result in
    let lt : i < length key = subst (λ (fs : List ℕ). i < length fs) c.as_slice-field-items.ensures c.loop-field-test.true in
    let is : x ≡ get_or p.fields (get_or key i 0) x =
    c.index-as_slice-field.is ∙ ap (λ (xs : List Field). get_or xs (get_or c.as_slice-field-items.result.now i 0) x) c.as_slice.ensures ∙ ap (λ (fs : List ℕ). get_or p.fields (get_or fs i 0) x) c.as_slice-field-items.ensures in
    c.in_ok-push.ensures.ok ∙ ap (λ (y : Field). c.loop-field.widths ++ y.width ∷ []) (sym c.index-as_slice-field.is) ∙ ap (λ (ws : List ℕ). ws ++ x.width ∷ []) c.loop-field.invariant ∙ widths_more p key i x lt (c.requires i 0 lt) is
