use Rattle.std.proofs.Common.{◌≡◌, ℕ, List, map, sym, ap, ◌∙◌, subst}
use Rattle.std.specs.List.{AllZip}
use Rattle.rmt_ast.specs.WellFormed.{Fits}
use Rattle.rmt_pack.specs.declared.tcam.TcamWord.{TcamWord}
use Rattle.rmt_config.specs.Rooms.{side_by_side}
use Rattle.rmt_pack.specs.Tcam.{joined_words, IsWords}
use Rattle.rmt_pack.proofs.TcamLaws.{values_of, masks_of, values-fit, masks-fit, fills, row-matches}
use Rattle.rmt_pack.proofs.tcam.tcam_row.Goals as goal
use Rattle.rmt_pack.proofs.tcam.tcam_row.Goals.{In_ok-row}

-- numbers that fit their widths, by equal lists
fit_at : (widths ws vs vals : List ℕ) → ws ≡ widths → vs ≡ vals → AllZip Fits widths vals → AllZip Fits ws vs
fit_at widths ws vs vals ws_is vs_is fit = subst (λ (xs : List ℕ). AllZip Fits xs vs) (sym ws_is) (subst (AllZip Fits widths) (sym vs_is) fit)

-- what a row's words are together
joined_at : (widths ws vs vals row words : List ℕ) (bits : ℕ) → ws ≡ widths → vs ≡ vals → row ≡ words → IsWords words (side_by_side ws vs) bits → joined_words row ≡ side_by_side widths vals
joined_at widths ws vs vals row words bits ws_is vs_is row_is is =
    ap joined_words row_is ∙ (is.value ∙ (ap (λ (xs : List ℕ). side_by_side xs vs) ws_is ∙ ap (side_by_side widths) vs_is))

pub side_words-requires-clause-fit : goal.side_words-requires-clause-fit
side_words-requires-clause-fit c =
    let tests = c.args.tests.now in
    let widths = c.args.widths.now in
    fit_at widths c.as_slice-2.result.now c.as_slice.result.now (values_of tests) c.as_slice-2.ensures
    (c.as_slice.ensures.value ∙ (c.in_ok-values.ensures ∙ ap values_of c.as_slice-tests.ensures)) (values-fit widths tests c.requires.tests)

pub side_words-requires-2-clause-fit : goal.side_words-requires-2-clause-fit
side_words-requires-2-clause-fit c =
    let tests = c.args.tests.now in
    let widths = c.args.widths.now in
    fit_at widths c.as_slice-4.result.now c.as_slice-3.result.now (masks_of tests) c.as_slice-4.ensures
    (c.as_slice-3.ensures.value ∙ (c.in_ok-masks.ensures ∙ ap masks_of c.as_slice-tests.ensures)) (masks-fit widths tests c.requires.tests)

-- the values of the row together, and its masks
valued : (c : In_ok-row) → joined_words (map (λ (w : TcamWord). w.value) c.in_ok-row.row) ≡ side_by_side c.args.widths.now (values_of c.args.tests.now)
valued c =
    joined_at c.args.widths.now c.as_slice-2.result.now c.as_slice.result.now (values_of c.args.tests.now) (map (λ (w : TcamWord). w.value) c.in_ok-row.row) c.in_ok-values-2.values _
    c.as_slice-2.ensures (c.as_slice.ensures.value ∙ (c.in_ok-values.ensures ∙ ap values_of c.as_slice-tests.ensures))
    (c.in_ok-row.ensures.values ∙ c.as_slice-5.ensures) c.in_ok-values-2.ensures

masked : (c : In_ok-row) → joined_words (map (λ (w : TcamWord). w.mask) c.in_ok-row.row) ≡ side_by_side c.args.widths.now (masks_of c.args.tests.now)
masked c =
    joined_at c.args.widths.now c.as_slice-4.result.now c.as_slice-3.result.now (masks_of c.args.tests.now) (map (λ (w : TcamWord). w.mask) c.in_ok-row.row) c.in_ok-masks-2.masks _
    c.as_slice-4.ensures (c.as_slice-3.ensures.value ∙ (c.in_ok-masks.ensures ∙ ap masks_of c.as_slice-tests.ensures))
    (c.in_ok-row.ensures.masks ∙ c.as_slice-6.ensures) c.in_ok-masks-2.ensures

pub returns-clause-value_row : goal.returns-clause-value_row
returns-clause-value_row c = fills (map (λ (w : TcamWord). w.value) c.in_ok-row.row) (side_by_side c.args.widths.now (values_of c.args.tests.now)) (valued (goal.at.returns-clause-value_row c).In_ok-row)

pub returns-clause-mask_row : goal.returns-clause-mask_row
returns-clause-mask_row c = fills (map (λ (w : TcamWord). w.mask) c.in_ok-row.row) (side_by_side c.args.widths.now (masks_of c.args.tests.now)) (masked (goal.at.returns-clause-mask_row c).In_ok-row)

pub returns-clause-matches : goal.returns-clause-matches
returns-clause-matches c =
    let k = (goal.at.returns-clause-matches c).In_ok-row in
    row-matches c.args.widths.now c.args.tests.now c.in_ok-row.row c.requires.tests (valued k) (masked k)
