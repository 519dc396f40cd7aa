use Rattle.std.proofs.Common.{◌≡◌, ℕ, sym, ap, ◌∙◌, arith}
use Rattle.std.proofs.lemmas.List.{get_or_default}
use Rattle.rmt_config.specs.Cells.{tcam_row}
use Rattle.rmt_config.specs.StageForm.{trow_number}
use Rattle.rmt_config.specs.Types.{TcamRow}
use Rattle.rmt_config.proofs.PrefixRowLaws.{trow-found, trow-none}
use Rattle.rmt_config.proofs.form.tcam.row_compared.Goals as goal
use Rattle.rmt_config.proofs.form.tcam.row_compared.Goals.{else-at-rows-via-then-at-rows+else-place-number, else-at-rows-via-else-at-rows}

pub returns-then-place-number : goal.returns-then-place-number
returns-then-place-number c =
    let found = λ (val : TcamRow → ℕ). trow-found val c.args.rows.now c.first_near-at.result c.args.block c.args.row _ c.requires.rows c.requires.row c.if-at-rows.true
    (sym c.place.ensures ∙ c.if-place-number.true) in
    record { value = found (λ t. t.value); mask = found (λ t. t.mask) }

pub returns-else-at-rows : goal.returns-else-at-rows
returns-else-at-rows c = record { value = none (λ t. t.value); mask = none (λ t. t.mask) }
  where
    none : (val : TcamRow → ℕ) → 0 ≡ tcam_row val c.args.rows.now c.args.block c.args.row
    none val =
        trow-none val c.args.rows.now c.first_near-at.result c.args.block c.args.row c.requires.rows c.first_near-at.ensures.below c.first_near-at.ensures.above
        (λ d lt e. elim c.else-at-rows.branch [
          | else-at-rows-via-then-at-rows+else-place-number w ↦
              w.if-place-number.false (w.place.ensures ∙ ap trow_number (get_or_default c.args.rows.now c.first_near-at.result _ d lt) ∙ e)
          | else-at-rows-via-else-at-rows w ↦ absurd (omega (arith, w.if-at-rows.false, lt))
        ])
