use Rattle.std.proofs.Common.{sym, ap, ◌∙◌, arith}
use Rattle.std.proofs.lemmas.List.{get_or_default}
use Rattle.rmt_config.specs.StageForm.{srow_number}
use Rattle.rmt_config.proofs.HeadRows.{row-found, row-none}
use Rattle.rmt_config.proofs.form.sram.row_bits.Goals as goal
use Rattle.rmt_config.proofs.form.sram.row_bits.Goals.{else-found-rows-via-then-found-rows+else-place-number, else-found-rows-via-else-found-rows}

pub returns-then-place-number : goal.returns-then-place-number
returns-then-place-number c =
    row-found c.args.rows.now c.first_near-found.result c.args.block c.args.row _ c.requires.rows.rise c.requires.rows.low c.requires.row c.if-found-rows.true
    (sym c.place.ensures ∙ c.if-place-number.true)

pub returns-else-found-rows : goal.returns-else-found-rows
returns-else-found-rows c =
    row-none c.args.rows.now c.first_near-found.result c.args.block c.args.row c.requires.rows.rise c.first_near-found.ensures.below c.first_near-found.ensures.above
    (λ d lt e. elim c.else-found-rows.branch [
      | else-found-rows-via-then-found-rows+else-place-number w ↦
          w.if-place-number.false (w.place.ensures ∙ ap srow_number (get_or_default c.args.rows.now c.first_near-found.result _ d lt) ∙ e)
      | else-found-rows-via-else-found-rows w ↦ absurd (omega (arith, w.if-found-rows.false, lt))
    ])
