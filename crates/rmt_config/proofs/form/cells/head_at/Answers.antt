use Rattle.std.proofs.Common.{◌≡◌, ◌+◌, ◌*◌, ◌/◌, ◌<◌, get_or, sym, ap, ◌∙◌, subst, ◌^◌, arith}
use Rattle.rmt_config.specs.Cells.{sram_row}
use Rattle.rmt_config.proofs.HeldRows.{sram-within}
use Rattle.rmt_config.proofs.HeadRows.{head-read}
use Rattle.rmt_config.proofs.form.cells.head_at.Goals as goal
use Rattle.rmt_config.proofs.form.cells.head_at.Goals.{then-block-entries, else-block-entries}

pub byte_of_two-requires-clause-first : goal.byte_of_two-requires-clause-first
byte_of_two-requires-clause-first c = subst (λ n. n < 2 ^ 112) (sym c.row_bits-first.ensures) (sram-within c.args.entries.now.rows.now c.requires.entries.rows.small _ c.args.row)

pub returns : goal.returns
returns c =
    let rows = c.args.entries.now.rows.now in
    let blocks = c.args.entries.now.blocks.now in
    let side = c.args.entries.now.layout.side in
    let at = c.joined-at.result in
    let e : at ≡ c.args.unit * side + c.args.bit / 112 = c.joined-at.ensures in
    c.byte_of_two.ensures
    ∙ head-read rows blocks side c.args.unit c.args.row c.args.bit c.row_bits-first.result c.if-block-entries.second c.requires.entries.rows.small c.requires.unit c.requires.bit
    (c.row_bits-first.ensures ∙ ap (λ n. sram_row rows (get_or blocks n 0) c.args.row) e)
    (λ lt. elim c.if-block-entries.branch [
      | then-block-entries w ↦ w.second-is ∙ w.row_bits-second.ensures ∙ ap (λ n. sram_row rows (get_or blocks (n + 1) 0) c.args.row) e
      | else-block-entries w ↦ absurd (omega (arith, w.if-block-entries.false, lt))
    ])
    (λ le. elim c.if-block-entries.branch [
      | then-block-entries w ↦ absurd (omega (arith, w.if-block-entries.true, le))
      | else-block-entries w ↦ w.second-is
    ])
