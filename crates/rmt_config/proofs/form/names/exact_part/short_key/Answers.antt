use Rattle.std.proofs.Common.{◌≡◌, ◌+◌, ◌*◌, ◌∙◌, sym, subst, arith}
use Rattle.rmt_bits.specs.Bits.{bytes_of, number_of}
use Rattle.rmt_config.specs.Cells.{sram_row, unit_row}
use Rattle.rmt_config.specs.BlockCounts.{divided_up}
use Rattle.rmt_config.proofs.SpelledBytes.{slice-number}
use Rattle.rmt_config.proofs.SpelledCandidates.{entry-key}
use Rattle.rmt_config.proofs.form.names.exact_part.short_key.Goals as goal

pub bits_at-requires-clause-within : goal.bits_at-requires-clause-within
bits_at-requires-clause-within c = omega (arith, c.requires.fits, c.unit_at-unit.ensures.size)

pub returns-clause-value : goal.returns-clause-value
returns-clause-value c =
    let p = c.args.cells.now in
    let place = c.args.place in
    c.bits_at.ensures ∙ entry-key p.rows.now _ p.blocks.now _ p.width p.bits place.way place.row place.position _ c.unit_at-unit.ensures.rows c.unit_at-unit.ensures.blocks c.unit_at-unit.ensures.row

pub returns-clause-bytes : goal.returns-clause-bytes
returns-clause-bytes c =
    let p = c.args.cells.now in
    let unit = c.unit_at-unit.result in
    let x = unit_row 112 (sram_row unit.rows.now) unit.row unit.blocks.now in
    subst (λ n. number_of (bytes_of (divided_up p.bits 8) n) ≡ n) (sym c.bits_at.ensures) (slice-number x (c.args.place.position * (p.bits + 8) + 8) p.bits)
