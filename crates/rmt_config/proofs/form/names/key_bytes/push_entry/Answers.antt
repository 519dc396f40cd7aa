use Rattle.std.proofs.Common.{◌≡◌, ◌+◌, ◌*◌, ◌++◌, List, ℕ, sym, ap, ◌∙◌, subst, arith}
use Rattle.std.specs.Prelude.{OnOk}
use Rattle.rmt_bits.specs.Bits.{slice, bytes_of}
use Rattle.rmt_config.specs.BlockCounts.{divided_up}
use Rattle.rmt_config.specs.Cells.{sram_row, unit_row}
use Rattle.rmt_config.specs.Layouts.{quantum_of, local_of, position_of, entry_in}
use Rattle.rmt_config.proofs.SpelledBytes.{spot-low, spot-read, spot-row, spot-unit}
use Rattle.rmt_config.proofs.form.names.key_bytes.push_entry.Goals as goal
use Rattle.rmt_bits.proofs.BitLaws.{slice-slice}

pub piece_at-requires : goal.piece_at-requires
piece_at-requires c = spot-unit c.args.layout.now c.args.cell _ _ c.requires.layout.is c.requires.cell c.requires.blocks c.spot_of-spot.ensures.unit

pub push_bits-requires-clause-row : goal.push_bits-requires-clause-row
push_bits-requires-clause-row c = spot-row c.args.layout.now c.args.cell _ c.requires.layout c.spot_of-spot.ensures.row

pub push_bits-requires-clause-within : goal.push_bits-requires-clause-within
push_bits-requires-clause-within c =
    omega (arith, spot-low c.args.layout.now c.args.cell _ c.requires.layout c.spot_of-spot.ensures.low, c.piece_at.ensures.size, c.requires.bits)

pub push_bits-requires-clause-few : goal.push_bits-requires-clause-few
push_bits-requires-clause-few c =
    omega (arith, spot-low c.args.layout.now c.args.cell _ c.requires.layout c.spot_of-spot.ensures.low, c.requires.bits, c.requires.layout.is.most_side)

pub returns : goal.returns
returns c =
    let l = c.args.layout.now in
    let n = c.args.cell in
    let i = local_of l n in
    let sram = sram_row c.args.rows.now in
    let blocks = c.args.blocks.now in
    let from = c.args.from in
    let len = c.args.len in
    let spot = c.spot_of-spot in
    let unit = c.piece_at in
    let e : slice (unit_row 112 sram spot.result.row unit.result.now) (spot.result.low + from) len ≡ slice (entry_in l sram blocks (quantum_of l n) i) from len =
    ap (λ (bs : List ℕ). slice (unit_row 112 sram spot.result.row bs) (spot.result.low + from) len) unit.ensures.value
    ∙ spot-read l sram blocks n spot.result.unit spot.result.row spot.result.low (λ x low. slice x (low + from) len) c.requires.layout.in_sram spot.ensures.unit spot.ensures.row spot.ensures.low
    ∙ sym (slice-slice _ (position_of l i * l.entry) l.entry from len c.requires.bits) in
    subst (λ y. OnOk c.push_bits.result (c.push_bits.new.into.items ≡ c.args.into.now.items ++ bytes_of (divided_up len 8) y)) e c.push_bits.ensures
