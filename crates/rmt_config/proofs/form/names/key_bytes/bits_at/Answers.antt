use Rattle.std.proofs.Common.{◌≡◌, ◌+◌, ◌-◌, ◌*◌, ◌/◌, ◌%◌, ◌^◌, ◌<◌, ◌≤◌, get_or, length, ap, sym, ◌∙◌, arith}
use Rattle.std.proofs.lemmas.Nat.{div-add-mod', mod_below}
use Rattle.std.proofs.Math.Nat.{mod-eq_of_lt, pow-le-pow_right}
use Rattle.rmt_bits.specs.Bits.{slice}
use Rattle.rmt_bits.proofs.BitLaws.{slice-lt}
use Rattle.rmt_config.specs.Cells.{sram_row, unit_row}
use Rattle.rmt_config.proofs.HeldRows.{sram-within}
use Rattle.rmt_config.proofs.UnitBits.{unit-slice, unit-across}
use Rattle.rmt_config.proofs.form.names.key_bytes.bits_at.Goals as goal

pub returns-then-low-len-le112 : goal.returns-then-low-len-le112
returns-then-low-len-le112 c =
    let held = sram_row c.args.unit.now.rows.now in
    let blocks = c.args.unit.now.blocks.now in
    let bit = c.args.bit in
    c.slice.ensures ∙ ap (λ n. slice n (bit % 112) c.args.len) c.row_bits-first.ensures
    ∙ sym (unit-slice held c.args.unit.now.row blocks (bit / 112) (bit % 112) c.args.len (sram-within c.args.unit.now.rows.now c.requires.rows.small) (omega (arith, c.requires.some, c.requires.within)) c.if-low-len-le112.true)
    ∙ ap (λ n. slice (unit_row 112 held c.args.unit.now.row blocks) n c.args.len) (div-add-mod' bit 112)

-- two pieces are one
both : (c : goal.After-slice-2) → c.slice-high.result * 2 ^ (112 - c.args.bit % 112) + c.slice-2.result
    ≡ slice (unit_row 112 (sram_row c.args.unit.now.rows.now) c.args.unit.now.row c.args.unit.now.blocks.now) c.args.bit c.args.len
both c =
    let held = sram_row c.args.unit.now.rows.now in
    let row = c.args.unit.now.row in
    let blocks = c.args.unit.now.blocks.now in
    let bit = c.args.bit in
    let len = c.args.len in
    let low = bit % 112 in
    let here = 112 - low in
    let lt : low < 112 = mod_below bit 112 (omega arith) in
    let next : bit / 112 + 1 < length blocks = omega (arith, c.requires.within, c.if-low-len-le112.false, div-add-mod' bit 112) in
    let long : len - here + here ≡ len = omega (arith, c.if-low-len-le112.false, lt) in
    ap (λ n. n * 2 ^ here + c.slice-2.result) (c.slice-high.ensures ∙ ap (λ n. slice n 0 (len - here)) c.row_bits-second.ensures)
    ∙ ap (λ n. slice (held (get_or blocks (bit / 112 + 1) 0) row) 0 (len - here) * 2 ^ here + n) (c.slice-2.ensures ∙ ap (λ n. slice n low here) c.row_bits-first.ensures)
    ∙ sym (unit-across held row blocks (bit / 112) low (len - here) (sram-within c.args.unit.now.rows.now c.requires.rows.small) next lt (omega (arith, c.requires.most)))
    ∙ ap (λ n. slice (unit_row 112 held row blocks) n (len - here + here)) (div-add-mod' bit 112)
    ∙ ap (slice (unit_row 112 held row blocks) bit) long

below : (c : goal.After-slice-2) → c.slice-high.result * 2 ^ (112 - c.args.bit % 112) + c.slice-2.result < 2 ^ 64
below c =
    let x = unit_row 112 (sram_row c.args.unit.now.rows.now) c.args.unit.now.row c.args.unit.now.blocks.now in
    let big : 2 ^ c.args.len ≤ 2 ^ 64 = pow-le-pow_right (omega arith) c.requires.most in
    omega (arith, both c, slice-lt x c.args.bit c.args.len, big)

whole : (c : goal.After-slice-2) → c.slice-high.result * 2 ^ (112 - c.args.bit % 112) % 2 ^ 64 ≡ c.slice-high.result * 2 ^ (112 - c.args.bit % 112)
whole c = mod-eq_of_lt (let h = below c in omega (arith, h))

pub overflow_add-result : goal.overflow_add-result
overflow_add-result c = let e = whole c in let h = below c in omega (arith, e, h)

pub returns : goal.returns
returns c = ap (λ n. n + c.slice-2.result) (whole c) ∙ both c
