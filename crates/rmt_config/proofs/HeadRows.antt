-- What a search for a row finds, and the head that two rows give.
use Rattle.std.proofs.Common.{◌≡◌, ℕ, ◌+◌, ◌*◌, ◌/◌, ◌%◌, ◌^◌, ◌<◌, ◌≤◌, List, length, get_or, drop, map, true, sym, refl, ap, ◌∙◌, arith}
use Rattle.std.specs.Prelude.{All}
use Rattle.std.proofs.lemmas.Nat.{div-add-mod', mod_below}
use Rattle.std.proofs.lemmas.List.{length-take, length-drop, get_or-take, get_or-drop}
use Rattle.rmt_bits.specs.Bits.{slice}
use Rattle.rmt_config.specs.Types.{SramRow}
use Rattle.rmt_config.specs.Order.{rises_from}
use Rattle.rmt_config.specs.StageForm.{srow_number}
use Rattle.rmt_config.specs.Cells.{sram_row, unit_row, blocks_at}
use Rattle.rmt_config.proofs.HeldRows.{found-numbered, none-numbered, sram-within}
use Rattle.rmt_config.proofs.HeadBits.{head_across, head-bits}

pub row-found : (rows : List SramRow) (at block row : ℕ) (d : SramRow) → rises_from 0 (map srow_number rows) ≡ true → All (λ (r : SramRow). r.row < 1024) rows
    → row < 1024 → at < length rows → srow_number (get_or rows at d) ≡ block * 1024 + row → (get_or rows at d).bits ≡ sram_row rows block row
row-found rows at block row d rise low lr lt e =
    found-numbered (λ (r : SramRow). r.block) (λ (r : SramRow). r.row) (λ (r : SramRow). r.bits) srow_number 1024 rows at block row d (λ r. refl) rise low lr lt e

pub row-none : (rows : List SramRow) (at block row : ℕ) → rises_from 0 (map srow_number rows) ≡ true
    → ((k : ℕ) (d : SramRow) → k < at → srow_number (get_or rows k d) < block * 1024 + row)
    → ((k : ℕ) (d : SramRow) → at ≤ k → k < length rows → block * 1024 + row ≤ srow_number (get_or rows k d))
    → ((d : SramRow) → at < length rows → srow_number (get_or rows at d) ≡ block * 1024 + row → ⊥) → 0 ≡ sram_row rows block row
row-none rows at block row rise below above other =
    none-numbered (λ (r : SramRow). r.block) (λ (r : SramRow). r.row) (λ (r : SramRow). r.bits) srow_number 1024 rows at block row (λ r. refl) rise below above other

-- the head that stands from a bit on, in one block of a unit or across two
pub head-read : (rows : List SramRow) (blocks : List ℕ) (side unit row bit first second : ℕ) → All (λ (r : SramRow). r.bits < 2 ^ 112) rows
    → (unit + 1) * side ≤ length blocks → bit + 8 ≤ 112 * side → first ≡ sram_row rows (get_or blocks (unit * side + bit / 112) 0) row
    → (bit / 112 + 1 < side → second ≡ sram_row rows (get_or blocks (unit * side + bit / 112 + 1) 0) row) → (side ≤ bit / 112 + 1 → second ≡ 0)
    → head_across first second (bit % 112) ≡ slice (unit_row 112 (sram_row rows) row (blocks_at blocks side unit)) bit 8
head-read rows blocks side unit row bit first second small there fit one next last =
    ap (λ n. head_across n second (bit % 112)) (one ∙ ap (λ b. sram_row rows b row) (sym (item (bit / 112) o_lt)))
    ∙ sym (head-bits (sram_row rows) row at (bit / 112) (bit % 112) second (sram-within rows small) (omega (arith, many, o_lt)) (mod_below bit 112 (omega arith)) next' last')
    ∙ ap (λ n. slice (unit_row 112 (sram_row rows) row at) n 8) (div-add-mod' bit 112)
  where
    at : List ℕ
    at = blocks_at blocks side unit

    many : length at ≡ side
    many =
        let e = length-take side (drop (unit * side) blocks) in
        let f = length-drop (unit * side) blocks in
        let next : (unit + 1) * side ≡ unit * side + side = omega arith in
        omega (arith, e, f, next, there)

    o_lt : bit / 112 < side
    o_lt = omega (arith, fit)

    item : (o : ℕ) → o < side → get_or at o 0 ≡ get_or blocks (unit * side + o) 0
    item o lt = get_or-take side (drop (unit * side) blocks) o 0 lt ∙ get_or-drop (unit * side) blocks o 0

    next' : bit / 112 + 1 < length at → second ≡ sram_row rows (get_or at (bit / 112 + 1) 0) row
    next' lt =
        let less : bit / 112 + 1 < side = omega (arith, lt, many) in
        let e : unit * side + bit / 112 + 1 ≡ unit * side + (bit / 112 + 1) = omega arith in
        next less ∙ ap (λ n. sram_row rows (get_or blocks n 0) row) e ∙ ap (λ b. sram_row rows b row) (sym (item (bit / 112 + 1) less))

    last' : length at ≤ bit / 112 + 1 → second ≡ 0
    last' le = last (omega (arith, le, many))
