-- A cell is a candidate cell of a key exactly where the key's row in the cell's way is that of the cell.
use Rattle.std.proofs.Common.{subst, ◌≡◌, ℕ, zero, suc, ◌+◌, ◌-◌, ◌*◌, ◌/◌, ◌%◌, ◌^◌, ◌<◌, List, [], ◌++◌, Bool, true, false, ◌&&◌, ◌||◌, eqb, sym, ap, ◌∙◌, arith}
use Rattle.std.specs.List.{list_any, flat_map, range_with_len}
use Rattle.std.proofs.lemmas.Bool.{and_parts, and_from, eqb-true, eq-eqb}
use Rattle.std.proofs.lemmas.Nat.{div-add-mod', div-mul-add, mod-mul-add, mod_below}
use Rattle.std.proofs.lemmas.List.Folds.{list_any-append}
use Rattle.rmt_bits.specs.Bits.{slice, bytes_of}
use Rattle.rmt_bits.specs.Hash.{hash_row}
use Rattle.rmt_bits.proofs.BitLaws.{slice-lt, slice-slice}
use Rattle.rmt_config.specs.Types.{CellNumber, SramRow}
use Rattle.rmt_config.specs.Cells.{Cell, blocks_at, cell_of, entry_at, sram_row, unit_row}
use Rattle.rmt_config.specs.KeysSeen.{is_candidate, stands_there}
use Rattle.rmt_config.proofs.SpelledRows.{range-from, range-to}
use Rattle.rmt_bits.proofs.OptionLaws.{same_Bool}
use Rattle.std.proofs.Math.Nat.{mod-eq_of_lt}
use Rattle.std.proofs.lemmas.Nat.{shr_below}
use Rattle.std.proofs.Math.Bool.{or-false}

-- the cells of a row of a way
row-cells : (rows per way row cell : ℕ) → 0 < per → row < rows
    → list_any (λ m. eqb m cell) (range_with_len ((way * rows + row) * per + 0) per) ≡ (eqb way (cell / per / rows) && eqb row (cell / per % rows))
row-cells rows per way row cell some low =
    same_Bool (list_any (λ m. eqb m cell) (range_with_len (q * per + 0) per)) (eqb way (cell / per / rows) && eqb row (cell / per % rows)) there back
  where
    q : ℕ
    q = way * rows + row

    there : list_any (λ m. eqb m cell) (range_with_len (q * per + 0) per) ≡ true → (eqb way (cell / per / rows) && eqb row (cell / per % rows)) ≡ true
    there h =
        let l = range-to (q * per + 0) per cell h in
        let s = cell - q * per in
        let is : q * per + s ≡ cell = omega (arith, l.0) in
        let lt : s < per = omega (arith, l.0, l.1) in
        let place : cell / per ≡ q = ap (λ n. n / per) (sym is) ∙ div-mul-add q per s lt in
        and_from (eqb way (cell / per / rows)) (eqb row (cell / per % rows))
        (eq-eqb way (cell / per / rows) (sym (ap (λ n. n / rows) place ∙ div-mul-add way rows row low)))
        (eq-eqb row (cell / per % rows) (sym (ap (λ n. n % rows) place ∙ mod-mul-add way rows row low)))

    back : (eqb way (cell / per / rows) && eqb row (cell / per % rows)) ≡ true → list_any (λ m. eqb m cell) (range_with_len (q * per + 0) per) ≡ true
    back h =
        let parts = and_parts (eqb way (cell / per / rows)) (eqb row (cell / per % rows)) h in
        let e : q ≡ cell / per = ap (λ w. w * rows + row) (eqb-true way (cell / per / rows) parts.0) ∙ ap (λ r. cell / per / rows * rows + r) (eqb-true row (cell / per % rows) parts.1) ∙ div-add-mod' (cell / per) rows in
        let is : q * per + cell % per ≡ cell = ap (λ n. n * per + cell % per) e ∙ div-add-mod' cell per in
        let lt : cell % per < per = mod_below cell per some in
        range-from (q * per + 0) per cell (omega (arith, is)) (omega (arith, is, lt))

-- of four ways one is that of the cell
one-way : (f g : ℕ → Bool) (w : ℕ) → w < 4 → ((k : ℕ) → f k ≡ (eqb k w && g k)) → (f 0 || (f 1 || (f 2 || (f 3 || false)))) ≡ g w
one-way f g zero lt h = rw (h 0, h 1, h 2, h 3) (or-false (g 0))
one-way f g (suc zero) lt h = rw (h 0, h 1, h 2, h 3) (or-false (g 1))
one-way f g (suc (suc zero)) lt h = rw (h 0, h 1, h 2, h 3) (or-false (g 2))
one-way f g (suc (suc (suc zero))) lt h = rw (h 0, h 1, h 2, h 3) (or-false (g 3))
one-way f g (suc (suc (suc (suc w)))) lt h = absurd (omega (arith, lt))

four-ways : (p : ℕ → Bool) (f : ℕ → List ℕ) → list_any p (flat_map f (range_with_len 0 4)) ≡ (list_any p (f 0) || (list_any p (f 1) || (list_any p (f 2) || (list_any p (f 3) || false))))
four-ways p f =
    list_any-append p (f 0) (f 1 ++ (f 2 ++ (f 3 ++ [])))
    ∙ ap (λ b. list_any p (f 0) || b) (list_any-append p (f 1) (f 2 ++ (f 3 ++ [])) ∙ ap (λ b. list_any p (f 1) || b) (list_any-append p (f 2) (f 3 ++ []) ∙ ap (λ b. list_any p (f 2) || b) (list_any-append p (f 3) [])))

pub candidate-row : (seed first per d : ℕ) (key : List ℕ) (cell : ℕ) → 0 < per → 0 < d → cell / per / (1024 * d) < 4
    → is_candidate seed first per d key cell ≡ eqb (hash_row seed (first + cell / per / (1024 * d)) key (1024 * d)) (cell / per % (1024 * d))
candidate-row seed first per d key cell lp ld way =
    let rows = 1024 * d in
    let hash : ℕ → ℕ = λ way. hash_row seed (first + way) key rows in
    let cells : ℕ → List ℕ = λ way. range_with_len ((way * rows + hash way) * per + 0) per in
    let some : 0 < rows = omega (arith, ld) in
    four-ways (λ m. eqb m cell) cells
    ∙ one-way (λ k. list_any (λ m. eqb m cell) (cells k)) (λ k. eqb (hash k) (cell / per % rows)) (cell / per / rows) way
    (λ k. row-cells rows per k (hash k) cell lp (mod_below _ rows some))

-- ---- the key of a cell

pub above-byte : (x bits : ℕ) → x < 2 ^ (bits + 8) → slice x 8 bits ≡ x / 256
above-byte x bits lt = mod-eq_of_lt (shr_below x bits 8 lt)

-- what is read of an entry behind its head is the key
pub key-read : (x low bits : ℕ) → slice x (low + 8) bits ≡ slice x low (bits + 8) / 256
key-read x low bits = sym (slice-slice x low (bits + 8) 8 bits (omega arith)) ∙ above-byte (slice x low (bits + 8)) bits (slice-lt x low (bits + 8))

-- the key in an entry, read from the row of its unit
pub entry-key : (rows rs : List SramRow) (blocks unit : List ℕ) (width bits way row position r : ℕ) → rs ≡ rows → unit ≡ blocks_at blocks width (row / 1024 * 4 + way) → r ≡ row % 1024
    → slice (unit_row 112 (sram_row rs) r unit) (position * (bits + 8) + 8) bits ≡ entry_at (sram_row rows) blocks width bits (record { way = way; row = row; position = position }) / 256
entry-key rows rs blocks unit width bits way row position r er eu e =
    let key : List SramRow → ℕ → List ℕ → ℕ = λ xs n bs. slice (unit_row 112 (sram_row xs) n bs) (position * (bits + 8) + 8) bits in
    ap (λ (xs : List SramRow). key xs r unit) er ∙ ap (key rows r) eu ∙ ap (λ n. key rows n (blocks_at blocks width (row / 1024 * 4 + way))) e
    ∙ key-read (unit_row 112 (sram_row rows) (row % 1024) (blocks_at blocks width (row / 1024 * 4 + way))) (position * (bits + 8)) bits

-- what is said of a cell is said of the place where it lies
pub place-same : {X : Type 0} (f : Cell → X) (rows per n way row position : ℕ) → way ≡ n / per / rows → row ≡ n / per % rows → position ≡ n % per
    → f (record { way = way; row = row; position = position }) ≡ f (cell_of rows per n)
place-same f rows per n way row position a b c =
    ap (λ w. f (record { way = w; row = row; position = position })) a ∙ ap (λ r. f (record { way = n / per / rows; row = r; position = position })) b
    ∙ ap (λ p. f (record { way = n / per / rows; row = n / per % rows; position = p })) c

-- a cell stands where the bytes that were read are those of its key, and their row in its way is its own
pub cell-stands : (seed first per d size : ℕ) (key : CellNumber → ℕ) (n : CellNumber) (bytes : List ℕ) (way row : ℕ) (b : Bool) → 0 < per → 0 < d → way < 4
    → way ≡ n.cell / per / (1024 * d) → row ≡ n.cell / per % (1024 * d) → bytes ≡ bytes_of size (key n) → b ≡ eqb (hash_row seed (first + way) bytes (1024 * d)) row
    → stands_there seed first per d size key n ≡ b
cell-stands seed first per d size key n bytes way row b lp ld four is_way is_row is found =
    let is_at : List ℕ → ℕ → ℕ → Bool = λ bs w r. eqb (hash_row seed (first + w) bs (1024 * d)) r in
    candidate-row seed first per d (bytes_of size (key n)) n.cell lp ld (subst (λ w. w < 4) is_way four)
    ∙ ap (is_at (bytes_of size (key n)) (n.cell / per / (1024 * d))) (sym is_row) ∙ ap (λ w. is_at (bytes_of size (key n)) w row) (sym is_way)
    ∙ ap (λ (bs : List ℕ). is_at bs way row) (sym is) ∙ sym found
