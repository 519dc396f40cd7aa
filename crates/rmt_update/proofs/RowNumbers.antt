-- The rows of the parts of a table, and the cells in which they stand.
use Rattle.std.proofs.Common.{◌≡◌, ℕ, zero, suc, ◌+◌, ◌-◌, ◌<◌, ◌≤◌, cond, List, [], ◌∷◌, ◌++◌, Some, length, length-append, refl, sym, ap, ◌∙◌, inl, inr, arith}
use Rattle.std.specs.Prelude.{slice_get}
use Rattle.std.specs.List.{AllZip}
use Rattle.std.specs.BTreeMap.{get}
use Rattle.std.specs.Ordering.{nat_cmp}
use Rattle.std.proofs.lemmas.Bool.{cases_lt, le-ltb, lt-ltb}
use Rattle.std.proofs.lemmas.List.FromFn.{length-map-range_with_len}
use Rattle.std.proofs.lemmas.Option.{none-some, same_Some}
use Rattle.rmt_bits.proofs.ListLaws.{slice_get-end, slice_get-front}
use Rattle.rmt_book.specs.declared.shape.PartShape.{PartShape}
use Rattle.rmt_book.specs.declared.spots.Spot.{Spot}
use Rattle.rmt_book.specs.declared.table.PartCells.{PartCells}
use Rattle.rmt_book.specs.PartShape.{cell_count}
use Rattle.rmt_update.specs.RowIndex.{part_rows, row_number, rows_before, rows_of}
use Rattle.rmt_book.specs.Spots.{spot_from}
use Rattle.rmt_update.specs.Turning.{IsSamePart, cell_at}
use Rattle.rmt_update.proofs.RoomNumbers.{slice_get-map_range}

long-part : (x : PartCells) → length (part_rows x) ≡ cell_count x.shape.grid
long-part x = length-map-range_with_len (get nat_cmp x.cells) 0 (cell_count x.shape.grid)

-- ---- the spot of a row

-- in the first part
spot-first : (at : ℕ) (x : PartCells) (xs : List PartCells) (i : ℕ) → i < cell_count x.shape.grid → spot_from at (x ∷ xs) i ≡ record { part = at; cell = i }
spot-first at x xs i lt = ap (λ b. cond b (record { part = at; cell = i }) (spot_from (at + 1) xs (i - cell_count x.shape.grid))) (lt-ltb i (cell_count x.shape.grid) lt)

-- in a later one
spot-rest : (at : ℕ) (x : PartCells) (xs : List PartCells) (i : ℕ) → cell_count x.shape.grid ≤ i → spot_from at (x ∷ xs) i ≡ spot_from (at + 1) xs (i - cell_count x.shape.grid)
spot-rest at x xs i le = ap (λ b. cond b (record { part = at; cell = i }) (spot_from (at + 1) xs (i - cell_count x.shape.grid))) (le-ltb i (cell_count x.shape.grid) le)

-- the spot among parts of which the first has the next place
spot-shift : (at : ℕ) (xs : List PartCells) (i : ℕ) → spot_from (at + 1) xs i ≡ record { part = suc (spot_from at xs i).part; cell = (spot_from at xs i).cell }
spot-shift at [] i = let next : at + 1 ≡ suc at = omega arith in ap (λ k. record { part = k; cell = i }) next
spot-shift at (x ∷ xs) i = elim (cases_lt i (cell_count x.shape.grid)) [
  | inl lt ↦
      let next : at + 1 ≡ suc at = omega arith in
      spot-first (at + 1) x xs i lt ∙ ap (λ k. record { part = k; cell = i }) next ∙ ap (λ (s : Spot). record { part = suc s.part; cell = s.cell }) (sym (spot-first at x xs i lt))
  | inr le ↦
      spot-rest (at + 1) x xs i le ∙ spot-shift (at + 1) xs (i - cell_count x.shape.grid) ∙ ap (λ (s : Spot). record { part = suc s.part; cell = s.cell }) (sym (spot-rest at x xs i le))
]

spot-next : (x : PartCells) (xs : List PartCells) (i : ℕ) → cell_count x.shape.grid ≤ i
    → spot_from 0 (x ∷ xs) i ≡ record { part = suc (spot_from 0 xs (i - cell_count x.shape.grid)).part; cell = (spot_from 0 xs (i - cell_count x.shape.grid)).cell }
spot-next x xs i le =
    let one : 0 + 1 ≡ 1 = omega arith in
    spot-rest 0 x xs i le ∙ spot-shift 0 xs (i - cell_count x.shape.grid)

-- ---- a row and its spot

-- what is kept of a row is what is kept of its cell
pub row-cell : (xs : List PartCells) (i : ℕ) → i < length (rows_of xs) → slice_get (rows_of xs) i ≡ Some (cell_at xs (spot_from 0 xs i))
row-cell [] i lt = absurd (omega (arith, lt))
row-cell (x ∷ xs) i lt =
    let size = long-part x in
    let both = length-append (part_rows x) (rows_of xs) in
    elim (cases_lt i (cell_count x.shape.grid)) [
      | inl less ↦
          let none : 0 + i ≡ i = omega arith in
          slice_get-front (part_rows x) (rows_of xs) i (omega (arith, less, size)) ∙ slice_get-map_range (get nat_cmp x.cells) 0 (cell_count x.shape.grid) i less
          ∙ ap (λ n. Some (get nat_cmp x.cells n)) none ∙ ap (λ (s : Spot). Some (cell_at (x ∷ xs) s)) (sym (spot-first 0 x xs i less))
      | inr le ↦
          let back : i ≡ length (part_rows x) + (i - cell_count x.shape.grid) = omega (arith, le, size) in
          ap (slice_get (part_rows x ++ rows_of xs)) back ∙ slice_get-end (part_rows x) (rows_of xs) (i - cell_count x.shape.grid)
          ∙ row-cell xs (i - cell_count x.shape.grid) (omega (arith, lt, le, both, size)) ∙ ap (λ (s : Spot). Some (cell_at (x ∷ xs) s)) (sym (spot-next x xs i le))
    ]

-- the number of the row of a spot
pub number-spot : (xs : List PartCells) (i : ℕ) → i < length (rows_of xs) → row_number xs (spot_from 0 xs i) ≡ i
number-spot [] i lt = absurd (omega (arith, lt))
number-spot (x ∷ xs) i lt =
    let size = long-part x in
    let both = length-append (part_rows x) (rows_of xs) in
    elim (cases_lt i (cell_count x.shape.grid)) [
      | inl less ↦ ap (row_number (x ∷ xs)) (spot-first 0 x xs i less) ∙ (let none : 0 + i ≡ i = omega arith in none)
      | inr le ↦
          let rest = number-spot xs (i - cell_count x.shape.grid) (omega (arith, lt, le, both, size)) in
          ap (row_number (x ∷ xs)) (spot-next x xs i le) ∙ omega (arith, rest, le)
    ]

-- rows in one cell are one
pub one-row : (xs : List PartCells) (i j : ℕ) → i < length (rows_of xs) → j < length (rows_of xs) → spot_from 0 xs i ≡ spot_from 0 xs j → i ≡ j
one-row xs i j lt less same = sym (number-spot xs i lt) ∙ ap (row_number xs) same ∙ number-spot xs j less

-- the row of a cell
spot-at : (at : ℕ) (xs : List PartCells) (i n : ℕ) (x : PartCells) → slice_get xs i ≡ Some x → n < cell_count x.shape.grid → spot_from at xs (rows_before xs i + n) ≡ record { part = at + i; cell = n }
spot-at at [] i n x there lt = absurd (none-some x there)
spot-at at (y ∷ xs) zero n x there lt =
    let sizes = ap (λ (z : PartCells). cell_count z.shape.grid) (same_Some y x there) in
    let none : 0 + n ≡ n = omega arith in
    let place : at ≡ at + 0 = omega arith in
    ap (spot_from at (y ∷ xs)) none ∙ spot-first at y xs n (omega (arith, lt, sizes)) ∙ ap (λ k. record { part = k; cell = n }) place
spot-at at (y ∷ xs) (suc i) n x there lt =
    let left : cell_count y.shape.grid + rows_before xs i + n - cell_count y.shape.grid ≡ rows_before xs i + n = omega arith in
    let place : at + 1 + i ≡ at + suc i = omega arith in
    spot-rest at y xs (cell_count y.shape.grid + rows_before xs i + n) (omega arith) ∙ ap (spot_from (at + 1) xs) left ∙ spot-at (at + 1) xs i n x there lt ∙ ap (λ k. record { part = k; cell = n }) place

pub spot-number : (xs : List PartCells) (s : Spot) (x : PartCells) → slice_get xs s.part ≡ Some x → s.cell < cell_count x.shape.grid → spot_from 0 xs (row_number xs s) ≡ s
spot-number xs s x there lt =
    let none : 0 + s.part ≡ s.part = omega arith in
    spot-at 0 xs s.part s.cell x there lt ∙ ap (λ k. record { part = k; cell = s.cell }) none

pub number-within : (xs : List PartCells) (s : Spot) (x : PartCells) → slice_get xs s.part ≡ Some x → s.cell < cell_count x.shape.grid → row_number xs s < length (rows_of xs)
number-within xs s x there lt = by xs s.part there
  where
    by : (ys : List PartCells) (i : ℕ) → slice_get ys i ≡ Some x → rows_before ys i + s.cell < length (rows_of ys)
    by [] i at = absurd (none-some x at)
    by (y ∷ ys) zero at =
        let sizes = ap (λ (z : PartCells). cell_count z.shape.grid) (same_Some y x at) in
        let size = long-part y in
        let both = length-append (part_rows y) (rows_of ys) in
        omega (arith, lt, sizes, size, both)
    by (y ∷ ys) (suc i) at =
        let size = long-part y in
        let both = length-append (part_rows y) (rows_of ys) in
        let rest = by ys i at in
        omega (arith, size, both, rest)

-- no part, and one part more
pub before-none : (xs : List PartCells) → rows_before xs 0 ≡ 0
before-none [] = refl
before-none (x ∷ xs) = refl

pub before-next : (xs : List PartCells) (i : ℕ) (x : PartCells) → slice_get xs i ≡ Some x → rows_before xs (i + 1) ≡ rows_before xs i + cell_count x.shape.grid
before-next xs i x at = let next : i + 1 ≡ suc i = omega arith in ap (rows_before xs) next ∙ by xs i at
  where
    by : (ys : List PartCells) (j : ℕ) → slice_get ys j ≡ Some x → rows_before ys (suc j) ≡ rows_before ys j + cell_count x.shape.grid
    by [] j at = absurd (none-some x at)
    by (y ∷ ys) zero at =
        let sizes = ap (λ (z : PartCells). cell_count z.shape.grid) (same_Some y x at) in
        let none = before-none ys in
        omega (arith, sizes, none)
    by (y ∷ ys) (suc j) at = let rest = by ys j at in omega (arith, rest)

pub before-rises : (xs : List PartCells) (i j : ℕ) → i ≤ j → rows_before xs i ≤ rows_before xs j
before-rises [] i j le = omega arith
before-rises (x ∷ xs) zero j le = omega arith
before-rises (x ∷ xs) (suc i) zero le = absurd (omega (arith, le))
before-rises (x ∷ xs) (suc i) (suc j) le = let rest = before-rises xs i j (omega (arith, le)) in omega (arith, rest)

-- ---- the same parts with other cells

pub same-spots : (at : ℕ) (xs ys : List PartCells) (i : ℕ) → AllZip IsSamePart xs ys → spot_from at ys i ≡ spot_from at xs i
same-spots at [] [] i zip = refl
same-spots at [] (y ∷ ys) i zip = absurd zip
same-spots at (x ∷ xs) [] i zip = absurd zip
same-spots at (x ∷ xs) (y ∷ ys) i zip =
    let size : cell_count y.shape.grid ≡ cell_count x.shape.grid = ap (λ (s : PartShape). cell_count s.grid) zip.0.shape in
    elim (cases_lt i (cell_count x.shape.grid)) [
      | inl lt ↦ spot-first at y ys i (omega (arith, lt, size)) ∙ sym (spot-first at x xs i lt)
      | inr le ↦ spot-rest at y ys i (omega (arith, le, size)) ∙ ap (λ n. spot_from (at + 1) ys (i - n)) size ∙ same-spots (at + 1) xs ys (i - cell_count x.shape.grid) zip.1 ∙ sym (spot-rest at x xs i le)
    ]

pub same-count : (xs ys : List PartCells) → AllZip IsSamePart xs ys → length (rows_of ys) ≡ length (rows_of xs)
same-count [] [] zip = refl
same-count [] (y ∷ ys) zip = absurd zip
same-count (x ∷ xs) [] zip = absurd zip
same-count (x ∷ xs) (y ∷ ys) zip =
    let size : cell_count y.shape.grid ≡ cell_count x.shape.grid = ap (λ (s : PartShape). cell_count s.grid) zip.0.shape in
    let long = long-part x in
    let long2 = long-part y in
    let both = length-append (part_rows x) (rows_of xs) in
    let both2 = length-append (part_rows y) (rows_of ys) in
    let rest = same-count xs ys zip.1 in
    omega (arith, size, long, long2, both, both2, rest)
