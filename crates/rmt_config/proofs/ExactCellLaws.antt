-- The listed cells of an exact part, gone over one after another.
use Rattle.std.proofs.Common.{◌≡◌, ℕ, ◌+◌, ◌*◌, ◌/◌, ◌<◌, ◌≤◌, List, ◌++◌, length, get_or, drop, Bool, true, false, eqb, ap, ◌∙◌}
use Rattle.std.proofs.lemmas.List.{drop_all}
use Rattle.rmt_bits.specs.Bits.{bytes_of}
use Rattle.rmt_bits.specs.Hash.{hash_row}
use Rattle.rmt_config.specs.declared.form.names.exact_part.ExactCells.{ExactCells}
use Rattle.rmt_config.specs.declared.form.names.exact_part.Place.{Place}
use Rattle.rmt_config.specs.Types.{CellNumber}
use Rattle.rmt_config.specs.Cells.{Cell, cell_of, entry_at, sram_row}
use Rattle.rmt_config.specs.KeyPrints.{kept_of}
use Rattle.rmt_config.specs.ExactCells.{CellsAdded, CellsRead, key_of, key_size, stands}
use Rattle.rmt_config.proofs.KeyListLaws.{keys-at, keys-none, keys-stop}
use Rattle.rmt_config.proofs.SpelledCandidates.{cell-stands, place-same}

-- what is found out of the cells from a place on, beside what was kept so far, is found out of all
abbrev pub Leads : ExactCells → Bool → List ℕ → ℕ → List ℕ → Type 0
Leads p whole first i old =
    (new : List ℕ) (stand : Bool) → CellsAdded p whole (drop i p.numbers.now) old new stand → CellsAdded p whole p.numbers.now first new stand

-- the cell at a place of the list
abbrev pub number_at : ExactCells → ℕ → CellNumber
number_at p i = get_or p.numbers.now i (record { cell = 0; number = 0 })

module _ (p : ExactCells) (n : CellNumber) (place : Place) (way : place.way ≡ (cell_of (1024 * p.quanta) p.per n.cell).way)
    (row : place.row ≡ (cell_of (1024 * p.quanta) p.per n.cell).row) where
  -- what is read at the place of a cell is its key
  pub key-there : place.position ≡ (cell_of (1024 * p.quanta) p.per n.cell).position
      → entry_at (sram_row p.rows.now) p.blocks.now p.width p.bits (record { way = place.way; row = place.row; position = place.position }) / 256 ≡ key_of p n
  key-there position =
      let held : Cell → ℕ = λ cell. entry_at (sram_row p.rows.now) p.blocks.now p.width p.bits cell / 256 in
      place-same held (1024 * p.quanta) p.per n.cell place.way place.row place.position way row position

module _ (p : ExactCells) (whole : Bool) (first : List ℕ) (i : ℕ) (old : List ℕ) (h : Leads p whole first i old) where
  pub cells-done : length p.numbers.now ≤ i → CellsAdded p whole p.numbers.now first old true
  cells-done past = h old true (keys-none whole (key_size p) (stands p) (key_of p) (drop i p.numbers.now) old (drop_all i p.numbers.now past))

  -- the cell at a place, whose key has these bytes, and of which was found whether the row of the key is its own
  module _ (lt : i < length p.numbers.now) (fit : CellsRead p) (place : Place) (four : place.way < 4) (way : place.way ≡ (cell_of (1024 * p.quanta) p.per (number_at p i).cell).way)
      (row : place.row ≡ (cell_of (1024 * p.quanta) p.per (number_at p i).cell).row) (bytes : List ℕ) (found : Bool) (read : bytes ≡ bytes_of (key_size p) (key_of p (number_at p i)))
      (is : found ≡ eqb (hash_row p.seed (p.first_way + place.way) bytes (1024 * p.quanta)) place.row) where
    stands-so : stands p (number_at p i) ≡ found
    stands-so =
        cell-stands p.seed p.first_way p.per p.quanta (key_size p) (key_of p) (number_at p i) bytes place.way place.row found fit.per fit.quanta four way row read is

    pub cells-stop : found ≡ false → CellsAdded p whole p.numbers.now first old false
    cells-stop not_so = h old false (keys-stop whole (key_size p) (stands p) (key_of p) p.numbers.now i _ old old lt (stands-so ∙ not_so))

    pub cells-more : found ≡ true → (mid : List ℕ) → mid ≡ old ++ kept_of whole bytes → Leads p whole first (i + 1) mid
    cells-more so mid added new stand rest =
        h new stand (keys-at whole (key_size p) (stands p) (key_of p) p.numbers.now i _ old mid new stand lt (stands-so ∙ so) (added ∙ ap (λ (bs : List ℕ). old ++ kept_of whole bs) read) rest)
