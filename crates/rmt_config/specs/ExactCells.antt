-- The listed cells of an exact part, and what they are read from.
use Rattle.std.specs.Prelude.{ℕ, ◌+◌, ◌*◌, ◌<◌, ◌≤◌, ◌≡◌, List, length, Bool, All}
use Rattle.rmt_config.specs.declared.form.names.exact_part.ExactCells.{ExactCells}
use Rattle.rmt_config.specs.Types.{CellNumber, SramRow}
use Rattle.rmt_config.specs.BlockCounts.{divided_up}
use Rattle.rmt_config.specs.KeyPrints.{KeysAdded}
use Rattle.rmt_config.specs.KeysSeen.{key_in, stands_there}
use Rattle.rmt_config.specs.MemoryRules.{SramRows}

-- the numbers of a part, k blocks wide, with p cells in a row and d quanta, keep the rules, its blocks are all there, and its cells are among those that it has
pub record CellsFit (rs : List SramRow) (ns : List CellNumber) (bs : List ℕ) (k p d w n : ℕ) : Type 0 where
  pub rows : SramRows rs
  pub width : 0 < k
  pub per : 0 < p
  pub quanta : 0 < d
  pub few : d ≤ 106
  pub short : n ≤ 640
  pub fits : p * (n + 8) ≤ 112 * k
  pub blocks : length bs ≡ d * (4 * k)
  pub ways : w + 3 < 256
  pub within : All (λ (m : CellNumber). m.cell < 4096 * d * p) ns

abbrev pub CellsRead : ExactCells → Type 0
CellsRead p = CellsFit p.rows.now p.numbers.now p.blocks.now p.width p.per p.quanta p.first_way p.bits

-- the bytes of a key
abbrev pub key_size : ExactCells → ℕ
key_size p = divided_up p.bits 8

-- the key of a cell
abbrev pub key_of : ExactCells → CellNumber → ℕ
key_of p = key_in p.rows.now p.blocks.now p.width p.per p.quanta p.bits

-- a cell is one in which its key may stand
abbrev pub stands : ExactCells → CellNumber → Bool
stands p = stands_there p.seed p.first_way p.per p.quanta (key_size p) (key_of p)

-- it is found out whether some of the cells stand so, and where they do what is kept of their keys is added to others
abbrev pub CellsAdded : ExactCells → Bool → List CellNumber → List ℕ → List ℕ → Bool → Type 0
CellsAdded p whole numbers old new stand = KeysAdded whole (key_size p) (stands p) (key_of p) numbers old new stand
