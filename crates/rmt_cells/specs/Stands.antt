-- What cells hold: chains, each with its bytes, and free cells.
use Rattle.std.specs.Prelude.{◌≡◌, ℕ, ◌+◌, ◌<◌, ◌≤◌, List, ◌++◌, length, sum_by, Contains, [], ◌∷◌, Option, Some, None}
use Rattle.std.specs.List.{flat_map}
use Rattle.rmt_cells.specs.declared.cells.Cells.{Cells}
use Rattle.rmt_cells.specs.declared.cells.Chain.{Chain}
use Rattle.rmt_cells.specs.Links.{walk, times}
use Rattle.rmt_cells.specs.Pieces.{Spell, cells_for}

-- a chain that was put and not given back, and the bytes that were put
pub record Held : Type 0 where
  pub chain : Chain
  pub bytes : List ℕ

-- how many cells chains have
abbrev pub cells_held : List Held → ℕ
cells_held held = sum_by (λ (h : Held). cells_for (length h.bytes)) held

-- the cells of a chain, and those of all chains
abbrev pub chain_cells : List ℕ → Held → List ℕ
chain_cells links h = walk links h.chain.first (cells_for (length h.bytes))

abbrev pub held_cells : List ℕ → List Held → List ℕ
held_cells links held = flat_map (chain_cells links) held

-- the cells that are free
abbrev pub free_cells : Cells → List ℕ
free_cells cells = walk cells.links.items cells.first cells.free

-- a chain holds its bytes, and they are some
pub record Holds (cells : Cells) (h : Held) : Type 0 where
  pub len : h.chain.len ≡ length h.bytes
  pub some : 0 < length h.bytes
  pub bytes : Spell cells.blocks.items cells.links.items h.chain.first h.bytes

-- So many cells, with these chains held and all other cells free: each cell stands once, in one chain or among the free ones.
pub record Stands (count : ℕ) (held : List Held) (cells : Cells) : Type 0 where
  pub links : length cells.links.items ≡ count
  pub blocks : length cells.blocks.items ≡ count
  pub few : count ≤ 65536
  pub once : (cell : ℕ) → cell < count → times cell (free_cells cells ++ held_cells cells.links.items held) ≡ 1
  pub within : (cell : ℕ) → count ≤ cell → times cell (free_cells cells ++ held_cells cells.links.items held) ≡ 0
  pub all : cells.free + cells_held held ≡ count
  pub holds : (h : Held) → Contains held h → Holds cells h

-- a chain with its bytes, if one is there
abbrev pub held_if : Option Chain → List ℕ → List Held
held_if None bytes = []
held_if (Some chain) bytes = record { chain = chain; bytes = bytes } ∷ []
