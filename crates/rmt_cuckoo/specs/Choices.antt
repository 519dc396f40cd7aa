-- What choices say of each key.
use Rattle.std.specs.Prelude.{◌≡◌, ℕ, ◌+◌, ◌*◌, ◌≤◌, List, [], length, All, slice_index_or}
use Rattle.std.specs.List.{flat_map, range_with_len}
use Rattle.rmt_cuckoo.specs.declared.layout.Ways.{Ways}
use Rattle.rmt_cuckoo.specs.declared.way.Way.{Way}
use Rattle.rmt_cuckoo.specs.declared.choices.Choices.{Choices}
use Rattle.rmt_cuckoo.specs.Loading.{cells_of, ways_of, row_start}

-- the cells of a key's rows in these ways
abbrev pub rows_in : ℕ → List Way → List ℕ → List ℕ
rows_in seed ways key = flat_map (λ (way : Way). range_with_len (row_start seed key way) way.per) ways

-- the cells in which a key may stand
abbrev pub choices_at : Choices → ℕ → List ℕ
choices_at c key = rows_in c.seed c.ways.items (slice_index_or c.keys.now key [])

-- a way with a row, whose rows end within so many cells
abbrev pub IsWay : ℕ → Way → Type 0
IsWay cells way = (1 ≤ way.rows) × (way.first + way.rows * way.per ≤ cells)

-- the choices of these keys
pub record AreChoices (layout : List Ways) (seed : ℕ) (keys : List (List ℕ)) (c : Choices) : Type 0 where
  pub cells : c.cells ≡ cells_of layout
  pub ways : c.ways.items ≡ ways_of layout
  pub own_keys : c.keys.now ≡ keys
  pub own_seed : c.seed ≡ seed

-- choices of so many keys, in ways that end within so many cells
pub record AreWithin (keys cells : ℕ) (c : Choices) : Type 0 where
  pub known : keys ≤ length c.keys.now
  pub ways : All (IsWay cells) c.ways.items
