-- Where the keys of an exact table may stand, what a loading is, and what shows that there is none (RMT: exact tables are cuckoo hash tables).
use Rattle.std.specs.Prelude.{◌≡◌, ◌≢◌, ℕ, ◌+◌, ◌*◌, ◌<◌, List, [], ◌∷◌, ◌++◌, length, map, sum_by, All, AllPairs, Contains, slice_index_or, nat_eq}
use Rattle.std.specs.List.{flat_map, range_with_len, AllZip}
use Rattle.std.specs.Set.{distinct_count}
use Rattle.rmt_bits.specs.Hash.{hash_row}
use Rattle.rmt_cuckoo.specs.declared.layout.Ways.{Ways}
use Rattle.rmt_cuckoo.specs.declared.way.Way.{Way}

-- the cells of a part
abbrev pub cells_in : Ways → ℕ
cells_in part = 4 * (part.rows * part.per)

-- the cells of a table
abbrev pub cells_of : List Ways → ℕ
cells_of layout = sum_by cells_in layout

-- way j of a part whose first way has this number and begins at this cell
abbrev pub way_of : ℕ → ℕ → Ways → ℕ → Way
way_of number first part j =
    record { number = number + j; first = first + j * (part.rows * part.per); rows = part.rows; per = part.per }

-- the ways of parts, of which the first begins with this way and at this cell
abbrev pub ways_from : ℕ → ℕ → List Ways → List Way
ways_from number first [] = []
ways_from number first (part ∷ parts) =
    map (way_of number first part) (0 ∷ 1 ∷ 2 ∷ 3 ∷ []) ++ ways_from (number + 4) (first + cells_in part) parts

-- the ways of a table
abbrev pub ways_of : List Ways → List Way
ways_of layout = ways_from 0 0 layout

-- the first cell of the row that a key has in a way
abbrev pub row_start : ℕ → List ℕ → Way → ℕ
row_start seed key way = way.first + hash_row seed way.number key way.rows * way.per

-- the cells in which a key may stand: those of its row in each way
abbrev pub candidates : List Ways → ℕ → List ℕ → List ℕ
candidates layout seed key = flat_map (λ (way : Way). range_with_len (row_start seed key way) way.per) (ways_of layout)

-- each key has one of its candidate cells, and no two have the same
pub record IsLoading (layout : List Ways) (seed : ℕ) (keys : List (List ℕ)) (cells : List ℕ) : Type 0 where
  pub stand : AllZip (λ key cell. Contains (candidates layout seed key) cell) keys cells
  pub apart : AllPairs (λ a b. a ≢ b) cells

-- the candidate cells of some keys, which are given by their numbers
abbrev pub shared : List Ways → ℕ → List (List ℕ) → List ℕ → List ℕ
shared layout seed keys members = flat_map (λ m. candidates layout seed (slice_index_or keys m [])) members

-- different keys, given by their numbers, that have so many candidate cells together, which are fewer than the keys
pub record IsOverfull (layout : List Ways) (seed : ℕ) (keys : List (List ℕ)) (members : List ℕ) (cells : ℕ) : Type 0 where
  pub are_keys : All (λ m. m < length keys) members
  pub apart : AllPairs (λ a b. a ≢ b) members
  pub counted : cells ≡ distinct_count nat_eq (shared layout seed keys members)
  pub too_few : cells < length members
