-- What is known of a loading, and of a search for a cell, at each moment.
use Rattle.std.specs.Prelude.{◌≡◌, ◌≢◌, ℕ, zero, suc, ◌+◌, ◌-◌, ◌<◌, ◌≤◌, List, Bool, true, false, Option, Some, None, length, All, Contains, slice_index, slice_index_or}
use Rattle.rmt_cuckoo.specs.declared.loading.Loading.{Loading}
use Rattle.rmt_cuckoo.specs.declared.search.Step.{Step}
use Rattle.rmt_cuckoo.specs.declared.search.Search.{Search}

-- the first n keys each stand in one of their cells, and each cell that is taken is that of its key
pub record IsLoaded (choices : ℕ → List ℕ) (n : ℕ) (l : Loading) : Type 0 where
  pub count : length l.cells.items ≡ n
  pub stands : (k : ℕ) → k < n → Contains (choices k) (slice_index l.cells.items k)
  pub held : (k : ℕ) → k < n → slice_index l.holders.items (slice_index l.cells.items k) ≡ k + 1
  pub known : (c : ℕ) → 0 < slice_index l.holders.items c → slice_index l.holders.items c ≤ n
  pub cell : (c : ℕ) → 0 < slice_index l.holders.items c → slice_index l.cells.items (slice_index l.holders.items c - 1) ≡ c

-- so many cells are taken from the first one on
abbrev pub AreTaken : List ℕ → ℕ → Type 0
AreTaken holders many = (c : ℕ) → c < many → 0 < slice_index holders c

-- no step
abbrev pub no_step : Step
no_step = record { cell = 0; from = 0 }

-- the cell of a step, and the place from which the search came to it
abbrev pub cell_at : List Step → ℕ → ℕ
cell_at steps i = (slice_index_or steps i no_step).cell

abbrev pub from_at : List Step → ℕ → ℕ
from_at steps i = (slice_index_or steps i no_step).from

-- the key at a place of the search: at 0 the key that needs a cell, and at i + 1 the one in the cell of step i
abbrev pub key_at : ℕ → List Step → List ℕ → ℕ → ℕ
key_at needy steps holders zero = needy
key_at needy steps holders (suc i) = slice_index holders (cell_at steps i) - 1

-- the first m steps came each to a taken cell of the key at an earlier place, and no two to the same
pub record IsTree (choices : ℕ → List ℕ) (needy : ℕ) (steps : List Step) (holders : List ℕ) (m : ℕ) : Type 0 where
  pub there : m ≤ length steps
  pub taken : (i : ℕ) → i < m → 0 < slice_index holders (cell_at steps i)
  pub earlier : (i : ℕ) → i < m → from_at steps i ≤ i
  pub chosen : (i : ℕ) → i < m → Contains (choices (key_at needy steps holders (from_at steps i))) (cell_at steps i)
  pub apart : (i j : ℕ) → i < j → j < m → cell_at steps i ≢ cell_at steps j

-- the keys stand, and the one at a place of the search may move to a free cell
pub record IsReady (choices : ℕ → List ℕ) (n : ℕ) (l : Loading) (steps : List Step) (hole place : ℕ) : Type 0 where
  pub loaded : IsLoaded choices n l
  pub tree : IsTree choices n steps l.holders.items place
  pub inside : hole < length l.holders.items
  pub free : slice_index l.holders.items hole ≡ 0
  pub chosen : Contains (choices (key_at n steps l.holders.items place)) hole

-- a cell is marked as seen
abbrev pub IsSeen : List Bool → ℕ → Type 0
IsSeen seen c = slice_index_or seen c false ≡ true

-- the cells that are marked are those of the steps
pub record IsMarked (steps : List Step) (seen : List Bool) : Type 0 where
  pub marked : (i : ℕ) → i < length steps → IsSeen seen (cell_at steps i)
  pub stepped : (c : ℕ) → IsSeen seen c → (i : ℕ) × (i < length steps) × (cell_at steps i ≡ c)

-- the cells of the key at each of the first places are all seen
abbrev pub AreClosed : (ℕ → List ℕ) → ℕ → List Step → List ℕ → List Bool → ℕ → Type 0
AreClosed choices needy steps holders seen places =
    (p : ℕ) → p < places → All (IsSeen seen) (choices (key_at needy steps holders p))

-- a search grew by steps from a place to cells of a row
pub record Grows (place : ℕ) (row : List ℕ) (steps : List Step) (seen : List Bool) (more : List Step) (marks : List Bool) : Type 0 where
  pub size : length marks ≡ length seen
  pub longer : length steps ≤ length more
  pub kept : (i : ℕ) → i < length steps → slice_index_or more i no_step ≡ slice_index_or steps i no_step
  pub from : (i : ℕ) → length steps ≤ i → i < length more → from_at more i ≡ place
  pub chosen : (i : ℕ) → length steps ≤ i → i < length more → Contains row (cell_at more i)
  pub fresh : (i j : ℕ) → i < j → length steps ≤ j → j < length more → cell_at more i ≢ cell_at more j
  pub marked : IsMarked more marks
  pub still : (c : ℕ) → IsSeen seen c → IsSeen marks c

-- a search for a cell of key n that has looked at the first places and found no free cell
pub record IsSearching (choices : ℕ → List ℕ) (n : ℕ) (holders : List ℕ) (steps : List Step) (seen : List Bool) (places : ℕ) : Type 0 where
  pub size : length seen ≡ length holders
  pub tree : IsTree choices n steps holders (length steps)
  pub marks : IsMarked steps seen
  pub closed : AreClosed choices n steps holders seen places

-- what is known after a look at a place: a free cell of its key, or that it has none
abbrev pub Looked : (ℕ → List ℕ) → ℕ → List ℕ → ℕ → Search → Search → Option ℕ → Type 0
Looked choices n holders place old new (Some cell) =
    (slice_index holders cell ≡ 0)
    × (cell < length holders)
    × Contains (choices (key_at n old.steps.items holders place)) cell
    × (new.steps.items ≡ old.steps.items)
    × (new.seen.items ≡ old.seen.items)
Looked choices n holders place old new None =
    IsSearching choices n holders new.steps.items new.seen.items (place + 1) × (length old.steps.items ≤ length new.steps.items)

-- what is known after a search for a cell of key n: it has one, or all cells of all keys that were looked at are taken by these keys
abbrev pub Searched : (ℕ → List ℕ) → ℕ → Loading → Search → Bool → Type 0
Searched choices n loading search true = IsLoaded choices (n + 1) loading
Searched choices n loading search false =
    IsLoaded choices n loading
    × IsSearching choices n loading.holders.items search.steps.items search.seen.items (length search.steps.items + 1)
