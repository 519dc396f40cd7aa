-- The first of what stands in a run of places, and the search by ways.
use Rattle.std.specs.Prelude.{◌≡◌, ℕ, ◌+◌, ◌*◌, ◌<◌, ◌≤◌, true, List, length, take, drop, slice_index, Option, Some, None}
use Rattle.rmt_memory.specs.declared.runs.Runs.{Runs}
use Rattle.rmt_config.specs.WayRows.{row_among}
use Rattle.rmt_config.specs.declared.part_ways.PartWays.{PartWays}
use Rattle.rmt_memory.specs.Sights.{seen_by}

-- the first place from one on, below another, at which a fact holds, if there is one
abbrev pub FirstIn : (ℕ → Type 0) → ℕ → ℕ → Option ℕ → Type 0
FirstIn P from to None = (j : ℕ) → from ≤ j → j < to → P j → ⊥
FirstIn P from to (Some i) = (from ≤ i) × (i < to) × P i × ((j : ℕ) → from ≤ j → j < i → P j → ⊥)

-- the bytes of a run
abbrev pub run_of : Runs → ℕ → List ℕ
run_of runs at = take runs.size (drop (at * runs.size) runs.bytes.items)

-- a sight shows the cell of this number, and its key behind the head is this one
abbrev pub HasCell : Runs → ℕ → List ℕ → ℕ → Type 0
HasCell cells sight key n = (seen_by sight (slice_index (run_of cells n) 0) ≡ true) × (take (length key) (drop 1 (run_of cells n)) ≡ key)

-- the first cell with a key among those of its row in a way
abbrev pub FirstInWay : PartWays → Runs → ℕ → ℕ → List ℕ → ℕ → Option ℕ → Type 0
FirstInWay ways cells seed sight key way found =
    FirstIn (HasCell cells sight key) (row_among ways seed key way * ways.per) (row_among ways seed key way * ways.per + ways.per) found

-- that of the first of the four ways that has one
abbrev pub FirstByWays : PartWays → Runs → ℕ → ℕ → List ℕ → Option ℕ → Type 0
FirstByWays ways cells seed sight key None = (way : ℕ) → way < 4 → FirstInWay ways cells seed sight key way None
FirstByWays ways cells seed sight key (Some i) =
    (way : ℕ) × (way < 4) × FirstInWay ways cells seed sight key way (Some i) × ((w : ℕ) → w < way → FirstInWay ways cells seed sight key w None)
