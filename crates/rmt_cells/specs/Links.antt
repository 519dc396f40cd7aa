-- Cells that are linked by index.
use Rattle.std.specs.Prelude.{ℕ, zero, suc, ◌==◌, List, [], ◌∷◌, slice_index}
use Rattle.std.specs.List.{count_by}

-- the cell that comes n steps after a cell
abbrev pub after : List ℕ → ℕ → ℕ → ℕ
after links cell zero = cell
after links cell (suc n) = after links (slice_index links cell) n

-- n cells, from a cell on
abbrev pub walk : List ℕ → ℕ → ℕ → List ℕ
walk links cell zero = []
walk links cell (suc n) = cell ∷ walk links (slice_index links cell) n

-- how many times a cell stands in a list of cells
abbrev pub times : ℕ → List ℕ → ℕ
times cell cells = count_by (λ x. x == cell) cells
