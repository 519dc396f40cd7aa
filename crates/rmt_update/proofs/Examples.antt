-- Changes of cells, worked out.
use Rattle.std.proofs.Common.{◌≡◌, ℕ, [], ◌∷◌, refl}
use Rattle.rmt_update.specs.declared.book.changing.CellChange.{CellChange}
use Rattle.rmt_update.specs.Changing.{ChangeKey}
use Rattle.rmt_book.specs.Coming.{empty_write}
use Rattle.rmt_update.specs.Differences.{changes_in}

-- the change of a cell of a table's first part
abbrev shown : ℕ → ℕ → ℕ → ℕ → ChangeKey × CellChange
shown stage place cell visible = (((stage, place), cell), record { spot = record { table = 0; at = record { part = 0; cell = cell } }; write = record (empty_write stage place cell) { visible = visible } })

-- by stage, unit and cell, and of one cell the last change
last_counts : changes_in (shown 1 0 5 3 ∷ shown 0 2 7 3 ∷ shown 0 2 6 2 ∷ shown 1 0 5 1 ∷ []) ≡ shown 0 2 6 2 ∷ shown 0 2 7 3 ∷ shown 1 0 5 1 ∷ []
last_counts = refl
