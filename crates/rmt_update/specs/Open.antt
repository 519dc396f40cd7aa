-- The cells that are free for an entry that comes: the version doesn't see them, and this commit hasn't given them.
use Rattle.std.specs.Prelude.{ℕ, ◌+◌, List, [], ◌∷◌, Bool, false, not, ◌&&◌, Option, Some, None, find}
use Rattle.std.specs.BTreeMap.{get}
use Rattle.std.specs.BTreeSet.{BTreeSet, contains}
use Rattle.std.specs.Ordering.{nat_cmp}
use Rattle.rmt_book.specs.declared.kept.Kept.{Kept}
use Rattle.rmt_book.specs.declared.spots.Spot.{Spot}
use Rattle.rmt_book.specs.declared.table.PartCells.{PartCells}
use Rattle.rmt_book.specs.Seen.{is_seen}

-- a cell is kept, and seen
abbrev pub is_kept_seen : Bool → Option Kept → Bool
is_kept_seen odd None = false
is_kept_seen odd (Some k) = is_seen odd k

abbrev pub is_open : Bool → PartCells → BTreeSet ℕ → ℕ → Bool
is_open odd p given cell = not (is_kept_seen odd (get nat_cmp p.cells cell)) && not (contains nat_cmp given cell)

-- the first of two answers
abbrev pub first_of : Option Spot → Option Spot → Option Spot
first_of (Some x) other = Some x
first_of None other = other

-- a cell of the part of a number
abbrev pub in_part : ℕ → Option ℕ → Option Spot
in_part at None = None
in_part at (Some cell) = Some (record { part = at; cell = cell })

-- the first free one among some cells of each part, over the parts in order, of which the first has this number
abbrev pub first_open : Bool → ℕ → List PartCells → List (BTreeSet ℕ) → List (List ℕ) → Option Spot
first_open odd at (p ∷ ps) (g ∷ gs) (cs ∷ css) = first_of (in_part at (find (is_open odd p g) cs)) (first_open odd (at + 1) ps gs css)
first_open odd at [] gs css = None
first_open odd at (p ∷ ps) [] css = None
first_open odd at (p ∷ ps) (g ∷ gs) [] = None
