-- The changed cells between the parts of tables as they are and as they are next.
use Rattle.std.specs.Prelude.{◌≡◌, ◌⊎◌, ◌<◌, ℕ, Bool, true, false, ◌&&◌, ◌||◌, ◌==◌, List, [], if◌then◌else◌, Option, Some, None, Vec, All, AllPairs, find, fold, option_map, zip}
use Rattle.std.specs.Global.{Global}
use Rattle.std.specs.BTreeMap.{get, insert_entry, is_at}
use Rattle.std.specs.List.{flat_map}
use Rattle.std.specs.Map.{lookup}
use Rattle.std.specs.Ordering.{nat_cmp}
use Rattle.rmt_bits.specs.Bits.{number_of}
use Rattle.rmt_config.specs.declared.cell_write.CellWrite.{CellWrite}
use Rattle.rmt_config.specs.Commits.{writes_before}
use Rattle.rmt_config.specs.RunCells.{is_changed}
use Rattle.rmt_update.specs.declared.book.changing.CellChange.{CellChange}
use Rattle.rmt_book.specs.declared.grid.Grid.{Grid}
use Rattle.rmt_book.specs.declared.grid.Grid.TheVariants.{Ways, Rows}
use Rattle.rmt_book.specs.declared.kept.Kept.{Kept}
use Rattle.rmt_book.specs.declared.spot.BookSpot.{BookSpot}
use Rattle.rmt_book.specs.declared.table.PartCells.{PartCells}
use Rattle.rmt_book.specs.declared.table.TableCells.{TableCells}
use Rattle.rmt_update.specs.Changing.{ChangeKey, change_key, key_cmp}
use Rattle.rmt_book.specs.Coming.{empty_write, kept_write}

-- exact parts have no masks
abbrev pub is_exact : Grid → Bool
is_exact (Ways w) = true
is_exact (Rows rows) = false

-- two cells hold the same, and have the same number
abbrev pub is_same_kept : Bool → Kept → Kept → Bool
is_same_kept exact a b =
    (a.visible == b.visible) && (a.code == b.code) && (a.number == b.number) && (number_of a.key.items == number_of b.key.items)
    && (number_of a.held.items == number_of b.held.items) && (exact || (number_of a.mask.items == number_of b.mask.items))

-- how a cell of a part changes, if it does
abbrev pub change_by : Bool → ℕ → ℕ → ℕ → Option Kept → Option Kept → Option CellWrite
change_by exact stage place n None None = None
change_by exact stage place n (Some a) None = Some (empty_write stage place n)
change_by exact stage place n None (Some b) = Some (kept_write stage place b.visible b)
change_by exact stage place n (Some a) (Some b) = if is_same_kept exact a b then None else Some (kept_write stage place b.visible b)

abbrev pub change_in : PartCells → PartCells → ℕ → Option CellWrite
change_in x y n = change_by (is_exact y.shape.grid) y.stage y.place n (get nat_cmp x.cells n) (get nat_cmp y.cells n)

-- changed cells, in order
abbrev pub Changes : Type 0
Changes = List (ChangeKey × CellChange)

-- those of changes one after another, of which the last one of a cell counts
abbrev pub changes_in : List (ChangeKey × CellChange) → Changes
changes_in xs = fold (λ (m : Changes) (x : ChangeKey × CellChange). insert_entry key_cmp m x.0 x.1) [] xs

-- what is changed of a cell
abbrev pub change_at : Changes → ChangeKey → Option CellChange
change_at m q = lookup (is_at (key_cmp q)) m

abbrev pub write_at : Changes → ChangeKey → Option CellWrite
write_at m q = option_map (λ (x : CellChange). x.write) (change_at m q)

-- a change is put to the others, if there is one
abbrev pub Puts : Changes → Changes → ChangeKey → BookSpot → Option CellWrite → Type 0
Puts m m2 q s None = m2 ≡ m
Puts m m2 q s (Some w) = m2 ≡ insert_entry key_cmp m q (record { spot = s; write = w })

-- the changes that are to be, by where they stand
abbrev pub Goal : Type 0
Goal = ChangeKey → Option CellWrite

-- those of a part as it is and as it is next
abbrev pub IsGoal : Goal → PartCells × PartCells → Type 0
IsGoal goal p = (n : ℕ) → goal ((p.1.stage, p.1.place), n) ≡ change_in p.0 p.1 n

abbrev pub IsDone : Changes → Goal → PartCells × PartCells → Type 0
IsDone m goal p = (n : ℕ) → write_at m ((p.1.stage, p.1.place), n) ≡ goal ((p.1.stage, p.1.place), n)

-- some of the changes that are to be, each by its own key
pub record AreSome (m : Changes) (goal : Goal) : Type 0 where
  pub keyed : All (λ (x : ChangeKey × CellChange). x.0 ≡ change_key x.1.write) m
  pub each : (q : ChangeKey) → (write_at m q ≡ None) ⊎ (write_at m q ≡ goal q)

-- more of the changes that are to be: all of those that were there, and others
pub record AreMore (m m2 : Changes) (goal : Goal) : Type 0 where
  pub some : AreSome m2 goal
  pub stay : (q : ChangeKey) → write_at m q ≡ goal q → write_at m2 q ≡ goal q

-- those of parts are put to the others
abbrev pub AllPut : List (PartCells × PartCells) → Changes → Changes → Type 0
AllPut ps m m2 = (goal : Goal) → All (IsGoal goal) ps → AreSome m goal → AreMore m m2 goal × All (IsDone m2 goal) ps

-- ---- the parts of tables as they are, with what they are next

abbrev pub pairs_of : TableCells × Vec PartCells Global → List (PartCells × PartCells)
pairs_of p = zip p.0.parts.items p.1.items

abbrev pub all_pairs : List TableCells → List (Vec PartCells Global) → List (PartCells × PartCells)
all_pairs ts moved = flat_map pairs_of (zip ts moved)

-- the stage and the place of a part are numbers of a byte, and what is kept of a cell has its number
pub record CanChange (y : PartCells) : Type 0 where
  pub stage : y.stage < 256
  pub place : y.place < 256
  pub own : (n : ℕ) (k : Kept) → get nat_cmp y.cells n ≡ Some k → k.cell ≡ n

-- changed cells in order, which are those that are to be
pub record AreDifferences (ps : List (PartCells × PartCells)) (writes : List CellWrite) (goal : Goal) : Type 0 where
  pub in_order : AllPairs (λ a b. writes_before a b ≡ true) writes
  pub each : All (λ (w : CellWrite). goal (change_key w) ≡ Some w) writes
  pub all : All (λ (p : PartCells × PartCells). (n : ℕ) → find (λ (w : CellWrite). is_changed w p.1.stage p.1.place n) writes ≡ change_in p.0 p.1 n) ps
