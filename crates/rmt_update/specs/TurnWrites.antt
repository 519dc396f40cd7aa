-- How cells change in a commit that moves none, by where they stand.
use Rattle.std.specs.Prelude.{◌≡◌, ◌≢◌, ◌⊎◌, ◌<◌, ℕ, Bool, List, ◌==◌, if◌then◌else◌, Option, Some, None, All, option_map}
use Rattle.std.specs.BTreeMap.{get}
use Rattle.std.specs.Ordering.{nat_cmp}
use Rattle.rmt_config.specs.declared.cell_write.CellWrite.{CellWrite}
use Rattle.rmt_update.specs.declared.book.changing.CellChange.{CellChange}
use Rattle.rmt_book.specs.declared.kept.Kept.{Kept}
use Rattle.rmt_update.specs.declared.book.placing.Coming.{Coming}
use Rattle.rmt_book.specs.declared.spot.BookSpot.{BookSpot}
use Rattle.rmt_book.specs.declared.table.PartCells.{PartCells}
use Rattle.rmt_book.specs.declared.table.TableCells.{TableCells}
use Rattle.rmt_update.specs.declared.book.turning.CellTurn.{CellTurn}
use Rattle.rmt_update.specs.declared.book.turning.Turn.{Turn}
use Rattle.rmt_update.specs.declared.book.turning.Turn.TheVariants.{Empty, Shows}
use Rattle.rmt_book.specs.BookSpots.{kept_at}
use Rattle.rmt_update.specs.Changing.{ChangeKey}
use Rattle.rmt_book.specs.Coming.{empty_write, kept_write}
use Rattle.rmt_update.specs.Differences.{Changes, Puts, change_by, is_exact, write_at}
use Rattle.rmt_update.specs.Turning.{IsSpotIn, left_kept, part_of}

-- ---- the tables

-- the stage and the place of a part are numbers of a byte
abbrev pub AreSmall : List TableCells → Type 0
AreSmall ts = (s : BookSpot) (p : PartCells) → part_of ts s ≡ Some p → (p.stage < 256) × (p.place < 256)

-- no two parts have one slot
abbrev pub HaveOwnSlots : List TableCells → Type 0
HaveOwnSlots ts = (s z : BookSpot) (p q : PartCells) → part_of ts s ≡ Some p → part_of ts z ≡ Some q → p.stage ≡ q.stage → p.place ≡ q.place → (s.table ≡ z.table) × (s.at.part ≡ z.at.part)

-- an entry comes to a cell of tables, in which none of its number stands
pub record IsFresh (ts : List TableCells) (x : Coming) : Type 0 where
  pub there : IsSpotIn ts x.spot
  pub cell : x.kept.cell ≡ x.spot.at.cell
  pub shown : x.kept.visible ≢ 0
  pub new : (k : Kept) → kept_at ts x.spot ≡ Some k → k.number ≢ x.kept.number

-- ---- one cell

-- the key of a cell of a part
abbrev pub key_in : PartCells → BookSpot → ChangeKey
key_in p s = ((p.stage, p.place), s.at.cell)

-- how a cell of a part changes of which this is kept next
abbrev pub change_to : PartCells → BookSpot → Option Kept → Option CellWrite
change_to p s o = change_by (is_exact p.shape.grid) p.stage p.place s.at.cell (get nat_cmp p.cells s.at.cell) o

-- how an occupied cell changes that gets other visible bits; without any it is emptied
abbrev pub shown_write : ℕ → ℕ → ℕ → Kept → Option ℕ → Option CellWrite
shown_write stage place n k None = Some (empty_write stage place n)
shown_write stage place n k (Some v) = if v == k.visible then None else Some (kept_write stage place v k)

-- how a cell changes to which no entry comes, where these numbers go
abbrev pub left_write : Bool → List ℕ → PartCells → ℕ → Option Kept → Option CellWrite
left_write odd gone p n None = None
left_write odd gone p n (Some k) = shown_write p.stage p.place n k (option_map (λ (j : Kept). j.visible) (left_kept odd gone (Some k)))

abbrev pub PutsLeft : Bool → List ℕ → Option PartCells → BookSpot → Changes → Changes → Type 0
PutsLeft odd gone None s m m2 = m2 ≡ m
PutsLeft odd gone (Some p) s m m2 = Puts m m2 (key_in p s) s (left_write odd gone p s.at.cell (get nat_cmp p.cells s.at.cell))

-- ---- all cells

-- a changed cell is one of tables, and stands by its key
abbrev pub IsOfTables : List TableCells → ChangeKey × CellChange → Type 0
IsOfTables ts x = (p : PartCells) × (part_of ts x.1.spot ≡ Some p) × (x.0 ≡ key_in p x.1.spot)

-- a cell is changed to what is to be kept of it
abbrev pub IsChanged : List TableCells → (BookSpot → Option Kept) → Changes → BookSpot → Type 0
IsChanged ts next m s = (p : PartCells) → part_of ts s ≡ Some p → write_at m (key_in p s) ≡ change_to p s (next s)

-- some cells are, and others not yet
pub record AreOnWay (ts : List TableCells) (next : BookSpot → Option Kept) (m : Changes) : Type 0 where
  pub spots : All (IsOfTables ts) m
  pub each : (s : BookSpot) (p : PartCells) → part_of ts s ≡ Some p → (write_at m (key_in p s) ≡ None) ⊎ (write_at m (key_in p s) ≡ change_to p s (next s))

-- more of them are: all that were, and these
pub record MoreChanged (ts : List TableCells) (next : BookSpot → Option Kept) (m m2 : Changes) (these : BookSpot → Type 0) : Type 0 where
  pub some : AreOnWay ts next m2
  pub stay : (s : BookSpot) → IsChanged ts next m s → IsChanged ts next m2 s
  pub done : (s : BookSpot) → these s → IsChanged ts next m2 s

-- all of them are
pub record AreChanged (ts : List TableCells) (next : BookSpot → Option Kept) (m : Changes) : Type 0 where
  pub spots : All (IsOfTables ts) m
  pub each : (s : BookSpot) → IsChanged ts next m s

-- ---- turns

-- the turn of a changed cell: it is emptied, or gets these visible bits
abbrev pub turn_of : ℕ → Turn
turn_of visible = if visible == 0 then Empty else Shows visible

abbrev pub cell_turn : ChangeKey × CellChange → CellTurn
cell_turn x = record { spot = x.1.spot; turn = turn_of x.1.write.visible }
