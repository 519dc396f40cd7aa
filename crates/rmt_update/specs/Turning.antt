-- What a commit that moves no cell makes of the cells of a book.
use Rattle.std.specs.Prelude.{◌≡◌, ◌<◌, ℕ, List, [], ◌∷◌, ◌&&◌, Bool, ◌==◌, if◌then◌else◌, Option, Some, None, All, length, IsSomeAnd, option_and_then, option_map, slice_get}
use Rattle.std.specs.List.{AllZip}
use Rattle.std.specs.BTreeMap.{IsOrdered, get}
use Rattle.std.specs.Ordering.{nat_cmp}
use Rattle.rmt_bits.specs.Members.{is_among}
use Rattle.rmt_book.specs.declared.kept.Kept.{Kept}
use Rattle.rmt_update.specs.declared.book.placing.Coming.{Coming}
use Rattle.rmt_book.specs.declared.spot.BookSpot.{BookSpot}
use Rattle.rmt_book.specs.declared.spots.Spot.{Spot}
use Rattle.rmt_book.specs.declared.table.PartCells.{PartCells}
use Rattle.rmt_book.specs.declared.table.TableCells.{TableCells}
use Rattle.rmt_update.specs.declared.book.turning.CellTurn.{CellTurn}
use Rattle.rmt_update.specs.declared.book.turning.Turn.{Turn}
use Rattle.rmt_update.specs.declared.book.turning.Turn.TheVariants.{Empty, Holds, Shows}
use Rattle.rmt_book.specs.BookSpots.{kept_at}
use Rattle.rmt_update.specs.NextKept.{next_kept}

-- what is left of a cell to which no entry comes
abbrev pub left_kept : Bool → List ℕ → Option Kept → Option Kept
left_kept odd gone None = None
left_kept odd gone (Some k) = next_kept odd (is_among gone k.number) (Some k)

-- two spots are one
abbrev pub is_spot : BookSpot → BookSpot → Bool
is_spot a b = (a.table == b.table) && (a.at.part == b.at.part) && (a.at.cell == b.at.cell)

-- what comes to a cell among entries that come, and else what is there
abbrev pub come_to : List Coming → BookSpot → Option Kept → Option Kept
come_to [] s o = o
come_to (x ∷ xs) s o = come_to xs s (if is_spot x.spot s then Some x.kept else o)

-- the same is kept
pub record IsLike (a b : Kept) : Type 0 where
  pub cell : a.cell ≡ b.cell
  pub visible : a.visible ≡ b.visible
  pub code : a.code ≡ b.code
  pub key : a.key.items ≡ b.key.items
  pub mask : a.mask.items ≡ b.mask.items
  pub held : a.held.items ≡ b.held.items
  pub number : a.number ≡ b.number
  pub rank : a.rank ≡ b.rank

abbrev pub AreLike : Option Kept → Option Kept → Type 0
AreLike None None = Unit {0}
AreLike None (Some b) = ⊥
AreLike (Some a) None = ⊥
AreLike (Some a) (Some b) = IsLike a b

-- the same part, with other cells
pub record IsSamePart (x y : PartCells) : Type 0 where
  pub stage : y.stage ≡ x.stage
  pub place : y.place ≡ x.place
  pub first : y.first ≡ x.first
  pub shape : y.shape ≡ x.shape
  pub ordered : IsOrdered nat_cmp x.cells
  pub still : IsOrdered nat_cmp y.cells

-- the same table, with other cells
abbrev pub IsSameTable : TableCells → TableCells → Type 0
IsSameTable t u = (u.name ≡ t.name) × AllZip IsSamePart t.parts.items u.parts.items

-- ---- cells that change in their places

-- the part of a spot
abbrev pub part_of : List TableCells → BookSpot → Option PartCells
part_of ts s = option_and_then (λ (t : TableCells). slice_get t.parts.items s.at.part) (slice_get ts s.table)

-- the same part, with one cell more, one less, or another one
pub record IsStill (x y : PartCells) : Type 0 where
  pub stage : y.stage ≡ x.stage
  pub place : y.place ≡ x.place
  pub first : y.first ≡ x.first
  pub shape : y.shape ≡ x.shape
  pub ordered : IsOrdered nat_cmp x.cells → IsOrdered nat_cmp y.cells

-- the same table, with such parts
abbrev pub IsStillTable : TableCells → TableCells → Type 0
IsStillTable t u = (u.name ≡ t.name) × AllZip IsStill t.parts.items u.parts.items

-- what is kept of a cell of parts
abbrev pub cell_at : List PartCells → Spot → Option Kept
cell_at ps s = option_and_then (λ (p : PartCells). get nat_cmp p.cells s.cell) (slice_get ps s.part)

-- something else is kept of one cell: of a part, of parts, and of tables
pub record PartWith (cell : ℕ) (make : Option Kept → Option Kept) (x y : PartCells) : Type 0 where
  pub still : IsStill x y
  pub each : (n : ℕ) → get nat_cmp y.cells n ≡ (if cell == n then make (get nat_cmp x.cells n) else get nat_cmp x.cells n)

pub record PartsWith (at : Spot) (make : Option Kept → Option Kept) (ps qs : List PartCells) : Type 0 where
  pub same : AllZip IsStill ps qs
  pub each : (s : Spot) → cell_at qs s ≡ (if (at.part == s.part) && (at.cell == s.cell) then make (cell_at ps s) else cell_at ps s)

pub record TablesWith (at : BookSpot) (make : Option Kept → Option Kept) (ts us : List TableCells) : Type 0 where
  pub same : AllZip IsStillTable ts us
  pub each : (s : BookSpot) → kept_at us s ≡ (if is_spot at s then make (kept_at ts s) else kept_at ts s)

-- the same tables, of whose cells this is kept
pub record HaveCells (ts us : List TableCells) (kept : BookSpot → Option Kept) : Type 0 where
  pub same : AllZip IsStillTable ts us
  pub each : (s : BookSpot) → kept_at us s ≡ kept s

-- what a turn makes of what is kept of a cell
abbrev pub turned_by : Turn → Option Kept → Option Kept
turned_by Empty o = None
turned_by (Shows v) o = option_map (λ (k : Kept). record k { visible = v }) o
turned_by (Holds k) o = option_map (λ (j : Kept). k) o

-- what turns make of it, of which the last one comes first
abbrev pub turned : List CellTurn → BookSpot → Option Kept → Option Kept
turned [] s o = o
turned (x ∷ xs) s o = if is_spot x.spot s then turned_by x.turn (turned xs s o) else turned xs s o

-- a cell of a part of tables
abbrev pub IsSpotIn : List TableCells → BookSpot → Type 0
IsSpotIn ts s = IsSomeAnd (slice_get ts s.table) (λ (t : TableCells). s.at.part < length t.parts.items)

-- the turn by which something is kept again of an occupied cell, or nothing
abbrev pub turn_to : Option Kept → Turn
turn_to None = Empty
turn_to (Some k) = Holds k

-- turns lead from tables back to others
pub record LeadBack (turns : List CellTurn) (us ts : List TableCells) : Type 0 where
  pub same : AllZip IsStillTable ts us
  pub spots : All (λ (x : CellTurn). IsSpotIn us x.spot) turns
  pub each : (s : BookSpot) → turned turns s (kept_at us s) ≡ kept_at ts s

-- the tables of a book behind a commit that moves no cell, where entries of these numbers go, and these come
pub record AreNext (odd : Bool) (gone : List ℕ) (come : List Coming) (ts us : List TableCells) : Type 0 where
  pub same : AllZip IsSameTable ts us
  pub each : (s : BookSpot) → AreLike (kept_at us s) (come_to come s (left_kept odd gone (kept_at ts s)))
