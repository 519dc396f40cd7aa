-- Which cells the entries behind a commit have that moves none, as a book finds them.
use Rattle.std.specs.Prelude.{◌≡◌, ◌≢◌, ◌<◌, ℕ, List, ◌++◌, Bool, true, false, not, Option, Some, None, All, AllPairs, Contains, map, option_map, slice_get, unwrap_or}
use Rattle.std.specs.List.{AllZip}
use Rattle.std.specs.BTreeMap.{get}
use Rattle.std.specs.Ordering.{nat_cmp}
use Rattle.rmt_bits.specs.Members.{is_among}
use Rattle.rmt_ast.specs.NameRules.{terms_of_name}
use Rattle.rmt_ast.specs.declared.entry.Entry.{Entry}
use Rattle.rmt_ast.specs.declared.names.Names.{Names}
use Rattle.rmt_config.specs.declared.config.Config.{Config}
use Rattle.rmt_config.specs.Commits.{Placed, all_entries, come, is_numbered_in, placed_after}
use Rattle.rmt_config.specs.Rooms.{Room, key_number, parts_of}
use Rattle.rmt_config.specs.RunCells.{RunCells}
use Rattle.rmt_book.specs.declared.kept.Kept.{Kept}
use Rattle.rmt_update.specs.declared.book.placing.Coming.{Coming}
use Rattle.rmt_book.specs.declared.spot.BookSpot.{BookSpot}
use Rattle.rmt_book.specs.declared.table.PartCells.{PartCells}
use Rattle.rmt_book.specs.declared.table.TableCells.{TableCells}
use Rattle.rmt_lists.specs.declared.lists.Changes.{Changes}
use Rattle.rmt_update.specs.BookStands.{is_candidate}
use Rattle.rmt_book.specs.Coming.{HasSizes, KeepsEntry}
use Rattle.rmt_update.specs.NextKept.{bit_of}
use Rattle.rmt_update.specs.Open.{is_kept_seen}
use Rattle.rmt_book.specs.PartShape.{cell_count}
use Rattle.rmt_update.specs.Planned.{changed_lists}
use Rattle.rmt_book.specs.Seen.{is_seen}
use Rattle.rmt_book.specs.Spots.{room_at}
use Rattle.rmt_book.specs.Told.{told_entry}

-- ---- cells of a book

-- the node of a table of a book
abbrev pub node_at : List TableCells → ℕ → ℕ
node_at tables i = unwrap_or (option_map (λ (t : TableCells). t.name.node) (slice_get tables i)) 0

-- the room of a cell of a book
abbrev pub room_of : Config → List TableCells → BookSpot → Room
room_of c tables s = room_at (parts_of c (node_at tables s.table)) s.at

-- a cell of a book: its table, its part, and the number of the cell in it
pub record IsBookSpot (tables : List TableCells) (s : BookSpot) : Type 0 where
  pub table : TableCells
  pub in_tables : slice_get tables s.table ≡ Some table
  pub part : PartCells
  pub in_parts : slice_get table.parts.items s.at.part ≡ Some part
  pub within : s.at.cell < cell_count part.shape.grid

-- ---- entries that stay

-- the entry of a cell stays: the version sees it, and its number is not among those that go
pub record StaysAt (odd : Bool) (gone : List ℕ) (tables : List TableCells) (s : BookSpot) (e : Entry) : Type 0 where
  pub at : IsBookSpot tables s
  pub kept : Kept
  pub there : get nat_cmp at.part.cells s.at.cell ≡ Some kept
  pub seen : is_seen odd kept ≡ true
  pub stays : is_among gone kept.number ≡ false
  pub tells : e ≡ told_entry at.table.name at.part.first kept

-- the entries that stay with their rooms: one for each cell whose entry stays
pub record AreStaying (c : Config) (lists : List (List Entry)) (odd : Bool) (gone : List ℕ) (tables : List TableCells) (stay : List Placed) : Type 0 where
  pub each : All (λ (p : Placed). (s : BookSpot) × StaysAt odd gone tables s p.entry × (p.room ≡ room_of c tables s)) stay
  pub all : (s : BookSpot) (e : Entry) → StaysAt odd gone tables s e → Contains stay (record { entry = e; room = room_of c tables s })
  pub old : All (λ (p : Placed). is_numbered_in (all_entries lists) p.entry ≡ true) stay

-- ---- entries that come

-- an entry that comes takes a cell: a candidate of its key that the version doesn't see; it is kept with the visible bit of the next version alone
pub record TakesCell (c : Config) (seed : ℕ) (odd : Bool) (tables : List TableCells) (q : Placed) (x : Coming) : Type 0 where
  pub at : IsBookSpot tables x.spot
  pub free : is_kept_seen odd (get nat_cmp at.part.cells x.spot.at.cell) ≡ false
  pub node : q.entry.table ≡ at.table.name.node
  pub room : q.room ≡ room_of c tables x.spot
  pub candidate : is_candidate seed q.room.part (key_number (terms_of_name at.table.name) q.entry) x.spot.at.cell ≡ true
  pub keeps : KeepsEntry at.table.name at.part.first x.spot.at.cell (bit_of (not odd)) q.entry x.kept
  pub sizes : HasSizes at.table.name at.part.shape.held x.kept

-- the entries behind a commit that moves no cell: those that stay, and then those that come in these cells
pub record ArePlaced (c : Config) (names : Names) (cells : RunCells) (lists : List (List Entry)) (ch : Changes) (odd : Bool) (tables : List TableCells) (xs : List Coming) : Type 0 where
  pub stay : List Placed
  pub staying : AreStaying c lists odd ch.gone tables stay
  pub coming : List Placed
  pub entries : map (λ (q : Placed). q.entry) coming ≡ come lists (changed_lists lists ch)
  pub new : All (λ (q : Placed). is_numbered_in (all_entries lists) q.entry ≡ false) coming
  pub takes : AllZip (TakesCell c cells.seed odd tables) coming xs
  pub apart : AllPairs (λ (x y : Coming). x.spot ≢ y.spot) xs
  pub placed : placed_after c names cells lists (changed_lists lists ch) ≡ Some (stay ++ coming)

-- the cells that entries that come take, or that some cell must move
abbrev pub IsPlacing : Config → Names → RunCells → List (List Entry) → Changes → Bool → List TableCells → Option (List Coming) → Type 0
IsPlacing c names cells lists ch odd tables None = placed_after c names cells lists (changed_lists lists ch) ≡ None
IsPlacing c names cells lists ch odd tables (Some xs) = ArePlaced c names cells lists ch odd tables xs
