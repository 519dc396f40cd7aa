-- How the entries of a run are loaded into the cells of a book's tables, where cells must move, and why they can't be.
use Rattle.std.specs.Prelude.{◌≡◌, ◌<◌, ◌≤◌, ◌^◌, IsTrue, sum, ℕ, List, [], ◌∷◌, Option, Some, None, All, count_by, find, length, map, slice_get, ◌==◌}
use Rattle.std.specs.List.{AllZip, flat_map}
use Rattle.rmt_ast.specs.Changes.{list_of}
use Rattle.rmt_ast.specs.EntryLists.{Terms}
use Rattle.rmt_ast.specs.NameRules.{table_is_formed, terms_of_name}
use Rattle.rmt_ast.specs.RowOrder.{goes_first}
use Rattle.rmt_ast.specs.WellFormed.{IsTest}
use Rattle.rmt_ast.specs.declared.entry.Entry.{Entry}
use Rattle.rmt_ast.specs.declared.names.Names.{Names}
use Rattle.rmt_ast.specs.declared.program.Kind.{Kind}
use Rattle.rmt_ast.specs.declared.program.Kind.TheVariants.{Keyless, Exact, Prefix, Ternary}
use Rattle.rmt_config.specs.declared.config.Config.{Config}
use Rattle.rmt_config.specs.Commits.{AreFilled, IsFirstSeed}
use Rattle.rmt_config.specs.Form.{Formed}
use Rattle.rmt_config.specs.Rooms.{PartAt, parts_of}
use Rattle.rmt_cuckoo.specs.declared.layout.Ways.{Ways}
use Rattle.rmt_cuckoo.specs.Loading.{IsLoading, IsOverfull, cells_of}
use Rattle.rmt_update.specs.declared.book.loading.Full.{Full}
use Rattle.rmt_update.specs.declared.book.loading.Loaded.{Loaded}
use Rattle.rmt_update.specs.declared.book.loading.TableTried.{TableTried}
use Rattle.rmt_update.specs.declared.book.loading.TableTried.TheVariants as table
use Rattle.rmt_update.specs.declared.book.loading.Tried.{Tried}
use Rattle.rmt_update.specs.declared.book.loading.Tried.TheVariants as tried
use Rattle.rmt_book.specs.declared.grid.Grid.{Grid}
use Rattle.rmt_book.specs.declared.grid.Grid.TheVariants as grid
use Rattle.rmt_book.specs.declared.spots.Spot.{Spot}
use Rattle.rmt_book.specs.declared.table.PartCells.{PartCells}
use Rattle.rmt_book.specs.declared.table.TableCells.{TableCells}
use Rattle.rmt_lists.specs.declared.fault.UpdateFault.{UpdateFault}
use Rattle.rmt_lists.specs.declared.fault.UpdateFault.TheVariants.{NoMemory, LoadFull}
use Rattle.rmt_update.specs.FirstFull.{HasNoLoading, IsFirstFull, keys_of}
use Rattle.rmt_book.specs.PartShape.{IsShape}
use Rattle.rmt_book.specs.Spots.{placed_from, spots_at}

-- ---- the tables of a configuration

-- a part is kept with the shape of its slot
abbrev pub HasShape : PartAt → PartCells → Type 0
HasShape p x = IsShape p.slot x.shape

abbrev pub HaveShapes : Config → TableCells → Type 0
HaveShapes c t = AllZip HasShape (parts_of c t.name.node) t.parts.items

-- tables are those of a configuration with names, and their parts have its shapes
pub record AreTables (c : Config) (names : Names) (tables : List TableCells) : Type 0 where
  pub formed : Formed c
  pub named : c.names ≡ Some names
  pub same : names.tables ≡ map (λ (t : TableCells). t.name) tables
  pub shapes : All (HaveShapes c) tables

-- ---- exact tables

-- the ways of an exact part
abbrev pub ways_for : Grid → List Ways
ways_for (grid.Ways w) = record { rows = w.rows; per = w.per } ∷ []
ways_for (grid.Rows rows) = []

-- the exact parts of a table, as its keys are loaded into them
abbrev pub layout_in : List PartCells → List Ways
layout_in parts = flat_map (λ (x : PartCells). ways_for x.shape.grid) parts

-- ---- what comes of one table under a seed

-- the entries of a table can be put into its cells
pub record CanFill (table : TableCells) (entries : List Entry) : Type 0 where
  pub formed : IsTrue (table_is_formed table.name)
  pub bits : sum table.name.keys ≤ 640
  pub tests : All (λ (e : Entry). AllZip IsTest table.name.keys e.tests) entries
  pub few : length entries < 2 ^ 32

-- keys can be loaded into the ways of a table
pub record CanLoad (layout : List Ways) (keys : List (List ℕ)) : Type 0 where
  pub parts : length layout ≤ 64
  pub rows : All (λ (w : Ways). 1 ≤ w.rows) layout
  pub few_cells : cells_of layout < 2 ^ 32
  pub few_keys : length keys < 2 ^ 32

-- entries of a kind stand in these spots: those of an exact table each in a candidate cell of its own, and the others in rows in order, without a gap
abbrev pub StandBy : List PartCells → ℕ → Terms → List Entry → Kind → List Spot → Type 0
StandBy parts seed t es Keyless spots = ⊥
StandBy parts seed t es Exact spots = (cells : List ℕ) × IsLoading (layout_in parts) seed (keys_of t es) cells × (spots ≡ spots_at parts cells)
StandBy parts seed t es Prefix spots = spots ≡ spots_at parts (map (λ e. count_by (λ f. goes_first Prefix f e) es) es)
StandBy parts seed t es Ternary spots = spots ≡ spots_at parts (map (λ e. count_by (λ f. goes_first Ternary f e) es) es)

-- some of the keys of an exact table, so many, have so many cells, fewer than they are
abbrev pub HasFew : List PartCells → ℕ → Terms → List Entry → ℕ → ℕ → Type 0
HasFew parts seed t es members cells =
    (t.kind ≡ Exact) × (own : List ℕ) × IsOverfull (layout_in parts) seed (keys_of t es) own cells × (members ≡ length own)

-- the entries stand, or some have too few cells
abbrev pub IsTried : List PartCells → ℕ → Terms → List Entry → TableTried → Type 0
IsTried parts seed t es (table.Stand spots) = StandBy parts seed t es t.kind spots
IsTried parts seed t es (table.Overfull members cells) = HasFew parts seed t es members cells

-- of keys with this layout: each has a candidate cell of its own, or some have too few
abbrev pub AreLoadedKeys : List PartCells → List Ways → ℕ → List (List ℕ) → TableTried → Type 0
AreLoadedKeys parts layout seed keys (table.Stand spots) = (cells : List ℕ) × IsLoading layout seed keys cells × (spots ≡ spots_at parts cells)
AreLoadedKeys parts layout seed keys (table.Overfull members cells) = (own : List ℕ) × IsOverfull layout seed keys own cells × (members ≡ length own)

-- those of a node; where it applies no table there are none
abbrev pub IsTriedAt : ℕ → List Entry → Option TableCells → TableTried → Type 0
IsTriedAt seed es None (table.Stand spots) = spots ≡ []
IsTriedAt seed es None (table.Overfull members cells) = ⊥
IsTriedAt seed es (Some x) tried = IsTried x.parts.items seed (terms_of_name x.name) es tried

-- the table of a node
abbrev pub table_of : List TableCells → ℕ → Option TableCells
table_of tables node = find (λ (x : TableCells). x.name.node == node) tables

-- ---- what comes of all tables under a seed

-- the entries of the first so many nodes stand
pub record StandUpto (tables : List TableCells) (lists : List (List Entry)) (seed count : ℕ) (spots : List (List Spot)) : Type 0 where
  pub count_is : length spots ≡ count
  pub each : (n : ℕ) (ss : List Spot) → slice_get spots n ≡ Some ss → IsTriedAt seed (list_of lists n) (table_of tables n) (table.Stand ss)

-- those of a node are the first that don't
pub record IsStuck (tables : List TableCells) (lists : List (List Entry)) (seed : ℕ) (full : Full) : Type 0 where
  pub spots : List (List Spot)
  pub before : StandUpto tables lists seed full.node spots
  pub here : IsTriedAt seed (list_of lists full.node) (table_of tables full.node) (table.Overfull full.members full.cells)

abbrev pub AreTried : List TableCells → List (List Entry) → ℕ → Tried → Type 0
AreTried tables lists seed (tried.Stand spots) = StandUpto tables lists seed (length lists) spots
AreTried tables lists seed (tried.Overfull full) = IsStuck tables lists seed full

-- under each of the first so many seeds some table is stuck
abbrev pub AreStuck : List TableCells → List (List Entry) → ℕ → Type 0
AreStuck tables lists seeds = (s : ℕ) → s < seeds → (full : Full) × IsStuck tables lists s full

-- ---- what comes of all seeds

-- the rooms of the spots are a loading under the first seed that has one
pub record IsLoaded (c : Config) (names : Names) (lists : List (List Entry)) (l : Loaded) : Type 0 where
  pub first : IsFirstSeed c names l.seed lists
  pub many : AllZip (λ (es : List Entry) (ss : List Spot). length ss ≡ length es) lists l.spots
  pub filled : AreFilled c names l.seed lists (placed_from c 0 lists l.spots)

-- why nothing is loaded: for want of memory, or since no seed from 0 to 7 has a loading; then told with the first table that has none under seed 7
abbrev pub IsNotLoaded : Config → Names → List (List Entry) → UpdateFault → Type 0
IsNotLoaded c names lists NoMemory = Unit {0}
IsNotLoaded c names lists (LoadFull node members cells) = HasNoLoading c names lists × IsFirstFull c names lists 7 node members cells
