-- How far entries of a commit have come to cells, one after another.
use Rattle.std.specs.Prelude.{◌≡◌, ◌≢◌, ◌==◌, ◌++◌, List, Bool, true, false, Option, Some, None, All, AllPairs, filter, fold, map}
use Rattle.std.specs.List.{AllZip, filter_map, flat_map}
use Rattle.std.specs.BTreeMap.{IsOrdered}
use Rattle.std.specs.Ordering.{nat_cmp}
use Rattle.rmt_ast.specs.declared.entry.Entry.{Entry}
use Rattle.rmt_ast.specs.declared.names.Names.{Names}
use Rattle.rmt_config.specs.declared.config.Config.{Config}
use Rattle.rmt_config.specs.Commits.{Placed, placed_now, stay, with_coming}
use Rattle.rmt_config.specs.RunCells.{RunCells}
use Rattle.rmt_update.specs.declared.book.Book.{Book}
use Rattle.rmt_update.specs.declared.book.placing.Coming.{Coming}
use Rattle.rmt_book.specs.declared.table.PartCells.{PartCells}
use Rattle.rmt_book.specs.declared.table.TableCells.{TableCells}
use Rattle.rmt_lists.specs.declared.lists.Changes.{Changes}
use Rattle.rmt_update.specs.BookStands.{BookStands}
use Rattle.rmt_update.specs.Placing.{TakesCell}
use Rattle.rmt_update.specs.Planned.{MayChange, changed_lists}

-- a configuration with its names, the cells of a run, and its entries
pub record Run : Type 0 where
  pub config : Config
  pub names : Names
  pub cells : RunCells
  pub lists : List (List Entry)

-- a book stands for them, and may change so
pub record IsRunOf (b : Book) (ch : Changes) (w : Run) : Type 0 where
  pub stands : BookStands w.config w.cells w.lists b
  pub named : w.config.names ≡ Some w.names
  pub may : MayChange w.config w.names w.cells w.lists ch

-- the cells of each part are kept by rising number
abbrev pub AreOrdered : TableCells → Type 0
AreOrdered t = All (λ (x : PartCells). IsOrdered nat_cmp x.cells) t.parts.items

-- the entries that stay, with their rooms
abbrev pub staying : Run → Changes → List Placed
staying w ch = filter_map (placed_now w.config w.names w.cells) (stay w.lists (changed_lists w.lists ch))

-- they, and these entries that come, with their rooms
abbrev pub behind : Run → Changes → List Entry → Option (List Placed)
behind w ch es = fold (with_coming w.config w.names w.cells) (Some (staying w ch)) es

-- the entries that come to some tables
abbrev pub come_in : Changes → TableCells → List Entry
come_in ch t = filter (λ (e : Entry). t.name.node == e.table) ch.come

abbrev pub come_to : Changes → List TableCells → List Entry
come_to ch tables = flat_map (come_in ch) tables

-- these entries have come to these cells
pub record HaveCome (w : Run) (b : Book) (ch : Changes) (es : List Entry) (xs : List Coming) : Type 0 where
  pub placed : List Placed
  pub entries : map (λ (q : Placed). q.entry) placed ≡ es
  pub after : behind w ch es ≡ Some (staying w ch ++ placed)
  pub takes : AllZip (TakesCell w.config w.cells.seed b.odd b.tables.items) placed xs
  pub apart : AllPairs (λ (x y : Coming). x.spot ≢ y.spot) xs

-- or one of them finds none
abbrev pub MayHaveCome : Run → Book → Changes → List Entry → List Coming → Bool → Type 0
MayHaveCome w b ch es xs true = HaveCome w b ch es xs
MayHaveCome w b ch es xs false = behind w ch es ≡ None
