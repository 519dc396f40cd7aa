-- What changes a book takes, and what it plans for them.
use Rattle.std.specs.Prelude.{◌≡◌, ◌≢◌, ◌<◌, ℕ, List, ◌++◌, not, ◌==◌, Some, None, All, AllPairs, IsTrue, filter, length, map}
use Rattle.std.specs.List.{enumerate_from, flat_map}
use Rattle.rmt_bits.specs.Members.{is_among}
use Rattle.rmt_ast.specs.Answers.{entry_numbers}
use Rattle.rmt_ast.specs.NameRules.{AreEntriesOf}
use Rattle.rmt_ast.specs.declared.entry.Entry.{Entry}
use Rattle.rmt_ast.specs.declared.names.Names.{Names}
use Rattle.rmt_config.specs.declared.cell_write.CellWrite.{CellWrite}
use Rattle.rmt_config.specs.declared.config.Config.{Config}
use Rattle.rmt_config.specs.declared.config.SlotUnit.{SlotUnit}
use Rattle.rmt_config.specs.Commits.{AreWrites, Makes, placed_after}
use Rattle.rmt_config.specs.NamesForm.{by_number}
use Rattle.rmt_config.specs.RunCells.{RunCells, slot_at, with_version}
use Rattle.rmt_update.specs.declared.book.Book.{Book}
use Rattle.rmt_update.specs.declared.book.plan.Plan.{Plan}
use Rattle.rmt_lists.specs.declared.fault.UpdateFault.{UpdateFault}
use Rattle.rmt_lists.specs.declared.fault.UpdateFault.TheVariants.{NoMemory, LoadFull}
use Rattle.rmt_lists.specs.declared.lists.Changes.{Changes}
use Rattle.rmt_update.specs.BookStands.{BookStands, IsUsed}
use Rattle.rmt_update.specs.FirstFull.{HasNoLoading, IsFirstFull}
use Rattle.rmt_book.specs.Kept.{AreBytesOf}

-- a list of a node without the entries that go and with those that come
abbrev pub changed_list : Changes → ℕ × List Entry → List Entry
changed_list ch x = by_number (filter (λ (e : Entry). not (is_among ch.gone e.number)) x.1 ++ filter (λ (e : Entry). x.0 == e.table) ch.come)

-- the lists of all nodes
abbrev pub changed_lists : List (List Entry) → Changes → List (List Entry)
changed_lists lists ch = map (changed_list ch) (enumerate_from 0 lists)

-- Changes of these entries, in these cells: what goes is there, what comes has numbers that no cell has, and the entries that are left are
-- well formed for the names. Both are by rising number.
pub record MayChange (c : Config) (names : Names) (cells : RunCells) (lists : List (List Entry)) (ch : Changes) : Type 0 where
  pub gone_rise : AllPairs (λ (a b : ℕ). a < b) ch.gone
  pub gone_stand : All (λ n. IsTrue (is_among (flat_map entry_numbers lists) n)) ch.gone
  pub come_rise : AllPairs (λ (a b : Entry). a.number < b.number) ch.come
  pub come_new : All (λ (e : Entry). (k place n : ℕ) → IsUsed c cells k place n → cells.number k place n ≢ e.number) ch.come
  pub come_within : All (λ (e : Entry). e.table < length lists) ch.come
  pub formed : AreEntriesOf names (changed_lists lists ch)

-- a changed cell of a slot, with as many bytes as those of the slot where it gets an entry
pub record HasLengths (c : Config) (w : CellWrite) : Type 0 where
  pub slot : SlotUnit
  pub there : slot_at c w.stage w.unit ≡ Some slot
  pub visible : w.visible < 4
  pub bytes : w.visible ≢ 0 → AreBytesOf slot w.key w.mask w.held

-- A plan of a commit between cells with these entries: what it makes of the cells, the cells that it changes to that end, with as many bytes as
-- their slots', and that the book stands for the next version.
pub record IsPlanned (c : Config) (names : Names) (cells : RunCells) (before after : List (List Entry)) (plan : Plan) (next : RunCells) (b : Book) : Type 0 where
  pub makes : Makes c names cells before after plan.moved plan.seed next
  pub writes : AreWrites c cells next plan.writes.items
  pub sizes : All (HasLengths c) plan.writes.items
  pub stands : BookStands c (with_version next plan.seed) after b

-- why a commit is not planned: for want of memory, or since a cell must move and nothing loads; then told with the first table that has no
-- loading under seed 7
abbrev pub IsUnplanned : Config → Names → RunCells → List (List Entry) → List (List Entry) → UpdateFault → Type 0
IsUnplanned c names cells before after NoMemory = Unit {0}
IsUnplanned c names cells before after (LoadFull node members count) =
    (placed_after c names cells before after ≡ None) × HasNoLoading c names after × IsFirstFull c names after 7 node members count
