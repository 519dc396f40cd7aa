-- Lists and a book that stand for one run.
use Rattle.std.specs.Prelude.{◌≡◌, List, Some}
use Rattle.rmt_ast.specs.declared.names.Names.{Names}
use Rattle.rmt_ast.specs.Changes.{Change, Installed, committed}
use Rattle.rmt_ast.specs.NameRules.{AreEntriesOf}
use Rattle.rmt_config.specs.declared.config.Config.{Config}
use Rattle.rmt_config.specs.NamesForm.{entries_spelled}
use Rattle.rmt_config.specs.RunCells.{RunCells, own_cells}
use Rattle.rmt_update.specs.declared.book.Book.{Book}
use Rattle.rmt_lists.specs.declared.lists.Lists.{Lists}
use Rattle.rmt_update.specs.BookStands.{BookStands}
use Rattle.rmt_update.specs.Following.{AreBelow, IsNextAbove}
use Rattle.rmt_lists.specs.Running.{Running}
use Rattle.rmt_lists.specs.Stands.{Stands}

-- a book of the cells of a configuration
abbrev pub IsNew : Config → Book → Type 0
IsNew c b = (names : Names) → c.names ≡ Some names → BookStands c (own_cells c) (entries_spelled c names) b

-- a book has the entries of the last commit, and lists have what was changed since then
pub record AreReady (lists : Lists) (book : Book) : Type 0 where
  pub config : Config
  pub names : Names
  pub cells : RunCells
  pub before : Installed
  pub changes : List Change
  pub run : Running
  pub named : config.names ≡ Some names
  pub book_is : BookStands config cells before.lists book
  pub lists_are : Stands run lists
  pub names_are : run.names ≡ names
  pub last : run.last ≡ before.lists
  pub now : run.now ≡ committed before changes
  pub entries : AreEntriesOf names run.now.lists
  pub below : IsNextAbove before
  pub used : AreBelow config cells before.next
