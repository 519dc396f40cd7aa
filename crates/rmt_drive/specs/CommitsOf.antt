-- The entries and the cells of a configuration before the first line of a packet text.
use Rattle.std.specs.Prelude.{◌≡◌, Option, Some, None}
use Rattle.rmt_config.specs.RunCells.{own_cells}
use Rattle.rmt_update.specs.BookStands.{BookStands}
use Rattle.rmt_lists.specs.Running.{fresh}
use Rattle.rmt_lists.specs.Stands.{Stands}
use Rattle.rmt_config.specs.declared.config.Config.{Config}
use Rattle.rmt_drive.specs.declared.running.commits.Commits.{Commits}
use Rattle.rmt_drive.specs.ChipEvents.{lists_in, names_in}
use Rattle.rmt_drive.specs.EventText.{most_additions}

-- the entries and the cells of a configuration, which has names; or nothing is made yet
abbrev pub AreCommitsOf : Config → Option Commits → Type 0
AreCommitsOf c None = Unit {0}
AreCommitsOf c (Some commits) =
    (c.names ≡ Some (names_in c)) × BookStands c (own_cells c) (lists_in c) commits.book × Stands (fresh (names_in c) (lists_in c) most_additions) commits.lists
