-- A run for which what changes entries is made.
use Rattle.std.proofs.Common.{List, Option, None, Some, sym, subst}
use Rattle.rmt_ast.specs.declared.entry.Entry.{Entry}
use Rattle.rmt_config.specs.Commits.{RunState}
use Rattle.rmt_config.specs.RunCells.{RunCells, own_cells}
use Rattle.rmt_chip.specs.declared.chip.Chip.{Chip}
use Rattle.rmt_io.specs.Outside.{SinkState}
use Rattle.rmt_update.specs.BookStands.{BookStands}
use Rattle.rmt_lists.specs.Running.{Running}
use Rattle.rmt_lists.specs.Stands.{Stands as ListsStand}
use Rattle.rmt_config.specs.declared.config.Config.{Config}
use Rattle.rmt_drive.specs.CommitsOf.{AreCommitsOf}
use Rattle.rmt_drive.specs.EventText.{EventReading}
use Rattle.rmt_drive.specs.Running.{AreCommitsAt, Follows, IsUnchanged}
use Rattle.rmt_drive.specs.declared.running.commits.Commits.{Commits}
use Rattle.rmt_drive.specs.declared.running.state.Run.{Run}
use Rattle.rmt_drive.specs.declared.watch.Watch.{Watch}

-- the entries and cells of a configuration are those of a run that changed none
begun-at : (c : Config) (said : EventReading) (r : RunState) (commits : Option Commits) → IsUnchanged c said r → AreCommitsOf c commits → AreCommitsAt c said r commits
begun-at c said r None unchanged of = unchanged
begun-at c said r (Some commits) unchanged of = (
  of.0,
  subst (λ (cells : RunCells). BookStands c cells r.entries.lists commits.book) (sym unchanged.0)
      (subst (λ (lists : List (List Entry)). BookStands c (own_cells c) lists commits.book) (sym unchanged.1) of.1),
  subst (λ (run : Running). ListsStand run commits.lists) (sym unchanged.2) of.2,
)

pub begun : (w : Watch) (c : Config) (said : EventReading) (run : Run) (chip : Chip) (commits : Option Commits) (before now : SinkState)
    → Follows w c said run chip None before now → AreCommitsOf c commits → Follows w c said run chip commits before now
begun w c said run chip commits before now f of = record {
  made = f.made;
  state = f.state;
  come = record {
    formed = f.come.formed;
    small = f.come.small;
    lines = f.come.lines;
    read = f.come.read;
    good = f.come.good;
    comes = f.come.comes;
    knows = begun-at c said f.state commits f.come.knows of;
  };
  goes = f.goes;
}
