-- The rules of form of a configuration: those of each item, which are looked at as it is read, and those of the whole.
use Rattle.std.specs.Prelude.{ℕ, Bool, true, ◌&&◌, IsTrue, All, Option, Some, None}
use Rattle.rmt_ast.specs.declared.names.Names.{Names}
use Rattle.rmt_config.specs.Types.{Config}
use Rattle.rmt_config.specs.LaneForm.{ports_are_formed, headers_are_formed}
use Rattle.rmt_config.specs.ParserForm.{parser_is_formed}
use Rattle.rmt_config.specs.TailForm.{tails_have_headers, has_names_with_tails}
use Rattle.rmt_config.specs.StageForm.{stages_are_formed, rows_are_formed}
use Rattle.rmt_config.specs.TableForm.{tables_are_formed}
use Rattle.rmt_config.specs.CellForm.{StageHolds, entries_are_numbered}
use Rattle.rmt_config.specs.NamesForm.{names_fit}
use Rattle.std.specs.List.{list_all}

-- the rules of each item
abbrev pub items_are_formed : Config → Bool
items_are_formed c =
    ports_are_formed c && headers_are_formed c.headers && parser_is_formed c.parser && tails_have_headers c && stages_are_formed c.stages

-- the visible bits of an occupied cell: both with names, and none without
abbrev pub visible_with : Option Names → ℕ
visible_with None = 0
visible_with (Some names) = 3

-- the rules on names, where there are names
abbrev pub names_are_fit : Config → Option Names → Bool
names_are_fit c None = true
names_are_fit c (Some names) = names_fit c names

-- the rules of the whole: rows, guards and tables, what memory holds, the numbers of entries, names, and that tails come with names
pub record WholeIsFormed (c : Config) : Type 0 where
  pub rows : IsTrue (list_all rows_are_formed c.stages)
  pub tables : IsTrue (tables_are_formed c)
  pub memory : All (StageHolds (visible_with c.names)) c.stages
  pub numbers : IsTrue (entries_are_numbered c)
  pub names : IsTrue (names_are_fit c c.names)
  pub tails : IsTrue (has_names_with_tails c)

pub record Formed (c : Config) : Type 0 where
  pub items : IsTrue (items_are_formed c)
  pub whole : WholeIsFormed c
