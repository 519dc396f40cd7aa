-- Seventh part of a configuration's carrying a program: its names.
use Rattle.std.specs.Prelude.{◌≡◌, List}
use Rattle.rmt_ast.specs.declared.entry.Entry.{Entry}
use Rattle.rmt_ast.specs.declared.names.Names.{Names}
use Rattle.rmt_ast.specs.Naming.{names_of}
use Rattle.rmt_config.specs.NamesForm.{entries_spelled}
use Rattle.rmt_refine.specs.Types.{Program, Config}

-- The names of a configuration are those of the program and its entries, and its cells and ranks spell the entries.
pub record NamesCarried (p : Program) (lists : List (List Entry)) (c : Config) (names : Names) : Type 0 where
  pub names_are : names ≡ names_of p lists
  pub entries : entries_spelled c names ≡ lists
