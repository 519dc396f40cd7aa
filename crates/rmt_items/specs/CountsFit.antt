-- What of names and tails fits its place in an image: counts before lists, and the node of a table.
use Rattle.std.specs.Prelude.{◌<◌, ◌^◌, length, All, Option, Some, None}
use Rattle.rmt_ast.specs.declared.names.Names.{Names}
use Rattle.rmt_ast.specs.declared.names.TableName.{TableName}
use Rattle.rmt_ast.specs.declared.names.ActionName.{ActionName}

pub record CountsFitAction (a : ActionName) : Type 0 where
  pub name : length a.name < 2 ^ 32
  pub params : length a.params < 2 ^ 8

pub record CountsFitTable (t : TableName) : Type 0 where
  pub node : t.node < 2 ^ 8
  pub name : length t.name < 2 ^ 32
  pub keys : length t.keys < 2 ^ 16
  pub actions : length t.actions < 2 ^ 8
  pub each_action : All CountsFitAction t.actions
  pub ranks : length t.ranks < 2 ^ 32

pub record CountsFitTables (n : Names) : Type 0 where
  pub tables : length n.tables < 2 ^ 8
  pub each_table : All CountsFitTable n.tables

abbrev pub CountsFitNames : Option Names → Type 0
CountsFitNames None = Unit {0}
CountsFitNames (Some names) = CountsFitTables names
