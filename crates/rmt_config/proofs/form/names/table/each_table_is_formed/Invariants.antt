use Rattle.std.proofs.Common.{◌≡◌, drop}
use Rattle.std.specs.List.{list_all}
use Rattle.rmt_ast.specs.NameRules.{table_is_formed}
use Rattle.rmt_config.proofs.form.names.table.each_table_is_formed.Given as goal

abbrev pub invariant-loop-table : goal.invariant-loop-table
invariant-loop-table l = list_all table_is_formed (drop l.table-index l.tables) ≡ list_all table_is_formed l.tables
