use Rattle.std.proofs.Common.{◌≡◌, map, take}
use Rattle.rmt_ast.specs.declared.names.TableName.{TableName}
use Rattle.rmt_ast.specs.NameList.{seen}
use Rattle.rmt_config.proofs.form.names.differ.names_of_tables.Given as goal

abbrev pub invariant-loop-table : goal.invariant-loop-table
invariant-loop-table l = seen l.names.items ≡ map (λ (t : TableName). t.name) (take l.table-index l.tables)
