use Rattle.std.proofs.Common.{◌≡◌, ◌++◌, drop, map}
use Rattle.rmt_entries.specs.NamedTables.{name_of_table, seen_tables}
use Rattle.rmt_ast.specs.NameList.{seen}
use Rattle.rmt_entries.proofs.tables.table_names.Given as goal

-- the names so far, and then the others
abbrev pub invariant-loop-table : goal.invariant-loop-table
invariant-loop-table l = seen l.names.items ++ map name_of_table (seen_tables (drop l.table-index l.tables)) ≡ map name_of_table (seen_tables l.tables)
