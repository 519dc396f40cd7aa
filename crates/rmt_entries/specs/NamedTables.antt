-- What is kept of a program's tables.
use Rattle.std.specs.Prelude.{List, ℕ, map}
use Rattle.rmt_entries.specs.declared.tables.NamedTable.{NamedTable}
use Rattle.rmt_ast.specs.NameList.{seen}
use Rattle.rmt_entries.specs.Tables.{AppliedTable}

abbrev pub seen_table : NamedTable → AppliedTable
seen_table t = record {
  node = t.node;
  name = t.name.now;
  terms = record { kind = t.kind; widths = t.widths.items; params = seen t.params.items; size = t.size };
  actions = t.actions;
}

abbrev pub seen_tables : List NamedTable → List AppliedTable
seen_tables ts = map seen_table ts

abbrev pub name_of_table : AppliedTable → List ℕ
name_of_table t = t.name
