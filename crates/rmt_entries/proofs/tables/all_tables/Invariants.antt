use Rattle.std.proofs.Common.{◌≡◌, ◌++◌, drop}
use Rattle.rmt_entries.specs.NamedTables.{seen_tables}
use Rattle.rmt_entries.specs.Tables.{tables_from}
use Rattle.rmt_entries.proofs.tables.all_tables.Given as goal

-- the tables so far, and then those of the other nodes
abbrev pub invariant-loop-number : goal.invariant-loop-number
invariant-loop-number l = seen_tables l.tables.items ++ tables_from l.program l.number (drop l.number l.node-items) ≡ tables_from l.program 0 l.node-items
