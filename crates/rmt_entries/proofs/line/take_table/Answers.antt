use Rattle.std.proofs.Common.{sym}
use Rattle.std.specs.Str.{bytes_eq}
use Rattle.rmt_bits.proofs.AllLaws.{All-find}
use Rattle.rmt_entries.specs.NamedTables.{seen_table}
use Rattle.rmt_entries.specs.LinesSoFar.{IsAppliedBy, IsBelow, IsReadable}
use Rattle.rmt_entries.specs.Tables.{AppliedTable}
use Rattle.rmt_entries.proofs.line.take_table.Goals as goal

pub returns-in-Some-clause-readable : goal.returns-in-Some-clause-readable
returns-in-Some-clause-readable c =
    All-find IsReadable (λ (t : AppliedTable). bytes_eq c.in_ok-name.name.now t.name) c.args.tables.now (seen_table c.in-Some.table.now) c.requires (sym c.in-Some.ensures)

pub returns-in-Some-clause-applied : goal.returns-in-Some-clause-applied
returns-in-Some-clause-applied c terms h =
    All-find (IsAppliedBy terms) (λ (t : AppliedTable). bytes_eq c.in_ok-name.name.now t.name) c.args.tables.now (seen_table c.in-Some.table.now) h (sym c.in-Some.ensures)

pub returns-in-Some-clause-within : goal.returns-in-Some-clause-within
returns-in-Some-clause-within c nodes h =
    All-find (IsBelow nodes) (λ (t : AppliedTable). bytes_eq c.in_ok-name.name.now t.name) c.args.tables.now (seen_table c.in-Some.table.now) h (sym c.in-Some.ensures)
