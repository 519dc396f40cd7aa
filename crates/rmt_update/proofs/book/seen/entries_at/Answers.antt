use Rattle.std.proofs.Common.{◌==◌, Option, ap, sym, ◌∙◌}
use Rattle.std.specs.Borrow.{Bor}
use Rattle.std.specs.Prelude.{option_copied}
use Rattle.rmt_bits.proofs.AllLaws.{All-find}
use Rattle.rmt_book.specs.declared.table.TableCells.{TableCells}
use Rattle.rmt_book.specs.Seen.{IsReadable}
use Rattle.rmt_update.proofs.book.seen.entries_at.Goals as goal

pub entries_of-requires : goal.entries_of-requires
entries_of-requires c =
    All-find (IsReadable c.args.odd) (λ (t : TableCells). t.name.node == c.args.node) c.args.tables.now c.in-Some.table.now c.requires
    (sym c.table_at.ensures ∙ ap (λ (o : Option (Bor TableCells)). option_copied o) c.in-Some.is)
