use Rattle.std.proofs.Common.{◌∙◌, sym}
use Rattle.rmt_entries.specs.NamedLines.{named_table}
use Rattle.rmt_entries.proofs.NamedLaws.{well_formed_entry}
use Rattle.rmt_entries.proofs.named.entry.Goals as goal

pub returns-clause-well_formed : goal.returns-clause-well_formed
returns-clause-well_formed c =
    well_formed_entry c.args.names.now c.args.line.now c.of-words.result c.take_named.new.words (named_table c.in_ok-table.table.now) c.read_entry.result c.requires.formed
    (sym c.is_printable.ensures ∙ c.if-not-is_printable.false) c.of-words.ensures c.in_ok-table.ensures.entry c.read_entry.ensures.entry
