use Rattle.rmt_config.proofs.SpelledParts.{parts-stand}
use Rattle.rmt_config.proofs.form.names.entries.table_fits.Goals as goal

pub ternary_fits-requires-clause-stand : goal.ternary_fits-requires-clause-stand
ternary_fits-requires-clause-stand c = parts-stand c.args.config.now c.args.table.now.node c.requires.items c.requires.memory
