use Rattle.std.proofs.Common.{◌≡◌, ◌++◌, drop}
use Rattle.rmt_config.specs.PartsTold.{parts_at}
use Rattle.rmt_config.specs.PrefixRows.{rows_of}
use Rattle.rmt_config.specs.Rooms.{parts_of}
use Rattle.rmt_config.proofs.form.names.prefix.prefix_fits.Given as goal

abbrev pub invariant-loop-part : goal.invariant-loop-part
invariant-loop-part l = l.rows.items ++ rows_of l.of.config.now (parts_at (drop l.part-index l.of.parts.now)) ≡ rows_of l.of.config.now (parts_of l.of.config.now l.of.table.now.node)
