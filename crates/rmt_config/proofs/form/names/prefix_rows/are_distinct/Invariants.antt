use Rattle.std.proofs.Common.{drop}
use Rattle.rmt_config.proofs.PrefixSeen.{RowsSeen}
use Rattle.rmt_config.proofs.form.names.prefix_rows.are_distinct.Given as goal

abbrev pub invariant-loop-row : goal.invariant-loop-row
invariant-loop-row l = RowsSeen l.bits l.rows (drop l.row-index l.rows) l.seen
