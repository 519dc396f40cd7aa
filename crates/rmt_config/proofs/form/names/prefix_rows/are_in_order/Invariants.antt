use Rattle.std.proofs.Common.{◌≡◌, drop}
use Rattle.rmt_config.specs.NamesForm.{each_later}
use Rattle.rmt_config.specs.PrefixRows.{row_goes_first}
use Rattle.rmt_config.proofs.form.names.prefix_rows.are_in_order.Given as goal

abbrev pub invariant-loop-at : goal.invariant-loop-at
invariant-loop-at l = each_later (row_goes_first l.bits) (drop l.at l.rows) ≡ each_later (row_goes_first l.bits) l.rows
