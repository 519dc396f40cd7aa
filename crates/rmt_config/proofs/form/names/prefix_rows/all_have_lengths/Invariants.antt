use Rattle.std.proofs.Common.{◌≡◌, drop, true}
use Rattle.std.specs.Prelude.{is_some}
use Rattle.rmt_config.specs.NamesForm.{prefix_length}
use Rattle.rmt_config.specs.PrefixRows.{have_lengths}
use Rattle.rmt_config.proofs.form.names.prefix_rows.all_have_lengths.Given as goal

abbrev pub invariant-loop-row : goal.invariant-loop-row
invariant-loop-row l =
    (is_some (prefix_length l.bits l.known) ≡ true) × (have_lengths l.bits (drop l.row-index l.rows) ≡ have_lengths l.bits l.rows)
