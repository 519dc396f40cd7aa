use Rattle.std.proofs.Common.{◌≡◌, drop}
use Rattle.std.specs.List.{list_all}
use Rattle.rmt_config.specs.NamesForm.{is_filled_so}
use Rattle.rmt_config.proofs.form.names.entries.entries_fit.Given as goal

abbrev pub invariant-loop-table : goal.invariant-loop-table
invariant-loop-table l = list_all (is_filled_so l.config) (drop l.table-index l.names.tables) ≡ list_all (is_filled_so l.config) l.names.tables
