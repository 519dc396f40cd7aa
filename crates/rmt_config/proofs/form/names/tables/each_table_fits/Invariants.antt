use Rattle.std.proofs.Common.{◌≡◌, ◌&&◌, drop}
use Rattle.std.specs.List.{list_all}
use Rattle.rmt_config.specs.NamesForm.{has_parts, is_made_so}
use Rattle.rmt_config.proofs.form.names.tables.each_table_fits.Given as goal

abbrev pub invariant-loop-table : goal.invariant-loop-table
invariant-loop-table l =
    list_all (λ t. has_parts l.config t && is_made_so l.config t) (drop l.table-index l.tables) ≡ list_all (λ t. has_parts l.config t && is_made_so l.config t) l.tables
