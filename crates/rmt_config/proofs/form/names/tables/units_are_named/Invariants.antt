use Rattle.std.proofs.Common.{◌≡◌, drop}
use Rattle.std.specs.List.{list_all}
use Rattle.rmt_config.specs.NamesForm.{is_named}
use Rattle.rmt_config.proofs.form.names.tables.units_are_named.Given as goal

abbrev pub invariant-loop-unit : goal.invariant-loop-unit
invariant-loop-unit l = list_all (is_named l.names) (drop l.unit-index l.units) ≡ list_all (is_named l.names) l.units
