use Rattle.std.proofs.Common.{◌≡◌, drop}
use Rattle.std.specs.List.{list_all}
use Rattle.rmt_config.specs.StageForm.{trow_is_formed}
use Rattle.rmt_config.proofs.form.row_rules.trows_fit.Given as goal

abbrev pub invariant-loop-row : goal.invariant-loop-row
invariant-loop-row l = list_all (trow_is_formed l.units) (drop l.row-index l.rows) ≡ list_all (trow_is_formed l.units) l.rows
