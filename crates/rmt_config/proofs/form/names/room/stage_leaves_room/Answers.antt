use Rattle.std.proofs.Common.{sym, ap, ◌∙◌}
use Rattle.std.specs.Prelude.{nat_lt}
use Rattle.std.specs.List.{list_all}
use Rattle.rmt_config.specs.CellForm.{numbers_of_unit}
use Rattle.rmt_config.proofs.NameRuleLaws.{all_flat}
use Rattle.rmt_config.proofs.form.names.room.stage_leaves_room.Goals as goal

pub returns : goal.returns
returns c =
    c.units_leave_room.ensures ∙ ap (list_all (λ unit. list_all (λ n. nat_lt n 4293918720) (numbers_of_unit unit))) c.as_slice.ensures
    ∙ sym (all_flat (λ n. nat_lt n 4293918720) numbers_of_unit c.args.stage.now.units)
