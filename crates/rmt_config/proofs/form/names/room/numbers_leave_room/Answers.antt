use Rattle.std.proofs.Common.{sym, ap, ◌∙◌}
use Rattle.std.specs.Prelude.{nat_lt}
use Rattle.std.specs.List.{list_all}
use Rattle.rmt_config.specs.CellForm.{numbers_of_stage}
use Rattle.rmt_config.proofs.NameRuleLaws.{all_flat}
use Rattle.rmt_config.proofs.form.names.room.numbers_leave_room.Goals as goal

pub returns : goal.returns
returns c =
    c.stages_leave_room.ensures ∙ ap (list_all (λ stage. list_all (λ n. nat_lt n 4293918720) (numbers_of_stage stage))) c.as_slice.ensures
    ∙ sym (all_flat (λ n. nat_lt n 4293918720) numbers_of_stage c.args.config.now.stages)
