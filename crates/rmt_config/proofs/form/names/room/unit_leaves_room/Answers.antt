use Rattle.std.proofs.Common.{sym, ap, ◌∙◌}
use Rattle.std.specs.Prelude.{nat_lt}
use Rattle.std.specs.List.{list_all}
use Rattle.std.proofs.lemmas.List.Folds.{list_all-map}
use Rattle.rmt_config.specs.Types.{CellNumber}
use Rattle.rmt_config.specs.CellForm.{numbers_of_unit}
use Rattle.rmt_config.proofs.form.names.room.unit_leaves_room.Goals as goal

pub returns-in-Slot : goal.returns-in-Slot
returns-in-Slot c =
    c.all_are_small.ensures ∙ ap (list_all (λ (n : CellNumber). nat_lt n.number 4293918720)) c.as_slice.ensures
    ∙ sym (list_all-map (λ n. nat_lt n 4293918720) (λ (n : CellNumber). n.number) c.in-Slot.slot.numbers)
    ∙ sym (ap (λ unit. list_all (λ n. nat_lt n 4293918720) (numbers_of_unit unit)) c.in-Slot.is)
