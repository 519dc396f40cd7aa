use Rattle.std.proofs.Common.{[], ap, ◌∙◌}
use Rattle.std.proofs.lemmas.List.{map-id}
use Rattle.rmt_config.specs.Order.{are_new, rises_from}
use Rattle.rmt_config.proofs.NumberLaws.{rise_from_sort}
use Rattle.rmt_config.proofs.form.numbers.numbers_are_distinct.Goals as goal

pub returns : goal.returns
returns c =
    let list = c.in_ok-numbers.numbers.items in
    let sorted = c.sort_unstable.new.self.items in
    c.items_rise.ensures ∙ ap (rises_from 0) (map-id c.as_slice.result.now ∙ c.as_slice.ensures.value)
    ∙ rise_from_sort list sorted c.sort_unstable.ensures.permutation c.sort_unstable.ensures.sorted ∙ ap (are_new []) c.in_ok-numbers.ensures
