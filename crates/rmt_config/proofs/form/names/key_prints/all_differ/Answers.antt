use Rattle.std.proofs.Common.{ap, ◌∙◌}
use Rattle.rmt_config.specs.Order.{rises_from}
use Rattle.rmt_config.proofs.NumberLaws.{rise_from_sort}
use Rattle.rmt_config.proofs.form.names.key_prints.all_differ.Goals as goal

pub returns : goal.returns
returns c =
    c.rise.ensures ∙ ap (rises_from 0) c.as_slice.ensures.value
    ∙ rise_from_sort c.in_ok-some.some.items c.sort_unstable.new.self.items c.sort_unstable.ensures.permutation c.sort_unstable.ensures.sorted ∙ c.in_ok-some.ensures
