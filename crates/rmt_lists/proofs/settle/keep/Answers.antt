use Rattle.std.proofs.Common.{◌∙◌, ap, rules}
use Rattle.std.specs.Prelude.{filter}
use Rattle.std.proofs.lemmas.Fn.{filter_same}
use Rattle.rmt_lists.specs.Settled.{keeps}
use Rattle.rmt_lists.proofs.settle.keep.Goals as goal

pub returns : goal.returns
returns c =
    c.from_vec.ensures ∙ filter_same _ (keeps c.args.gone.now.keys c.args.limit) _ (λ x b f k. search rules) _ _ c.retain.ensures.filtered
    ∙ ap (filter (keeps c.args.gone.now.keys c.args.limit)) (c.into_vec-entries.ensures ∙ c.replace.ensures.value)
