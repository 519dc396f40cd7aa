use Rattle.std.proofs.Common.{◌≡◌, ℕ, List, ◌++◌, subst, ap, sym, ◌∙◌}
use Rattle.rmt_config.specs.Resources.{words_of, exact_words, key_words_if_exact}
use Rattle.rmt_config.specs.LimitSteps.{Marks}
use Rattle.rmt_config.proofs.limits.marks.mark_exact.Goals as goal

pub returns-in-Exact : goal.returns-in-Exact
returns-in-Exact c = λ ns m.
    let slot = c.in-Slot.slot in
    let words : words_of c.as_slice.result.now ≡ exact_words c.args.unit.now =
    ap words_of c.as_slice.ensures ∙ sym (ap (key_words_if_exact slot.keys) c.in-Exact.is) ∙ sym (ap exact_words c.in-Slot.is) in
    subst (λ (l : List ℕ). Marks (ns ++ l) c.mark_lanes.new.marks) words (c.mark_lanes.ensures ns m)
