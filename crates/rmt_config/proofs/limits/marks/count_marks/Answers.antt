use Rattle.std.proofs.Common.{◌≡◌, ◌∙◌, arith}
use Rattle.std.proofs.lemmas.Grind.{common_steps}
use Rattle.rmt_config.specs.Resources.{distinct}
use Rattle.rmt_config.specs.LimitSteps.{marked_sum}
use Rattle.rmt_config.proofs.LimitLemmas.{sum_of_ones}
use Rattle.rmt_config.proofs.limits.marks.count_marks.Goals as goal

pub returns : goal.returns
returns c = λ ns m.
    let whole : c.loop-mark.count ≡ marked_sum (λ _. 1) 0 c.args.marks.now = grind (arith, common_steps, c.loop-mark.invariant) in
    whole ∙ m.sums (λ _. 1) ∙ sum_of_ones (distinct ns)
