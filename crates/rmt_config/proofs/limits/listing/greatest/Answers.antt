use Rattle.std.proofs.Common.{◌≡◌, max, ◌∙◌, arith}
use Rattle.std.specs.List.{fold}
use Rattle.std.proofs.lemmas.Grind.{common_steps}
use Rattle.rmt_config.proofs.LimitLemmas.{greatest_count}
use Rattle.rmt_config.proofs.limits.listing.greatest.Goals as goal

pub returns : goal.returns
returns c = λ ns m.
    let whole : c.loop-count.most ≡ fold (λ most x. max most x) 0 c.args.counts.now = grind (arith, common_steps, c.loop-count.invariant) in
    whole ∙ greatest_count ns c.args.counts.now m
