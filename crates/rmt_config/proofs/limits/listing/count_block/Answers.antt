use Rattle.std.proofs.Common.{ℕ, ◌<◌, [], ◌∷◌, ◌++◌, set, subst, sym, arith}
use Rattle.rmt_config.specs.LimitSteps.{Counts}
use Rattle.rmt_config.proofs.LimitLemmas.{one_counted}
use Rattle.rmt_config.proofs.limits.listing.count_block.Goals as goal

pub returns : goal.returns
returns c = λ ns m.
    let byte : c.args.block < 256 = omega arith in
    subst (λ (v : ℕ). Counts (ns ++ c.args.block ∷ []) (set c.args.counts.now c.args.block v)) (sym c.saturating_add.ensures) (one_counted ns c.args.counts.now c.args.block byte m)
