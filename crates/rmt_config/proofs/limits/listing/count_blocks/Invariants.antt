use Rattle.std.proofs.Common.{ℕ, List, ◌++◌, take}
use Rattle.rmt_config.specs.LimitSteps.{Counts}
use Rattle.rmt_config.proofs.limits.listing.count_blocks.Given as goal

abbrev pub invariant-loop-block : goal.invariant-loop-block
invariant-loop-block l = (ns : List ℕ) → Counts ns l.fn.counts → Counts (ns ++ take l.block-index l.blocks) l.counts
