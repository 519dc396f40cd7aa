use Rattle.std.proofs.Common.{◌≡◌, take}
use Rattle.rmt_config.specs.Resources.{greatest_by}
use Rattle.rmt_improve.proofs.rank.greatest.Given as goal

-- the greatest so far
abbrev pub invariant-loop-start : goal.invariant-loop-start
invariant-loop-start l = l.most ≡ greatest_by (λ start. start) (take l.start-index l.starts)
