use Rattle.std.proofs.Common.{◌≡◌, ℕ, drop, max}
use Rattle.std.specs.List.{fold}
use Rattle.rmt_config.proofs.limits.listing.greatest.Given as goal

abbrev pub invariant-loop-count : goal.invariant-loop-count
invariant-loop-count l = fold (λ most (n : ℕ). max most n) l.most (drop l.count-index l.counts) ≡ fold (λ most (n : ℕ). max most n) 0 l.counts
