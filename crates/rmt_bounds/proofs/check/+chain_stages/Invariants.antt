use Rattle.std.proofs.Common.{length}
use Rattle.rmt_bounds.proofs.check.+chain_stages.Given as goal

abbrev pub decreases-chain_stages : goal.decreases-chain_stages
decreases-chain_stages l = length l.chain.now
