use Rattle.rmt_bounds.proofs.best.+chain_to.Given as goal

abbrev pub decreases-chain_to : goal.decreases-chain_to
decreases-chain_to l = l.nodes
