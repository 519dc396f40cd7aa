use Rattle.std.proofs.Common.{◌≡◌, ◌<◌, sym, ◌∙◌, arith}
use Rattle.std.specs.Prelude.{slice_index}
use Rattle.rmt_bounds.specs.Bounds.{node_stages}
use Rattle.rmt_bounds.proofs.BestLaws.{chain_own, chain_on}
use Rattle.rmt_bounds.proofs.best.+chain_to.Goals as goal
use Rattle.rmt_bounds.proofs.best.+chain_to.Goals.{then-number_at-node_stages, else-number_at-node_stages+in_ok-chain}

pub returns : goal.returns
returns t c =
    let p = c.args.chains.now.program.now in
    let edges = c.args.chains.now.edges.now in
    let bs = c.args.chains.now.bests.now in
    let n = c.args.node in
    let chain = c.if-number_at-node_stages.chain in
    let some : 0 < c.args.nodes = omega arith in
    let best : c.number_at.result ≡ slice_index bs n = c.number_at.ensures in
    let own : c.node_stages.result ≡ node_stages p n = c.node_stages.ensures.value in
    c.in_ok-push.ensures.ok
    ∙ elim c.if-number_at-node_stages.branch [
      | then-number_at-node_stages w ↦
          chain_own p edges bs c.args.nodes n chain some (sym best ∙ (w.if-number_at-node_stages.true ∙ own)) (w.chain-is ∙ w.new-chain.ensures)
      | else-number_at-node_stages+in_ok-chain w ↦
          chain_on p edges bs c.args.nodes n w.node_before-earlier.result chain some (λ same. w.if-number_at-node_stages.false (best ∙ (same ∙ sym own)))
          w.node_before-earlier.ensures (w.chain-is ∙ w.in_ok-chain.ensures)
    ]
