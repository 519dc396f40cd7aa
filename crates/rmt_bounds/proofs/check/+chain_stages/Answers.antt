use Rattle.std.proofs.Common.{◌∙◌, sym, arith}
use Rattle.rmt_bounds.proofs.CheckLaws.{chain-small}
use Rattle.rmt_bounds.proofs.check.+chain_stages.Goals as goal

pub returns-in-Some-clause-small : goal.returns-in-Some-clause-small
returns-in-Some-clause-small t c =
    chain-small c.args.program.now c.args.edges.now c.args.chain.now c.node_stages-own.result c.in-Some.rest c.saturating_sub.result c.requires.rise (sym c.are_joined.ensures ∙ c.if-not-are_joined.false)
    c.node_stages-own.ensures.small c.in-Some.ensures.small (omega (arith, c.saturating_sub.ensures))
