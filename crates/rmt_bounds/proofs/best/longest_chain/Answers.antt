use Rattle.std.proofs.Common.{◌≡◌, ℕ, List, None, Some, ◌∙◌, subst}
use Rattle.std.specs.Prelude.{IfOk}
use Rattle.rmt_bounds.proofs.BestLaws.{longest_is}
use Rattle.rmt_bounds.proofs.best.longest_chain.Goals as goal

pub returns-in-None : goal.returns-in-None
returns-in-None c =
    c.new.ensures
    ∙ longest_is c.args.chains.now.program.now c.args.chains.now.edges.now c.args.chains.now.bests.now c.greatest-most.result None c.requires.bests c.greatest-most.ensures c.in-None.ensures.value

pub returns-in-Some : goal.returns-in-Some
returns-in-Some c =
    subst (λ (ns : List ℕ). IfOk c.chain_to.result (λ chain. chain ≡ ns))
    (longest_is c.args.chains.now.program.now c.args.chains.now.edges.now c.args.chains.now.bests.now c.greatest-most.result (Some c.in-Some.node) c.requires.bests c.greatest-most.ensures c.in-Some.ensures.value)
    c.chain_to.ensures
