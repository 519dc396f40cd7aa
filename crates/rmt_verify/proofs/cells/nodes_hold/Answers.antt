use Rattle.std.proofs.Common.{◌∙◌, sym, true≢false, ◌≤◌, inl, inr, length, refl, arith, below_more}
use Rattle.std.proofs.lemmas.Bool.{cases_lt}
use Rattle.rmt_verify.specs.CellsHeld.{TablesHeld}
use Rattle.rmt_verify.proofs.CellsToldLaws.{past_nodes}
use Rattle.rmt_verify.proofs.cells.nodes_hold.Goals as goal

pub node_holds-requires-clause-known : goal.node_holds-requires-clause-known
node_holds-requires-clause-known c = c.requires.known c.loop-node.node

pub returns-then-not-branch : goal.returns-then-not-branch
returns-then-not-branch c = λ cells told. (
  λ no. absurd (true≢false (sym no)),
  λ all. absurd (let yes = (c.in_ok-node_holds.ensures cells told).1 (all c.loop-node.node) in true≢false (sym yes ∙ c.if-not-branch.true)),
)

pub loop-node-preserved : goal.loop-node-preserved
loop-node-preserved c = λ cells told.
    below_more (TablesHeld c.args.given.now.program.now c.args.given.now.config.now cells c.args.given.now.entries.now) c.loop-node.node (c.loop-node.invariant cells told) ((c.in_ok-node_holds.ensures cells told).0 c.if-not-branch.false)

pub returns : goal.returns
returns c = λ cells told. (
  λ yes n. elim (cases_lt n c.loop-node.node) [
    | inl less ↦ c.loop-node.invariant cells told n less
    | inr le ↦
        let past : length c.args.given.now.program.now.nodes ≤ n = omega (arith, c.loop-node-test.false, c.len-node-end.ensures, le) in
        past_nodes c.args.given.now.program.now c.args.given.now.config.now cells c.args.given.now.entries.now n past
  ],
  λ all. refl,
)
