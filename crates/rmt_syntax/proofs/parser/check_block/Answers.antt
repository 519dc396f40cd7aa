use Rattle.rmt_syntax.proofs.Words.{◌∙◌, ap, refl, inr, Some, arith, Node, Rule}
use Rattle.rmt_syntax.proofs.Words.rule
use Rattle.rmt_syntax.proofs.Faults.{fails_block, is_too_deep}
use Rattle.rmt_syntax.proofs.Machine.{room}
use Rattle.rmt_syntax.proofs.BeforeLaws.{refused, at_part}
use Rattle.rmt_syntax.proofs.parser.check_block.Goals as goal

pub returns-then-not-is_kind-clause-err : goal.returns-then-not-is_kind-clause-err
returns-then-not-is_kind-clause-err c =
    let p = at_part c.args.reader.now (Node rule.Block) (c.requires.next ∙ ap (λ (r : Rule). Some (Node r)) c.in-Block.is) c.requires.stands in
    refused c.token_at-token.ensures c.fault_at.ensures p.2
    (fails_block c.token_at-token.ensures (c.is_kind.ensures.no c.if-not-is_kind.true) p.2)

pub returns-then-reader-eq-MOST_BLOCKS-clause-err :
    goal.returns-then-reader-eq-MOST_BLOCKS-clause-err
returns-then-reader-eq-MOST_BLOCKS-clause-err c =
    let p = at_part c.args.reader.now (Node rule.Block) (c.requires.next ∙ ap (λ (r : Rule). Some (Node r)) c.in-Block.is) c.requires.stands in
    let deep = is_too_deep c.token_at-token.ensures (c.is_kind.ensures.yes c.if-not-is_kind.false) c.if-reader-eq-MOST_BLOCKS.true p.2 in
    rw c.fault_at-then-reader-eq-MOST_BLOCKS.ensures (c.args.at, c.token_at-token.result.now, c.token_at-token.ensures, refl, refl, inr (refl, deep))

pub returns-clause-ok : goal.returns-clause-ok
returns-clause-ok c block = omega (arith, room c.requires.stands, c.if-reader-eq-MOST_BLOCKS.false)
