use Rattle.rmt_syntax.proofs.Words.{refl, subst, ◌∷◌, [], phrase, shut, IsBefore, marks_of, Done, slice_get-item}
use Rattle.rmt_syntax.proofs.Faults.{fails_end}
use Rattle.rmt_syntax.proofs.Machine.{done_stands, shut_stands}
use Rattle.rmt_syntax.proofs.BeforeLaws.{arrives, refused}
use Rattle.rmt_syntax.proofs.parser.close_node.Goals as goal

pub returns-then-branch-clause-ok : goal.returns-then-branch-clause-ok
returns-then-branch-clause-ok c =
    let r = c.args.reader.now in
    let e = c.in_ok-close.ensures in
    let t = slice_get-item c.args.tokens.now c.args.at c.requires.inside in
    arrives c.close.new.self refl (e.marks c.if-branch.true) (e.depth c.if-branch.true)
    (shut_stands t.1 (done_stands t.1 (subst (λ v. IsBefore c.args.tokens.now c.args.at v (marks_of r) r.depth) (e.goals c.if-branch.true) c.requires.stands)))

pub returns-else-branch-clause-err : goal.returns-else-branch-clause-err
returns-else-branch-clause-err c =
    let r = c.args.reader.now in
    let s : IsBefore c.args.tokens.now c.args.at (phrase Done ∷ shut r.inner.rule ∷ []) (marks_of r) r.depth =
    subst (λ v. IsBefore c.args.tokens.now c.args.at v (marks_of r) r.depth) (c.in_ok-close.ensures.last c.if-branch.false) c.requires.stands in
    refused c.token_at.ensures c.fault_at.ensures s (fails_end c.token_at.ensures s)
