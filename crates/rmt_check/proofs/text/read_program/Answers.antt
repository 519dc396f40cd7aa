use Rattle.std.proofs.lemmas.Result.{err_from_is_err_and}
use Rattle.rmt_check.proofs.MeansLaws.{tokens_fault, syntax_fault, checked}
use Rattle.rmt_check.proofs.text.read_program.Goals as goal

pub returns-in_err-tokens : goal.returns-in_err-tokens
returns-in_err-tokens c =
    let p = err_from_is_err_and c.from_residual.result c.from_residual.ensures.1 in
    rw (p.1, p.2) (tokens_fault c.args.text.now _ c.in_err-tokens.ensures.exact)

pub returns-in_err-tree : goal.returns-in_err-tree
returns-in_err-tree c =
    let p = err_from_is_err_and c.from_residual-in_err-tree.result c.from_residual-in_err-tree.ensures.1 in
    rw (p.1, p.2) (syntax_fault c.args.text.now c.in_ok-tokens.tokens.items _ c.in_ok-tokens.ensures.exact c.in_err-tree.ensures.answer)

pub returns : goal.returns
returns c = checked c.args.text.now c.in_ok-tokens.tokens.items c.in_ok-tree.tree c.check.result c.in_ok-tokens.ensures.exact c.in_ok-tree.ensures.answer c.check.ensures.answers
