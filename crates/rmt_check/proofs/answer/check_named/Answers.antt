use Rattle.std.proofs.lemmas.Result.{err_from_is_err_and}
use Rattle.rmt_check.proofs.Bounds.{sized}
use Rattle.rmt_check.proofs.MeansLaws.{fault_answers}
use Rattle.rmt_check.proofs.programs.RuleLaws.{keeps_rules}
use Rattle.rmt_check.proofs.answer.check_named.Goals as goal

pub returns-in_err-check_rules : goal.returns-in_err-check_rules
returns-in_err-check_rules g c =
    let p = err_from_is_err_and c.from_residual.result c.from_residual.ensures.1 in
    rw (p.1, p.2) (fault_answers (g.N.Lookup.text c.args.names) _ c.in_err-check_rules.ensures)

pub build-requires-clause-sized : goal.build-requires-clause-sized
build-requires-clause-sized g c = sized (g.N.Lookup.text c.args.names) (keeps_rules (g.N.Lookup.text c.args.names) c.in_ok-check_rules.ensures)
