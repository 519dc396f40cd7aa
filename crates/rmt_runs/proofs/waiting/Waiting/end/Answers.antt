-- A front of the lines, and of both texts.
use Rattle.std.proofs.Common.{sym, subst}
use Rattle.std.specs.Prelude.{IsTrue}
use Rattle.rmt_runs.proofs.FrontLaws.{gains_behind, gains_more}
use Rattle.rmt_runs.proofs.WaitingLaws.{some_more, some_behind}
use Rattle.rmt_runs.proofs.waiting.Waiting.end.Goals as goal

pub returns-in_default-clause-front : goal.returns-in_default-clause-front
returns-in_default-clause-front g c = λ t. rw (← c.as_slice.ensures.value) (gains_more _ _ _ c.args.last.now (c.in_default.ensures.front t))

pub returns-in_default-clause-some : goal.returns-in_default-clause-some
returns-in_default-clause-some g c = rw (← c.as_slice.ensures.value) (some_more _ c.args.last.now c.in_default.ensures.some)

pub returns-in-Err-clause-front : goal.returns-in-Err-clause-front
returns-in-Err-clause-front g c = λ t.
    rw (← c.as_slice.ensures.value) (gains_behind _ (g.O.Sink.state c.print.new.out).bytes _ _ _ (c.in-Ok.ensures.printed t) (c.in-Err.ensures.front (subst IsTrue (sym c.print.ensures.only_printed.tells) t)))

pub returns-in-Err-clause-some : goal.returns-in-Err-clause-some
returns-in-Err-clause-some g c = some_behind _ _ c.in-Err.ensures.some
