-- The lists stand for the run behind the line, or for the run that was.
use Rattle.rmt_update_tests.proofs.PlanReady.{changed_ready, refused_ready}
use Rattle.rmt_update_tests.proofs.plans.change.Goals as goal

pub returns-in-Ok : goal.returns-in-Ok
returns-in-Ok c = λ b ready. changed_ready c.args.lists.now c.change.new.self b ready c.args.line.now (c.in-Ok.ensures.changed ready.run ready.lists_are)

pub returns-in-Err : goal.returns-in-Err
returns-in-Err c = λ b ready. refused_ready c.args.lists.now c.change.new.self b ready (c.in-Err.ensures.kept ready.run ready.lists_are)
