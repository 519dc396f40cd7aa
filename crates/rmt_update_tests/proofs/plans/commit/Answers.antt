-- What the lists say of their changes is what the book takes, and behind it both stand for the next version.
use Rattle.std.proofs.lemmas.Result.{IfOk-weaker, on_err_weaker}
use Rattle.rmt_update_tests.specs.Planning.{AreReady}
use Rattle.rmt_update_tests.proofs.PlanReady.{kept_ready, may_plan, planned_ready}
use Rattle.rmt_update_tests.proofs.plans.commit.Goals as goal

pub plan-requires : goal.plan-requires
plan-requires c =
    let ready = c.requires in
    let are = c.in-Ok.ensures.changes ready.run ready.lists_are in
    record { may = (ready.config, ready.names, ready.cells, ready.before.lists, ready.book_is, ready.named, may_plan c.args.lists.now c.args.book.now ready c.in-Ok.changes are) }

pub returns-in-Ok-clause-ready : goal.returns-in-Ok-clause-ready
returns-in-Ok-clause-ready c =
    let ready = c.requires in
    let are = c.in-Ok.ensures.changes ready.run ready.lists_are in
    let may = may_plan c.args.lists.now c.args.book.now ready c.in-Ok.changes are in
    IfOk-weaker c.plan.result _ (λ plan. AreReady c.commit.new.self c.plan.new.self)
    (λ plan planned.
    let p = planned ready.config ready.names ready.cells ready.before.lists ready.book_is ready.named may in
    planned_ready c.args.lists.now c.args.book.now ready c.in-Ok.changes are c.commit.new.self c.plan.new.self plan p.0 (c.in-Ok.ensures.committed ready.run ready.lists_are) p.1)
    c.plan.ensures.planned

pub returns-in-Ok-clause-kept : goal.returns-in-Ok-clause-kept
returns-in-Ok-clause-kept c =
    on_err_weaker c.plan.result
    (λ kept other ready. kept_ready other c.args.book.now c.plan.new.self ready (kept ready.config ready.cells ready.before.lists ready.book_is))
    c.plan.ensures.kept
