-- What the changes leave is what the run's commit leaves.
use Rattle.std.proofs.lemmas.Result.{IfErr-weaker, IfOk-weaker}
use Rattle.rmt_drive.specs.ChipEvents.{names_in}
use Rattle.rmt_drive.proofs.PlanLaws.{may_plan, planned_so, unplanned_so}
use Rattle.rmt_drive.proofs.running.commit.plan.Goals as goal

pub commit-requires : goal.commit-requires
commit-requires c = let h = c.requires in record { stands = (h.1.run, h.4.knows.2) }

pub plan-requires : goal.plan-requires
plan-requires c =
    let h = c.requires in
    let are = c.in-Ok.ensures.changes h.1.run h.4.knows.2 in
    record { may = (h.0, names_in h.0, h.3.cells, h.3.entries.lists, h.4.knows.1, h.4.knows.0, may_plan h.0 h.1 h.2 h.3 c.args.commits.now h.4 c.in-Ok.changes are) }

pub returns-in-Ok-clause-planned : goal.returns-in-Ok-clause-planned
returns-in-Ok-clause-planned c =
    IfOk-weaker c.plan.result _ _
    (λ plan h k said made r come.
    let are = c.in-Ok.ensures.changes said.run come.knows.2 in
    let x = h k (names_in k) r.cells r.entries.lists come.knows.1 come.knows.0 (may_plan k said made r c.args.commits.now come c.in-Ok.changes are) in
    planned_so k said made r c.args.commits.now come c.in-Ok.changes are plan x.0 _ x.1 (c.in-Ok.ensures.committed said.run come.knows.2))
    c.plan.ensures.planned

pub returns-in-Ok-clause-refused : goal.returns-in-Ok-clause-refused
returns-in-Ok-clause-refused c =
    IfErr-weaker c.plan.result _ _
    (λ fault h k said made r come.
    let are = c.in-Ok.ensures.changes said.run come.knows.2 in
    unplanned_so k said made r c.args.commits.now come c.in-Ok.changes are fault
    (h k (names_in k) r.cells r.entries.lists come.knows.1 come.knows.0 (may_plan k said made r c.args.commits.now come c.in-Ok.changes are)))
    c.plan.ensures.refused
