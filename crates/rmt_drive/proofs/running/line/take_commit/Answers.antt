-- A commit, or code 4 without names.
use Rattle.std.proofs.lemmas.Result.{IfErr-weaker, IfOk-weaker}
use Rattle.rmt_runs.specs.declared.fault.RunFault.TheVariants as fault
use Rattle.rmt_drive.proofs.FollowsLaws.{few_still, follows_with, left_ahead, no_names, of_none, stops_by}
use Rattle.rmt_drive.proofs.running.line.take_commit.Goals as goal

pub returns-in-None-clause-ok : goal.returns-in-None-clause-ok
returns-in-None-clause-ok g c = λ w k said number text before kind f.
    stops_by w k number text said 4 c.args.run.now c.args.chip.now c.args.commits.now before (g.O.Sink.state c.args.out.now) f
    (of_none k number text said (λ e. cc) (no_names k (c.in-Ok.ensures.unnamed c.in-None.is k f.made f.goes.stands)))

pub returns-in-None-clause-few : goal.returns-in-None-clause-few
returns-in-None-clause-few g c = λ lines few. few_still lines c.args.run.now c.args.chip.now few

pub returns-in_default-clause-cut : goal.returns-in_default-clause-cut
returns-in_default-clause-cut g c = λ w k said number text before kind f.
    left_ahead w k number text said c.args.run.now c.args.chip.now c.args.commits.now before (g.O.Sink.state c.args.out.now) fault.NoMemory (λ e. cc) f

pub commit-requires-clause-follows : goal.commit-requires-clause-follows
commit-requires-clause-follows g c =
    let r = c.requires.follows in
    (r.0, r.1, r.2, r.3, follows_with c.in-Some.is (c.in-Ok.ensures.goes r.0 r.1 r.2 c.args.run.now r.3 (g.O.Sink.state c.args.out.now) r.4))

pub returns-in-Some-clause-ok : goal.returns-in-Some-clause-ok
returns-in-Some-clause-ok g c =
    IfOk-weaker c.commit.result _ _
    (λ code h w k said number text before kind f. h w k said number text before kind (follows_with c.in-Some.is (c.in-Ok.ensures.goes w k said c.args.run.now before (g.O.Sink.state c.args.out.now) f)))
    c.commit.ensures.ok

pub returns-in-Some-clause-cut : goal.returns-in-Some-clause-cut
returns-in-Some-clause-cut g c =
    IfErr-weaker c.commit.result _ _
    (λ e h w k said number text before kind f. h w k said number text before kind (follows_with c.in-Some.is (c.in-Ok.ensures.goes w k said c.args.run.now before (g.O.Sink.state c.args.out.now) f)))
    c.commit.ensures.cut
