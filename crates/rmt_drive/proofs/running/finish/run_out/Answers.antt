-- The chip is clocked until nothing is in flight, or no further than the bad line.
use Rattle.std.proofs.Common.{◌≤◌, ◌++◌, List, cond, arith, sym, ap, subst, ◌∙◌}
use Rattle.std.proofs.lemmas.Result.{IfErr-weaker}
use Rattle.std.specs.Prelude.{replicate}
use Rattle.rmt_config.specs.RunInputs.{Idle, Input}
use Rattle.rmt_drive.specs.ChipEvents.{empty_cycles}
use Rattle.rmt_drive.specs.ChipText.{lines_of}
use Rattle.rmt_runs.specs.Cuts.{Cut}
use Rattle.rmt_drive.specs.RunEnd.{bad_line}
use Rattle.rmt_drive.specs.ChipCycles.{Goes}
use Rattle.rmt_drive.proofs.DrainLaws.{idles_begin, ran_as, waits_all}
use Rattle.rmt_drive.proofs.LineLaws.{ok_then}
use Rattle.rmt_drive.proofs.RunLaws.{cut_begins}
use Rattle.rmt_drive.proofs.running.finish.run_out.Goals as goal

pub returns-then-not-runs_on-clause-ok : goal.returns-then-not-runs_on-clause-ok
returns-then-not-runs_on-clause-ok g c = λ w k events made r before h.
    let now = g.O.Sink.state c.args.out.now in
    let empty = empty_cycles r in
    let same = ran_as w k made c.args.run.now c.args.chip.now before now empty (bad_line c.args.bad) c.runs_on.result (c.runs_on.ensures made empty) h.goes in
    subst (λ (l : List Input). Goes w k l c.args.run.now c.args.chip.now before now) (sym (same ∙ ap (λ b. cond b (made ++ replicate empty Idle) made) c.if-not-runs_on.true)) h.goes

pub returns-clause-ok : goal.returns-clause-ok
returns-clause-ok g c =
    ok_then c.wait.result
    (λ waited w k events made r before h.
    let empty = empty_cycles r in
    let same = ran_as w k made c.args.run.now c.args.chip.now before (g.O.Sink.state c.args.out.now) empty (bad_line c.args.bad) c.runs_on.result (c.runs_on.ensures made empty) h.goes in
    subst (λ (l : List Input). Goes w k l c.wait.new.run c.wait.new.chip before (g.O.Sink.state c.wait.new.out))
    (ap (λ n. made ++ replicate n Idle) (waits_all k events made r h.comes) ∙ sym (same ∙ ap (λ b. cond b (made ++ replicate empty Idle) made) c.if-not-runs_on.false)) (waited w k events made r before h))
    c.wait.ensures.ok

pub returns-clause-cut : goal.returns-clause-cut
returns-clause-cut g c =
    IfErr-weaker c.wait.result _ _
    (λ fault cut w k events made r before h.
    let empty = empty_cycles r in
    let same = ran_as w k made c.args.run.now c.args.chip.now before (g.O.Sink.state c.args.out.now) empty (bad_line c.args.bad) c.runs_on.result (c.runs_on.ensures made empty) h.goes in
    let x = cut w k events made r before h in
    let some = x.1 in
    let le : x.0 ≤ empty = omega (arith, some, waits_all k events made r h.comes) in
    subst (λ (l : List Input). Cut (lines_of w k l) before (g.O.Sink.state c.wait.new.out) fault) (sym (same ∙ ap (λ b. cond b (made ++ replicate empty Idle) made) c.if-not-runs_on.false))
    (cut_begins (idles_begin w k made c.args.run.now c.args.chip.now before (g.O.Sink.state c.args.out.now) x.0 empty le h.goes) x.2))
    c.wait.ensures.cut
