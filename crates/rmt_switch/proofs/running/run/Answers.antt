use Rattle.std.proofs.Common.{refl, arith}
use Rattle.std.proofs.lemmas.Result.{IfOk-weaker}
use Rattle.rmt_switch.specs.Clocked.{Runs}
use Rattle.rmt_switch.specs.Switch.{switch_of}
use Rattle.rmt_switch.proofs.CaptureLaws.{few_records}
use Rattle.rmt_switch.proofs.running.run.Goals as goal

pub run_all-requires-clause-few : goal.run_all-requires-clause-few
run_all-requires-clause-few c =
    let few = few_records c.args.file.now c.args.capture.now c.requires.read in
    let short = c.requires.short in
    omega (arith, few, short)

pub run_all-requires-clause-goes : goal.run_all-requires-clause-goes
run_all-requires-clause-goes c =
    let s = switch_of c.args.config c.args.groups.now c.args.every in
    (c.args.config, record { form = c.requires.form; limits = c.requires.limits }, c.in_ok-running.ensures s c.args.file.now c.args.capture.now refl)

pub finish-requires-clause-ends : goal.finish-requires-clause-ends
finish-requires-clause-ends c =
    let s = switch_of c.args.config c.args.groups.now c.args.every in (
      s,
      c.args.file.now,
      c.in-Ok.ensures c.args.config (record { form = c.requires.form; limits = c.requires.limits }) (c.in_ok-running.ensures s c.args.file.now c.args.capture.now refl),
    )

pub returns-clause-switched : goal.returns-clause-switched
returns-clause-switched c =
    let s = switch_of c.args.config c.args.groups.now c.args.every in
    let runs : Runs c.args.config = record { form = c.requires.form; limits = c.requires.limits } in
    let ends = c.in-Ok.ensures c.args.config runs (c.in_ok-running.ensures s c.args.file.now c.args.capture.now refl) in
    IfOk-weaker c.finish.result _ _ (λ x all. all c.args.config c.args.groups.now c.args.every c.args.file.now ends) c.finish.ensures
