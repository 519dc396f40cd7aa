-- One cycle after another with nothing, as long as it waits.
use Rattle.std.proofs.Common.{◌≡◌, ◌+◌, ◌++◌, List, arith, sym, subst, ◌∙◌, append-nil}
use Rattle.std.specs.Prelude.{replicate}
use Rattle.rmt_io.proofs.OutsideLaws.{only_printed_refl, only_printed_trans}
use Rattle.rmt_config.specs.Commits.{waits}
use Rattle.rmt_config.specs.RunInputs.{Idle, Input}
use Rattle.rmt_drive.specs.ChipText.{lines_of}
use Rattle.rmt_runs.specs.Cuts.{Cut}
use Rattle.rmt_drive.specs.ChipCycles.{Goes}
use Rattle.rmt_drive.proofs.LineLaws.{prints_later}
use Rattle.rmt_drive.proofs.TurnLaws.{few_numbered}
use Rattle.rmt_drive.proofs.WaitLaws.{entered_still, idle_more, waits_few, waits_no_more, waits_on}
use Rattle.rmt_drive.proofs.running.wait.wait.Goals as goal

pub loop-age-init : goal.loop-age-init
loop-age-init g c = record {
  goes = λ w k events made r before h. (omega arith, subst (λ (l : List Input). Goes w k l c.args.run.now c.args.chip.now before (g.O.Sink.state c.args.out.now)) (sym (append-nil made)) h.goes);
  cycles = omega arith;
  spare = omega arith;
  only_printed = only_printed_refl (g.O.Sink.state c.args.out.now);
}

pub turn-requires-clause-may : goal.turn-requires-clause-may
turn-requires-clause-may g c =
    let s = c.requires.may.came in
    let go = (c.loop-age.invariant.goes s.0 s.1 s.2 s.3 s.4 s.5 s.6).1 in
    omega (arith, entered_still s.1 s.3 c.loop-age._age c.args.chip.now c.loop-age.chip s.6.goes.stands go.stands, c.requires.may.entered)

pub turn-requires-clause-cycles : goal.turn-requires-clause-cycles
turn-requires-clause-cycles g c = omega (arith, c.loop-age.invariant.cycles, c.requires.may.cycles, c.latency-latency.type_inv)

pub turn-requires-clause-answered : goal.turn-requires-clause-answered
turn-requires-clause-answered g c =
    let s = c.requires.may.came in
    let go = (c.loop-age.invariant.goes s.0 s.1 s.2 s.3 s.4 s.5 s.6).1 in
    omega (arith, few_numbered go, entered_still s.1 s.3 c.loop-age._age c.args.chip.now c.loop-age.chip s.6.goes.stands go.stands, c.requires.may.entered)

pub loop-age-preserved : goal.loop-age-preserved
loop-age-preserved g c = record {
  goes = λ w k events made r before h.
      let i = c.loop-age.invariant.goes w k events made r before h in
      let go = i.1 in
      let on = waits_on k events made r h.comes c.loop-age.chip c.args.moved c.loop-age._age go.stands (sym (c.is_waiting.ensures k (made ++ replicate c.loop-age._age Idle) go.stands) ∙ c.if-not-is_waiting.false) in (
        omega (arith, on),
        subst (λ (l : List Input). Goes w k l c.turn.new.run c.turn.new.chip before (g.O.Sink.state c.turn.new.out)) (idle_more made c.loop-age._age)
            (c.in-Ok.ensures.ok w k (made ++ replicate c.loop-age._age Idle) before go),
      );
  cycles = omega (arith, c.loop-age.invariant.cycles, c.in-Ok.ensures.cycles);
  spare = omega (arith, c.loop-age.invariant.spare, c.turn.ensures.spare);
  only_printed = only_printed_trans c.loop-age.invariant.only_printed c.turn.ensures.prints.only_printed;
}

pub returns-then-not-is_waiting-clause-ok : goal.returns-then-not-is_waiting-clause-ok
returns-then-not-is_waiting-clause-ok g c = λ w k events made r before h.
    let i = c.loop-age.invariant.goes w k events made r before h in
    let most = waits_no_more k events made r h.comes c.loop-age.chip c.args.moved c.loop-age._age i.1.stands (sym (c.is_waiting.ensures k (made ++ replicate c.loop-age._age Idle) i.1.stands) ∙ c.if-not-is_waiting.true) in
    let le = i.0 in
    let same : c.loop-age._age ≡ waits r c.args.moved = omega (arith, le, most) in
    subst (λ n. Goes w k (made ++ replicate n Idle) c.loop-age.run c.loop-age.chip before (g.O.Sink.state c.loop-age.out)) same i.1

pub returns-in-Err-clause-cut : goal.returns-in-Err-clause-cut
returns-in-Err-clause-cut g c = λ w k events made r before h.
    let i = c.loop-age.invariant.goes w k events made r before h in
    let age = c.loop-age._age in
    let on = waits_on k events made r h.comes c.loop-age.chip c.args.moved age i.1.stands (sym (c.is_waiting.ensures k (made ++ replicate age Idle) i.1.stands) ∙ c.if-not-is_waiting.false) in (
      age + 1,
      omega (arith, on),
      subst (λ (l : List Input). Cut (lines_of w k l) before (g.O.Sink.state c.turn.new.out) c.in-Err.fault) (idle_more made age) (c.in-Err.ensures.cut w k (made ++ replicate age Idle) before i.1),
    )

pub returns-clause-ok : goal.returns-clause-ok
returns-clause-ok g c = λ w k events made r before h.
    let i = c.loop-age.invariant.goes w k events made r before h in
    let le = i.0 in
    let few = waits_few k events made r h.comes c.args.moved in
    let latency = c.latency-latency.ensures k made h.goes.stands in
    let same : c.loop-age._age ≡ waits r c.args.moved = omega (arith, le, few, latency) in
    subst (λ n. Goes w k (made ++ replicate n Idle) c.loop-age.run c.loop-age.chip before (g.O.Sink.state c.loop-age.out)) same i.1

pub returns-in-Err-clause-prints : goal.returns-in-Err-clause-prints
returns-in-Err-clause-prints g c = prints_later c.loop-age.invariant.only_printed c.in-Err.ensures.prints
