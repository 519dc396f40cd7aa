use Rattle.std.proofs.Common.{◌≡◌, ◌<◌, ◌++◌, ◌∙◌, ap, sym, subst, arith}
use Rattle.rmt_switch.specs.Copies.{rounds}
use Rattle.rmt_switch.specs.Ports.{Holds}
use Rattle.rmt_switch.specs.Running.{first_calls, first_outcomes}
use Rattle.rmt_switch.specs.Switch.{packets_in, switch_of, unsent}
use Rattle.rmt_switch.proofs.RunLaws.{calls_few, packets_many}
use Rattle.rmt_switch.proofs.running.run_all.Goals as goal

pub turn-requires-clause-few : goal.turn-requires-clause-few
turn-requires-clause-few c = omega (arith, c.loop-cycle-test.true, c.cycles-cycles.ensures.few)

pub turn-requires-clause-goes : goal.turn-requires-clause-goes
turn-requires-clause-goes c =
    let (k, runs, g) = c.requires.goes in
    let packets = packets_in c.args.file.now c.args.capture.now in
    let is = c.cycles-cycles.ensures.cycles k packets (packets_many c.args.file.now c.args.capture.now ∙ sym c.len.ensures) (c.latency.ensures k packets 0 g.clocked) in
    (k, runs, c.loop-cycle.invariant k runs g, subst (λ n. c.loop-cycle.cycle < n) is c.loop-cycle-test.true)

pub loop-cycle-preserved : goal.loop-cycle-preserved
loop-cycle-preserved c = λ k runs g.
    let packets = packets_in c.args.file.now c.args.capture.now in
    let is = c.cycles-cycles.ensures.cycles k packets (packets_many c.args.file.now c.args.capture.now ∙ sym c.len.ensures) (c.latency.ensures k packets 0 g.clocked) in
    c.in_ok-turn.ensures k runs (c.loop-cycle.invariant k runs g) (subst (λ n. c.loop-cycle.cycle < n) is c.loop-cycle-test.true)

pub empty-requires-clause-holds : goal.empty-requires-clause-holds
empty-requires-clause-holds c =
    let (k, runs, g) = c.requires.goes in
    let s = switch_of k c.args.groups.now c.args.every in
    let few = calls_few s c.args.file.now c.args.capture.now c.loop-cycle.cycle in
    let last = c.loop-cycle.auto.cycle-end in
    let end = c.cycles-cycles.ensures.few in
    (first_calls s c.args.file.now c.args.capture.now c.loop-cycle.cycle, (c.loop-cycle.invariant k runs g).holds, omega (arith, few, last, end))

pub returns : goal.returns
returns c = λ k runs g.
    let file = c.args.file.now in
    let capture = c.args.capture.now in
    let s = switch_of k c.args.groups.now c.args.every in
    let packets = packets_in file capture in
    let is = c.cycles-cycles.ensures.cycles k packets (packets_many file capture ∙ sym c.len.ensures) (c.latency.ensures k packets 0 g.clocked) in
    let last = c.loop-cycle.auto.cycle-end in
    let end : c.loop-cycle.cycle ≡ c.cycles-cycles.result = omega (arith, last) in
    let at_end = end ∙ is in
    let now = c.loop-cycle.invariant k runs g in
    record {
      holds = subst (λ n. Holds capture (first_calls s file capture n ++ rounds 512 64) c.empty.new.self.ports) at_end (c.in_ok-empty.ensures.holds (first_calls s file capture c.loop-cycle.cycle) now.holds);
      dropped = c.empty.ensures.dropped ∙ now.dropped ∙ ap (λ n. unsent (first_outcomes s file capture n)) at_end;
    }
