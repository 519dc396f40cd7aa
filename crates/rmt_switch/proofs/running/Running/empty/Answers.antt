use Rattle.std.proofs.Common.{◌≡◌, ◌++◌, List, subst, arith}
use Rattle.rmt_queues.specs.Calls.{Call}
use Rattle.rmt_switch.specs.Copies.{rounds}
use Rattle.rmt_switch.specs.Ports.{Holds}
use Rattle.rmt_switch.proofs.RoundLaws.{rounds_length, rounds_more}
use Rattle.rmt_switch.proofs.running.Running.empty.Goals as goal

pub round-requires-clause-holds : goal.round-requires-clause-holds
round-requires-clause-holds c =
    let (calls, h, few) = c.requires.holds in
    let n = c.loop-round._round in
    let size = rounds_length calls 512 n in
    let last = c.loop-round.auto._round-end in
    (calls ++ rounds 512 n, c.loop-round.invariant.holds calls h, omega (arith, few, size, last))

pub loop-round-preserved : goal.loop-round-preserved
loop-round-preserved c = record {
  dropped = c.loop-round.invariant.dropped;
  holds = λ calls h.
      let n = c.loop-round._round in
      subst (λ (cs : List Call). Holds c.args.capture.now cs c.round.new.self) (rounds_more calls 512 n) (c.in_ok-round.ensures (calls ++ rounds 512 n) (c.loop-round.invariant.holds calls h));
}

pub returns-clause-holds : goal.returns-clause-holds
returns-clause-holds c = λ calls h.
    let last : c.loop-round._round ≡ 64 = omega arith in
    subst (λ n. Holds c.args.capture.now (calls ++ rounds 512 n) c.loop-round.self.ports) last (c.loop-round.invariant.holds calls h)
