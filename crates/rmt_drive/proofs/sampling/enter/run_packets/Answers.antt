-- One line after another, and nothing is left where nothing entered.
use Rattle.std.proofs.Common.{Some, arith, slice_range}
use Rattle.std.specs.Prelude.{map}
use Rattle.rmt_packets.specs.PacketText.{packets_of}
use Rattle.rmt_drive.proofs.EmitLaws.{length_somes}
use Rattle.rmt_drive.proofs.TallyLaws.{ran_all, ran_none, reached_answered, reached_cycles, reached_end, reached_first, reached_good, reached_in, reached_more}
use Rattle.rmt_drive.proofs.sampling.enter.run_packets.Goals as goal

pub loop-line-init : goal.loop-line-init
loop-line-init c = record {
  within = omega arith;
  numbered = omega arith;
  reached = λ k s. reached_first k c.args.text.now c.args.run.now s;
  bounded = c.requires.bounded;
}

pub enter-requires-clause-good : goal.enter-requires-clause-good
enter-requires-clause-good c =
    let l = c.in-Some.line in
    let k = c.requires.stands.0 in
    reached_good k c.args.text.now c.loop-line.at c.loop-line.number l.next l.number (slice_range c.args.text.now l.from l.to) c.loop-line.run c.requires.good
    (c.loop-line.invariant.reached k c.requires.stands.1) c.in-Some.ensures.some

pub enter-requires-clause-entered : goal.enter-requires-clause-entered
enter-requires-clause-entered c =
    omega (arith, reached_in (c.loop-line.invariant.reached c.requires.stands.0 c.requires.stands.1))

pub enter-requires-clause-cycles : goal.enter-requires-clause-cycles
enter-requires-clause-cycles c =
    omega (arith, reached_cycles (c.loop-line.invariant.reached c.requires.stands.0 c.requires.stands.1))

pub enter-requires-clause-answered : goal.enter-requires-clause-answered
enter-requires-clause-answered c =
    omega (arith, reached_answered (c.loop-line.invariant.reached c.requires.stands.0 c.requires.stands.1))

pub loop-line-preserved : goal.loop-line-preserved
loop-line-preserved c =
    let l = c.in-Some.line in
    let text = c.args.text.now in
    let line = slice_range text l.from l.to in
    let places = c.in-Some.ensures.places in
    record {
      within = places.3;
      numbered = omega (arith, c.in-Some.ensures.counted.1);
      reached = λ k s.
          let r = c.loop-line.invariant.reached k s in
          let p = reached_good k text c.loop-line.at c.loop-line.number l.next l.number line c.loop-line.run c.requires.good r c.in-Some.ensures.some in
          reached_more k text c.loop-line.at c.loop-line.number l.next l.number line c.loop-line.run c.enter.new.run p.0 r c.in-Some.ensures.some p.1
          (omega (arith, places.0, places.1, places.2)) (c.in_ok-enter.ensures.stands p.0 p.1 k (map Some r.done) r.stands);
      bounded = c.in_ok-enter.ensures.bounded;
    }

pub drain-requires-clause-stands : goal.drain-requires-clause-stands
drain-requires-clause-stands c =
    let packets = (packets_of c.args.text.now).packets in
    let k = c.requires.stands.0 in
    let entered = reached_end k c.args.text.now c.loop-line.at c.loop-line.number c.loop-line.run (c.loop-line.invariant.reached k c.requires.stands.1) c.in_default.ensures.none in
    (k, map Some packets, entered.0, omega (arith, length_somes packets, entered.1, c.loop-line.invariant.within))

pub returns-then-run-eq0-clause-stands : goal.returns-then-run-eq0-clause-stands
returns-then-run-eq0-clause-stands c = λ k s.
    ran_none k (packets_of c.args.text.now).packets c.loop-line.run (omega (arith, c.if-run-eq0.true)) (reached_end k c.args.text.now c.loop-line.at c.loop-line.number c.loop-line.run (c.loop-line.invariant.reached k s) c.in_default.ensures.none).0

pub returns-clause-stands : goal.returns-clause-stands
returns-clause-stands c = λ k s.
    let packets = (packets_of c.args.text.now).packets in
    let entered = (reached_end k c.args.text.now c.loop-line.at c.loop-line.number c.loop-line.run (c.loop-line.invariant.reached k s) c.in_default.ensures.none).0 in
    ran_all k packets c.loop-line.run c.drain.new.run (omega (arith, c.if-run-eq0.false)) entered (c.drain.ensures.stands k (map Some packets) entered)
