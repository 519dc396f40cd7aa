-- One empty cycle after another.
use Rattle.rmt_config.specs.RunInputs.{input_of as input_with}
use Rattle.std.proofs.Common.{◌≡◌, ◌++◌, None, arith, subst}
use Rattle.std.specs.Prelude.{map, replicate}
use Rattle.rmt_config.specs.ChipRun.{latency_of}
use Rattle.rmt_drive.specs.Tallies.{StandsFor}
use Rattle.rmt_drive.proofs.EmitLaws.{padded, padded_length}
use Rattle.rmt_drive.proofs.TallyLaws.{few_answered, few_drained}
use Rattle.rmt_drive.proofs.sampling.run.drain.Goals as goal

pub turn-requires-clause-entered : goal.turn-requires-clause-entered
turn-requires-clause-entered c =
    let s = c.loop-age.invariant.stands c.requires.stands.0 c.requires.stands.1 c.requires.stands.2 in
    omega (arith, few_drained c.requires.stands.1 c.loop-age._age s, c.requires.stands.3)

pub turn-requires-clause-cycles : goal.turn-requires-clause-cycles
turn-requires-clause-cycles c =
    let s = c.loop-age.invariant.stands c.requires.stands.0 c.requires.stands.1 c.requires.stands.2 in
    omega (arith, s.clocked, padded_length c.requires.stands.1 c.loop-age._age, c.requires.stands.3)

pub turn-requires-clause-answered : goal.turn-requires-clause-answered
turn-requires-clause-answered c =
    let s = c.loop-age.invariant.stands c.requires.stands.0 c.requires.stands.1 c.requires.stands.2 in
    omega (arith, few_answered s, padded_length c.requires.stands.1 c.loop-age._age, c.requires.stands.3)

pub returns-clause-stands : goal.returns-clause-stands
returns-clause-stands c = λ k inputs s.
    let e : c.loop-age._age ≡ latency_of k.stages = omega (arith, c.latency-latency.ensures k (map input_with inputs) s.stands) in
    subst (λ n. StandsFor k (inputs ++ replicate n None) c.loop-age.run) e (c.loop-age.invariant.stands k inputs s)

pub loop-age-preserved : goal.loop-age-preserved
loop-age-preserved c = record {
  stands = λ k inputs s.
      subst (λ l. StandsFor k l c.turn.new.run) (padded inputs c.loop-age._age) (c.turn.ensures.stands k (inputs ++ replicate c.loop-age._age None) (c.loop-age.invariant.stands k inputs s));
  bounded = c.turn.ensures.bounded;
}
