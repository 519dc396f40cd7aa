use Rattle.std.proofs.Common.{◌≡◌, ◌-◌, length, get_or, ap, rules, arith}
use Rattle.std.proofs.lemmas.List.{length-reverse}
use Rattle.rmt_bits.specs.declared.lane.Lane.{Lane}
use Rattle.rmt_ast.specs.Places.{lanes_of}
use Rattle.rmt_config.specs.declared.config.GateTest.{GateTest}
use Rattle.rmt_refine.specs.Units.{tests_from}
use Rattle.rmt_verify.proofs.UnitLaws.{bits_more, made, tests_long, tests_more}
use Rattle.rmt_verify.proofs.units.gate.has_tests.Goals as goal

abbrev no_lane : Lane
no_lane = record { word = 0; low = 0; len = 0 }

abbrev no_test : GateTest
no_test = record { lane = no_lane; value = 0; mask = 0 }

pub returns-then-tests-lanes : goal.returns-then-tests-lanes
returns-then-tests-lanes c =
    let lanes = lanes_of c.args.places.now c.args.field in
    let all = tests_from 0 c.args.test.now lanes in
    (λ no. absurd cc, λ same. absurd (omega (arith, c.if-tests-lanes.true, ap length same, length-reverse all, tests_long c.args.test.now 0 lanes, ap length c.lanes_at-lanes.ensures)))

pub loop-at-preserved : goal.loop-at-preserved
loop-at-preserved c =
    let lanes = c.lanes_at-lanes.result.now in
    let tests = c.args.tests.now in
    let i = c.loop-at.at in
    let low = c.loop-at.low in
    let is : get_or tests (length tests - 1 - i) no_test ≡ made c.args.test.now low (get_or lanes i no_lane) = search rules in
    record {
      agree = tests_more c.args.test.now lanes tests i low no_lane no_test (omega (arith, c.if-tests-lanes.false)) c.loop-at.invariant.agree c.loop-at-test.true is;
      left = bits_more lanes i low no_lane c.loop-at-test.true c.loop-at.invariant.left;
    }
