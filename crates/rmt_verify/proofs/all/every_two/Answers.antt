use Rattle.std.proofs.Common.{refl, arith}
use Rattle.rmt_verify.proofs.PairLaws.{pairs_more, pairs_before, pairs_all}
use Rattle.rmt_verify.proofs.all.every_two.Goals as goal

pub returns-then-not-all_pass : goal.returns-then-not-all_pass
returns-then-not-all_pass g c =
    (λ no. absurd cc, λ all. absurd (let yes = c.all_pass.ensures.1 (pairs_before g.P.TestOfTwo.hold c.args.lanes.now c.loop-at.at _ (omega (arith, c.loop-at-test.true)) all) in cc))

pub loop-at-preserved : goal.loop-at-preserved
loop-at-preserved g c =
    pairs_more g.P.TestOfTwo.hold c.args.lanes.now c.loop-at.at _ (omega (arith, c.loop-at-test.true)) c.loop-at.invariant (c.all_pass.ensures.0 cc)

pub returns : goal.returns
returns g c =
    (λ yes. pairs_all g.P.TestOfTwo.hold c.args.lanes.now c.loop-at.at (omega (arith, c.loop-at-test.false)) c.loop-at.invariant, λ all. refl)
