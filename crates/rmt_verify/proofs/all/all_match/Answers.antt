use Rattle.std.proofs.Common.{arith}
use Rattle.std.proofs.lemmas.Slice.Zip.{AllZip-long}
use Rattle.rmt_verify.proofs.ZipLaws.{zip_at, zip_more}
use Rattle.rmt_verify.proofs.all.all_match.Goals as goal

pub returns-then-lefts-rights : goal.returns-then-lefts-rights
returns-then-lefts-rights g c =
    (λ no. absurd cc, λ all. absurd (omega (arith, c.if-lefts-rights.true, AllZip-long (g.T.TestOfPair.fit c.args.test.now) c.args.lefts.now c.args.rights.now all)))

pub returns-then-not-matches : goal.returns-then-not-matches
returns-then-not-matches g c = (
  λ no. absurd cc,
  λ all. absurd (
      let yes = c.matches.ensures.1 (zip_at (g.T.TestOfPair.fit c.args.test.now) c.args.lefts.now c.args.rights.now c.loop-at.at c.index-lefts-at.result c.index-rights-at.result (omega (arith, c.loop-at-test.true)) c.index-lefts-at.is c.index-rights-at.is all) in
      cc),
)

pub loop-at-preserved : goal.loop-at-preserved
loop-at-preserved g c =
    zip_more (g.T.TestOfPair.fit c.args.test.now) c.args.lefts.now c.args.rights.now c.loop-at.at c.index-lefts-at.result c.index-rights-at.result (omega (arith, c.loop-at-test.true))
    (omega (arith, c.loop-at-test.true, c.if-lefts-rights.false)) c.index-lefts-at.is c.index-rights-at.is c.loop-at.invariant (c.matches.ensures.0 cc)
