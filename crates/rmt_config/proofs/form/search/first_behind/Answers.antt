use Rattle.std.proofs.Common.{arith}
use Rattle.rmt_config.proofs.RiseLaws.{middle-below, middle-above}
use Rattle.rmt_config.proofs.form.search.first_behind.Goals as goal
use Rattle.rmt_config.proofs.form.search.first_behind.Goals.{then-loop-high-test+else-place, else-loop-high-test}

pub loop-high-preserved : goal.loop-high-preserved
loop-high-preserved g c = record {
  order = omega arith;
  within = omega (arith, c.loop-high-test.true, c.min.ensures);
  below = middle-below g.T.Numbered.place_of c.args.items.now c.loop-high.high c.args.place c.index-items-high.result c.requires.rising c.loop-high-test.true c.index-items-high.is
      (omega (arith, c.place.ensures, c.if-place.true));
}

pub first_between-requires-clause-above : goal.first_between-requires-clause-above
first_between-requires-clause-above g c = elim c.loop-high-test.branch [
  | then-loop-high-test+else-place w ↦ middle-above g.T.Numbered.place_of c.args.items.now c.loop-high.high c.args.place w.index-items-high.result c.requires.rising w.loop-high-test.true w.index-items-high.is
      (omega (arith, w.place.ensures, w.if-place.false))
  | else-loop-high-test w ↦ λ k d le lt. absurd (omega (arith, le, lt, w.loop-high-test.false))
]
