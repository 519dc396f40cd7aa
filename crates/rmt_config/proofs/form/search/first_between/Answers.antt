use Rattle.std.proofs.Common.{◌+◌, ◌-◌, ◌/◌, ◌<◌, length, arith}
use Rattle.rmt_config.proofs.RiseLaws.{middle-below, middle-above}
use Rattle.rmt_config.proofs.form.search.first_between.Goals as goal

pub loop-low-preserved-then-place : goal.loop-low-preserved-then-place
loop-low-preserved-then-place g c =
    let m = c.loop-low.low + (c.loop-low.high - c.loop-low.low) / 2 in
    let lm : m < length c.args.items.now = omega arith in
    record {
      order = omega arith;
      within = omega arith;
      below = middle-below g.T.Numbered.place_of c.args.items.now m c.args.place c.index-items-middle.result c.requires.rising lm c.index-items-middle.is
          (omega (arith, c.place.ensures, c.if-place.true));
      above = c.loop-low.invariant.above;
    }

pub loop-low-preserved : goal.loop-low-preserved
loop-low-preserved g c =
    let m = c.loop-low.low + (c.loop-low.high - c.loop-low.low) / 2 in
    let lm : m < length c.args.items.now = omega arith in
    record {
      order = omega arith;
      within = omega arith;
      below = c.loop-low.invariant.below;
      above = middle-above g.T.Numbered.place_of c.args.items.now m c.args.place c.index-items-middle.result c.requires.rising lm c.index-items-middle.is
          (omega (arith, c.place.ensures, c.if-place.false));
    }
