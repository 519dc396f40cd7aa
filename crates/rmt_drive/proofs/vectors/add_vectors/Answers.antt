-- One age after another.
use Rattle.std.proofs.Common.{◌≡◌, ◌+◌, ◌++◌, arith, subst}
use Rattle.rmt_config.specs.ChipRun.{latency_of}
use Rattle.rmt_drive.specs.ChipText.{flying_below}
use Rattle.rmt_drive.proofs.VectorTexts.{age_more, no_lines}
use Rattle.rmt_drive.proofs.vectors.add_vectors.Goals as goal

pub loop-below-preserved : goal.loop-below-preserved
loop-below-preserved c = record {
  within = omega arith;
  lines = λ k made stands.
      age_more k made c.loop-below.below c.loop-below.text.items c.add_age.new.text.items _ (omega arith) (c.loop-below.invariant.lines k made stands) (c.in_ok-add_age.ensures k made stands);
}

pub returns : goal.returns
returns c = λ k made stands.
    let none : c.loop-below.below ≡ 0 = omega arith in
    no_lines k made c.loop-below.text.items _
    (subst (λ n. c.loop-below.text.items ++ flying_below k made n ≡ c.args.text.now.items ++ flying_below k made (latency_of k.stages + 1)) none (c.loop-below.invariant.lines k made stands))
