use Rattle.std.proofs.Common.{◌∙◌, arith}
use Rattle.rmt_place.specs.declared.load.TheConstants.{MOST}
use Rattle.rmt_place.proofs.LoadLaws.{kept_step}
use Rattle.rmt_place.proofs.load.keep.Goals as goal

pub loop-at-preserved : goal.loop-at-preserved
loop-at-preserved c = kept_step MOST c.args.sums.now c.loop-at.at (omega arith) (omega arith) c.if-most-sums.false ∙ c.loop-at.invariant
