use Rattle.std.proofs.Common.{arith}
use Rattle.rmt_build.proofs.PartLaws.{quanta_more}
use Rattle.rmt_build.proofs.parts.quanta_before.Goals as goal

pub loop-earlier-preserved : goal.loop-earlier-preserved
loop-earlier-preserved c =
    record {
      value = omega (arith, quanta_more c.args.parts.now c.args.node c.loop-earlier.earlier, c.quanta_in-quanta.ensures, c.loop-earlier.invariant.value);
      few = omega (arith, c.requires.few c.loop-earlier.earlier, c.quanta_in-quanta.ensures, c.loop-earlier.invariant.few);
    }
