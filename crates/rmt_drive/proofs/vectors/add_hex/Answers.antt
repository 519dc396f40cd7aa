-- One digit after another.
use Rattle.std.proofs.Common.{arith, refl}
use Rattle.rmt_drive.proofs.VectorTexts.{hex_more}
use Rattle.rmt_drive.proofs.vectors.add_hex.Goals as goal

pub loop-places-preserved : goal.loop-places-preserved
loop-places-preserved c = record {
  within = omega arith;
  digits = hex_more c.loop-places.places c.args.value c.loop-places.text.items c.push.new.self.items _ _ (omega arith) c.loop-places.invariant.digits (rw c.in_ok-push.was at c.push.ensures.items) refl;
}
