use Rattle.std.proofs.Common.{sym, ◌∙◌, arith}
use Rattle.rmt_ptcam.specs.Needs.{is_looked_up}
use Rattle.rmt_ptcam.proofs.NeedLaws.{counted_here, counted_not}
use Rattle.rmt_ptcam.proofs.plain.need.count_lookups.Goals.{then-is_looked_up, else-is_looked_up}
use Rattle.rmt_ptcam.proofs.plain.need.count_lookups.Goals as goal

pub loop-byte-preserved : goal.loop-byte-preserved
loop-byte-preserved c =
    let t = is_looked_up c.args.program.now c.args.header.now in
    let n = c.loop-byte.byte in
    let before = c.loop-byte.invariant.counted in
    let few = c.loop-byte.invariant.few in
    elim c.if-is_looked_up.branch [
      | then-is_looked_up w ↦
          record { counted = w.count-is ∙ counted_here t n c.loop-byte.count before (sym c.is_looked_up.ensures ∙ w.if-is_looked_up.true); few = omega (arith, w.count-is, few) }
      | else-is_looked_up w ↦
          record { counted = w.count-is ∙ counted_not t n c.loop-byte.count before (sym c.is_looked_up.ensures ∙ w.if-is_looked_up.false); few = omega (arith, w.count-is, few) }
    ]
