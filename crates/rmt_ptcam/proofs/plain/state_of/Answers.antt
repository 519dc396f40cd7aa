use Rattle.std.proofs.Common.{sym, ◌∙◌}
use Rattle.rmt_ptcam.specs.Needs.{is_looked_up}
use Rattle.rmt_ptcam.proofs.PlainLaws.{filter_here, filter_not}
use Rattle.rmt_ptcam.proofs.plain.state_of.Goals.{then-is_looked_up+in_ok-push, else-is_looked_up}
use Rattle.rmt_ptcam.proofs.plain.state_of.Goals as goal

pub loop-byte-preserved : goal.loop-byte-preserved
loop-byte-preserved c =
    let t = is_looked_up c.args.program.now c.args.header.now in
    let n = c.loop-byte.byte in
    elim c.if-is_looked_up.branch [
      | then-is_looked_up+in_ok-push w ↦ filter_here t n c.loop-byte.lookups c.if-is_looked_up.lookups c.loop-byte.invariant (sym c.is_looked_up.ensures ∙ w.if-is_looked_up.true) (w.lookups-is ∙ w.in_ok-push.ensures.ok)
      | else-is_looked_up w ↦ w.lookups-is ∙ filter_not t n c.loop-byte.lookups c.loop-byte.invariant (sym c.is_looked_up.ensures ∙ w.if-is_looked_up.false)
    ]
