use Rattle.std.proofs.Common.{◌≡◌, sym, ap, ◌∙◌, ◌-◌, Bool, ℕ, arith}
use Rattle.std.specs.Prelude.{◌||◌, ◌&&◌, nat_le}
use Rattle.std.specs.List.{filter, range_with_len}
use Rattle.rmt_bits.specs.Members.{is_among}
use Rattle.rmt_ptcam.proofs.PlainLaws.{filter_here, filter_not}
use Rattle.rmt_ptcam.proofs.joining.lookups.together.Goals.{then-is_together+in_ok-push, else-is_together}
use Rattle.rmt_ptcam.proofs.TestLaws.{together_is}
use Rattle.rmt_ptcam.proofs.joining.lookups.together.Goals as goal

pub loop-offset-preserved : goal.loop-offset-preserved
loop-offset-preserved c =
    let t : ℕ → Bool = λ o. is_among c.args.here.now o || (nat_le c.args.bytes o && is_among c.args.there.now (o - c.args.bytes)) in
    let n = c.loop-offset.offset in
    elim c.if-is_together.branch [
      | then-is_together+in_ok-push w ↦ filter_here t n c.loop-offset.to c.if-is_together.to c.loop-offset.invariant (sym c.is_together.ensures ∙ w.if-is_together.true) (w.to-is ∙ w.in_ok-push.ensures.ok)
      | else-is_together w ↦ w.to-is ∙ filter_not t n c.loop-offset.to c.loop-offset.invariant (sym c.is_together.ensures ∙ w.if-is_together.false)
    ]

pub returns : goal.returns
returns c =
    let end : c.loop-offset.offset ≡ 128 = omega arith in
    c.loop-offset.invariant ∙ ap (λ n. filter (λ o. is_among c.args.here.now o || (nat_le c.args.bytes o && is_among c.args.there.now (o - c.args.bytes))) (range_with_len 0 n)) end ∙ sym (together_is c.args.here.now c.args.bytes c.args.there.now)
