use Rattle.std.proofs.Common.{◌≡◌, Bool, ℕ, cond, ap, sym, ◌∙◌, arith}
use Rattle.rmt_bits.specs.Members.{is_among}
use Rattle.rmt_ptcam.proofs.CompactLaws.{number_next}
use Rattle.rmt_ptcam.proofs.clustered.compaction.number_in.Goals.{then-is_among, else-is_among}
use Rattle.rmt_ptcam.proofs.clustered.compaction.number_in.Goals as goal

pub loop-other-preserved : goal.loop-other-preserved
loop-other-preserved c =
    let met : ℕ → Bool = is_among c.args.met.now in
    let n = c.loop-other.other in
    let next = number_next met n in
    let so_far = c.loop-other.invariant.so_far in
    let few = c.loop-other.invariant.few in
    elim c.if-is_among.branch [
      | then-is_among w ↦
          (let one : ◌≡◌ {A = ℕ} (cond (met n) 1 0) 1 = ap {B = ℕ} (λ (b : Bool). cond b 1 0) (sym c.is_among.ensures ∙ w.if-is_among.true) in
          let is = w.count-is in
          record { so_far = omega (arith, next, one, is, so_far); few = omega (arith, is, few) })
      | else-is_among w ↦
          (let one : ◌≡◌ {A = ℕ} (cond (met n) 1 0) 0 = ap {B = ℕ} (λ (b : Bool). cond b 1 0) (sym c.is_among.ensures ∙ w.if-is_among.false) in
          let is = w.count-is in
          record { so_far = omega (arith, next, one, is, so_far); few = omega (arith, is, few) })
    ]
