use Rattle.std.proofs.Common.{◌≡◌, ℕ, List, get_or, Some, sym, ap, subst, ◌∙◌, inl, inr, arith}
use Rattle.std.specs.Prelude.{slice_get}
use Rattle.std.proofs.lemmas.Option.{get_or_from_slice_get}
use Rattle.rmt_chip.specs.Types.{Stage}
use Rattle.rmt_chip.specs.declared.pending.Pending.{Pending}
use Rattle.rmt_chip.specs.Pending.{HasRoomFor}
use Rattle.rmt_chip.proofs.PendingLaws.{push_slice}
use Rattle.rmt_chip.proofs.open.nothing_pending.Goals as goal

pub loop-stage-preserved : goal.loop-stage-preserved
loop-stage-preserved c =
    let was = c.loop-stage.invariant.count in
    let len = c.in_ok-push.ensures.len in
    let ok = c.loop-stage.pending.ok.0 in
    let i = c.loop-stage.stage-index in
    let x = c.in_ok-nothing_kept.field-0 in
    let it = c.stage-item.result in
    record {
      count = omega arith;
      each = λ k stage p found at.
          elim (push_slice c.loop-stage.pending.items x k p (subst (λ (ps : List Pending). slice_get ps k ≡ Some p) c.in_ok-push.ensures.items at)) [
            | inl before ↦ c.loop-stage.invariant.each k stage p found before
            | inr (here, same) ↦
                let place : k ≡ i = omega arith in
                let is : it ≡ stage = c.stage-item.is ∙ ap (λ (n : ℕ). get_or c.args.stages.now n it) (sym place) ∙ get_or_from_slice_get c.args.stages.now k stage it found in
                subst (λ (s : Stage). HasRoomFor s p) is (subst (HasRoomFor it) same c.in_ok-nothing_kept.ensures)
          ];
    }
