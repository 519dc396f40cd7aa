use Rattle.std.proofs.Common.{◌≡◌, ◌+◌, ◌∙◌, ℕ, sym, ap, subst, arith, true}
use Rattle.rmt_place.specs.Needs.{keeps_limits}
use Rattle.rmt_place.specs.Placing.{beside}
use Rattle.rmt_place.specs.Steps.{numbers_of}
use Rattle.rmt_place.proofs.LoadLaws.{fitting_kept, beside_some, beside_none, near_beside, hit_is}
use Rattle.rmt_place.proofs.load.hit.Goals as goal
use Rattle.rmt_place.proofs.load.hit.Goals.{then-taken-eq0, else-taken-eq0}

pub returns : goal.returns
returns c = λ xs h kept left is.
    let d = c.args.demand.now in
    let taken = c.args.taken in
    let fits : keeps_limits (beside xs d taken) ≡ true = subst (λ (t : ℕ). keeps_limits (beside xs d t) ≡ true) (sym is) (fitting_kept xs d left kept) in
    let more_holds = c.with_quanta-2.ensures.holds xs h in
    let more : c.sums-more.result ≡ numbers_of (beside xs d (taken + 1)) = c.sums-more.ensures _ more_holds ∙ ap numbers_of (sym (beside_some xs d (taken + 1) (omega arith))) in
    let have : c.if-taken-eq0.have ≡ numbers_of (beside xs d taken) =
    elim c.if-taken-eq0.branch [
      | then-taken-eq0 w ↦ w.have-is ∙ (w.sums-have.ensures xs h ∙ ap numbers_of (sym (beside_none xs d taken w.if-taken-eq0.true)))
      | else-taken-eq0 w ↦ w.have-is ∙ (w.sums-have-else-taken-eq0.ensures _ (w.with_quanta.ensures.holds xs h) ∙ ap numbers_of (sym (beside_some xs d taken (omega arith))))
    ] in
    c.passed.ensures
    ∙ hit_is c.args.stage xs d taken c.if-taken-eq0.have c.sums-more.result have more fits (near_beside xs d taken c.with_quanta-2.result c.with_quanta-2.ensures.small more_holds)
