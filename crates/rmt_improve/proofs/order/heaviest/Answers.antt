use Rattle.std.proofs.Common.{◌∙◌, ◌<◌, ◌++◌, ◌∷◌, [], ℕ, Bool, Option, cond, filter, length, sym, ap, subst}
use Rattle.std.specs.Prelude.{IfSome}
use Rattle.std.specs.List.{range_with_len}
use Rattle.std.proofs.lemmas.List.{append-nil}
use Rattle.rmt_bits.proofs.ListLaws.{filter-range_more}
use Rattle.rmt_improve.specs.Orders.{heaviest as heaviest_of}
use Rattle.rmt_improve.specs.Steps.{is_free, listed}
use Rattle.rmt_improve.proofs.order.heaviest.Goals as goal
use Rattle.rmt_improve.proofs.order.heaviest.Goals.{then-is_free, else-is_free}

pub loop-node-preserved : goal.loop-node-preserved
loop-node-preserved c =
    let n = c.loop-node.node in
    let weights = c.args.weights.now in
    let front = filter (is_free c.args.taken.now c.args.held.now) (range_with_len 0 n) in
    let more = filter-range_more (is_free c.args.taken.now c.args.held.now) n in
    elim c.if-is_free.branch [
      | then-is_free w ↦
          let nodes = more ∙ ap (λ (b : Bool). front ++ cond b (n ∷ []) []) (sym c.is_free.ensures ∙ w.if-is_free.true) in
          record {
            best = ap listed w.best-is ∙ (w.heavier.ensures.value front c.loop-node.invariant.best ∙ sym (ap (heaviest_of weights) nodes));
            below = subst (λ (o : Option ℕ). IfSome o (λ b. b < length weights)) (sym w.best-is) w.heavier.ensures.below;
          }
      | else-is_free w ↦
          let test = sym c.is_free.ensures ∙ w.if-is_free.false in
          let nodes = more ∙ (ap (λ (b : Bool). front ++ cond b (n ∷ []) []) test ∙ append-nil front) in
          record {
            best = ap listed w.best-is ∙ (c.loop-node.invariant.best ∙ sym (ap (heaviest_of weights) nodes));
            below = subst (λ (o : Option ℕ). IfSome o (λ b. b < length weights)) (sym w.best-is) c.loop-node.invariant.below;
          }
    ]
