use Rattle.std.proofs.Common.{◌≡◌, ◌∙◌, ◌<◌, ℕ, List, length, cond, ap, sym, subst, arith}
use Rattle.std.specs.List.{All}
use Rattle.rmt_deps.specs.Levels.{all_edges}
use Rattle.rmt_place.proofs.GoodLaws.{rule_good}
use Rattle.rmt_improve.specs.Steps.{as_try}
use Rattle.rmt_improve.specs.Tries.{Try, best_try, is_better, order_of_try, try_in}
use Rattle.rmt_improve.proofs.OrderLaws.{good_length}
use Rattle.rmt_improve.proofs.TryLaws.{best_order_good, best_step, order_good}
use Rattle.rmt_improve.proofs.better.best_of_tries.Goals as goal

pub try_order-requires : goal.try_order-requires
try_order-requires c =
    subst (λ (l : List ℕ). All (λ n. n < length c.args.demands.now) l) (sym c.in_ok-order.ensures) (rule_good c.args.deps.now (length c.args.demands.now) c.requires.forward).numbers

pub order_of_try-requires-clause-best : goal.order_of_try-requires-clause-best
order_of_try-requires-clause-best c =
    let demands = c.args.demands.now in
    let deps = c.args.deps.now in
    let order = c.as_slice.result.now in
    good_length (length demands) (all_edges deps) order
    (best_order_good demands deps c.loop-number.number order c.requires.forward (c.as_slice.ensures ∙ ap (λ (t : Try). t.order) c.loop-number.invariant.best))

pub try_order-requires-in-loop-number : goal.try_order-requires-in-loop-number
try_order-requires-in-loop-number c =
    let demands = c.args.demands.now in
    let deps = c.args.deps.now in
    let order = c.as_slice.result.now in
    let good = best_order_good demands deps c.loop-number.number order c.requires.forward (c.as_slice.ensures ∙ ap (λ (t : Try). t.order) c.loop-number.invariant.best) in
    subst (λ (l : List ℕ). All (λ n. n < length demands) l) (sym c.in_ok-order-2.ensures) (order_good demands deps c.loop-number.number order c.requires.forward good).numbers

pub loop-number-preserved : goal.loop-number-preserved
loop-number-preserved c =
    let demands = c.args.demands.now in
    let deps = c.args.deps.now in
    let edges = all_edges deps in
    let number = c.loop-number.number in
    let l = c.loop-number.invariant in
    let best = best_try demands deps number in
    let next = try_in demands deps (order_of_try demands deps number best.order) in
    let order : c.in_ok-order-2.order ≡ order_of_try demands deps number best.order =
    c.in_ok-order-2.ensures ∙ ap (order_of_try demands deps number) (c.as_slice.ensures ∙ ap (λ (t : Try). t.order) l.best) in
    let is_next : as_try c.in_ok-next.next ≡ next = c.in_ok-next.ensures.tried ∙ ap (try_in demands deps) order in
    record {
      best = c.better_of-best.ensures.better edges l.ranked c.in_ok-next.ensures.ranked
          ∙ (ap (λ (t : Try). cond (is_better edges t (as_try c.loop-number.best)) t (as_try c.loop-number.best)) is_next
          ∙ (ap (λ (t : Try). cond (is_better edges next t) next t) l.best ∙ sym (best_step demands deps number l.some)));
      ranked = c.better_of-best.ensures.ranked edges l.ranked c.in_ok-next.ensures.ranked;
      some = omega arith;
    }
