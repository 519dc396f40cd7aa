use Rattle.std.proofs.Common.{◌≡◌, ◌∙◌, ◌<◌, ◌+◌, ◌++◌, ℕ, suc, List, Bool, false, filter, get_or, length, ap, arith}
use Rattle.std.specs.List.{range_with_len}
use Rattle.rmt_deps.specs.Levels.{all_edges}
use Rattle.rmt_deps.proofs.LevelLaws.{edges_forward}
use Rattle.rmt_improve.specs.Orders.{by_weight, heaviest, next_nodes}
use Rattle.rmt_improve.specs.Steps.{is_free, is_held}
use Rattle.rmt_improve.proofs.MarkLaws.{free_is}
use Rattle.rmt_improve.proofs.order.by_weight.Goals as goal

pub loop-step-preserved : goal.loop-step-preserved
loop-step-preserved c =
    let edges = all_edges c.args.deps.now in
    let weights = c.args.weights.now in
    let nodes = length weights in
    let l = c.loop-step in
    let marks : List Bool = l.taken.items in
    let held : List Bool = c.in_ok-held.held.items in
    let marks_are : c.as_slice.result.now ≡ marks = c.as_slice.ensures.value in
    let holds : (n : ℕ) → n < nodes → get_or held n false ≡ is_held edges marks n = λ n lt.
    (let inside : n < length c.as_slice.result.now = omega (arith, ap length marks_are, l.invariant.size, lt) in
    c.in_ok-held.ensures.marks n inside ∙ ap (λ (ms : List Bool). is_held edges ms n) marks_are) in
    let free : filter (is_free c.as_slice-in-loop-step.result.now c.as_slice-in-loop-step-2.result.now) (range_with_len 0 nodes) ≡ next_nodes edges l.order nodes =
    ap (λ (ms : List Bool). filter (is_free ms c.as_slice-in-loop-step-2.result.now) (range_with_len 0 nodes)) c.as_slice-in-loop-step.ensures.value
    ∙ (ap (λ (ms : List Bool). filter (is_free marks ms) (range_with_len 0 nodes)) c.as_slice-in-loop-step-2.ensures.value
    ∙ free_is edges l.order marks held nodes l.invariant.marks l.invariant.size (edges_forward c.args.deps.now nodes c.requires.forward) holds) in
    let more : suc l._step ≡ l._step + 1 = omega arith in
    record {
      order = c.in_ok-take.ensures.order
          ∙ (ap (λ (ns : List ℕ). l.order ++ ns) (c.heaviest-node.ensures.heaviest ∙ ap (heaviest weights) free)
          ∙ (ap (λ (taken : List ℕ). taken ++ heaviest weights (next_nodes edges taken nodes)) l.invariant.order ∙ ap (by_weight edges weights) more));
      size = c.in_ok-take.ensures.size ∙ l.invariant.size;
      marks = c.in_ok-take.ensures.marks l.invariant.marks;
    }
