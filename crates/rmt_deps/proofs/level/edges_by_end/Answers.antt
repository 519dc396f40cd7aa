use Rattle.std.proofs.Common.{◌≡◌, ◌<◌, ◌++◌, ◌∷◌, List, [], get_or, length, ap, subst, ◌∙◌, arith}
use Rattle.std.proofs.lemmas.List.{length-append}
use Rattle.rmt_ast.specs.declared.deps.Edge.{Edge}
use Rattle.rmt_deps.specs.Edges.{GoForward}
use Rattle.rmt_deps.specs.Levels.{all_edges}
use Rattle.rmt_deps.proofs.EdgeLaws.{each_more}
use Rattle.rmt_deps.proofs.Ends.{written, ending}
use Rattle.rmt_deps.proofs.level.edges_by_end.Goals as goal

pub loop-preserved : goal.loop-preserved
loop-preserved c =
    let l = c.loop in
    let none = c.new.result in
    let pushed : c.push.new.self.items ≡ l.ends.items ++ none ∷ [] = c.in_ok-push.ensures.items in
    rw pushed
    record {
      count = omega (arith, length-append l.ends.items (none ∷ []), l.invariant.count);
      none = each_more (λ n (x : List Edge). x ≡ []) l.ends.items none l.invariant.none c.new.ensures;
    }

pub push_deps-requires : goal.push_deps-requires
push_deps-requires c =
    let l = c.loop in
    let size : c.args.nodes ≡ length c.deref_mut.result.now =
    omega (arith, l.invariant.count, l.auto.counter-end, c.loop-test.false, ap length c.deref_mut.ensures.value) in
    subst (λ n. GoForward n c.args.deps.now) size c.requires

pub returns : goal.returns
returns c =
    let l = c.loop in
    let new = c.push_deps.new.ends in
    let old : c.deref_mut.result.now ≡ l.ends.items = c.deref_mut.ensures.value in
    let size : length l.ends.items ≡ c.args.nodes = omega (arith, l.invariant.count, l.auto.counter-end, c.loop-test.false) in
    let kept : length new ≡ length l.ends.items = c.push_deps.auto.ends ∙ ap length old in
    rw (written l.ends.len l.ends.items new (c.push_deps.auto.ends ∙ c.deref_mut.ensures.len))
    record {
      all_there = kept ∙ size;
      each = λ n d lt.
          let below : n < length l.ends.items = omega (arith, size, lt) in
          c.in_ok-push_deps.ensures n d (omega (arith, below, ap length old))
          ∙ ap (λ (xs : List Edge). xs ++ ending n (all_edges c.args.deps.now)) (ap (λ (es : List (List Edge)). get_or es n d) old ∙ l.invariant.none n d below);
    }
