use Rattle.std.proofs.Common.{◌≡◌, ◌+◌, ◌-◌, ◌++◌, ℕ, List, append_assoc, ap, subst, sym, ◌∙◌, arith}
use Rattle.std.specs.List.{flat_map, range_with_len}
use Rattle.rmt_ast.specs.declared.deps.Edge.{Edge}
use Rattle.rmt_deps.specs.Edges.{edges_between}
use Rattle.rmt_deps.specs.Facts.{AreFacts}
use Rattle.rmt_deps.proofs.EdgeLaws.{numbers_more}
use Rattle.rmt_deps.proofs.edges.push_from.Goals as goal

pub loop-to-preserved : goal.loop-to-preserved
loop-to-preserved c = λ p places all.
    let l = c.loop-to in
    let from = c.args.from in
    let f : ℕ → List Edge = edges_between p places c.args.kinds.now from in
    let n : ℕ = l.to - (from + 1) in
    let more : l.to + 1 - (from + 1) ≡ n + 1 = omega (arith, l.auto.to) in
    let here : (from + 1) + n ≡ l.to = omega (arith, l.auto.to) in
    let first = subst (AreFacts p places from) (sym c.index-nodes-from.is) (all.each from c.index-nodes-from.result c.requires.from) in
    let second = subst (AreFacts p places l.to) (sym c.index-nodes-to.is) (all.each l.to c.index-nodes-to.result c.loop-to-test.true) in
    let step : flat_map f (range_with_len (from + 1) (l.to + 1 - (from + 1))) ≡ flat_map f (range_with_len (from + 1) n) ++ f l.to =
    ap (λ k. flat_map f (range_with_len (from + 1) k)) more ∙ numbers_more f (from + 1) n ∙ ap (λ b. flat_map f (range_with_len (from + 1) n) ++ f b) here in
    c.in_ok-push_between.ensures p places first second
    ∙ ap (λ (es : List Edge). es ++ f l.to) (l.invariant p places all)
    ∙ append_assoc c.args.edges.now (flat_map f (range_with_len (from + 1) n)) (f l.to)
    ∙ ap (λ (es : List Edge). c.args.edges.now ++ es) (sym step)
