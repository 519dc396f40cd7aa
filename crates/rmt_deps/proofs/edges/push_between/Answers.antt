use Rattle.std.proofs.Common.{◌≡◌, ◌++◌, List, Bool, [], false, ◌∷◌, cond, length, get_or, map, take, append_assoc, ap, sym, ◌∙◌, arith}
use Rattle.std.specs.Prelude.{filter}
use Rattle.std.proofs.Math.Seq.{take-length}
use Rattle.rmt_ast.specs.declared.deps.Edge.{Edge}
use Rattle.rmt_ast.specs.declared.deps.EdgeKind.{EdgeKind}
use Rattle.rmt_ast.specs.declared.deps.EdgeKind.TheVariants.{Match}
use Rattle.rmt_deps.specs.Edges.{depends, edge, on_different_arms}
use Rattle.rmt_deps.proofs.EdgeLaws.{arms_are, kinds_more}
use Rattle.rmt_deps.proofs.edges.push_between.Goals as goal

pub loop-kind-preserved : goal.loop-kind-preserved
loop-kind-preserved c = λ p places first second.
    let l = c.loop-kind in
    let a = c.args.from in
    let b = c.args.to in
    let test : EdgeKind → Bool = λ k. depends p places k a b in
    let kind : EdgeKind = get_or c.args.kinds.now l.kind-index Match in
    c.in_ok-push_edge.ensures p places first second
    ∙ ap (λ (es : List Edge). es ++ map (edge a b) (filter test (kind ∷ []))) (l.invariant p places first second)
    ∙ append_assoc c.args.edges.now (map (edge a b) (filter test (take l.kind-index c.args.kinds.now))) (map (edge a b) (filter test (kind ∷ [])))
    ∙ ap (λ (es : List Edge). c.args.edges.now ++ es) (sym (kinds_more test (edge a b) c.args.kinds.now l.kind-index Match c.loop-kind-test.true))

pub returns : goal.returns
returns c = λ p places first second.
    let l = c.loop-kind in
    let a = c.args.from in
    let b = c.args.to in
    let kinds = c.args.kinds.now in
    let test : EdgeKind → Bool = λ k. depends p places k a b in
    let all : l.kind-index ≡ length kinds = omega arith in
    let apart : on_different_arms p a b ≡ false =
    arms_are p a b c.as_slice.result.now c.as_slice-2.result.now false (c.as_slice.ensures ∙ first.guards) (c.as_slice-2.ensures ∙ second.guards) (sym c.if-on_different_arms.false ∙ c.on_different_arms.ensures) in
    l.invariant p places first second
    ∙ ap (λ (ks : List EdgeKind). c.args.edges.now ++ map (edge a b) (filter test ks)) (ap (λ n. take n kinds) all ∙ take-length kinds)
    ∙ ap (λ (o : Bool). c.args.edges.now ++ cond o [] (map (edge a b) (filter test kinds))) (sym apart)
