use Rattle.std.proofs.Common.{◌++◌, ℕ, List, ap, sym, ◌∙◌, zero-add}
use Rattle.std.specs.List.{flat_map, range_with_len}
use Rattle.rmt_ast.specs.declared.deps.Edge.{Edge}
use Rattle.rmt_deps.specs.Edges.{edges_from}
use Rattle.rmt_deps.proofs.EdgeLaws.{numbers_more}
use Rattle.rmt_deps.proofs.edges.edges_among.Goals as goal

pub loop-from-preserved : goal.loop-from-preserved
loop-from-preserved c = λ p places all.
    let l = c.loop-from in
    let f : ℕ → List Edge = edges_from p places c.args.kinds.now in
    c.in_ok-push_from.ensures p places all
    ∙ ap (λ (es : List Edge). es ++ f l.from) (l.invariant p places all)
    ∙ sym (numbers_more f 0 l.from ∙ ap (λ a. flat_map f (range_with_len 0 l.from) ++ f a) (zero-add l.from))
