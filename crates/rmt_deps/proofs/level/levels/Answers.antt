use Rattle.std.proofs.Common.{◌≡◌, ◌<◌, ◌≤◌, ℕ, suc, List, get_or, length, ap, subst, sym, ◌∙◌, arith}
use Rattle.std.specs.Prelude.{All}
use Rattle.rmt_ast.specs.declared.deps.Edge.{Edge}
use Rattle.rmt_deps.specs.Ends.{AreSmall}
use Rattle.rmt_deps.specs.Levels.{all_edges, strict_edges, levels_of}
use Rattle.rmt_deps.proofs.Ends.{ending}
use Rattle.rmt_deps.proofs.LevelLaws.{length-levels_of, starts_before, IsSmall-levels_of, path-le, path_there}
use Rattle.rmt_deps.proofs.level.levels.Goals as goal

pub greatest_level-level-requires-clause-starts : goal.greatest_level-level-requires-clause-starts
greatest_level-level-requires-clause-starts c =
    let l = c.loop-edges in
    let i = l.edges-index in
    let deps = c.args.deps.now in
    let same = c.as_slice-edges-items.ensures.value in
    let below : i < c.args.nodes = omega (arith, c.loop-edges-test.true, ap length same, c.in_ok-ends.ensures.all_there) in
    let edges : c.as_slice-in-loop-edges.result.now ≡ ending i (all_edges deps) =
    c.as_slice-in-loop-edges.ensures ∙ c.edges-item.is ∙ ap (λ (xs : List (List Edge)). get_or xs i c.edges-item.result) same ∙ c.in_ok-ends.ensures.each i c.edges-item.result below in
    let count : length c.as_slice.result.now ≡ i = ap length (c.as_slice.ensures ∙ l.invariant) ∙ length-levels_of deps i in
    subst (λ (n : ℕ). All (λ (e : Edge). e.from < n) c.as_slice-in-loop-edges.result.now) (sym count)
    (subst (λ (es : List Edge). All (λ (e : Edge). e.from < i) es) (sym edges) (starts_before deps c.args.nodes i c.requires))

pub greatest_level-level-requires-clause-small : goal.greatest_level-level-requires-clause-small
greatest_level-level-requires-clause-small c =
    let l = c.loop-edges in
    let i = l.edges-index in
    let deps = c.args.deps.now in
    let below : i < c.args.nodes = omega (arith, c.loop-edges-test.true, ap length c.as_slice-edges-items.ensures.value, c.in_ok-ends.ensures.all_there) in
    subst AreSmall (sym (c.as_slice.ensures ∙ l.invariant))
    record { each = λ n lt. IsSmall-levels_of deps c.args.nodes c.requires i (omega arith) n (omega (arith, lt, length-levels_of deps i)) }

pub greatest_level-level-requires-clause-few : goal.greatest_level-level-requires-clause-few
greatest_level-level-requires-clause-few c =
    let l = c.loop-edges in
    let i = l.edges-index in
    let below : i < c.args.nodes = omega (arith, c.loop-edges-test.true, ap length c.as_slice-edges-items.ensures.value, c.in_ok-ends.ensures.all_there) in
    let count : length c.as_slice.result.now ≡ i = ap length (c.as_slice.ensures ∙ l.invariant) ∙ length-levels_of c.args.deps.now i in
    omega (arith, below, count, c.ranges.nodes.fits)

pub returns-clause-most : goal.returns-clause-most
returns-clause-most c = λ n path lt is.
    let l = c.loop-edges in
    let deps = c.args.deps.now in
    let end : l.edges-index ≡ c.args.nodes =
    omega (arith, c.loop-edges-test.false, l.auto.edges-index-end, ap length c.as_slice-edges-items.ensures.value, c.in_ok-ends.ensures.all_there) in
    let all : l.levels ≡ levels_of deps c.args.nodes = l.invariant ∙ ap (levels_of deps) end in
    subst (λ (ls : List ℕ). strict_edges path ≤ get_or ls n 0) (sym all) (path-le deps c.args.nodes c.requires n path is)

pub returns-clause-reached : goal.returns-clause-reached
returns-clause-reached c = λ n lt.
    let l = c.loop-edges in
    let deps = c.args.deps.now in
    let end : l.edges-index ≡ c.args.nodes =
    omega (arith, c.loop-edges-test.false, l.auto.edges-index-end, ap length c.as_slice-edges-items.ensures.value, c.in_ok-ends.ensures.all_there) in
    let all : l.levels ≡ levels_of deps c.args.nodes = l.invariant ∙ ap (levels_of deps) end in
    let path = path_there deps c.args.nodes c.requires (suc n) n (omega arith) lt in
    (path.0, path.1, path.2 ∙ ap (λ (ls : List ℕ). get_or ls n 0) (sym all))
