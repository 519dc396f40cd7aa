use Rattle.std.proofs.Common.{◌≡◌, ◌++◌, ◌∷◌, [], List, length, subst, sym, arith}
use Rattle.std.specs.Prelude.{All}
use Rattle.std.proofs.lemmas.List.{length-append}
use Rattle.rmt_ast.specs.declared.deps.Edge.{Edge}
use Rattle.rmt_deps.specs.Edges.{GoesForward}
use Rattle.rmt_deps.specs.Facts.{AreFacts, AreAllFacts}
use Rattle.rmt_deps.proofs.EdgeLaws.{each_more, go_forward}
use Rattle.rmt_deps.proofs.edges.dependencies.Goals as goal

pub loop-number-preserved : goal.loop-number-preserved
loop-number-preserved c =
    let l = c.loop-number in
    let p = c.args.program.now in
    let places = c.args.places.now in
    let x = c.in_ok-of_node.field-0 in
    let pushed : c.push.new.self.items ≡ l.nodes.items ++ x ∷ [] = c.in_ok-push.ensures.items in
    let here : AreFacts p places (length l.nodes.items) x = subst (λ n. AreFacts p places n x) (sym l.invariant.count) c.in_ok-of_node.ensures in
    rw pushed
    record {
      count = omega (arith, length-append l.nodes.items (x ∷ []), l.invariant.count);
      each = each_more (AreFacts p places) l.nodes.items x l.invariant.each here;
    }

pub returns-clause-forward : goal.returns-clause-forward
returns-clause-forward c =
    let l = c.loop-number in
    let p = c.args.program.now in
    let places = c.args.places.now in
    let all : AreAllFacts p places l.nodes.items =
    record { all_there = omega (arith, l.invariant.count, l.auto.number-end, c.loop-number-test.false, c.len-number-end.ensures); each = l.invariant.each } in
    let field = c.in_ok-field.ensures p places (subst (AreAllFacts p places) (sym c.as_slice.ensures.value) all) in
    let word = c.in_ok-word.ensures p places (subst (AreAllFacts p places) (sym c.as_slice-2.ensures.value) all) in
    record {
      field = subst (λ (es : List Edge). All (GoesForward (length p.nodes)) es) (sym field) (go_forward p places).field;
      word = subst (λ (es : List Edge). All (GoesForward (length p.nodes)) es) (sym word) (go_forward p places).word;
    }
