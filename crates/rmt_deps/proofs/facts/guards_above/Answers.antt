use Rattle.std.proofs.Common.{◌≡◌, ◌-◌, ◌++◌, ◌∷◌, [], List, append_assoc, ap, sym, ◌∙◌}
use Rattle.rmt_ast.specs.declared.program.Guard.{Guard}
use Rattle.rmt_deps.specs.Edges.{guards_up}
use Rattle.rmt_deps.proofs.EdgeLaws.{up_more}
use Rattle.rmt_deps.proofs.facts.guards_above.Goals as goal

pub loop-steps-preserved : goal.loop-steps-preserved
loop-steps-preserved c =
    let l = c.loop-steps in
    let p = c.args.program.now in
    let g = c.in-Some.guard in
    let pushed : c.push.new.self ≡ l.guards ++ g ∷ [] = c.in_ok-push.ensures.ok in
    let rest : List Guard = guards_up p (l.steps - 1) g.parent in
    l.invariant ∙ ap (λ (gs : List Guard). l.guards ++ gs) (up_more p l.steps l.at g c.loop-steps-test.true c.in-Some.ensures)
    ∙ sym (append_assoc l.guards (g ∷ []) rest)
    ∙ ap (λ (gs : List Guard). gs ++ rest) (sym pushed)
