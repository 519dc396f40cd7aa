use Rattle.std.proofs.Common.{ap, ◌∙◌, List, ℕ}
use Rattle.rmt_ast.specs.declared.deps.Edge.{Edge}
use Rattle.rmt_deps.proofs.Ends.{ending}
use Rattle.rmt_place.proofs.PlaceLaws.{behind, behind_both}
use Rattle.rmt_place.proofs.placing.earliest_stage.Goals as goal

pub returns : goal.returns
returns c = λ parts a.
    let n = c.args.node in
    c.behind_edges.ensures parts a
    ∙ (ap (λ (es : List Edge). behind parts c.behind_edges-stage.result (ending n es)) c.as_slice-2.ensures
    ∙ (ap (λ (s : ℕ). behind parts s (ending n c.args.deps.now.word)) (c.behind_edges-stage.ensures parts a ∙ ap (λ (es : List Edge). behind parts 0 (ending n es)) c.as_slice.ensures)
    ∙ behind_both parts n c.args.deps.now.field c.args.deps.now.word))
