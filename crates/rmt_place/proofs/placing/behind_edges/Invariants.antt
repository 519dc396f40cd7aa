use Rattle.std.proofs.Common.{◌≡◌, List, drop, filter, eqb, max}
use Rattle.std.specs.List.{fold}
use Rattle.rmt_ast.specs.declared.deps.Edge.{Edge}
use Rattle.rmt_pack.specs.declared.placement.Part.{Part}
use Rattle.rmt_place.specs.Placing.{allowed_by}
use Rattle.rmt_place.specs.Steps.{AreLast}
use Rattle.rmt_place.proofs.placing.behind_edges.Given as goal

abbrev pub invariant-loop-edge : goal.invariant-loop-edge
invariant-loop-edge l = (parts : List Part) → AreLast parts l.last
    → fold (λ most e. max most (allowed_by parts e)) l.earliest (filter (λ (e : Edge). eqb e.to l.node) (drop l.edge-index l.edges))
    ≡ fold (λ most e. max most (allowed_by parts e)) l.fn.stage (filter (λ (e : Edge). eqb e.to l.node) l.edges)
