use Rattle.std.proofs.Common.{◌≡◌, ◌∙◌, ℕ, List, [], Ok, drop, length, ap, sym, arith}
use Rattle.std.proofs.lemmas.List.{drop_all}
use Rattle.rmt_deps.specs.Levels.{all_edges}
use Rattle.rmt_pack.specs.declared.placement.Part.{Part}
use Rattle.rmt_place.specs.Placing.{placed_all, placement_in}
use Rattle.rmt_place.proofs.KeepLaws.{forward_keeps}
use Rattle.rmt_place.proofs.placing.place_in.Goals as goal

pub returns-clause-keeps : goal.returns-clause-keeps
returns-clause-keeps c = λ forward good.
    let demands = c.args.demands.now in
    let deps = c.args.deps.now in
    let order = c.args.order.now in
    let parts : List Part = c.loop-node.stages.parts.items in
    let end : drop c.loop-node.node-index order ≡ [] = drop_all c.loop-node.node-index order (omega arith) in
    let is : placement_in demands deps order ≡ Ok c.placement_of-2.result.parts =
    sym c.loop-node.invariant.placed
    ∙ (ap (λ (l : List ℕ). placed_all demands (all_edges deps) l parts) end ∙ ap (λ (l : List Part). Ok l) (sym c.placement_of-2.ensures)) in
    forward_keeps demands deps (length demands) order c.placement_of-2.result.parts forward good.forward is
