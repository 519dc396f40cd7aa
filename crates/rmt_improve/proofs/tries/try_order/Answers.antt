use Rattle.std.proofs.Common.{◌≡◌, ◌<◌, ℕ, List, Ok, length, sym, subst}
use Rattle.std.specs.List.{All}
use Rattle.rmt_deps.specs.Levels.{all_edges}
use Rattle.rmt_place.specs.Placing.{placement_in}
use Rattle.rmt_place.proofs.KeepLaws.{parts_placed}
use Rattle.rmt_improve.proofs.tries.try_order.Goals as goal

pub rank_of-requires : goal.rank_of-requires
rank_of-requires c =
    let demands = c.args.demands.now in
    let order = c.as_slice.result.now in
    let few : All (λ n. n < length demands) order = subst (λ (l : List ℕ). All (λ n. n < length demands) l) (sym c.as_slice.ensures) c.requires in
    let is : placement_in demands c.args.deps.now order ≡ Ok c.in-Ok.placement.parts = c.in-Ok.ensures.placed in
    λ i d lt. (parts_placed demands (all_edges c.args.deps.now) (length demands) order c.in-Ok.placement.parts few is i d lt).stage
