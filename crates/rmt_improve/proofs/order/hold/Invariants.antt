use Rattle.std.proofs.Common.{◌≡◌, ◌<◌, ◌||◌, ℕ, false, get_or, length, take}
use Rattle.rmt_improve.specs.Steps.{is_held}
use Rattle.rmt_improve.proofs.order.hold.Given as goal

-- the marks by the edges so far
abbrev pub invariant-loop-edge : goal.invariant-loop-edge
invariant-loop-edge l = record {
  size : length l.held ≡ length l.initial.held;
  marks : (n : ℕ) → n < length l.taken → get_or l.held n false ≡ (get_or l.initial.held n false || is_held (take l.edge-index l.edges) l.taken n);
}
