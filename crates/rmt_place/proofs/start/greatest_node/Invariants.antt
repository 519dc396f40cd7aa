use Rattle.std.proofs.Common.{ℕ, ◌<◌, ◌≤◌, get_or}
use Rattle.rmt_pack.specs.declared.placement.Part.{Part}
use Rattle.rmt_place.proofs.start.greatest_node.Given as goal

abbrev pub invariant-loop-part : goal.invariant-loop-part
invariant-loop-part l = (k : ℕ) (d : Part) → k < l.part-index → (get_or l.parts k d).node ≤ l.most
