use Rattle.std.proofs.Common.{◌≡◌, map, take}
use Rattle.rmt_pack.specs.Placements.{what_format}
use Rattle.rmt_filling.specs.Types.{Node}
use Rattle.rmt_filling.proofs.formats.formats_of.Given as goal

-- the formats of the nodes so far
abbrev pub invariant-loop-node : goal.invariant-loop-node
invariant-loop-node l = l.formats ≡ map (λ (node : Node). what_format l.program node.what) (take l.node-index l.program.nodes)
