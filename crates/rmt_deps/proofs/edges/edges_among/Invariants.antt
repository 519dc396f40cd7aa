use Rattle.std.proofs.Common.{◌≡◌, List}
use Rattle.std.specs.List.{flat_map, range_with_len}
use Rattle.rmt_bits.specs.declared.lane.Lane.{Lane}
use Rattle.rmt_ast.specs.declared.program.Program.{Program}
use Rattle.rmt_deps.specs.Edges.{edges_from}
use Rattle.rmt_deps.specs.Facts.{AreAllFacts}
use Rattle.rmt_deps.proofs.edges.edges_among.Given as goal

-- the edges from the nodes so far
abbrev pub invariant-loop-from : goal.invariant-loop-from
invariant-loop-from l =
    (p : Program) (places : List (List Lane)) → AreAllFacts p places l.nodes → l.edges ≡ flat_map (edges_from p places l.kinds) (range_with_len 0 l.from)
