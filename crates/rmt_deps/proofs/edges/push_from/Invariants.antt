use Rattle.std.proofs.Common.{◌≡◌, ◌++◌, ◌+◌, ◌-◌, List}
use Rattle.std.specs.List.{flat_map, range_with_len}
use Rattle.rmt_bits.specs.declared.lane.Lane.{Lane}
use Rattle.rmt_ast.specs.declared.program.Program.{Program}
use Rattle.rmt_deps.specs.Edges.{edges_between}
use Rattle.rmt_deps.specs.Facts.{AreAllFacts}
use Rattle.rmt_deps.proofs.edges.push_from.Given as goal

-- the edges to the nodes so far stand behind the others
abbrev pub invariant-loop-to : goal.invariant-loop-to
invariant-loop-to l =
    (p : Program) (places : List (List Lane)) → AreAllFacts p places l.nodes
    → l.edges ≡ l.initial.edges ++ flat_map (edges_between p places l.kinds l.from) (range_with_len (l.from + 1) (l.to - (l.from + 1)))
