use Rattle.std.proofs.Common.{◌≡◌, ◌++◌, List, map, take}
use Rattle.std.specs.Prelude.{filter}
use Rattle.rmt_bits.specs.declared.lane.Lane.{Lane}
use Rattle.rmt_ast.specs.declared.program.Program.{Program}
use Rattle.rmt_deps.specs.Edges.{depends, edge}
use Rattle.rmt_deps.specs.Facts.{AreFacts}
use Rattle.rmt_deps.proofs.edges.push_between.Given as goal

-- the edges of the kinds so far stand behind the others
abbrev pub invariant-loop-kind : goal.invariant-loop-kind
invariant-loop-kind l =
    (p : Program) (places : List (List Lane)) → AreFacts p places l.from l.first → AreFacts p places l.to l.second
    → l.edges ≡ l.initial.edges ++ map (edge l.from l.to) (filter (λ k. depends p places k l.from l.to) (take l.kind-index l.kinds))
