-- The names so far, and those of the nodes that are left, are all.
use Rattle.std.proofs.Common.{◌≡◌, ◌++◌, drop}
use Rattle.std.specs.List.{flat_map}
use Rattle.rmt_core.specs.CompileText.{chain_part}
use Rattle.rmt_core.proofs.made_lines.add_chain.Given as goal

abbrev pub invariant-loop-node : goal.invariant-loop-node
invariant-loop-node l = l.text.items ++ flat_map (chain_part l.program) (drop l.node-index l.nodes) ≡ l.initial.text.items ++ flat_map (chain_part l.program) l.nodes
