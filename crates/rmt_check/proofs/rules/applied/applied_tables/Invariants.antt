use Rattle.std.proofs.Common.{◌≡◌, ◌++◌, map, drop}
use Rattle.std.specs.Prelude.{filter_map}
use Rattle.rmt_check.specs.Parts.{NodeText}
use Rattle.rmt_check.specs.Names.{applied}
use Rattle.rmt_check.proofs.rules.applied.applied_tables.Given as goal

abbrev pub invariant-loop-node : goal.invariant-loop-node
invariant-loop-node l = map (λ t. t.now) l.tables.items ++ filter_map (λ (n : NodeText). applied n.what) (drop l.node-index l.node-items) ≡ filter_map (λ (n : NodeText). applied n.what) l.node-items
