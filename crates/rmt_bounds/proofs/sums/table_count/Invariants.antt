use Rattle.std.proofs.Common.{◌≡◌, ◌≤◌, take}
use Rattle.std.specs.Prelude.{count_by}
use Rattle.rmt_ast.specs.declared.program.Node.{Node}
use Rattle.rmt_pack.specs.Placements.{is_table}
use Rattle.rmt_bounds.proofs.sums.table_count.Given as goal

abbrev pub invariant-loop-node : goal.invariant-loop-node
invariant-loop-node l = record {
  value : l.count ≡ count_by (λ (x : Node). is_table x.what) (take l.node-index l.nodes);
  small : l.count ≤ l.node-index;
}
