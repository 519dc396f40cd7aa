use Rattle.std.proofs.Common.{◌≡◌, ◌≤◌, ◌*◌, take}
use Rattle.std.specs.Prelude.{sum_by}
use Rattle.rmt_ast.specs.declared.program.Node.{Node}
use Rattle.rmt_pack.specs.Placements.{what_format}
use Rattle.rmt_bounds.proofs.sums.block_sums.Given as goal

abbrev pub invariant-loop-node : goal.invariant-loop-node
invariant-loop-node l = record {
  sram : l.sram ≡ sum_by (λ (x : Node). (what_format l.program x.what).quanta * (what_format l.program x.what).sram) (take l.node-index l.nodes);
  tcam : l.tcam ≡ sum_by (λ (x : Node). (what_format l.program x.what).quanta * (what_format l.program x.what).tcam) (take l.node-index l.nodes);
  few_sram : l.sram ≤ l.node-index * 54272;
  few_tcam : l.tcam ≤ l.node-index * 54272;
}
