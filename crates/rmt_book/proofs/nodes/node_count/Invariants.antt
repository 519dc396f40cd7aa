use Rattle.std.proofs.Common.{◌≡◌, ◌≤◌, ◌+◌, drop, max}
use Rattle.std.specs.Prelude.{fold}
use Rattle.rmt_config.specs.NamesForm.{node_count_of}
use Rattle.rmt_config.specs.TableForm.{Placed, node_of, placed_from}
use Rattle.rmt_book.proofs.nodes.node_count.Given as goal

-- the nodes so far, and then over the other stages
abbrev pub invariant-loop-stage : goal.invariant-loop-stage
invariant-loop-stage l = record {
  folded : fold (λ n (p : Placed). max n (node_of p.unit + 1)) l.nodes (placed_from l.stage-index (drop l.stage-index l.config.stages)) ≡ node_count_of l.config;
  few : l.nodes ≤ 256;
}
