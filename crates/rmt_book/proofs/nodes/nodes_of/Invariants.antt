use Rattle.std.proofs.Common.{◌≡◌, ◌≤◌, ◌+◌, drop, max}
use Rattle.std.specs.Prelude.{fold}
use Rattle.rmt_config.specs.declared.config.Unit.{Unit}
use Rattle.rmt_config.specs.TableForm.{node_of}
use Rattle.rmt_book.proofs.nodes.nodes_of.Given as goal

-- the nodes so far, and then over the other units
abbrev pub invariant-loop-unit : goal.invariant-loop-unit
invariant-loop-unit l = record {
  folded : fold (λ n (u : Unit). max n (node_of u + 1)) l.nodes (drop l.unit-index l.units) ≡ fold (λ n (u : Unit). max n (node_of u + 1)) l.fn.nodes l.units;
  few : l.nodes ≤ 256;
}
