use Rattle.std.proofs.Common.{◌≡◌, drop, map}
use Rattle.rmt_ast.specs.declared.names.TableName.{TableName}
use Rattle.rmt_ast.specs.NameRules.{rise}
use Rattle.rmt_config.specs.Order.{rises_from}
use Rattle.rmt_config.proofs.form.names.alone.nodes_rise.Given as goal

abbrev pub invariant-loop-table : goal.invariant-loop-table
invariant-loop-table l =
    rises_from l.least (map (λ (t : TableName). t.node) (drop l.table-index l.tables)) ≡ rise (map (λ (t : TableName). t.node) l.tables)
