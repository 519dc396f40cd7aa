use Rattle.std.proofs.Common.{map}
use Rattle.rmt_ast.specs.declared.names.TableName.{TableName}
use Rattle.rmt_config.proofs.NameRuleLaws.{rise-all}
use Rattle.rmt_config.proofs.form.names.alone.nodes_rise.Goals as goal

pub loop-table-init : goal.loop-table-init
loop-table-init c = rise-all (map (λ (t : TableName). t.node) c.args.tables.now)
