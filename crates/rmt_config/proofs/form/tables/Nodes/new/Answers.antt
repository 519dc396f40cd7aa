use Rattle.rmt_config.proofs.TableLaws.{first_known}
use Rattle.rmt_config.proofs.form.tables.Nodes.new.Goals as goal

pub returns : goal.returns
returns c = first_known c.units_by_node.result c.args.stages.now c.units_by_node.ensures.counted c.units_by_node.ensures.small
