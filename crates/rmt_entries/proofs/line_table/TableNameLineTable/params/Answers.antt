use Rattle.std.proofs.Common.{◌∙◌, sym}
use Rattle.rmt_entries.proofs.NamedLaws.{params_of_none}
use Rattle.rmt_entries.proofs.line_table.TableNameLineTable.params.Goals as goal

pub returns-in-None : goal.returns-in-None
returns-in-None c = c.as_slice-in-None.ensures ∙ sym (params_of_none c.args.self.now.actions c.args.action c.in-None.ensures.item)
