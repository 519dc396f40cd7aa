use Rattle.rmt_entries.proofs.NamedLaws.{place_of_action}
use Rattle.rmt_entries.proofs.line_table.TableNameLineTable.action.Goals as goal

pub returns-clause-number : goal.returns-clause-number
returns-clause-number c = cc (c.place_of.ensures.place, c.as_slice.ensures, place_of_action c.args.name.now c.args.self.now.actions)
