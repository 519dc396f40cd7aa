use Rattle.rmt_config.proofs.ExactCellLaws.{Leads}
use Rattle.rmt_config.proofs.form.names.exact_part.put_short_keys.Given as goal

abbrev pub invariant-loop-number : goal.invariant-loop-number
invariant-loop-number l = Leads l.cells l.whole l.fn.kept.items l.number-index l.kept.items
