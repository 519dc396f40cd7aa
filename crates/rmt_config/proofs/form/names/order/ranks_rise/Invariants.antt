use Rattle.std.proofs.Common.{◌≡◌, drop}
use Rattle.rmt_ast.specs.Naming.{stands_first}
use Rattle.rmt_config.specs.NamesForm.{each_later}
use Rattle.rmt_config.proofs.form.names.order.ranks_rise.Given as goal

abbrev pub invariant-loop-at : goal.invariant-loop-at
invariant-loop-at l = each_later stands_first (drop l.at l.ranks) ≡ each_later stands_first l.ranks
