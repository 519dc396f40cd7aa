use Rattle.std.proofs.Common.{ap, ◌∙◌, arith}
use Rattle.std.proofs.lemmas.Grind.{common_steps}
use Rattle.rmt_check.specs.Names.{ident_names}
use Rattle.rmt_check.proofs.names.lists.lists_of.Goals as goal

pub loop-table-preserved : goal.loop-table-preserved
loop-table-preserved c = let names = c.in_ok-names_of.ensures ∙ ap ident_names c.listed.ensures in grind (arith, common_steps, names)
