use Rattle.std.proofs.Common.{◌∙◌, ap, sym}
use Rattle.std.specs.Prelude.{option_map}
use Rattle.rmt_switch.specs.LinesSoFar.{told}
use Rattle.rmt_switch.proofs.DistinctLaws.{line_fits}
use Rattle.rmt_switch.proofs.group_text.add_line.Goals as goal

pub put-requires-clause-number : goal.put-requires-clause-number
put-requires-clause-number c =
    (line_fits c.args.line.now (told c.in-Some.group) (sym c.in-Ok.ensures ∙ ap (option_map told) c.in-Some.is)).number

pub put-requires-clause-ports : goal.put-requires-clause-ports
put-requires-clause-ports c =
    (line_fits c.args.line.now (told c.in-Some.group) (sym c.in-Ok.ensures ∙ ap (option_map told) c.in-Some.is)).ports
