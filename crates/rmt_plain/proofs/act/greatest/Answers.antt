use Rattle.std.proofs.Common.{◌∙◌}
use Rattle.rmt_plain.proofs.WidthLaws.{ones-128}
use Rattle.rmt_plain.proofs.act.greatest.Goals as goal

pub returns : goal.returns
returns c = c.slice.ensures ∙ ones-128 c.args.width c.requires
