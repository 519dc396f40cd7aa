use Rattle.std.proofs.Common.{sym, ◌∙◌}
use Rattle.rmt_ptcam.proofs.TestLaws.{mask_at_test}
use Rattle.rmt_ptcam.proofs.joining.in_place.mask_at.Goals as goal

pub returns : goal.returns
returns c = c.byte_at.ensures ∙ sym (mask_at_test c.args.here.now c.args.entry.now c.args.offset)
