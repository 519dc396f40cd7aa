use Rattle.std.proofs.Common.{map, ◌∙◌}
use Rattle.rmt_ptcam.specs.Words.{byte_at}
use Rattle.rmt_ptcam.proofs.LookupLaws.{four_are}
use Rattle.rmt_ptcam.proofs.joining.lookups.spread.Goals as goal

pub returns : goal.returns
returns c =
    c.word_of.ensures
    ∙ four_are (map (byte_at c.args.from.now c.args.word) c.args.to.now) c.byte_over.result c.byte_over-2.result c.byte_over-3.result c.byte_over-4.result c.byte_over.ensures c.byte_over-2.ensures c.byte_over-3.ensures c.byte_over-4.ensures
