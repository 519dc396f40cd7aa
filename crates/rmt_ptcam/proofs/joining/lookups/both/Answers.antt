use Rattle.std.proofs.Common.{List, ℕ, map, ap, ◌∙◌}
use Rattle.rmt_config.specs.Parser.{high_bytes}
use Rattle.rmt_ptcam.specs.Words.{byte_of_both}
use Rattle.rmt_ptcam.proofs.LookupLaws.{four_are}
use Rattle.rmt_ptcam.proofs.joining.lookups.both.Goals as goal

pub returns : goal.returns
returns c =
    let f = byte_of_both c.args.here.now c.args.bytes c.args.there.now c.args.x c.args.y in
    c.word_of.ensures
    ∙ four_are (map f c.args.to.now) c.byte_over_both.result c.byte_over_both-2.result c.byte_over_both-3.result c.byte_over_both-4.result c.byte_over_both.ensures c.byte_over_both-2.ensures c.byte_over_both-3.ensures c.byte_over_both-4.ensures
    ∙ ap (λ (to : List ℕ). high_bytes (map f to)) c.requires
