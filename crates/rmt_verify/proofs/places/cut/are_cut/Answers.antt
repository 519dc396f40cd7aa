use Rattle.rmt_verify.proofs.PlaceLaws.{cut_zip}
use Rattle.rmt_verify.proofs.places.cut.are_cut.Goals as goal

pub returns : goal.returns
returns c =
    let same = cut_zip c.args.fields.now c.args.places.now in
    (λ yes. same.0 (c.all_match.ensures.0 yes), λ all. c.all_match.ensures.1 (same.1 all))
