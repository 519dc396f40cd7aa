use Rattle.rmt_verify.proofs.UnitLaws.{starts_zip}
use Rattle.rmt_verify.proofs.units.starts_are.Goals as goal

pub returns : goal.returns
returns c =
    let same = starts_zip c.args.stages.now c.args.starts.now in
    (λ yes. same.0 (c.all_match.ensures.0 yes), λ all. c.all_match.ensures.1 (same.1 all))
