use Rattle.std.specs.List.{flat_map}
use Rattle.rmt_check.specs.Parts.{CaseText}
use Rattle.rmt_check.specs.Rules.{not_later, target_names}
use Rattle.rmt_check.proofs.Earliest.{found_in, join, targets_joined}
use Rattle.rmt_check.proofs.rules.later.early_target.Goals as goal

pub returns : goal.returns
returns g c =
    let early = not_later (g.N.Lookup.text c.args.names.now) c.args.number in
    let cases = found_in (flat_map (λ (x : CaseText). flat_map early (target_names x.target))) c.earliest_of.ensures c.as_slice.ensures in
    let other = found_in (flat_map early) c.earliest_of-2.ensures c.target_names.ensures in
    targets_joined early c.args.header.now _ (join c.earlier.ensures.value cases other).is
