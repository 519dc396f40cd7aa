use Rattle.std.proofs.Common.{List, ap, ◌∙◌}
use Rattle.std.specs.List.{enumerate_from, flat_map}
use Rattle.rmt_check.specs.Parts.{HeaderText, Source}
use Rattle.rmt_check.specs.Rules.{early_targets}
use Rattle.rmt_check.proofs.Earliest.{earliest_more_numbered, earliest_all_numbered, found_in}
use Rattle.rmt_check.proofs.rules.later.target_not_later.Goals as goal

pub loop-number-preserved : goal.loop-number-preserved
loop-number-preserved g c =
    earliest_more_numbered _ _ _ _ _ _ _ c.loop-number-test.true c.index-headers-number.is c.loop-number.invariant c.early_target.ensures c.earlier-first.ensures.value

pub returns : goal.returns
returns g c =
    let all = earliest_all_numbered _ _ _ _ c.loop-number-test.false c.loop-number.invariant in
    (found_in (λ (hs : List HeaderText). flat_map (early_targets (g.N.Lookup.text c.args.names.now)) (enumerate_from 0 hs)) all (c.as_slice-headers.ensures ∙ ap (λ (t : Source). t.headers) c.source.ensures)).is
