use Rattle.rmt_check.proofs.Earliest.{earliest_more_numbered, earliest_all_numbered}
use Rattle.rmt_check.proofs.SeenNames.{again, seen_again, keys_more}
use Rattle.rmt_check.proofs.rules.repeats.repeated_in.Goals as goal

pub loop-mark-preserved : goal.loop-mark-preserved
loop-mark-preserved g c =
    let eq = g.K.PartialEq.eq in
    let lt = c.loop-mark-test.true in
    let at = c.mark-item.is in
    let one = seen_again eq _ _ _ lt at _ _ _ (c.loop-mark.invariant.keys_so_far _) c.in_ok-is_new.ensures.added c.place_when.ensures in
    record {
      places_so_far = earliest_more_numbered (again (λ x y. eq x.0 y.0) (λ x. x.1) c.args.marks.now) _ _ _ _ _ _ lt at c.loop-mark.invariant.places_so_far one c.earlier-first.ensures.value;
      keys_so_far = keys_more eq _ _ _ lt at g.met.K.PartialEq.laws.symm _ _ c.loop-mark.invariant.keys_so_far c.in_ok-is_new.ensures.updates.0;
    }

pub returns : goal.returns
returns g c =
    earliest_all_numbered (again (λ x y. g.K.PartialEq.eq x.0 y.0) (λ x. x.1) c.args.marks.now) _ _ _ c.loop-mark-test.false c.loop-mark.invariant.places_so_far
