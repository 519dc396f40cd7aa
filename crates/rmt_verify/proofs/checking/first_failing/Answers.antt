use Rattle.std.proofs.Common.{List, refl, subst, arith}
use Rattle.rmt_refine.specs.Units.{UnitsCarried}
use Rattle.rmt_verify.specs.ParserMade.{IsMadeOf}
use Rattle.rmt_verify.specs.Types.{Join, Part}
use Rattle.rmt_verify.proofs.CheckLaws.{fails_first, made_seen, opposed, units_seen}
use Rattle.rmt_verify.proofs.checking.first_failing.Goals as goal

pub returns-then-not-branch-clause-exact : goal.returns-then-not-branch-clause-exact
returns-then-not-branch-clause-exact c = λ lists. fails_first c.args.program.now lists c.args.config.now c.args.map.now c.args.map.now.joins c.args.map.now.map.placement.parts c.args.map.now.map.starts refl refl refl 1 (omega arith) (λ lt. absurd (omega (arith, lt))) (λ lt. absurd (omega (arith, lt))) (λ lt. absurd (omega (arith, lt))) (λ lt. absurd (omega (arith, lt))) (λ lt. absurd (omega (arith, lt))) (λ lt. absurd (omega (arith, lt)))
    (λ h. opposed c.in_ok-places_hold.field-0 c.if-not-branch.true c.in_ok-places_hold.ensures.exact.1 (h.places refl))

pub returns-then-not-branch-2-clause-exact : goal.returns-then-not-branch-2-clause-exact
returns-then-not-branch-2-clause-exact c = λ lists. fails_first c.args.program.now lists c.args.config.now c.args.map.now c.as_slice.result.now c.args.map.now.map.placement.parts c.args.map.now.map.starts c.as_slice.ensures refl refl 2 (omega arith)
    (λ lt. c.in_ok-places_hold.ensures.exact.0 c.if-not-branch.false) (λ lt. absurd (omega (arith, lt))) (λ lt. absurd (omega (arith, lt))) (λ lt. absurd (omega (arith, lt))) (λ lt. absurd (omega (arith, lt))) (λ lt. absurd (omega (arith, lt)))
    (λ h. opposed c.in_ok-parser_holds.field-0 c.if-not-branch-2.true c.in_ok-parser_holds.ensures.exact.1 (made_seen c.args.program.now lists c.args.config.now c.args.map.now c.as_slice.result.now c.args.map.now.map.placement.parts c.args.map.now.map.starts c.as_slice.ensures refl refl (h.parser refl)))

pub returns-then-not-branch-3-clause-exact : goal.returns-then-not-branch-3-clause-exact
returns-then-not-branch-3-clause-exact c = λ lists. fails_first c.args.program.now lists c.args.config.now c.args.map.now c.as_slice.result.now c.as_slice-parts.result.now c.as_slice-starts.result.now c.as_slice.ensures c.as_slice-parts.ensures c.as_slice-starts.ensures 3 (omega arith)
    (λ lt. c.in_ok-places_hold.ensures.exact.0 c.if-not-branch.false) (λ lt. c.in_ok-parser_holds.ensures.exact.0 c.if-not-branch-2.false) (λ lt. absurd (omega (arith, lt))) (λ lt. absurd (omega (arith, lt))) (λ lt. absurd (omega (arith, lt))) (λ lt. absurd (omega (arith, lt)))
    (λ h. opposed c.in_ok-units_hold.field-0 c.if-not-branch-3.true c.in_ok-units_hold.ensures.exact.1 (units_seen c.args.program.now lists c.args.config.now c.args.map.now c.as_slice.result.now c.as_slice-parts.result.now c.as_slice-starts.result.now c.as_slice.ensures c.as_slice-parts.ensures c.as_slice-starts.ensures (h.units refl)))

pub returns-clause-exact : goal.returns-clause-exact
returns-clause-exact c =
    let p = c.args.program.now in
    let m = c.args.map.now in
    let config = c.args.config.now in
    record {
      places = c.in_ok-places_hold.ensures.exact.0 c.if-not-branch.false;
      parser = subst (λ (js : List Join). IsMadeOf p m.map.places js config.parser) c.as_slice.ensures (c.in_ok-parser_holds.ensures.exact.0 c.if-not-branch-2.false);
      agrees = c.in_ok-parser_holds.ensures.agrees c.if-not-branch-2.false;
      units =
          subst (λ (xs : List Part). UnitsCarried p m.map.places xs m.map.starts config) c.as_slice-parts.ensures
          (subst (λ xs. UnitsCarried p m.map.places c.as_slice-parts.result.now xs config) c.as_slice-starts.ensures (c.in_ok-units_hold.ensures.exact.0 c.if-not-branch-3.false));
    }
