use Rattle.std.proofs.Common.{◌≡◌, ◌-◌, option_map, drop, ap, sym, ◌∙◌, arith}
use Rattle.rmt_check.specs.Meaning.{fault_at}
use Rattle.rmt_check.specs.Rules.{broken, least_of}
use Rattle.rmt_check.proofs.MeansLaws.{kept_at, broken_there}
use Rattle.rmt_check.proofs.answer.check_rules.Goals as goal

pub returns-in-Some : goal.returns-in-Some
returns-in-Some g c =
    let found = sym c.in_ok-place.ensures ∙ c.in-Some.is in
    ap (option_map fault_at) (c.loop-code.invariant ∙ broken_there (g.N.Lookup.text c.args.names.now) c.loop-code.code c.loop-code.auto.code c.loop-code-test.true c.in-Some.place found)

pub loop-code-preserved : goal.loop-code-preserved
loop-code-preserved g c =
    let none = sym c.in_ok-place.ensures ∙ c.in_default.is in
    c.loop-code.invariant ∙ kept_at (g.N.Lookup.text c.args.names.now) c.loop-code.code c.loop-code.auto.code c.loop-code-test.true none

pub returns : goal.returns
returns g c =
    let last : c.loop-code.code - 5 ≡ 17 = let most = c.loop-code.auto.code-end in let past = c.loop-code-test.false in grind arith in
    c.loop-code.invariant ∙ ap (λ n. least_of (drop n (broken (g.N.Lookup.text c.args.names.now)))) last
