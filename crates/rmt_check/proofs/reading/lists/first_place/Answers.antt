use Rattle.std.proofs.Common.{◌<◌, ◌≤◌, length, sym, ap, ◌∙◌, arith}
use Rattle.rmt_check.specs.Reading.{place_at}
use Rattle.rmt_check.proofs.ReadingLaws.{first_some, first_none, first_over}
use Rattle.rmt_check.proofs.reading.lists.first_place.Goals as goal

pub returns-in-Some : goal.returns-in-Some
returns-in-Some c =
    let ts = c.args.trees.now in
    let within : c.loop-at.at < length ts = grind arith in
    let here = sym (c.place_at.ensures ∙ ap (place_at c.args.wanted) c.beyond.ensures) ∙ c.in-Some.is in
    first_some (place_at c.args.wanted) ts c.loop-at.at _ _ within c.loop-at.invariant here

pub loop-at-preserved : goal.loop-at-preserved
loop-at-preserved c =
    let ts = c.args.trees.now in
    let within : c.loop-at.at < length ts = grind arith in
    let here = sym (c.place_at.ensures ∙ ap (place_at c.args.wanted) c.beyond.ensures) ∙ c.in_default.is in
    first_none (place_at c.args.wanted) ts c.loop-at.at _ within c.loop-at.invariant here

pub returns : goal.returns
returns c =
    let ts = c.args.trees.now in
    let past : length ts ≤ c.loop-at.at = grind arith in
    first_over (place_at c.args.wanted) ts c.loop-at.at _ past c.loop-at.invariant
