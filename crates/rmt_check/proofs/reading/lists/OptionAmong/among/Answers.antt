use Rattle.std.proofs.Common.{◌<◌, ◌≤◌, length, sym, ap, ◌∙◌, arith}
use Rattle.rmt_check.proofs.ReadingLaws.{first_some, first_none, first_over}
use Rattle.rmt_check.proofs.reading.lists.OptionAmong.among.Goals as goal

pub returns-in-Some : goal.returns-in-Some
returns-in-Some g c =
    let ts = c.args.trees.now in
    let within : c.loop-at.at < length ts = grind arith in
    let here = sym (c.in_ok-part.ensures ∙ ap g.T.Part.seen c.beyond.ensures) ∙ c.in-Some.is in
    first_some g.T.Part.seen ts c.loop-at.at _ _ within c.loop-at.invariant here

pub loop-at-preserved : goal.loop-at-preserved
loop-at-preserved g c =
    let ts = c.args.trees.now in
    let within : c.loop-at.at < length ts = grind arith in
    let here = sym (c.in_ok-part.ensures ∙ ap g.T.Part.seen c.beyond.ensures) ∙ c.in_default.is in
    first_none g.T.Part.seen ts c.loop-at.at _ within c.loop-at.invariant here

pub returns : goal.returns
returns g c =
    let ts = c.args.trees.now in
    let past : length ts ≤ c.loop-at.at = grind arith in
    first_over g.T.Part.seen ts c.loop-at.at _ past c.loop-at.invariant
