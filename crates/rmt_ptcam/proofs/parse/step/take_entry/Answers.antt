use Rattle.std.proofs.Common.{◌≡◌, ◌+◌, ◌-◌, List, take, drop, fold, ap, ◌∙◌, arith}
use Rattle.rmt_ptcam.specs.Types.{Extract}
use Rattle.rmt_config.specs.Parser.{extracted}
use Rattle.rmt_ptcam.proofs.ParseLaws.{step_with_tail}
use Rattle.rmt_ptcam.proofs.parse.step.take_entry.Goals as goal

pub returns-in-Some-clause-step : goal.returns-in-Some-clause-step
returns-in-Some-clause-step c = λ goes.
    let e = c.args.entry.now in
    let cut : c.args.cursor + e.need - c.args.cursor ≡ e.need = omega arith in
    step_with_tail goes c.args.frame.now e c.in-Some.tail c.args.tail c.args.vector.now c.extract_all.new.vector c.args.tails.now c.past_tail.new.tails c.args.cursor (c.args.cursor + c.from.result)
    (c.args.cursor + e.need - c.args.cursor) c.past_tail.result c.if-frame-end.false c.in-Some.is cut (ap (λ n. c.args.cursor + n) c.from.ensures) (c.extract_all.ensures ∙ ap (λ (xs : List Extract). fold (extracted (take (c.args.cursor + e.need - c.args.cursor) (drop c.args.cursor c.args.frame.now))) c.args.vector.now xs) c.as_slice.ensures)
    (c.past_tail.ensures.step goes c.extract_all.new.vector)
