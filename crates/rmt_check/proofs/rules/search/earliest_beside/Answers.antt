use Rattle.std.proofs.Common.{◌<◌, ◌≤◌, length, ap₂, sym, ◌∙◌, arith}
use Rattle.std.specs.List.{zip}
use Rattle.std.proofs.lemmas.Slice.Zip.{length-zip, get_or-zip}
use Rattle.rmt_check.proofs.Earliest.{earliest_more_at, earliest_all}
use Rattle.rmt_check.proofs.rules.search.earliest_beside.Goals as goal

pub loop-number-preserved : goal.loop-number-preserved
loop-number-preserved g c =
    let xs = c.args.items.now in
    let ys = c.args.others.now in
    let i = c.loop-number.number in
    let left : i < length xs = grind arith in
    let right : i < length ys = grind arith in
    let within : i < length (zip xs ys) = rw (length-zip xs ys) (grind arith) in
    let at = ap₂ (λ x y. (x, y)) c.index-items-number.is c.index-others-number.is ∙ sym (get_or-zip xs ys i (c.index-items-number.result, c.index-others-number.result) left right) in
    earliest_more_at _ _ _ _ _ _ _ within at c.loop-number.invariant c.at.ensures c.earlier-first.ensures.value

pub returns : goal.returns
returns g c =
    let xs = c.args.items.now in
    let ys = c.args.others.now in
    let past : length (zip xs ys) ≤ c.loop-number.number = rw (length-zip xs ys) (grind arith) in
    earliest_all _ _ (zip xs ys) c.loop-number.number past c.loop-number.invariant
