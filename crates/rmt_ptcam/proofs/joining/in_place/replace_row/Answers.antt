use Rattle.std.proofs.Common.{◌≡◌, ◌+◌, ◌++◌, List, ap, drop, sym, take, ◌∙◌}
use Rattle.std.proofs.lemmas.Iterator.{items_from_drains}
use Rattle.std.proofs.lemmas.Iterator.Adapters.{YieldsList-from_vec}
use Rattle.std.proofs.lemmas.List.{map-id}
use Rattle.rmt_ptcam.specs.Joining.{Row}
use Rattle.rmt_ptcam.proofs.joining.in_place.replace_row.Goals as goal

pub returns : goal.returns
returns c =
    let rows : List Row = c.args.rows.now.items in
    let new = c.in_ok-splice.ensures.items in
    let given = new.2 in
    let run = new.3 in
    let same : new.1 ≡ c.args.others.items =
    sym (map-id new.1) ∙ items_from_drains new.1 (run.1.0, run.1.1, λ _. (run.0, run.1.2)) (YieldsList-from_vec c.args.others.items given.0 (given.1 ∙ c.args.others.ok.0)) in
    new.4 ∙ ap (λ (xs : List Row). take c.args.at rows ++ (xs ++ drop (c.args.at + 1) rows)) same
