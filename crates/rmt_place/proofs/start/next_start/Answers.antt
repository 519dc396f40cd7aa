use Rattle.std.proofs.Common.{ap, ◌∙◌, max, length, ◌++◌}
use Rattle.std.specs.List.{fold, flat_map}
use Rattle.rmt_place.specs.Starting.{asked_by}
use Rattle.rmt_place.proofs.StartLaws.{both_asked}
use Rattle.rmt_place.proofs.start.next_start.Goals as goal

pub returns-clause-value : goal.returns-clause-value
returns-clause-value c = λ parts m.
    let asked = asked_by c.args.starts.now parts (length c.args.starts.now) in
    c.asked_by_all.ensures.value parts m
    ∙ (ap (λ xs. fold max c.asked_by_all-start.result (flat_map asked xs)) c.as_slice-2.ensures
    ∙ (ap (λ s. fold max s (flat_map asked c.args.deps.now.word)) (c.asked_by_all-start.ensures.value parts m ∙ ap (λ xs. fold max c.behind_all-start.result (flat_map asked xs)) c.as_slice.ensures)
    ∙ (both_asked asked c.args.deps.now.field c.args.deps.now.word c.behind_all-start.result
    ∙ ap (λ s. fold max (max 0 s) (flat_map asked (c.args.deps.now.field ++ c.args.deps.now.word))) c.behind_all-start.ensures.value)))
