use Rattle.std.proofs.Common.{◌≡◌, ℕ, ◌+◌, ◌<◌, ◌≤◌, ◌++◌, ◌∷◌, List, length, get_or, drop, sym, ap, subst, ◌∙◌, append_assoc}
use Rattle.std.proofs.lemmas.List.{append-nil, drop_all}
use Rattle.std.specs.List.{enumerate_from, flat_map}
use Rattle.rmt_config.specs.Types.{Stage}
use Rattle.rmt_config.specs.Rooms.{PartAt, parts_among}
use Rattle.rmt_config.specs.PartsTold.{parts_at}
use Rattle.rmt_config.proofs.form.names.part_list.parts_of.Goals as goal
use Rattle.rmt_config.proofs.RiseLaws.{one_off}

-- the parts among stages from a number on
abbrev among : ℕ → ℕ → List Stage → List PartAt
among node at stages = flat_map (λ (x : ℕ × Stage). parts_among node x.0 0 0 x.1.units) (enumerate_from at stages)

pub loop-at-preserved : goal.loop-at-preserved
loop-at-preserved c =
    let node = c.args.node in
    let at = c.loop-at.at in
    let stages = c.args.config.now.stages in
    let stage = c.stage-item.result in
    let before = parts_at c.loop-at.parts.items in
    let here = parts_among node at 0 0 stage.units in
    let rest = among node (at + 1) (drop (at + 1) stages) in
    let e = c.as_slice-stage-items.ensures in
    let lt = subst (λ (ss : List Stage). at < length ss) e c.loop-at-test.true in
    let is = c.stage-item.is ∙ ap (λ (ss : List Stage). get_or ss at stage) e in
    let step : before ++ among node at (drop at stages) ≡ before ++ (here ++ rest) =
    ap (λ (ss : List Stage). before ++ among node at ss) (one_off stages at stage lt ∙ ap (λ s. s ∷ drop (at + 1) stages) (sym is)) in
    ap (λ (ps : List PartAt). ps ++ rest) (c.in_ok-put_parts.ensures ∙ ap (λ units. before ++ parts_among node at 0 0 units) c.as_slice.ensures)
    ∙ append_assoc before here rest ∙ sym step ∙ c.loop-at.invariant

pub returns : goal.returns
returns c =
    let node = c.args.node in
    let at = c.loop-at.at in
    let stages = c.args.config.now.stages in
    let before = parts_at c.loop-at.parts.items in
    let none = drop_all at stages (subst (λ (ss : List Stage). length ss ≤ at) c.as_slice-stage-items.ensures c.loop-at-test.false) in
    sym (ap (λ (ss : List Stage). before ++ among node at ss) none ∙ append-nil before) ∙ c.loop-at.invariant
