use Rattle.std.proofs.Common.{◌≡◌, ◌+◌, ◌∷◌, cond, List, drop, sym, ap, ◌∙◌}
use Rattle.std.proofs.lemmas.List.{at_drop_more, drop_all}
use Rattle.rmt_bits.specs.declared.groups.Group.{Group}
use Rattle.rmt_bits.specs.Grouping.{best_of, earlier}
use Rattle.rmt_plain.specs.Grouping.{place_for}
use Rattle.rmt_plain.proofs.matching.best_place.Goals as goal
use Rattle.rmt_plain.proofs.matching.best_place.Goals.{After-is_before}

-- the group at hand is the next one
next : (c : After-is_before) → best_of (place_for c.args.marks.now c.args.key.now c.args.state.now) (drop c.loop-group.group-index c.args.groups.now) c.loop-group.best
    ≡ cond c.is_before.result c.loop-group.best (best_of (place_for c.args.marks.now c.args.key.now c.args.state.now) (drop (c.loop-group.group-index + 1) c.args.groups.now)
    (earlier c.loop-group.best (place_for c.args.marks.now c.args.key.now c.args.state.now c.group-item.result)))
next c =
    let f = place_for c.args.marks.now c.args.key.now c.args.state.now in
    let gs = c.args.groups.now in
    let i = c.loop-group.group-index in
    let best = c.loop-group.best in
    at_drop_more (λ xs. best_of f xs best) gs i c.group-item.result c.loop-group-test.true
    ∙ ap (λ (g : Group). best_of f (g ∷ drop (i + 1) gs) best) (sym c.group-item.is)
    ∙ ap (λ b. cond b best (best_of f (drop (i + 1) gs) (earlier best (f c.group-item.result)))) (sym c.is_before.ensures)

pub returns-then-is_before : goal.returns-then-is_before
returns-then-is_before c =
    let f = place_for c.args.marks.now c.args.key.now c.args.state.now in
    let best = c.loop-group.best in
    let rest = best_of f (drop (c.loop-group.group-index + 1) c.args.groups.now) (earlier best (f c.group-item.result)) in
    sym (next (goal.at.returns-then-is_before c).After-is_before ∙ ap (λ b. cond b best rest) c.if-is_before.true) ∙ c.loop-group.invariant

pub loop-group-preserved : goal.loop-group-preserved
loop-group-preserved c =
    let f = place_for c.args.marks.now c.args.key.now c.args.state.now in
    let best = c.loop-group.best in
    let others = drop (c.loop-group.group-index + 1) c.args.groups.now in
    let rest = best_of f others (earlier best (f c.group-item.result)) in
    ap (best_of f others) (c.earlier-best.ensures ∙ ap (earlier best) c.in_ok-place_for.ensures)
    ∙ sym (next (goal.at.loop-group-preserved c).After-is_before ∙ ap (λ b. cond b best rest) c.if-is_before.false) ∙ c.loop-group.invariant

pub returns : goal.returns
returns c =
    let f = place_for c.args.marks.now c.args.key.now c.args.state.now in
    sym (ap (λ (gs : List Group). best_of f gs c.loop-group.best) (drop_all c.loop-group.group-index c.args.groups.now c.loop-group-test.false)) ∙ c.loop-group.invariant
