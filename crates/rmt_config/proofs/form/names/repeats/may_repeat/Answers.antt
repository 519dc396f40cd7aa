use Rattle.std.proofs.Common.{◌≡◌, ℕ, List, [], true, ap, ◌∙◌, subst}
use Rattle.std.specs.List.{All, filter}
use Rattle.std.proofs.lemmas.Result.{IfOk-weaker}
use Rattle.rmt_config.specs.Marks.{is_marked}
use Rattle.rmt_config.specs.Order.{are_new}
use Rattle.rmt_config.proofs.RepeatLaws.{new-kept}
use Rattle.rmt_config.proofs.form.names.repeats.may_repeat.Goals as goal

pub returns : goal.returns
returns c =
    let words = c.in_ok-words.words.items in
    let marked = subst (λ (ns : List ℕ). All (λ n. is_marked words n ≡ true) ns) c.as_slice.ensures.value c.in_ok-words.ensures.marked in
    IfOk-weaker c.marked.result _ _ (λ found e.
    ap (are_new []) (e ∙ ap (λ (ws : List ℕ). filter (is_marked ws) c.args.numbers.now) c.as_slice-2.ensures.value)
    ∙ new-kept (is_marked words) c.in_ok-again.again.items c.args.numbers.now c.in_ok-again.ensures marked)
    c.marked.ensures
