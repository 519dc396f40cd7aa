use Rattle.std.proofs.Common.{◌++◌, ◌∷◌, [], ℕ, List, get_or, take, cond, sym, ap, ◌∙◌}
use Rattle.std.specs.List.{filter}
use Rattle.std.proofs.lemmas.List.{append-nil}
use Rattle.std.proofs.lemmas.List.Elements.{filter_more}
use Rattle.rmt_config.specs.Marks.{is_marked}
use Rattle.rmt_config.proofs.form.names.repeats.marked.Goals as goal
use Rattle.rmt_config.proofs.form.names.repeats.marked.Goals.{then-is_marked+in_ok-push, else-is_marked}

pub loop-number-preserved : goal.loop-number-preserved
loop-number-preserved c =
    let p = is_marked c.args.words.now in
    let ns = c.args.numbers.now in
    let i = c.loop-number.number-index in
    let n = get_or ns i 0 in
    let before = filter p (take i ns) in
    let more = filter_more p ns i 0 c.loop-number-test.true in
    elim c.if-is_marked.branch [
      | then-is_marked+in_ok-push w ↦
          ap (λ v. v.items) w.found-is ∙ w.in_ok-push.ensures.items ∙ ap (λ (xs : List ℕ). xs ++ n ∷ []) c.loop-number.invariant
          ∙ sym (more ∙ ap (λ b. before ++ cond b (n ∷ []) []) (sym c.is_marked.ensures ∙ w.if-is_marked.true))
      | else-is_marked w ↦
          ap (λ v. v.items) w.found-is ∙ c.loop-number.invariant
          ∙ sym (more ∙ ap (λ b. before ++ cond b (n ∷ []) []) (sym c.is_marked.ensures ∙ w.if-is_marked.false) ∙ append-nil before)
    ]
