use Rattle.std.proofs.Common.{◌≡◌, ℕ, ◌+◌, ◌<◌, ◌++◌, ◌∷◌, [], List, length, get_or, true, sym, ap, ◌∙◌, subst, below_more}
use Rattle.std.specs.Prelude.{Contains}
use Rattle.std.proofs.lemmas.Bool.{false≢true}
use Rattle.std.proofs.lemmas.List.{with_items_is}
use Rattle.std.proofs.lemmas.List.Elements.{Contains-append_left, Contains-push}
use Rattle.rmt_config.specs.Marks.{is_marked}
use Rattle.rmt_config.proofs.RepeatLaws.{repeats-more}
use Rattle.rmt_config.proofs.form.names.repeats.met_again.Goals as goal
use Rattle.rmt_config.proofs.form.names.repeats.met_again.Goals.{then-is_marked+in_ok-push, else-is_marked}

pub loop-number-preserved : goal.loop-number-preserved
loop-number-preserved c =
    let ns = c.args.numbers.now in
    let i = c.loop-number.number-index in
    let n = get_or ns i 0 in
    let old = c.loop-number.again.items in
    let new = c.if-is_marked.again.items in
    let was = c.loop-number.invariant in
    let marked_is : c.is_marked.result ≡ is_marked c.loop-number.marks.items n =
    c.is_marked.ensures ∙ ap (λ (ws : List ℕ). is_marked ws n) c.as_slice.ensures.value in
    elim c.if-is_marked.branch [
      | then-is_marked+in_ok-push w ↦
          let marks : c.if-is_marked.marks.items ≡ c.loop-number.marks.items = ap (λ v. v.items) w.marks-is in
          let again : new ≡ old ++ n ∷ [] = ap (λ v. v.items) w.again-is ∙ w.in_ok-push.ensures.items in
          record {
            some = subst (λ (ws : List ℕ). 0 < length ws) (sym marks) was.some;
            marked = subst (λ (ws : List ℕ). (k : ℕ) → k < i + 1 → is_marked ws (get_or ns k 0) ≡ true) (sym marks)
                (below_more _ _ was.marked (sym marked_is ∙ w.if-is_marked.true));
            again = repeats-more ns old new i (λ x h. subst (λ (xs : List ℕ). Contains xs x) (sym again) (Contains-append_left old (n ∷ []) x h))
                (λ k lt e. subst (λ (xs : List ℕ). Contains xs n) (sym again) (Contains-push old n)) was.again;
          }
      | else-is_marked w ↦
          let marks : c.if-is_marked.marks.items ≡ w.mark.new.words =
          ap (λ v. v.items) w.marks-is ∙ with_items_is c.loop-number.marks w.mark.new.words (w.mark.ensures.len ∙ w.as_mut_slice.ensures.len) in
          let again : new ≡ old = ap (λ v. v.items) w.again-is in
          let value = w.as_mut_slice.ensures.value in
          record {
            some = subst (λ (ws : List ℕ). 0 < length ws) (sym marks)
                (subst (λ l. 0 < l) (sym (w.mark.ensures.len ∙ ap (λ (ws : List ℕ). length ws) value)) was.some);
            marked = subst (λ (ws : List ℕ). (k : ℕ) → k < i + 1 → is_marked ws (get_or ns k 0) ≡ true) (sym marks)
                (below_more _ _
                (λ k lt. w.mark.ensures.others (get_or ns k 0) (ap (λ (ws : List ℕ). is_marked ws (get_or ns k 0)) value ∙ was.marked k lt))
                w.mark.ensures.own);
            again = repeats-more ns old new i (λ x h. subst (λ (xs : List ℕ). Contains xs x) (sym again) h)
                (λ k lt e. absurd (false≢true (sym w.if-is_marked.false ∙ marked_is ∙ ap (is_marked c.loop-number.marks.items) (sym e) ∙ was.marked k lt))) was.again;
          }
    ]
