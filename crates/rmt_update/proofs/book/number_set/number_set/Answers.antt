use Rattle.std.proofs.Common.{◌≡◌, ℕ, ◌||◌, ◌∷◌, [], Bool, true, false, List, cond, eqb, get_or, refl, sym, take, ap, ◌∙◌}
use Rattle.std.specs.BTreeSet.{contains}
use Rattle.std.specs.Ordering.{nat_cmp}
use Rattle.std.proofs.lemmas.List.{take_more}
use Rattle.std.proofs.lemmas.List.Folds.{list_any-append}
use Rattle.rmt_bits.specs.Members.{is_among}
use Rattle.rmt_config.proofs.OrderLaws.{same_number}
use Rattle.rmt_update.proofs.book.number_set.number_set.Goals as goal

either : (a b : Bool) → cond a true b ≡ (b || (a || false))
either true true = refl
either true false = refl
either false true = refl
either false false = refl

pub loop-number-preserved : goal.loop-number-preserved
loop-number-preserved c = λ n.
    let ns = c.args.numbers.now in
    let i = c.loop-number.number-index in
    let x = get_or ns i 0 in
    c.in_ok-insert.ensures.updates.0 n
    ∙ ap (λ b. cond b true (contains nat_cmp c.loop-number.set n)) (same_number x n)
    ∙ ap (cond (eqb x n) true) (c.loop-number.invariant n)
    ∙ either (eqb x n) (is_among (take i ns) n)
    ∙ sym (ap (λ (ms : List ℕ). is_among ms n) (take_more ns i 0 c.loop-number-test.true) ∙ list_any-append (λ m. eqb m n) (take i ns) (x ∷ []))
