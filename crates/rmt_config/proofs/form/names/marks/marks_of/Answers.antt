use Rattle.std.proofs.Common.{◌≡◌, ℕ, List, ◌<◌, length, get_or, true, sym, subst, ap, ◌∙◌, below_more, arith}
use Rattle.std.proofs.lemmas.List.{get_or_default, with_items_is}
use Rattle.rmt_config.specs.Marks.{is_marked}
use Rattle.rmt_config.proofs.form.names.marks.marks_of.Goals as goal

pub loop-number-preserved : goal.loop-number-preserved
loop-number-preserved c =
    let ns = c.args.numbers.now in
    let new = c.mark.new.words in
    let was = c.loop-number.invariant in
    let same = with_items_is c.loop-number.words new (c.mark.ensures.len ∙ c.as_mut_slice.ensures.len) in
    let value = c.as_mut_slice.ensures.value in
    let more = below_more (λ k. is_marked new (get_or ns k 0) ≡ true) c.loop-number.number-index
    (λ k lt. c.mark.ensures.others (get_or ns k 0) (ap (λ (words : List ℕ). is_marked words (get_or ns k 0)) value ∙ was.marked k lt)) c.mark.ensures.own in
    record {
      some = subst (λ (words : List ℕ). 0 < length words) (sym same) (omega (arith, c.mark.ensures.len, ap (λ (words : List ℕ). length words) value, was.some));
      marked = λ k lt. subst (λ (words : List ℕ). is_marked words (get_or ns k 0) ≡ true) (sym same) (more k lt);
    }

pub returns-clause-some : goal.returns-clause-some
returns-clause-some c = c.loop-number.invariant.some

pub returns-clause-marked : goal.returns-clause-marked
returns-clause-marked c k d lt =
    let ns = c.args.numbers.now in
    ap (is_marked c.loop-number.words.items) (get_or_default ns k d 0 lt) ∙ c.loop-number.invariant.marked k (omega (arith, lt, c.loop-number-test.false))
