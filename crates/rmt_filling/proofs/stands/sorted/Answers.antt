use Rattle.std.proofs.Common.{rules, ap, sym, subst, ◌∙◌, IsPermutation}
use Rattle.std.proofs.lemmas.List.{take_all}
use Rattle.std.proofs.lemmas.List.Sorted.{IsNonDecreasingBy-from_sort_by_key}
use Rattle.rmt_filling.specs.Sorting.{order_by, placed_from}
use Rattle.rmt_filling.proofs.SortingLaws.{placed_more}
use Rattle.rmt_filling.proofs.stands.sorted.Goals as goal

pub loop-at-preserved : goal.loop-at-preserved
loop-at-preserved c =
    c.in_ok-push.ensures.items ∙ rw c.loop-at.invariant (sym (placed_more c.args.numbers.now c.loop-at.at 0 c.loop-at-test.true))

pub returns : goal.returns
returns c = record {
  same =
      subst (λ xs. IsPermutation xs c.sort_unstable_by_key.new.self.items)
      (c.loop-at.invariant ∙ ap (placed_from 0) (take_all c.loop-at.at c.args.numbers.now c.loop-at-test.false)) c.sort_unstable_by_key.ensures.permutation;
  sorted = IsNonDecreasingBy-from_sort_by_key order_by _ c.sort_unstable_by_key.ensures.sorted (λ a r q k. search rules);
}
