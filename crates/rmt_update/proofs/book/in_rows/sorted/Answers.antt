use Rattle.std.proofs.Common.{subst, IsPermutation}
use Rattle.std.proofs.lemmas.List.Sorted.{IsNonDecreasingBy-from_sort}
use Rattle.rmt_update.proofs.book.in_rows.sorted.Goals as goal

pub returns-clause-same : goal.returns-clause-same
returns-clause-same c = subst (λ xs. IsPermutation xs c.sort_unstable.new.self.items) c.in_ok-sorted.ensures.items c.sort_unstable.ensures.permutation

pub returns-clause-sorted : goal.returns-clause-sorted
returns-clause-sorted c = IsNonDecreasingBy-from_sort (λ n. n) _ c.sort_unstable.ensures.sorted
