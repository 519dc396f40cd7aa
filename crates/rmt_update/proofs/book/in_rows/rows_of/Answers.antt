use Rattle.std.proofs.Common.{ℕ, List, length, map, subst, sym, ap, ◌∙◌, arith}
use Rattle.std.specs.Prelude.{count_by, nat_lt}
use Rattle.std.specs.List.Sorted.{IsNonDecreasingBy, IsPermutation}
use Rattle.std.proofs.lemmas.List.{length-map}
use Rattle.std.proofs.lemmas.List.Sorted.{length_permutation}
use Rattle.rmt_book.specs.Spots.{order_by}
use Rattle.rmt_update.proofs.FirstLaws.{rows-are}
use Rattle.rmt_update.proofs.book.in_rows.rows_of.Goals as goal

pub counts-requires-clause-sorted : goal.counts-requires-clause-sorted
counts-requires-clause-sorted c = subst (IsNonDecreasingBy (λ n. n)) (sym c.as_slice-3.ensures.value) c.in_ok-sorted.ensures.sorted

pub counts-requires-clause-few : goal.counts-requires-clause-few
counts-requires-clause-few c =
    let moved = length_permutation c.as_slice.result.now c.in_ok-sorted.sorted.items c.in_ok-sorted.ensures.same in
    let one = ap (λ (ns : List ℕ). length ns) c.as_slice.ensures.value in
    let two = ap (λ (ns : List ℕ). length ns) c.in_ok-orders.ensures.orders in
    let three = length-map c.args.entries.now (order_by c.args.kind) in
    let four = ap (λ (ns : List ℕ). length ns) c.as_slice-3.ensures.value in
    let few = c.requires.few in
    omega (arith, moved, one, two, three, four, few)

pub returns : goal.returns
returns c =
    let sorted = c.in_ok-sorted.sorted.items in
    let orders = c.in_ok-orders.orders.items in
    c.in_ok-rows.ensures ∙ ap (λ s. map (λ o. count_by (λ n. nat_lt n o) s) c.as_slice-2.result.now) c.as_slice-3.ensures.value
    ∙ ap (map (λ o. count_by (λ n. nat_lt n o) sorted)) c.as_slice-2.ensures.value
    ∙ rows-are c.args.kind c.args.entries.now orders sorted c.requires.kind c.in_ok-orders.ensures.orders c.in_ok-orders.ensures.ranks c.in_ok-orders.ensures.numbers
    (subst (λ xs. IsPermutation xs sorted) c.as_slice.ensures.value c.in_ok-sorted.ensures.same)
