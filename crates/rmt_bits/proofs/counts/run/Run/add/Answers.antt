use Rattle.std.proofs.Common.{◌≡◌, ◌<◌, ◌∷◌, ◌++◌, ap, subst, sym, ◌∙◌, ◌≤◌, Result, List, ℕ, length, get_or, take, drop, rules}
use Rattle.std.specs.Prelude.{insert}
use Rattle.std.specs.Ordering.{nat_cmp}
use Rattle.std.specs.List.Sorted.{IsBinarySearchResult}
use Rattle.std.proofs.lemmas.Fn.{always_returns_same}
use Rattle.std.proofs.lemmas.Map.Lookups.{exact_unsigned}
use Rattle.rmt_bits.specs.declared.answer.Count.{Count}
use Rattle.rmt_bits.specs.Counting.{AreRising, BeginsWith, zero_count, with_count}
use Rattle.rmt_bits.proofs.CountLaws.{begins_here, with_count-here, with_count-there}
use Rattle.rmt_bits.proofs.counts.run.Run.add.Goals as goal
use Rattle.rmt_bits.proofs.counts.run.Run.add.Goals.{After-insert_count}

abbrev no_count : Count
no_count = record { entry = 0; packets = 0; bytes = 0 }

-- the counters with a new one at its place
put : (c : After-insert_count) → AreRising c.args.self.now → c.insert_count.new.counts.items ≡ with_count c.args.number c.args.self.now
put c rising =
    let n = c.args.number in
    let cs = c.args.self.now in
    let same = c.deref.ensures.value ∙ c.self.view_is in
    let found : IsBinarySearchResult (λ (x : Count). nat_cmp x.entry n) c.deref.result.now c.binary_search_by_key-found.result =
    c.binary_search_by_key-found.ensures.position (λ (x : Count). x.entry) (always_returns_same _ _ _ (λ a r q k. search rules)) in
    let said = subst (λ (xs : List Count). IsBinarySearchResult (λ (x : Count). nat_cmp x.entry n) xs c.binary_search_by_key-found.result) same found in
    c.insert_count.ensures.items
    ∙ ap (λ (xs : List Count). take c.in-Err.place xs ++ zero_count n ∷ drop c.in-Err.place xs) c.self.view_is
    ∙ with_count-here cs n c.in-Err.place rising (subst (λ (r : Result ℕ ℕ). IsBinarySearchResult (λ (x : Count). nat_cmp x.entry n) cs r) c.in-Err.is said)

pub returns-then-place-eq0 : goal.returns-then-place-eq0
returns-then-place-eq0 c = put (goal.at.returns-then-place-eq0 c).After-insert_count

pub returns-else-place-eq0 : goal.returns-else-place-eq0
returns-else-place-eq0 c = put (goal.at.returns-else-place-eq0 c).After-insert_count

pub returns-in_default : goal.returns-in_default
returns-in_default c = λ rising.
    let n = c.args.number in
    let cs = c.args.self.now in
    let same = c.deref.ensures.value ∙ c.self.view_is in
    let found = c.in_default.ensures.position (λ (x : Count). x.entry) (always_returns_same _ _ _ (λ a r q k. search rules)) in
    let at = c.in_default.field-0 in
    let own : (get_or c.deref.result.now at no_count).entry ≡ n = exact_unsigned (get_or c.deref.result.now at no_count).entry n (found no_count) in
    with_count-there cs n at no_count rising (subst (λ (xs : List Count). at < length xs) same c.in_default.ensures.bound)
    (subst (λ (xs : List Count). (get_or xs at no_count).entry ≡ n) same own)

pub invariant_of-self : goal.invariant_of-self
invariant_of-self c = (
  subst (λ n. 256 ≤ n) (sym c.insert_count.ensures.capacity) c.self.invariant.0,
  subst (λ (xs : List Count). BeginsWith c.args.number xs) (sym (c.insert_count.ensures.items ∙ ap (λ i. insert c.self.inside.counts.items i (zero_count c.args.number)) c.if-place-eq0.true)) (begins_here c.self.inside.counts.items (zero_count c.args.number)),
)
