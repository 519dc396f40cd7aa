use Rattle.std.proofs.Common.{ap, subst, ◌∙◌, Result, ℕ, rules}
use Rattle.std.specs.Prelude.{slice_set}
use Rattle.std.specs.Ordering.{nat_cmp}
use Rattle.std.specs.List.Sorted.{IsBinarySearchResult}
use Rattle.std.proofs.lemmas.Fn.{always_returns_same}
use Rattle.std.proofs.lemmas.Map.Lookups.{exact_unsigned}
use Rattle.rmt_bits.specs.declared.answer.Count.{Count}
use Rattle.rmt_bits.proofs.CountLaws.{begins_set, counted_absent, counted_found}
use Rattle.rmt_bits.proofs.SearchLaws.{not_found}
use Rattle.rmt_bits.proofs.counts.run.count_hit.Goals as goal

abbrev no_count : Count
no_count = record { entry = 0; packets = 0; bytes = 0 }

pub returns-in-Ok-clause-counts : goal.returns-in-Ok-clause-counts
returns-in-Ok-clause-counts c = λ rising.
    let cs = c.args.counts.now in
    let i = c.in-Ok.place in
    let found = c.in-Ok.ensures.position (λ (x : Count). x.entry) (always_returns_same _ _ _ (λ a r q k. search rules)) in
    ap (slice_set cs i) c.count_packet-in-Ok.ensures
    ∙ counted_found cs i c.args.number c.args.bytes no_count rising c.in-Ok.ensures.bound (exact_unsigned _ _ (found no_count))

pub returns-in_default-clause-counts : goal.returns-in_default-clause-counts
returns-in_default-clause-counts c = λ rising.
    let cs = c.args.counts.now in
    let found : IsBinarySearchResult (λ (x : Count). nat_cmp x.entry c.args.number) cs c.binary_search_by_key.result =
    c.binary_search_by_key.ensures.position (λ (x : Count). x.entry) (always_returns_same _ _ _ (λ a r q k. search rules)) in
    counted_absent cs c.args.number c.args.bytes
    (not_found (λ (x : Count). x.entry) cs c.args.number c.in_default.field-0 rising (subst (λ (r : Result ℕ ℕ). IsBinarySearchResult (λ (x : Count). nat_cmp x.entry c.args.number) cs r) c.in_default.is found))

pub returns-in-Ok-clause-begins : goal.returns-in-Ok-clause-begins
returns-in-Ok-clause-begins c = λ n begins.
    begins_set c.args.counts.now c.in-Ok.place n c.count_packet-in-Ok.result no_count c.in-Ok.ensures.bound (ap (λ (x : Count). x.entry) c.count_packet-in-Ok.ensures) begins

pub returns-then-counts-near-clause-counts : goal.returns-then-counts-near-clause-counts
returns-then-counts-near-clause-counts c = λ rising.
    let cs = c.args.counts.now in
    let i = c.saturating_sub-near.result in
    ap (slice_set cs i) c.count_packet.ensures
    ∙ counted_found cs i c.args.number c.args.bytes no_count rising c.if-near-counts.true c.if-counts-near.true

pub returns-then-counts-near-clause-begins : goal.returns-then-counts-near-clause-begins
returns-then-counts-near-clause-begins c = λ n begins.
    begins_set c.args.counts.now c.saturating_sub-near.result n c.count_packet.result no_count c.if-near-counts.true (ap (λ (x : Count). x.entry) c.count_packet.ensures) begins
