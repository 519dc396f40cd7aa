use Rattle.std.proofs.Common.{◌≡◌, ◌++◌, List, length, IsPermutation, ap, arith, rules, subst, sym, ◌∙◌}
use Rattle.std.specs.List.{flat_map}
use Rattle.std.proofs.lemmas.List.{take_all}
use Rattle.std.proofs.lemmas.List.Sorted.{IsNonDecreasingBy-from_sort_by_key}
use Rattle.rmt_ast.specs.declared.entry.Entry.{Entry}
use Rattle.rmt_book.specs.declared.table.PartCells.{PartCells}
use Rattle.rmt_book.specs.Seen.{entries_by_part, entries_in}
use Rattle.rmt_update.proofs.SeenLaws.{number-sorted, parts-more}
use Rattle.rmt_update.proofs.book.seen.entries_of.Goals as goal

pub loop-part-preserved : goal.loop-part-preserved
loop-part-preserved c =
    let table = c.args.table.now in
    let parts = table.parts.items in
    let i = c.loop-part.part-index in
    let f = entries_in c.args.odd table.name in
    let more = parts-more f parts c.as_slice-part-items.result.now i c.part-item.result c.as_slice-part-items.ensures.value c.loop-part-test.true c.part-item.is in
    c.in_ok-put_entries.ensures ∙ ap (λ (es : List Entry). es ++ f c.part-item.result) c.loop-part.invariant ∙ sym more

pub returns : goal.returns
returns c =
    let table = c.args.table.now in
    let parts = table.parts.items in
    let i = c.loop-part.part-index in
    let same = ap (λ (ps : List PartCells). length ps) c.as_slice-part-items.ensures.value in
    let all : c.loop-part.entries.items ≡ entries_by_part c.args.odd table =
    c.loop-part.invariant ∙ ap (flat_map (entries_in c.args.odd table.name)) (take_all i parts (let past = c.loop-part-test.false in omega (arith, past, same))) in
    let moved : IsPermutation (entries_by_part c.args.odd table) c.sort_unstable_by_key.new.self.items =
    subst (λ (es : List Entry). IsPermutation es c.sort_unstable_by_key.new.self.items) all c.sort_unstable_by_key.ensures.permutation in
    c.from_vec.ensures
    ∙ number-sorted (entries_by_part c.args.odd table) c.sort_unstable_by_key.new.self.items c.requires.numbers moved
    (IsNonDecreasingBy-from_sort_by_key (λ (e : Entry). e.number) _ c.sort_unstable_by_key.ensures.sorted (λ a r q k. search rules))
