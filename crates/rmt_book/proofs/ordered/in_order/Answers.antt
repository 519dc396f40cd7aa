use Rattle.std.proofs.Common.{◌≡◌, ℕ, map, List, sym, ap, ◌∙◌}
use Rattle.std.proofs.lemmas.Map.Iter.{iter_end}
use Rattle.rmt_ast.specs.declared.entry.Entry.{Entry}
use Rattle.rmt_config.specs.NamesForm.{by_number}
use Rattle.rmt_book.proofs.OrderedLaws.{map-same, values-keyed}
use Rattle.rmt_book.proofs.ordered.in_order.Goals as goal

pub returns : goal.returns
returns c = λ es order.
    let all : map (λ (x : ℕ × Entry). x) c.loop-entry.yielded ≡ c.args.ordered.entries =
    (iter_end (λ (x : ℕ × Entry). x) c.args.ordered.entries c.loop-entry.yielded c.into_iter-entry-iterator.result c.loop-entry.entry-iterator c.next.new.self c.next.result
    c.into_iter-entry-iterator.ensures.into_iter_gives.0 c.loop-entry.yielded_by c.in-None.is c.next.ensures.steps).0 in
    c.loop-entry.invariant
    ∙ ap (λ (xs : List (ℕ × Entry)). map (λ (x : ℕ × Entry). x.1) xs) (sym (map-same c.loop-entry.yielded) ∙ all ∙ order.entries)
    ∙ values-keyed (by_number es)
