use Rattle.std.proofs.Common.{◌≡◌, ◌++◌, ◌∷◌, Bool, List, [], append_assoc, map, sym, ap, ◌∙◌}
use Rattle.std.specs.Borrow.{Bor}
use Rattle.std.specs.BTreeMap.{values}
use Rattle.std.specs.Prelude.{filter}
use Rattle.std.proofs.lemmas.Map.Iter.{iter_end}
use Rattle.rmt_ast.specs.declared.entry.Entry.{Entry}
use Rattle.rmt_book.specs.declared.kept.Kept.{Kept}
use Rattle.rmt_book.specs.Seen.{is_seen}
use Rattle.rmt_book.specs.Told.{told_entry}
use Rattle.rmt_update.proofs.AddedLaws.{added}
use Rattle.rmt_update.proofs.SeenLaws.{told-more, unseen-more}
use Rattle.rmt_update.proofs.book.seen.put_entries.Goals as goal

pub loop-kept-preserved-in-Continue-1 : goal.loop-kept-preserved-in-Continue-1
loop-kept-preserved-in-Continue-1 c =
    let told : Kept → Entry = told_entry c.args.table.now c.args.part.now.first in
    let seen : Kept → Bool = is_seen c.args.odd in
    let k = c.in-Some.kept in
    let old = c.args.entries.now.items in
    let xs = map told (filter seen (map (λ (x : Bor Kept). x.now) c.loop-kept.yielded)) in
    let more = told-more told seen c.loop-kept.yielded k (sym c.is_seen.ensures ∙ c.if-is_seen.true) in
    let made = added c.entry_told.result _ _ c.entry_told.ensures c.in_ok-add_made.ensures in
    made.2 ∙ ap (λ (es : List Entry). es ++ made.0 ∷ []) c.loop-kept.invariant ∙ ap (λ (e : Entry). (old ++ xs) ++ e ∷ []) made.1
    ∙ append_assoc old xs (told k.now ∷ []) ∙ ap (λ (es : List Entry). old ++ es) (sym more)

pub returns : goal.returns
returns c =
    let told : Kept → Entry = told_entry c.args.table.now c.args.part.now.first in
    let seen : Kept → Bool = is_seen c.args.odd in
    let all : map (λ (x : Bor Kept). x.now) c.loop-kept.yielded ≡ values c.args.part.now.cells =
    (iter_end (λ (x : Bor Kept). x.now) c.values-kept-items.result c.loop-kept.yielded c.into_iter-kept-iterator.result c.loop-kept.kept-iterator c.next.new.self c.next.result
    c.into_iter-kept-iterator.ensures.into_iter_gives c.loop-kept.yielded_by c.in-None.is c.next.ensures.steps).0 ∙ c.values-kept-items.ensures.rest in
    c.loop-kept.invariant ∙ ap (λ (ks : List Kept). c.args.entries.now.items ++ map told (filter seen ks)) all

pub loop-kept-preserved : goal.loop-kept-preserved
loop-kept-preserved c =
    c.loop-kept.invariant
    ∙ ap (λ (ks : List Kept). c.args.entries.now.items ++ map (told_entry c.args.table.now c.args.part.now.first) ks) (sym (unseen-more (is_seen c.args.odd) c.loop-kept.yielded c.in-Some.kept (sym c.is_seen.ensures ∙ c.if-is_seen.false)))
