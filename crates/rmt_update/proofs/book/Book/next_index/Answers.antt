use Rattle.std.proofs.Common.{◌≡◌, ◌++◌, List, map, length, sym, ap, ◌∙◌, subst}
use Rattle.std.specs.Prelude.{All, slice_get}
use Rattle.std.specs.List.{AllZip, filter_map}
use Rattle.std.specs.BTreeMap.{get}
use Rattle.std.specs.Ordering.{nat_cmp}
use Rattle.std.specs.Vec.{with_items}
use Rattle.std.proofs.lemmas.List.{with_items_is}
use Rattle.rmt_update.specs.declared.book.placing.Coming.{Coming}
use Rattle.rmt_book.specs.declared.table.TableCells.{TableCells}
use Rattle.rmt_update.specs.NextIndex.{AreAllFreed, AreSeenSpots, HasFewRows, IsRenewed, spot_behind}
use Rattle.rmt_update.specs.Turning.{IsSpotIn}
use Rattle.rmt_update.proofs.NextIndexLaws.{few-rows, index-stands, left-there, recent-there}
use Rattle.rmt_update.proofs.book.Book.next_index.Goals as goal

pub free_rows-requires-clause-count : goal.free_rows-requires-clause-count
free_rows-requires-clause-count c = c.requires.index.count ∙ ap (λ (ts : List TableCells). length ts) (sym c.as_slice-2.ensures.value)

pub free_rows-requires-clause-there : goal.free_rows-requires-clause-there
free_rows-requires-clause-there c =
    let m = c.requires.may in
    let ix = c.args.index in
    subst (λ ts. All (IsSpotIn ts) c.as_slice-3.result.now) (sym c.as_slice-2.ensures.value)
    (subst (All (IsSpotIn c.args.self.now.tables.items)) (sym (c.as_slice-3.ensures.value ∙ c.in_ok-left.ensures ∙ ap (filter_map (get nat_cmp ix.spots)) c.as_slice.ensures))
    (left-there m.0 m.1 m.2 m.3 c.args.changes.now c.args.self.now c.args.come.now m.4 m.5 m.6 m.7 ix c.requires.index))

pub free_rows-requires-clause-few : goal.free_rows-requires-clause-few
free_rows-requires-clause-few c = λ i t o at_t at_o.
    let m = c.requires.may in
    let ix = c.args.index in
    subst (λ ss. HasFewRows i t.parts.items ss o) (sym (c.as_slice-3.ensures.value ∙ c.in_ok-left.ensures ∙ ap (filter_map (get nat_cmp ix.spots)) c.as_slice.ensures))
    (few-rows m.0 m.1 m.2 m.3 c.args.changes.now c.args.self.now c.args.come.now m.4 m.5 m.6 m.7 ix c.requires.index i t o (ap (λ (ts : List TableCells). slice_get ts i) (sym c.as_slice-2.ensures.value) ∙ at_t) at_o)

pub keep_seen-requires : goal.keep_seen-requires
keep_seen-requires c =
    let m = c.requires.may in
    subst (λ ts. All (IsSpotIn ts) c.as_slice-5.result.now) (sym c.as_slice-4.ensures.value)
    (subst (All (IsSpotIn c.args.self.now.tables.items)) (sym c.as_slice-5.ensures.value)
    (recent-there m.0 m.1 m.2 m.3 c.args.changes.now c.args.self.now c.args.come.now m.4 m.5 m.6 m.7 c.args.index c.requires.index))

pub returns : goal.returns
returns c = λ us next.
    let m = c.requires.may in
    let b = c.args.self.now in
    let ch = c.args.changes.now in
    let ix = c.args.index in
    let ts = c.args.self.now.tables.items in
    let left : c.in_ok-left.left.items ≡ filter_map (get nat_cmp ix.spots) ch.gone = c.in_ok-left.ensures ∙ ap (filter_map (get nat_cmp ix.spots)) c.as_slice.ensures in
    let list : c.put_taken.new.recent.items ≡ filter_map (get nat_cmp ix.spots) ch.gone ++ map (λ (x : Coming). x.spot) c.args.come.now =
    c.in_ok-put_taken.ensures ∙ ap (λ ss. ss ++ map (λ (x : Coming). x.spot) c.as_slice-7.result.now) left ∙ ap (λ (xs : List Coming). filter_map (get nat_cmp ix.spots) ch.gone ++ map (λ (x : Coming). x.spot) xs) c.as_slice-7.ensures in
    let freed = c.free_rows.new.indexes in
    let renewed = c.renew.new.indexes in
    let long : length renewed ≡ freed.len = c.renew.auto.indexes ∙ c.as_mut_slice.ensures.len in
    index-stands m.0 m.1 m.2 m.3 ch b c.args.come.now m.4 m.5 m.6 m.7 ix c.requires.index us next c.keep_seen.new.spots
    (record { spots = c.put_spots.new.spots; recent = c.put_taken.new.recent; tables = with_items freed renewed }) freed.items
    (subst (λ ss. AreSeenSpots b.odd ts ss ix.spots c.keep_seen.new.spots) c.as_slice-5.ensures.value
    (subst (λ zs. AreSeenSpots b.odd zs c.as_slice-5.result.now ix.spots c.keep_seen.new.spots) c.as_slice-4.ensures.value c.keep_seen.ensures))
    (λ n. c.in_ok-put_spots.ensures n ∙ ap (λ (xs : List Coming). spot_behind xs n (get nat_cmp c.keep_seen.new.spots n)) c.as_slice-6.ensures)
    list
    (subst (λ ss. AreAllFreed ts ss ix.tables.items c.free_rows.new.indexes.items) (c.as_slice-3.ensures.value ∙ left)
    (subst (λ zs. AreAllFreed zs c.as_slice-3.result.now ix.tables.items c.free_rows.new.indexes.items) c.as_slice-2.ensures.value c.in_ok-free_rows.ensures))
    (subst (AllZip IsRenewed freed.items) (sym (with_items_is freed renewed long)) (subst (λ os. AllZip IsRenewed os renewed) c.as_mut_slice.ensures.value c.renew.ensures))
