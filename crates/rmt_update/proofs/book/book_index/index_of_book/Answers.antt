use Rattle.std.proofs.Common.{◌≡◌, ◌∙◌, ℕ, ap, arith, sym}
use Rattle.std.specs.BTreeMap.{get}
use Rattle.std.specs.Ordering.{nat_cmp}
use Rattle.std.proofs.lemmas.Iterator.{items_from_drains}
use Rattle.std.proofs.lemmas.Iterator.Adapters.{YieldsList-from_vec}
use Rattle.rmt_update.specs.IndexCells.{found_in}
use Rattle.rmt_update.proofs.IndexCells.{all-found}
use Rattle.rmt_book.proofs.OrderedLaws.{map-same}
use Rattle.rmt_update.proofs.book.book_index.index_of_book.Goals as goal

pub returns : goal.returns
returns c =
    let ran = c.in_ok-from_iter.ensures.ran in
    let spots = c.in_ok-spots.field-0.spots in
    let ok = spots.ok.0 in
    let long = ran.2.1 in
    let all = items_from_drains ran.1 ran.3 (YieldsList-from_vec spots.items ran.2.0 (omega (arith, long, ok))) in
    let same : ran.1 ≡ spots.items = sym (map-same ran.1) ∙ all in
    let find : (n : ℕ) → get nat_cmp c.in_ok-from_iter.field-0 n ≡ found_in spots.items n = λ n. ran.4.0 n ∙ ap (λ xs. found_in xs n) same in
    record {
      cells = all-found c.args.tables.now c.all_ordered.ensures (record { spots = c.in_ok-from_iter.field-0; recent = c.in_ok-spots.field-0.recent; tables = c.in_ok-indexes_of.field-0 })
          (found_in spots.items) c.requires find c.in_ok-spots.ensures;
      tables = c.in_ok-indexes_of.ensures;
    }
