use Rattle.std.proofs.Common.{◌≡◌, List, Some, Vec, length, refl, sym, ap, ◌∙◌, subst, arith}
use Rattle.std.specs.Prelude.{All, slice_get, zip}
use Rattle.std.specs.Global.{Global}
use Rattle.std.specs.List.{flat_map}
use Rattle.std.proofs.lemmas.Slice.Zip.{AllZip-long}
use Rattle.rmt_bits.proofs.AllLaws.{All-slice_get}
use Rattle.rmt_bits.proofs.ListLaws.{AllZip-slice_get, slice_get-seen}
use Rattle.rmt_book.specs.declared.table.PartCells.{PartCells}
use Rattle.rmt_book.specs.declared.table.TableCells.{TableCells}
use Rattle.rmt_update.specs.Differences.{AllPut, CanChange, changes_in, pairs_of}
use Rattle.rmt_update.proofs.ChangesLaws.{changes-none, changes-ordered}
use Rattle.rmt_update.proofs.PutChanges.{all-differences, put-none, table-put, take-past, zip-at, zip-short}
use Rattle.rmt_update.proofs.book.differences.differences.Goals as goal
use Rattle.rmt_update.proofs.book.differences.differences.Goals.{After-index-moved-table}

pub loop-table-init : goal.loop-table-init
loop-table-init c = put-none (changes_in c.new-changes.result.items)

pub returns : goal.returns
returns c =
    let ts = c.args.tables.now in
    let ms = c.args.moved.now in
    let past = c.loop-table-test.false in
    let short = zip-short ts ms in
    all-differences (flat_map pairs_of (zip ts ms)) (changes_in c.new-changes.result.items) (changes_in c.loop-table.changes.items) c.in_ok-writes.writes.items (changes-none c.new-changes.result.items c.new-changes.ensures.items) (changes-ordered c.loop-table.changes.items)
    (subst (λ ps. AllPut (flat_map pairs_of ps) (changes_in c.new-changes.result.items) (changes_in c.loop-table.changes.items)) (take-past (zip ts ms) c.loop-table.table (omega (arith, past, short))) c.loop-table.invariant) c.in_ok-writes.ensures

pub bounds-moved-table : goal.bounds-moved-table
bounds-moved-table c =
    let long = AllZip-long (λ (t : TableCells) (ps : Vec PartCells Global). length ps.items ≡ length t.parts.items) c.args.tables.now c.args.moved.now c.requires.same in
    let lt = c.loop-table-test.true in
    omega (arith, long, lt)

-- the next table, and the parts that it is to have
next : (c : After-index-moved-table) → (slice_get c.args.tables.now c.loop-table.table ≡ Some c.index-tables-table.result) × (slice_get c.args.moved.now c.loop-table.table ≡ Some c.index-moved-table.result)
next c =
    let ts = c.args.tables.now in
    let ms = c.args.moved.now in
    let long = AllZip-long (λ (t : TableCells) (ps : Vec PartCells Global). length ps.items ≡ length t.parts.items) ts ms c.requires.same in
    let lt = c.loop-table-test.true in
    (slice_get-seen ts ts c.loop-table.table _ refl lt c.index-tables-table.is, slice_get-seen ms ms c.loop-table.table _ refl (omega (arith, lt, long)) c.index-moved-table.is)

pub put_parts-requires-clause-same : goal.put_parts-requires-clause-same
put_parts-requires-clause-same c =
    let at = next (goal.at.put_parts-requires-clause-same c).After-index-moved-table in
    ap (λ (xs : List PartCells). length xs) c.as_slice.ensures.value
    ∙ AllZip-slice_get (λ (t : TableCells) (ps : Vec PartCells Global). length ps.items ≡ length t.parts.items) c.args.tables.now c.args.moved.now c.loop-table.table c.index-tables-table.result c.index-moved-table.result c.requires.same at.0 at.1
    ∙ sym (ap (λ (xs : List PartCells). length xs) (c.as_slice-old.ensures.value ∙ ap (λ (x : TableCells). x.parts.items) (sym c.index-tables-table.is)))

pub put_parts-requires-clause-can : goal.put_parts-requires-clause-can
put_parts-requires-clause-can c =
    let at = next (goal.at.put_parts-requires-clause-can c).After-index-moved-table in
    subst (All CanChange) (sym c.as_slice.ensures.value) (All-slice_get (λ (ps : Vec PartCells Global). All CanChange ps.items) c.args.moved.now c.loop-table.table c.index-moved-table.result c.requires.can at.1)

pub loop-table-preserved : goal.loop-table-preserved
loop-table-preserved c =
    let ts = c.args.tables.now in
    let ms = c.args.moved.now in
    let t = c.index-tables-table.result in
    let m = c.index-moved-table.result in
    let at = next (goal.at.loop-table-preserved c).After-index-moved-table in
    table-put (zip ts ms) c.loop-table.table (t, m) (changes_in c.new-changes.result.items) (changes_in c.loop-table.changes.items) (changes_in c.put_parts.new.changes.items) (zip-at ts ms c.loop-table.table t m at.0 at.1) c.loop-table.invariant
    (subst (λ (xs : List PartCells). AllPut (zip xs m.items) (changes_in c.loop-table.changes.items) (changes_in c.put_parts.new.changes.items)) (c.as_slice-old.ensures.value ∙ ap (λ (x : TableCells). x.parts.items) (sym c.index-tables-table.is))
    (subst (λ (ys : List PartCells). AllPut (zip c.as_slice-old.result.now ys) (changes_in c.loop-table.changes.items) (changes_in c.put_parts.new.changes.items)) c.as_slice.ensures.value c.in_ok-put_parts.ensures))
