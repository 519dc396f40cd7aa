use Rattle.std.proofs.Common.{◌≡◌, ◌+◌, ◌++◌, List, Some, refl, sym, ap, ◌∙◌, subst, take, arith}
use Rattle.std.specs.Prelude.{slice_get}
use Rattle.std.proofs.lemmas.List.{take_all}
use Rattle.rmt_bits.proofs.ListLaws.{slice_get-seen}
use Rattle.rmt_book.specs.declared.table.PartCells.{PartCells}
use Rattle.rmt_book.specs.declared.table.TableCells.{TableCells}
use Rattle.rmt_update.specs.IndexCells.{HasGathered, all_cells, table_cells}
use Rattle.rmt_update.proofs.IndexCells.{cells-none, numbered-next}
use Rattle.rmt_update.proofs.book.book_index.gathered_of.Goals as goal

pub loop-at-init : goal.loop-at-init
loop-at-init c = cells-none c.new.result.items c.new-2.result.items c.new.ensures.items c.new-2.ensures.items

pub loop-at-preserved : goal.loop-at-preserved
loop-at-preserved c =
    let ts = c.args.tables.now in
    let i = c.loop-at.at in
    let t = c.index-tables-at.result in
    let at : slice_get ts i ≡ Some t = slice_get-seen ts ts i t refl c.loop-at-test.true c.index-tables-at.is in
    let place : 0 + i ≡ i = omega arith in
    let next = numbered-next (λ table (t : TableCells). table_cells table t.parts.items) 0 ts i t at ∙ ap (λ n. all_cells (take i ts) ++ table_cells n t.parts.items) place in
    let have = c.in_ok-put_table.ensures (all_cells (take i ts)) c.loop-at.invariant in
    let g = c.put_table.new.gathered in
    subst (λ zs. HasGathered zs g) (sym next) (subst (λ (ps : List PartCells). HasGathered (all_cells (take i ts) ++ table_cells i ps) g) c.as_slice.ensures.value have)

pub returns : goal.returns
returns c = subst (λ us. HasGathered (all_cells us) c.loop-at.gathered) (take_all c.loop-at.at c.args.tables.now c.loop-at-test.false) c.loop-at.invariant
