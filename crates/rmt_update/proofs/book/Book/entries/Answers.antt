use Rattle.std.proofs.Common.{◌++◌, ◌∷◌, List, [], map, sym, ap, ◌∙◌, subst, arith}
use Rattle.std.specs.Prelude.{All}
use Rattle.std.specs.List.{range_with_len}
use Rattle.std.proofs.lemmas.List.FromFn.{map-range_with_len_more}
use Rattle.rmt_ast.specs.declared.entry.Entry.{Entry}
use Rattle.rmt_book.specs.declared.table.TableCells.{TableCells}
use Rattle.rmt_book.specs.Seen.{IsReadable, entries_at}
use Rattle.rmt_update.proofs.AddedLaws.{added}
use Rattle.rmt_update.proofs.book.Book.entries.Goals as goal

pub entries_at-requires : goal.entries_at-requires
entries_at-requires c = subst (All (IsReadable c.args.self.now.odd)) (sym c.as_slice.ensures.value) c.requires.3.readable

pub loop-node-preserved : goal.loop-node-preserved
loop-node-preserved c =
    let self = c.args.self.now in
    let n = c.loop-node.node in
    let f = entries_at self.odd self.tables.items in
    let made = added c.entries_at.result _ _ c.entries_at.ensures c.in_ok-add_made.ensures in
    made.2
    ∙ ap (λ (ls : List (List Entry)). ls ++ made.0 ∷ []) c.loop-node.invariant
    ∙ ap (λ (es : List Entry). map f (range_with_len 0 n) ++ es ∷ []) (made.1 ∙ ap (λ (ts : List TableCells). entries_at self.odd ts n) c.as_slice.ensures.value)
    ∙ sym (map-range_with_len_more f 0 n n (omega arith))

pub returns-clause-entries : goal.returns-clause-entries
returns-clause-entries c = λ config cells lists stands.
    let self = c.args.self.now in
    c.from_vec.ensures ∙ c.loop-node.invariant ∙ ap (λ n. map (entries_at self.odd self.tables.items) (range_with_len 0 n)) (omega arith) ∙ sym stands.lists
