use Rattle.std.proofs.Common.{cond, Some, refl, sym, ap, ◌∙◌}
use Rattle.std.specs.Prelude.{option_copied}
use Rattle.std.specs.BTreeMap.{get, is_at}
use Rattle.rmt_ast.specs.RankPairs.{pair_cmp}
use Rattle.rmt_update.specs.Open.{is_kept_seen}
use Rattle.rmt_update.specs.RowIndex.{never}
use Rattle.rmt_update.proofs.RowIndexLaws.{free-row, stays-row}
use Rattle.rmt_update.proofs.book.index.put_row.Goals.{in-Some+else-is_seen, in_default}
use Rattle.rmt_update.proofs.book.index.put_row.Goals as goal

pub returns-then-is_seen : goal.returns-then-is_seen
returns-then-is_seen c = λ xs count own are.
    stays-row c.args.kind c.args.odd never xs (option_copied c.args.kept) c.args.order.now (record { rows = c.insert.new.self; free = c.args.order.now.free }) c.args.row count are
    c.in-Some.kept.now (ap option_copied c.in-Some.is) (sym c.is_seen.ensures ∙ c.if-is_seen.true) refl own
    (λ q. c.in_ok-insert.ensures.updates.0 q ∙ ap (λ k. cond (is_at (pair_cmp k) q) (Some c.args.row) (get pair_cmp c.args.order.now.rows q)) c.row_key-key.ensures) (λ i. refl)

pub returns : goal.returns
returns c = λ xs count own are.
    free-row c.args.kind c.args.odd never xs (option_copied c.args.kept) c.args.order.now (record { rows = c.args.order.now.rows; free = c.insert-2.new.self }) c.args.row count are
    (elim c.match-kept.branch [
      | in-Some+else-is_seen w ↦ ap (λ o. is_kept_seen c.args.odd (option_copied o)) w.in-Some.is ∙ sym w.is_seen.ensures ∙ w.if-is_seen.false
      | in_default w ↦ ap (λ o. is_kept_seen c.args.odd (option_copied o)) w.in_default.is
    ]) (λ q. refl) c.in_ok-insert-2.ensures.updates.0
