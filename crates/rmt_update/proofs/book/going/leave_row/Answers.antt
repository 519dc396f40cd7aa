use Rattle.std.proofs.Common.{◌≡◌, ℕ, refl, sym, ap, ◌∙◌, subst}
use Rattle.std.specs.Prelude.{option_copied}
use Rattle.std.proofs.lemmas.Option.{none-some, same_Some}
use Rattle.rmt_bits.proofs.ListLaws.{slice_get-seen}
use Rattle.rmt_book.specs.declared.table.TableCells.{TableCells}
use Rattle.rmt_update.specs.RowIndex.{IsRowGone, kept_key}
use Rattle.rmt_update.specs.declared.book.index.TableIndex.{TableIndex}
use Rattle.rmt_update.specs.declared.book.index.TableIndex.TheVariants.{Rows}
use Rattle.rmt_update.proofs.EnteringLaws.{there-within}
use Rattle.rmt_update.proofs.book.going.leave_row.Goals as goal

pub kept_at-requires-clause-table : goal.kept_at-requires-clause-table
kept_at-requires-clause-table c = there-within c.args.tables.now c.args.spot c.requires

pub kept_at-requires-clause-part : goal.kept_at-requires-clause-part
kept_at-requires-clause-part c = c.requires

pub bounds-tables-spot : goal.bounds-tables-spot
bounds-tables-spot c = there-within c.args.tables.now c.args.spot c.requires

pub bounds-tables-spot-in-Some : goal.bounds-tables-spot-in-Some
bounds-tables-spot-in-Some c = there-within c.args.tables.now c.args.spot c.requires

pub returns-in_default : goal.returns-in_default
returns-in_default c = λ t k at_t at_k. absurd (none-some k (sym (sym c.kept_at.ensures ∙ ap option_copied c.in_default.is) ∙ at_k))

pub returns-in-Some : goal.returns-in-Some
returns-in-Some c = λ t k at_t at_k.
    let ts = c.args.tables.now in
    let s = c.args.spot in
    let same_t : c.index-tables-spot.result ≡ t = same_Some c.index-tables-spot.result t (sym (slice_get-seen ts ts s.table c.index-tables-spot.result refl (there-within ts s c.requires) c.index-tables-spot.is) ∙ at_t) in
    let same_k : c.in-Some.kept.now ≡ k = same_Some c.in-Some.kept.now k (sym (sym c.kept_at.ensures ∙ ap option_copied c.in-Some.is) ∙ at_k) in
    let own : c.row_key-key.result ≡ kept_key t.name.kind k =
    c.row_key-key.ensures ∙ ap (λ (x : TableCells). kept_key x.name.kind c.in-Some.kept.now) (sym c.index-tables-spot.is ∙ same_t) ∙ ap (kept_key t.name.kind) same_k in
    subst (λ (i : TableIndex). IsRowGone (kept_key t.name.kind k) i (Rows (record { rows = c.remove.new.self; free = c.in-Rows.order.free }))) (sym c.in-Rows.is)
    (subst (λ (q : ℕ × ℕ). IsRowGone q (Rows c.in-Rows.order) (Rows (record { rows = c.remove.new.self; free = c.in-Rows.order.free }))) own (c.remove.ensures.updates.0, refl))
