-- The occupied cells of a book are those of used cells of the run, so that no two have entries of one number.
use Rattle.std.proofs.Common.{◌≡◌, ◌<◌, Option, Some, None, List, refl, sym, ◌∙◌, subst, arith}
use Rattle.std.specs.Prelude.{IsSome, IsSomeAnd, option_and_then, slice_get}
use Rattle.std.specs.BTreeMap.{get, keys}
use Rattle.std.specs.Ordering.{eq_by_cmp, nat_cmp}
use Rattle.std.proofs.lemmas.List.Elements.{All-contains}
use Rattle.std.proofs.lemmas.Map.Lookups.{exact_unsigned}
use Rattle.std.proofs.lemmas.Map.Views.{Contains-keys_from_lookup, tells_apart}
use Rattle.std.proofs.lemmas.Option.{none-some}
use Rattle.rmt_ast.specs.declared.entry.Entry.{Entry}
use Rattle.rmt_config.specs.declared.config.Config.{Config}
use Rattle.rmt_config.specs.declared.config.SlotUnit.{SlotUnit}
use Rattle.rmt_config.specs.Cells.{cells_in}
use Rattle.rmt_config.specs.Rooms.{parts_of}
use Rattle.rmt_config.specs.RunCells.{RunCells}
use Rattle.rmt_update.specs.declared.book.Book.{Book}
use Rattle.rmt_book.specs.declared.kept.Kept.{Kept}
use Rattle.rmt_book.specs.declared.spot.BookSpot.{BookSpot}
use Rattle.rmt_book.specs.declared.table.PartCells.{PartCells}
use Rattle.rmt_book.specs.declared.table.TableCells.{TableCells}
use Rattle.rmt_update.specs.BookIndex.{AreApart}
use Rattle.rmt_book.specs.BookSpots.{kept_at, kept_in}
use Rattle.rmt_update.specs.BookStands.{BookStands, HoldsPart, IsKeptOf, IsUsed}
use Rattle.rmt_update.specs.Placing.{IsBookSpot}
use Rattle.rmt_update.proofs.CellsFound.{kept-is, one-spot, spot-part, table-holds}
use Rattle.rmt_book.proofs.ShapeLaws.{cells-are}
use Rattle.rmt_update.proofs.ZipLaws.{zip-right}

module _ (c : Config) (cells : RunCells) (lists : List (List Entry)) (b : Book) (stands : BookStands c cells lists b) where
  abbrev ts : List TableCells
  ts = b.tables.items

  -- what is kept is kept of a cell
  pub spot-kept : (s : BookSpot) (k : Kept) → kept_at b.tables.items s ≡ Some k → IsBookSpot b.tables.items s
  spot-kept s k is = by (slice_get ts s.table) refl is
    where
      in-part : (t : TableCells) (x : PartCells) → slice_get ts s.table ≡ Some t → slice_get t.parts.items s.at.part ≡ Some x → get nat_cmp x.cells s.at.cell ≡ Some k → IsBookSpot ts s
      in-part t x at_t at_x got =
          let h = zip-right (HoldsPart cells) (parts_of c t.name.node) t.parts.items s.at.part x (table-holds c cells lists b stands s.table t at_t) at_x in
          let lt = All-contains (λ m. m < cells_in h.0.slot.memory) (keys x.cells) s.at.cell h.2.within
          (Contains-keys_from_lookup {eq = eq_by_cmp nat_cmp} (tells_apart exact_unsigned) s.at.cell x.cells.entries (subst IsSome (sym got) refl)) in
          let count = cells-are h.0.slot x.shape h.2.shape in
          record { table = t; in_tables = at_t; part = x; in_parts = at_x; within = omega (arith, lt, count) }

      in-table : (t : TableCells) → slice_get ts s.table ≡ Some t → (o : Option PartCells) → slice_get t.parts.items s.at.part ≡ o → option_and_then (λ (p : PartCells). get nat_cmp p.cells s.at.cell) o ≡ Some k → IsBookSpot ts s
      in-table t at_t None at e = absurd (none-some k e)
      in-table t at_t (Some x) at e = in-part t x at_t at e

      by : (o : Option TableCells) → slice_get ts s.table ≡ o → option_and_then (λ (t : TableCells). kept_in t s.at) o ≡ Some k → IsBookSpot ts s
      by None at e = absurd (none-some k e)
      by (Some t) at e = in-table t at (slice_get t.parts.items s.at.part) refl e

  -- and the cell is used
  pub kept-used : (s : BookSpot) (at : IsBookSpot b.tables.items s) (k : Kept) → kept_at b.tables.items s ≡ Some k
      → (let p = (spot-part c cells lists b stands s at).part in IsUsed c cells p.stage p.place s.at.cell × (cells.number p.stage p.place s.at.cell ≡ k.number))
  kept-used s at k is =
      let h = spot-part c cells lists b stands s at in
      let kept = subst (IsKeptOf cells.seed h.part (cells.content h.part.stage h.part.place s.at.cell) (record { cell = s.at.cell; number = cells.number h.part.stage h.part.place s.at.cell })) (sym (kept-is b.tables.items s at) ∙ is)
      (h.holds.each s.at.cell h.within) in
      ((subst (λ (o : Option SlotUnit). IsSomeAnd o (λ slot. s.at.cell < cells_in slot.memory)) (sym h.own.slot) h.within, kept.0), sym kept.1.number)

  pub apart : AreApart b.tables.items
  apart s z k l at_s at_z same =
      let here = spot-kept s k at_s in
      let there = spot-kept z l at_z in
      let one = kept-used s here k at_s in
      let two = kept-used z there l at_z in
      let cell = stands.numbers _ _ _ _ _ _ one.0 two.0 (one.1 ∙ same ∙ sym two.1) in
      one-spot c cells lists b stands s z here there cell.0 cell.1 cell.2
