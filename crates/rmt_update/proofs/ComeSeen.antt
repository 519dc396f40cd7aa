-- What a commit that moves no cell knows of the cells that entries come to.
use Rattle.std.proofs.Common.{◌≡◌, ◌≢◌, ◌+◌, ◌%◌, ◌/◌, Bool, true, false, not, eqb, List, Some, get_or, sym, ap, ◌∙◌}
use Rattle.std.specs.Prelude.{All}
use Rattle.std.specs.List.{AllZip}
use Rattle.std.proofs.lemmas.Bool.{false≢true}
use Rattle.std.proofs.lemmas.Option.{slice_get-get_or}
use Rattle.rmt_bits.proofs.MemberLaws.{Contains-item}
use Rattle.rmt_ast.specs.declared.entry.Entry.{Entry}
use Rattle.rmt_config.specs.declared.config.Config.{Config}
use Rattle.rmt_config.specs.Commits.{Placed}
use Rattle.rmt_config.specs.RunCells.{RunCells}
use Rattle.rmt_update.specs.declared.book.Book.{Book}
use Rattle.rmt_book.specs.declared.kept.Kept.{Kept}
use Rattle.rmt_update.specs.declared.book.placing.Coming.{Coming}
use Rattle.rmt_book.specs.declared.spot.BookSpot.{BookSpot}
use Rattle.rmt_book.specs.BookSpots.{kept_at}
use Rattle.rmt_update.specs.BookStands.{BookStands}
use Rattle.rmt_update.specs.NextKept.{bit_of}
use Rattle.rmt_update.specs.Open.{is_kept_seen}
use Rattle.rmt_update.specs.Placing.{TakesCell}
use Rattle.rmt_book.specs.Seen.{is_seen}
use Rattle.rmt_update.proofs.CellsFound.{kept-is, spot-part}
use Rattle.rmt_update.proofs.NextTables.{beside}
use Rattle.rmt_update.proofs.TurnedLaws.{bit-low, head-visible}

module _ (c : Config) (cells : RunCells) (lists : List (List Entry)) (b : Book) (stands : BookStands c cells lists b) where
  -- the cell has the visible bit of the next version alone
  pub comes-visible : (q : Placed) (x : Coming) → TakesCell c cells.seed b.odd b.tables.items q x → x.kept.visible ≡ bit_of (not b.odd)
  comes-visible q x takes =
      let g = spot-part c cells lists b stands x.spot takes.at in
      let kept = takes.keeps.kept g.part (sym g.holds.first) g.facts.bits g.facts.kind in
      kept.visible ∙ head-visible (bit_of (not b.odd)) (g.part.first + q.entry.action) (bit-low (not b.odd))

  -- so that the next version sees it
  pub comes-seen : (q : Placed) (x : Coming) → TakesCell c cells.seed b.odd b.tables.items q x → is_seen (not b.odd) x.kept ≡ true
  comes-seen q x takes = own-seen (not b.odd) x.kept (comes-visible q x takes)
    where
      own-seen : (o : Bool) (k : Kept) → k.visible ≡ bit_of o → is_seen o k ≡ true
      own-seen true k e = ap (λ v. eqb (v / 2 % 2) 1) e
      own-seen false k e = ap (λ v. eqb (v / 1 % 2) 1) e

  -- no entry comes to a cell that the version sees
  pub no-come : (qs : List Placed) (xs : List Coming) → AllZip (TakesCell c cells.seed b.odd b.tables.items) qs xs → (s : BookSpot) (k : Kept) → kept_at b.tables.items s ≡ Some k → is_seen b.odd k ≡ true → All (λ (x : Coming). x.spot ≢ s) xs
  no-come qs xs takes s k is seen j d lt same =
      let x = get_or xs j d in
      let q = beside (TakesCell c cells.seed b.odd b.tables.items) qs xs x takes (Contains-item xs j x (slice_get-get_or xs j d lt)) in
      let free : is_kept_seen b.odd (kept_at b.tables.items x.spot) ≡ false = ap (is_kept_seen b.odd) (kept-is b.tables.items x.spot q.2.at) ∙ q.2.free in
      false≢true (sym free ∙ ap (λ z. is_kept_seen b.odd (kept_at b.tables.items z)) same ∙ ap (is_kept_seen b.odd) is ∙ seen)
