-- The index of the tables of a book, as the entries of a commit come to one table after another.
use Rattle.std.proofs.Common.{◌≡◌, ◌≢◌, ℕ, ◌+◌, ◌<◌, ◌≤◌, Bool, not, true, List, [], ◌∷◌, ◌++◌, append_assoc, Option, Some, None, Vec, length, slice_set, sym, ap, ◌∙◌, subst, inl, inr, arith}
use Rattle.std.specs.Prelude.{All, Contains, slice_get}
use Rattle.std.specs.Global.{Global}
use Rattle.std.specs.BTreeMap.{BTreeMap, get}
use Rattle.std.specs.Ordering.{nat_cmp}
use Rattle.std.specs.List.{AllZip}
use Rattle.std.proofs.lemmas.Bool.{cases_lt}
use Rattle.std.proofs.lemmas.List.{append-nil, length-set}
use Rattle.std.proofs.lemmas.List.Elements.{All-append, All-nil, All-push, All-weaker, Contains-push}
use Rattle.std.proofs.lemmas.Option.{same_Some, slice_get_within}
use Rattle.rmt_bits.proofs.ListLaws.{AllZip-slice_get, slice_get-set_other, slice_get-set_same}
use Rattle.rmt_bits.specs.Members.{is_among}
use Rattle.rmt_ast.specs.declared.entry.Entry.{Entry}
use Rattle.rmt_update.specs.declared.book.Book.{Book}
use Rattle.rmt_update.specs.declared.book.book_index.BookIndex.{BookIndex}
use Rattle.rmt_update.specs.declared.book.index.TableIndex.{TableIndex}
use Rattle.rmt_update.specs.declared.book.placing.Coming.{Coming}
use Rattle.rmt_book.specs.declared.spot.BookSpot.{BookSpot}
use Rattle.rmt_book.specs.declared.spots.Spot.{Spot}
use Rattle.rmt_book.specs.declared.table.TableCells.{TableCells}
use Rattle.rmt_lists.specs.declared.lists.Changes.{Changes}
use Rattle.rmt_update.specs.BookIndex.{FindsCells, IsRecentAt}
use Rattle.rmt_update.specs.Come.{HaveCome, IsRunOf, Run}
use Rattle.rmt_update.specs.ComeIndex.{HasPlaced, HasPlacedIn, IsNextIndex}
use Rattle.rmt_update.specs.Placing.{TakesCell}
use Rattle.rmt_update.specs.RowIndex.{IsIndex}
use Rattle.rmt_book.specs.Seen.{is_seen}
use Rattle.rmt_update.specs.Taking.{MayCome, MayGive, TakesFrom}
use Rattle.rmt_update.proofs.ComeSeen.{comes-seen}
use Rattle.rmt_update.proofs.NextRowLaws.{index-left, index-more, index-other}
use Rattle.rmt_update.proofs.NextTables.{beside}
use Rattle.rmt_update.proofs.ZipLaws.{zip-length}

-- the cells are found by the same spots
pub finds-same : (ts : List TableCells) (a b : BookIndex) → b.spots ≡ a.spots → b.recent ≡ a.recent → FindsCells ts a → FindsCells ts b
finds-same ts a b spots recent h = record {
  spots = λ n s there. h.spots n s (ap (λ (m : BTreeMap ℕ BookSpot). get nat_cmp m n) (sym spots) ∙ there);
  all = λ s k is. ap (λ (m : BTreeMap ℕ BookSpot). get nat_cmp m k.number) spots ∙ h.all s k is;
  each = subst (λ (v : Vec BookSpot Global). All (IsRecentAt ts) v.items) (sym recent) h.each;
  recent = λ s k is off. subst (λ (v : Vec BookSpot Global). Contains v.items s) (sym recent) (h.recent s k is off);
}

-- ---- one table

-- the next version sees the last entry that came
pub last-seen : (w : Run) (b : Book) (ch : Changes) (run : IsRunOf b ch w) (es : List Entry) (xs : List Coming) (c : Coming) → HaveCome w b ch es (xs ++ c ∷ []) → is_seen (not b.odd) c.kept ≡ true
last-seen w b ch run es xs c h =
    let q = beside (TakesCell w.config w.cells.seed b.odd b.tables.items) h.placed (xs ++ c ∷ []) c h.takes (Contains-push xs c) in
    comes-seen w.config w.cells w.lists b run.stands q.0 c q.2

module _ (odd : Bool) (gone : List ℕ) (ts : List TableCells) (at : ℕ) where
  pub placed-none : (xs : List Coming) (o : TableIndex) → ((t : TableCells) → slice_get ts at ≡ Some t → IsIndex odd (is_among gone) t o) → HasPlacedIn odd gone ts at xs xs o
  placed-none xs o is = record {
    more = [];
    changed = sym (append-nil xs);
    own = All-nil (λ (x : Coming). x.spot.table ≡ at);
    index = λ t at_t apart. index-left odd gone xs at t o apart (is t at_t);
  }

  pub placed-more : (old xs : List Coming) (o new : TableIndex) → HasPlacedIn odd gone ts at old xs o → (seed : ℕ) (t : TableCells) → slice_get ts at ≡ Some t → (e : Entry) → MayGive t e o → (spot : Option Spot) (c : Coming)
      → TakesFrom odd seed t e o new spot → MayCome odd at t e spot (Some c) → is_seen (not odd) c.kept ≡ true → HasPlacedIn odd gone ts at old (xs ++ c ∷ []) new
  placed-more old xs o new h seed t at_t e may None c takes comes seen = absurd comes
  placed-more old xs o new h seed t at_t e may (Some s) c takes comes seen = record {
    more = h.more ++ c ∷ [];
    changed = ap (λ ys. ys ++ c ∷ []) h.changed ∙ append_assoc old h.more (c ∷ []);
    own = All-push (λ (x : Coming). x.spot.table ≡ at) h.more c h.own (ap (λ (s : BookSpot). s.table) comes.spot);
    index = λ u at_u apart.
        subst (λ v. IsNextIndex odd gone (xs ++ c ∷ []) at v new) (same_Some t u (sym at_t ∙ at_u)) (index-more odd seed gone xs at t e o new s c may takes comes seen (h.index t at_t apart));
  }

-- ---- all tables

-- the entries that came so far came to the first tables
pub record PlacedSoFar (odd : Bool) (gone : List ℕ) (ts : List TableCells) (n : ℕ) (xs : List Coming) (os : List TableIndex) : Type 0 where
  pub count : length os ≡ length ts
  pub ahead : (i : ℕ) (t : TableCells) (o : TableIndex) → n ≤ i → slice_get ts i ≡ Some t → slice_get os i ≡ Some o → IsIndex odd (is_among gone) t o
  pub behind : (i : ℕ) (t : TableCells) (o : TableIndex) → i < n → slice_get ts i ≡ Some t → slice_get os i ≡ Some o → IsNextIndex odd gone xs i t o
  pub low : All (λ (x : Coming). x.spot.table < n) xs

module _ (odd : Bool) (gone : List ℕ) (ts : List TableCells) where
  pub so-far-none : (os : List TableIndex) → AllZip (IsIndex odd (is_among gone)) ts os → PlacedSoFar odd gone ts 0 [] os
  so-far-none os zip = record {
    count = sym (zip-length (IsIndex odd (is_among gone)) ts os zip);
    ahead = λ i t o le at_t at_o. AllZip-slice_get (IsIndex odd (is_among gone)) ts os i t o zip at_t at_o;
    behind = λ i t o lt. absurd (omega (arith, lt));
    low = All-nil (λ (x : Coming). x.spot.table < 0);
  }

  pub so-far-next : (n : ℕ) (xs ys : List Coming) (os : List TableIndex) (old new : TableIndex) → PlacedSoFar odd gone ts n xs os → slice_get os n ≡ Some old → HasPlacedIn odd gone ts n xs ys new → PlacedSoFar odd gone ts (n + 1) ys (slice_set os n new)
  so-far-next n xs ys os old new h at_o placed = record {
    count = length-set os n new ∙ h.count;
    ahead = λ i t o le at_t there.
        let ne : i ≢ n = omega (arith, le) in
        h.ahead i t o (omega (arith, le)) at_t (sym (slice_get-set_other os n i new ne) ∙ there);
    behind = λ i t o lt at_t there. elim (cases_lt i n) [
      | inl less ↦
          let ne : i ≢ n = omega (arith, less) in
          subst (λ zs. IsNextIndex odd gone zs i t o) (sym placed.changed)
          (index-other odd gone xs placed.more i t o (All-weaker (λ (x : Coming). x.spot.table ≡ n) (λ (x : Coming). x.spot.table ≢ i) (λ x e same. ne (sym same ∙ e)) placed.more placed.own)
          (h.behind i t o less at_t (sym (slice_get-set_other os n i new ne) ∙ there)))
      | inr ge ↦
          let here : n ≡ i = omega (arith, lt, ge) in
          let same : new ≡ o = same_Some new o (sym (slice_get-set_same os n old new at_o) ∙ ap (slice_get (slice_set os n new)) here ∙ there) in
          subst (λ (z : TableIndex). IsNextIndex odd gone ys i t z) same
          (subst (λ j. IsNextIndex odd gone ys j t new) here
          (placed.index t (ap (slice_get ts) here ∙ at_t) (All-weaker (λ (x : Coming). x.spot.table < n) (λ (x : Coming). x.spot.table ≢ n) (λ x less e. absurd (omega (arith, less, e))) xs h.low)))
    ];
    low = subst (All (λ (x : Coming). x.spot.table < n + 1)) (sym placed.changed)
        (All-append (λ (x : Coming). x.spot.table < n + 1) xs placed.more
        (All-weaker (λ (x : Coming). x.spot.table < n) (λ (x : Coming). x.spot.table < n + 1) (λ x less. omega (arith, less)) xs h.low)
        (All-weaker (λ (x : Coming). x.spot.table ≡ n) (λ (x : Coming). x.spot.table < n + 1) (λ x e. omega (arith, e)) placed.more placed.own));
  }

  pub so-far-all : (n : ℕ) (xs : List Coming) (ix : BookIndex) → length ts ≤ n → FindsCells ts ix → PlacedSoFar odd gone ts n xs ix.tables.items → HasPlaced odd gone xs ts ix
  so-far-all n xs ix le cells h = record {
    cells = cells;
    count = h.count;
    tables = λ i t o at_t at_o. let lt = slice_get_within ts i t at_t in h.behind i t o (omega (arith, lt, le)) at_t at_o;
  }
