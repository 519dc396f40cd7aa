-- The rows of a table as entries go and come: what is kept of them next, and which of them are free.
use Rattle.std.proofs.Common.{◌≡◌, ◌≢◌, ℕ, ◌<◌, ◌&&◌, Bool, true, false, not, cond, List, [], ◌∷◌, ◌++◌, Option, Some, None, length, option_map, refl, sym, ap, ◌∙◌, subst}
use Rattle.std.specs.Prelude.{All, slice_get, unwrap_or}
use Rattle.std.specs.BTreeMap.{get, is_at}
use Rattle.std.specs.BTreeSet.{BTreeSet, contains}
use Rattle.std.specs.Ordering.{nat_cmp}
use Rattle.std.proofs.lemmas.Bool.{and_parts, false≢true}
use Rattle.std.proofs.lemmas.List.{length-set}
use Rattle.std.proofs.lemmas.List.Elements.{All-weaker}
use Rattle.std.proofs.lemmas.Option.{none-some, same_Some, slice_get_within}
use Rattle.rmt_bits.specs.Members.{is_among}
use Rattle.rmt_ast.specs.RankPairs.{pair_cmp}
use Rattle.rmt_ast.specs.declared.entry.Entry.{Entry}
use Rattle.rmt_ast.specs.declared.program.Kind.{Kind}
use Rattle.rmt_update.specs.declared.book.index.TableIndex.{TableIndex}
use Rattle.rmt_update.specs.declared.book.index.TableIndex.TheVariants.{Cells, Rows}
use Rattle.rmt_book.specs.declared.kept.Kept.{Kept}
use Rattle.rmt_update.specs.declared.book.placing.Coming.{Coming}
use Rattle.rmt_book.specs.declared.row_order.RowOrder.{RowOrder}
use Rattle.rmt_book.specs.declared.spot.BookSpot.{BookSpot}
use Rattle.rmt_book.specs.declared.spots.Spot.{Spot}
use Rattle.rmt_book.specs.declared.table.PartCells.{PartCells}
use Rattle.rmt_book.specs.declared.table.TableCells.{TableCells}
use Rattle.rmt_update.specs.ComeIndex.{AreNextRows, IsNextIndex, next_row}
use Rattle.rmt_update.specs.NextKept.{bit_of}
use Rattle.rmt_update.specs.Open.{is_kept_seen}
use Rattle.rmt_update.specs.RowIndex.{AreRows, IsIndex, is_unseen, kept_key, rows_of}
use Rattle.rmt_book.specs.RowOrder.{IsFirstFit, entry_key}
use Rattle.rmt_book.specs.Seen.{is_seen}
use Rattle.rmt_book.specs.Spots.{spot_from}
use Rattle.rmt_update.specs.Taking.{IsComing, IsRowGiven, MayGive, TakesFrom}
use Rattle.rmt_update.specs.Turning.{cell_at, come_to, is_spot, left_kept}
use Rattle.rmt_update.proofs.EnteringLaws.{come-append}
use Rattle.rmt_update.proofs.NextLists.{stays-seen}
use Rattle.rmt_update.proofs.RowIndexLaws.{own-key, own-number, same-key, same-number}
use Rattle.rmt_update.proofs.RowNumbers.{one-row, row-cell}
use Rattle.rmt_update.proofs.SettledKept.{left-stays}
use Rattle.rmt_update.proofs.SettledPlaces.{none-come, same-spot, spot-itself}
use Rattle.rmt_update.proofs.NextTables.{both-seen}

-- ---- what is left

-- nothing is left of what isn't seen
pub left-unseen : (odd : Bool) (gone : List ℕ) (o : Option Kept) → is_kept_seen odd o ≡ false → left_kept odd gone o ≡ None
left-unseen odd gone None unseen = refl
left-unseen odd gone (Some k) unseen = ap (λ s. cond s (Some (record k { visible = cond (is_among gone k.number) (bit_of odd) 3 })) None) unseen

-- a row that isn't seen is there
pub unseen-there : (odd : Bool) (rows : List (Option Kept)) (row : ℕ) → is_unseen odd rows row ≡ true → (o : Option Kept) × (slice_get rows row ≡ Some o) × (is_kept_seen odd o ≡ false)
unseen-there odd rows row h = by (slice_get rows row) refl h
  where
    clear : (b : Bool) → not b ≡ true → b ≡ false
    clear true e = absurd (false≢true e)
    clear false e = refl

    by : (o : Option (Option Kept)) → slice_get rows row ≡ o → unwrap_or (option_map (λ (q : Option Kept). not (is_kept_seen odd q)) o) false ≡ true → (q : Option Kept) × (slice_get rows row ≡ Some q) × (is_kept_seen odd q ≡ false)
    by None is e = absurd (false≢true e)
    by (Some q) is e = (q, is, clear (is_kept_seen odd q) e)

-- ---- the rows of a table

module _ (kind : Kind) (odd : Bool) (gone : List ℕ) (at : ℕ) (parts : List PartCells) where
  abbrev rows : List (Option Kept)
  rows = rows_of parts

  abbrev spot : ℕ → BookSpot
  spot row = record { table = at; at = spot_from 0 parts row }

  abbrev next : List Coming → ℕ → Option Kept
  next xs row = next_row odd gone xs at parts row

  abbrev left : ℕ → Option Kept
  left row = left_kept odd gone (cell_at parts (spot_from 0 parts row))

  -- where others come to other tables
  others : (xs : List Coming) (row : ℕ) (o : Option Kept) → All (λ (x : Coming). x.spot.table ≢ at) xs → come_to xs (spot row) o ≡ o
  others xs row o apart = none-come xs (spot row) o (All-weaker (λ (x : Coming). x.spot.table ≢ at) (λ (x : Coming). x.spot ≢ spot row) (λ x ne e. ne (ap (λ (s : BookSpot). s.table) e)) xs apart)

  -- what is kept of a row
  row-kept : (row : ℕ) (o : Option Kept) → slice_get rows row ≡ Some o → cell_at parts (spot_from 0 parts row) ≡ o
  row-kept row o is = same_Some (cell_at parts (spot_from 0 parts row)) o (sym (row-cell parts row (slice_get_within rows row o is)) ∙ is)

  -- before the first entry comes
  pub rows-left : (xs : List Coming) (o : RowOrder) → All (λ (x : Coming). x.spot.table ≢ at) xs → AreRows kind odd (is_among gone) rows o → AreNextRows kind odd gone xs at parts o
  rows-left xs o apart are = record {
    rows = λ key row there.
        let a = are.rows key row there in
        let next_is : next xs row ≡ Some (record a.0 { visible = 3 }) =
        others xs row (left row) apart ∙ ap (left_kept odd gone) (row-kept row (Some a.0) a.1) ∙ left-stays odd gone a.0 a.2.0 a.2.1 in
        (slice_get_within rows row (Some a.0) a.1, record a.0 { visible = 3 }, next_is, both-seen (not odd) a.0, a.3);
    all = λ row k lt is seen. stays row k lt (cell_at parts (spot_from 0 parts row)) refl (sym (others xs row (left row) apart) ∙ is) seen;
    free = λ row. are.free row ∙ unseen row (is_unseen odd rows row) refl;
  }
    where
      stays : (row : ℕ) (k : Kept) → row < length rows → (q : Option Kept) → cell_at parts (spot_from 0 parts row) ≡ q → left_kept odd gone q ≡ Some k → is_seen (not odd) k ≡ true → get pair_cmp o.rows (kept_key kind k) ≡ Some row
      stays row k lt None is e seen = absurd (none-some k e)
      stays row k lt (Some j) is e seen =
          let s = stays-seen odd gone j k e seen in
          ap (λ (i : Kept). get pair_cmp o.rows (kept_key kind i)) s.2 ∙ are.all row j (row-cell parts row lt ∙ ap Some is) (s.0, s.1)

      unseen : (row : ℕ) (b : Bool) → is_unseen odd rows row ≡ b → is_unseen odd rows row ≡ (is_unseen odd rows row && not (is_kept_seen (not odd) (next xs row)))
      unseen row false e = e ∙ ap (λ b. b && not (is_kept_seen (not odd) (next xs row))) (sym e)
      unseen row true e =
          let there = unseen-there odd rows row e in
          let none : next xs row ≡ None = others xs row (left row) apart ∙ left-unseen odd gone (cell_at parts (spot_from 0 parts row)) (ap (is_kept_seen odd) (row-kept row there.0 there.1) ∙ there.2) in
          e ∙ ap (λ q. true && not (is_kept_seen (not odd) q)) (sym none) ∙ ap (λ b. b && not (is_kept_seen (not odd) (next xs row))) (sym e)

  -- where entries come to other tables
  pub rows-other : (xs more : List Coming) (o : RowOrder) → All (λ (x : Coming). x.spot.table ≢ at) more → AreNextRows kind odd gone xs at parts o → AreNextRows kind odd gone (xs ++ more) at parts o
  rows-other xs more o apart are = record {
    rows = λ key row there. let a = are.rows key row there in (a.0, a.1, same row ∙ a.2, a.3, a.4);
    all = λ row k lt is. are.all row k lt (sym (same row) ∙ is);
    free = λ row. are.free row ∙ ap (λ q. is_unseen odd rows row && not (is_kept_seen (not odd) q)) (sym (same row));
  }
    where
      same : (row : ℕ) → next (xs ++ more) row ≡ next xs row
      same row = come-append xs more (spot row) (left row) ∙ others more row (next xs row) apart

  -- where one comes to a row
  module _ (xs : List Coming) (o new : RowOrder) (are : AreNextRows kind odd gone xs at parts o) (c : Coming) (row : ℕ) (here : c.spot ≡ record { table = at; at = spot_from 0 parts row })
      (free : contains nat_cmp o.free row ≡ true) (none : get pair_cmp o.rows (kept_key kind c.kept) ≡ None) (seen : is_seen (not odd) c.kept ≡ true) (given : IsRowGiven (kept_key kind c.kept) o new (Some row)) where
    abbrev key : ℕ × ℕ
    key = kept_key kind c.kept

    free-parts : (is_unseen odd rows row ≡ true) × (not (is_kept_seen (not odd) (next xs row)) ≡ true)
    free-parts = and_parts _ _ (sym (are.free row) ∙ free)

    within : row < length rows
    within = let there = unseen-there odd rows row free-parts.0 in slice_get_within rows row there.0 there.1

    own : next (xs ++ c ∷ []) row ≡ Some c.kept
    own =
        come-append xs (c ∷ []) (spot row) (left row)
        ∙ ap (λ b. cond b (Some c.kept) (next xs row)) (ap (λ s. is_spot s (spot row)) here ∙ spot-itself (spot row))

    other : (r : ℕ) → r < length rows → row ≢ r → next (xs ++ c ∷ []) r ≡ next xs r
    other r lt ne = come-append xs (c ∷ []) (spot r) (left r) ∙ by (is_spot c.spot (spot r)) refl
      where
        by : (b : Bool) → is_spot c.spot (spot r) ≡ b → cond b (Some c.kept) (next xs r) ≡ next xs r
        by true e = absurd (ne (one-row parts row r within lt (ap (λ (s : BookSpot). s.at) (sym here ∙ same-spot c.spot (spot r) e))))
        by false e = refl

    -- no entry has the row before
    not-old : (k : Kept) → next xs row ≡ Some k → is_seen (not odd) k ≡ true → ⊥
    not-old k is s = false≢true (ap (λ b. not b) (sym s) ∙ ap (λ q. not (is_kept_seen (not odd) q)) (sym is) ∙ free-parts.1)

    new-rows : (q : ℕ × ℕ) (r : ℕ) (b : Bool) → is_at (pair_cmp key) q ≡ b → cond b (Some row) (get pair_cmp o.rows q) ≡ Some r
        → (r < length rows) × (k : Kept) × (next (xs ++ c ∷ []) r ≡ Some k) × (is_seen (not odd) k ≡ true) × (q ≡ kept_key kind k)
    new-rows q r true e is =
        let same = same_Some row r is in
        (subst (λ n. n < length rows) same within, c.kept, ap (next (xs ++ c ∷ [])) (sym same) ∙ own, seen, sym (same-key key q e))
    new-rows q r false e is =
        let a = are.rows q r is in
        (a.0, a.1, other r a.0 (λ same. not-old a.1 (ap (next xs) same ∙ a.2) a.3) ∙ a.2, a.3, a.4)

    new-all : (r : ℕ) (k : Kept) → r < length rows → next (xs ++ c ∷ []) r ≡ Some k → is_seen (not odd) k ≡ true → (b : Bool) → is_at (nat_cmp row) r ≡ b → get pair_cmp new.rows (kept_key kind k) ≡ Some r
    new-all r k lt is s true e =
        let same = same-number row r e in
        let kept : c.kept ≡ k = same_Some c.kept k (sym own ∙ ap (next (xs ++ c ∷ [])) same ∙ is) in
        ap (λ (j : Kept). get pair_cmp new.rows (kept_key kind j)) (sym kept) ∙ given.0 key ∙ ap (λ b. cond b (Some row) (get pair_cmp o.rows key)) (own-key key) ∙ ap Some same
    new-all r k lt is s false e =
        let ne : row ≢ r = λ same. false≢true (sym e ∙ ap (is_at (nat_cmp row)) (sym same) ∙ own-number row) in
        let old = are.all r k lt (sym (other r lt ne) ∙ is) s in
        given.0 (kept_key kind k) ∙ by (is_at (pair_cmp key) (kept_key kind k)) refl old
      where
        by : (b : Bool) → is_at (pair_cmp key) (kept_key kind k) ≡ b → get pair_cmp o.rows (kept_key kind k) ≡ Some r → cond b (Some row) (get pair_cmp o.rows (kept_key kind k)) ≡ Some r
        by true f old = absurd (none-some r (sym none ∙ ap (get pair_cmp o.rows) (same-key key (kept_key kind k) f) ∙ old))
        by false f old = old

    new-free : (r : ℕ) (u : Bool) → is_unseen odd rows r ≡ u → (b : Bool) → is_at (nat_cmp row) r ≡ b → cond b false (contains nat_cmp o.free r) ≡ (is_unseen odd rows r && not (is_kept_seen (not odd) (next (xs ++ c ∷ []) r)))
    new-free r u h true e =
        let same = same-number row r e in
        sym (ap (λ q. is_unseen odd rows r && not (is_kept_seen (not odd) q)) (ap (next (xs ++ c ∷ [])) (sym same) ∙ own) ∙ ap (λ t. is_unseen odd rows r && not t) seen ∙ nothing (is_unseen odd rows r))
      where
        nothing : (t : Bool) → (t && false) ≡ false
        nothing true = refl
        nothing false = refl
    new-free r false h false e = are.free r ∙ ap (λ t. t && not (is_kept_seen (not odd) (next xs r))) h ∙ ap (λ t. t && not (is_kept_seen (not odd) (next (xs ++ c ∷ []) r))) (sym h)
    new-free r true h false e =
        let there = unseen-there odd rows r h in
        let ne : row ≢ r = λ same. false≢true (sym e ∙ ap (is_at (nat_cmp row)) (sym same) ∙ own-number row) in
        are.free r ∙ ap (λ q. is_unseen odd rows r && not (is_kept_seen (not odd) q)) (sym (other r (slice_get_within rows r there.0 there.1) ne))

    pub rows-more : AreNextRows kind odd gone (xs ++ c ∷ []) at parts new
    rows-more = record {
      rows = λ q r there. new-rows q r (is_at (pair_cmp key) q) refl (sym (given.0 q) ∙ there);
      all = λ r k lt is s. new-all r k lt is s (is_at (nat_cmp row) r) refl;
      free = λ r. given.1 r ∙ new-free r (is_unseen odd rows r) refl (is_at (nat_cmp row) r) refl;
    }

-- ---- the index of a table

pub index-left : (odd : Bool) (gone : List ℕ) (xs : List Coming) (at : ℕ) (t : TableCells) (o : TableIndex) → All (λ (x : Coming). x.spot.table ≢ at) xs → IsIndex odd (is_among gone) t o → IsNextIndex odd gone xs at t o
index-left odd gone xs at t (Cells given) apart h = (h.0, h.1)
index-left odd gone xs at t (Rows o) apart h = (h.0, h.1, rows-left t.name.kind odd gone at t.parts.items xs o apart h.2)

pub index-other : (odd : Bool) (gone : List ℕ) (xs more : List Coming) (at : ℕ) (t : TableCells) (o : TableIndex) → All (λ (x : Coming). x.spot.table ≢ at) more → IsNextIndex odd gone xs at t o → IsNextIndex odd gone (xs ++ more) at t o
index-other odd gone xs more at t (Cells given) apart h = h
index-other odd gone xs more at t (Rows o) apart h = (h.0, h.1, rows-other t.name.kind odd gone at t.parts.items xs more o apart h.2)

pub index-more : (odd : Bool) (seed : ℕ) (gone : List ℕ) (xs : List Coming) (at : ℕ) (t : TableCells) (e : Entry) (old new : TableIndex) (s : Spot) (c : Coming) → MayGive t e old → TakesFrom odd seed t e old new (Some s) → IsComing odd at t e s c
    → is_seen (not odd) c.kept ≡ true → IsNextIndex odd gone xs at t old → IsNextIndex odd gone (xs ++ c ∷ []) at t new
index-more odd seed gone xs at t e (Cells given) (Cells new) s c may takes coming seen h =
    (h.0, ap (λ (gs : List (BTreeSet ℕ)). length gs) takes.given.changed ∙ length-set given.items s.part takes.given.behind ∙ h.1)
index-more odd seed gone xs at t e (Cells given) (Rows new) s c may takes coming seen h = absurd takes
index-more odd seed gone xs at t e (Rows o) (Cells new) s c may takes coming seen h = absurd takes
index-more odd seed gone xs at t e (Rows o) (Rows new) s c may takes coming seen h = (h.0, h.1, by takes.row takes.spot_is takes.first takes.given)
  where
    same : entry_key t.name.kind e ≡ kept_key t.name.kind c.kept
    same = ap (entry_key t.name.kind) (sym coming.keeps.told)

    by : (row : Option ℕ) → Some s ≡ option_map (spot_from 0 t.parts.items) row → IsFirstFit o.rows o.free (entry_key t.name.kind e) row → IsRowGiven (entry_key t.name.kind e) o new row → AreNextRows t.name.kind odd gone (xs ++ c ∷ []) at t.parts.items new
    by None is fit given = absurd (none-some s (sym is))
    by (Some row) is fit given =
        let spot : s ≡ spot_from 0 t.parts.items row = same_Some s (spot_from 0 t.parts.items row) is in
        rows-more t.name.kind odd gone at t.parts.items xs o new h.2 c row (coming.spot ∙ ap (λ (z : Spot). record { table = at; at = z }) spot) fit.0 (ap (get pair_cmp o.rows) (sym same) ∙ may.new) seen
        (subst (λ k. IsRowGiven k o new (Some row)) same given)
