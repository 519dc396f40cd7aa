-- The rows of the entries that stay, as entries of one number after another go.
use Rattle.std.proofs.Common.{◌≡◌, ◌≢◌, ℕ, ◌<◌, ◌||◌, ◌==◌, Bool, true, false, cond, List, [], ◌∷◌, ◌++◌, ◌+◌, Option, Some, None, length, slice_set, take, refl, sym, ap, ◌∙◌, subst}
use Rattle.std.specs.Prelude.{IsSomeAnd, option_and_then, slice_get}
use Rattle.std.specs.List.{AllZip}
use Rattle.std.specs.BTreeMap.{get, is_at}
use Rattle.std.specs.BTreeSet.{contains}
use Rattle.std.specs.Ordering.{nat_cmp}
use Rattle.std.proofs.lemmas.Bool.{eq-eqb, eqb-true, false≢true, false_from_ne_true, or_parts}
use Rattle.std.proofs.lemmas.List.{length-set}
use Rattle.std.proofs.lemmas.Option.{none-some, same_Some, slice_get_within}
use Rattle.rmt_bits.proofs.ListLaws.{AllZip-slice_get, slice_get-set_other, slice_get-set_same, take-slice_get}
use Rattle.rmt_bits.specs.Members.{is_among}
use Rattle.rmt_ast.specs.RankPairs.{pair_cmp}
use Rattle.rmt_ast.specs.declared.program.Kind.{Kind}
use Rattle.rmt_update.specs.declared.book.book_index.BookIndex.{BookIndex}
use Rattle.rmt_update.specs.declared.book.index.TableIndex.{TableIndex}
use Rattle.rmt_update.specs.declared.book.index.TableIndex.TheVariants.{Cells, Rows}
use Rattle.rmt_book.specs.declared.kept.Kept.{Kept}
use Rattle.rmt_book.specs.declared.row_order.RowOrder.{RowOrder}
use Rattle.rmt_book.specs.declared.spot.BookSpot.{BookSpot}
use Rattle.rmt_book.specs.declared.table.PartCells.{PartCells}
use Rattle.rmt_book.specs.declared.table.TableCells.{TableCells}
use Rattle.rmt_update.specs.BookIndex.{AreApart, FindsCells}
use Rattle.rmt_book.specs.BookSpots.{kept_at, kept_in}
use Rattle.rmt_update.specs.RowIndex.{AreRows, HaveOwnRows, IsIndex, IsRowGone, kept_key, or_is, rows_of}
use Rattle.rmt_book.specs.Seen.{is_seen}
use Rattle.rmt_book.specs.Spots.{spot_from}
use Rattle.rmt_update.specs.Turning.{IsSpotIn}
use Rattle.rmt_update.proofs.RowIndexLaws.{key-number, own-key, same-key}
use Rattle.rmt_update.proofs.RowNumbers.{one-row, row-cell}
use Rattle.rmt_update.proofs.ZipLaws.{zip-gives, zip-length, zip-made}

-- ---- one table

both-false : (a b : Bool) → a ≡ false → b ≡ false → (a || b) ≡ false
both-false a b e f = ap (λ x. x || b) e ∙ f

-- where no row has an entry of the number
rows-stay : (kind : Kind) (odd : Bool) (goes : ℕ → Bool) (n : ℕ) (xs : List (Option Kept)) (o : RowOrder) → ((row : ℕ) (k : Kept) → slice_get xs row ≡ Some (Some k) → n ≢ k.number) → AreRows kind odd goes xs o → AreRows kind odd (or_is n goes) xs o
rows-stay kind odd goes n xs o none are = record {
  rows = λ key row there.
      let a = are.rows key row there in
      (a.0, a.1, (a.2.0, both-false (goes a.0.number) (n == a.0.number) a.2.1 (false_from_ne_true (n == a.0.number) (λ e. none row a.0 a.1 (eqb-true n a.0.number e)))), a.3);
  all = λ row k at stays. are.all row k at (stays.0, (or_parts (goes k.number) (n == k.number) stays.1).0);
  free = are.free;
}

-- where it goes from its row
rows-leave : (kind : Kind) (odd : Bool) (goes : ℕ → Bool) (n : ℕ) (xs : List (Option Kept)) (k : Kept) (o new : RowOrder) → k.number ≡ n → ((row : ℕ) (j : Kept) → slice_get xs row ≡ Some (Some j) → n ≡ j.number → k ≡ j)
    → ((q : ℕ × ℕ) → get pair_cmp new.rows q ≡ cond (is_at (pair_cmp (kept_key kind k)) q) None (get pair_cmp o.rows q)) → new.free ≡ o.free → AreRows kind odd goes xs o → AreRows kind odd (or_is n goes) xs new
rows-leave kind odd goes n xs k o new number only changed free are = record {
  rows = λ q row there. rows q row (is_at (pair_cmp (kept_key kind k)) q) refl (sym (changed q) ∙ there);
  all = λ row j at stays.
      let two = or_parts (goes j.number) (n == j.number) stays.1 in
      changed (kept_key kind j) ∙ all row j (is_at (pair_cmp (kept_key kind k)) (kept_key kind j)) refl two.1 (are.all row j at (stays.0, two.0));
  free = λ row. ap (λ s. contains nat_cmp s row) free ∙ are.free row;
}
  where
    rows : (q : ℕ × ℕ) (row : ℕ) (b : Bool) → is_at (pair_cmp (kept_key kind k)) q ≡ b → cond b None (get pair_cmp o.rows q) ≡ Some row
        → (j : Kept) × (slice_get xs row ≡ Some (Some j)) × ((is_seen odd j ≡ true) × (or_is n goes j.number ≡ false)) × (q ≡ kept_key kind j)
    rows q row true e is = absurd (none-some row is)
    rows q row false e is =
        let a = are.rows q row is in
        (a.0, a.1, (a.2.0, both-false (goes a.0.number) (n == a.0.number) a.2.1 (false_from_ne_true (n == a.0.number) (λ t. false≢true (sym e ∙ ap (is_at (pair_cmp (kept_key kind k))) (a.3 ∙ ap (kept_key kind) (sym (only row a.0 a.1 (eqb-true n a.0.number t)))) ∙ own-key (kept_key kind k))))), a.3)

    all : (row : ℕ) (j : Kept) (b : Bool) → is_at (pair_cmp (kept_key kind k)) (kept_key kind j) ≡ b → (n == j.number) ≡ false → get pair_cmp o.rows (kept_key kind j) ≡ Some row → cond b None (get pair_cmp o.rows (kept_key kind j)) ≡ Some row
    all row j true e other is = absurd (false≢true (sym other ∙ eq-eqb n j.number (sym number ∙ key-number kind k j (same-key (kept_key kind k) (kept_key kind j) e))))
    all row j false e other is = is

pub index-stays : (odd : Bool) (goes : ℕ → Bool) (n : ℕ) (t : TableCells) (o : TableIndex) → ((row : ℕ) (k : Kept) → slice_get (rows_of t.parts.items) row ≡ Some (Some k) → n ≢ k.number) → IsIndex odd goes t o → IsIndex odd (or_is n goes) t o
index-stays odd goes n t (Cells given) none h = h
index-stays odd goes n t (Rows o) none h = (h.0, h.1, rows-stay t.name.kind odd goes n (rows_of t.parts.items) o none h.2)

index-leaves : (odd : Bool) (goes : ℕ → Bool) (n : ℕ) (t : TableCells) (k : Kept) (o new : TableIndex) → k.number ≡ n → ((row : ℕ) (j : Kept) → slice_get (rows_of t.parts.items) row ≡ Some (Some j) → n ≡ j.number → k ≡ j)
    → IsRowGone (kept_key t.name.kind k) o new → IsIndex odd goes t o → IsIndex odd (or_is n goes) t new
index-leaves odd goes n t k (Cells given) (Cells new) number only leaves h = subst (λ g. IsIndex odd (or_is n goes) t (Cells g)) (sym leaves) h
index-leaves odd goes n t k (Cells given) (Rows new) number only leaves h = absurd leaves
index-leaves odd goes n t k (Rows o) (Cells given) number only leaves h = absurd leaves
index-leaves odd goes n t k (Rows o) (Rows new) number only leaves h = (h.0, h.1, rows-leave t.name.kind odd goes n (rows_of t.parts.items) k o new number only leaves.0 leaves.1 h.2)

-- another test that says the same of all numbers
index-goes : (odd : Bool) (goes now : ℕ → Bool) → ((n : ℕ) → goes n ≡ now n) → (t : TableCells) (o : TableIndex) → IsIndex odd goes t o → IsIndex odd now t o
index-goes odd goes now same t (Cells given) h = h
index-goes odd goes now same t (Rows o) h = (
  h.0,
  h.1,
  record {
    rows = λ key row there. let a = h.2.rows key row there in (a.0, a.1, (a.2.0, sym (same a.0.number) ∙ a.2.1), a.3);
    all = λ row k at stays. h.2.all row k at (stays.0, same k.number ∙ stays.1);
    free = h.2.free;
  },
)

-- ---- all tables

-- where something is kept there is a cell
pub kept-there : (ts : List TableCells) (s : BookSpot) (k : Kept) → kept_at ts s ≡ Some k → IsSpotIn ts s
kept-there ts s k is = by (slice_get ts s.table) is
  where
    part : (t : TableCells) (o : Option PartCells) → slice_get t.parts.items s.at.part ≡ o → option_and_then (λ (p : PartCells). get nat_cmp p.cells s.at.cell) o ≡ Some k → s.at.part < length t.parts.items
    part t None at e = absurd (none-some k e)
    part t (Some x) at e = slice_get_within t.parts.items s.at.part x at

    by : (o : Option TableCells) → option_and_then (λ (t : TableCells). kept_in t s.at) o ≡ Some k → IsSomeAnd o (λ (t : TableCells). s.at.part < length t.parts.items)
    by None e = absurd (none-some k e)
    by (Some t) e = part t (slice_get t.parts.items s.at.part) refl e

-- what is kept of a row of the table at a place
kept-row : (ts : List TableCells) (i : ℕ) (t : TableCells) (row : ℕ) (o : Option Kept) → slice_get ts i ≡ Some t → slice_get (rows_of t.parts.items) row ≡ Some o → kept_at ts (record { table = i; at = spot_from 0 t.parts.items row }) ≡ o
kept-row ts i t row o at_t at_row =
    ap (option_and_then (λ (v : TableCells). kept_in v (spot_from 0 t.parts.items row))) at_t
    ∙ same_Some _ o (sym (row-cell t.parts.items row (slice_get_within (rows_of t.parts.items) row o at_row)) ∙ at_row)

-- no two rows of a table have entries of one number
pub own-rows : (ts : List TableCells) → AreApart ts → (i : ℕ) (t : TableCells) → slice_get ts i ≡ Some t → HaveOwnRows (rows_of t.parts.items)
own-rows ts apart i t at_t row row2 k l at_k at_l same =
    let parts = t.parts.items in
    let one = apart (record { table = i; at = spot_from 0 parts row }) (record { table = i; at = spot_from 0 parts row2 }) k l (kept-row ts i t row (Some k) at_t at_k) (kept-row ts i t row2 (Some l) at_t at_l) same in
    one-row parts row row2 (slice_get_within (rows_of parts) row (Some k) at_k) (slice_get_within (rows_of parts) row2 (Some l) at_l) (ap (λ (s : BookSpot). s.at) one)

module _ (ts : List TableCells) (old : BookIndex) (apart : AreApart ts) (cells : FindsCells ts old) (n : ℕ) (odd : Bool) (goes : ℕ → Bool) (zip : AllZip (IsIndex odd goes) ts old.tables.items) where
  -- no cell has an entry of the number
  pub none-leaves : get nat_cmp old.spots n ≡ None → AllZip (IsIndex odd (or_is n goes)) ts old.tables.items
  none-leaves none =
      zip-made (IsIndex odd (or_is n goes)) ts old.tables.items (zip-length (IsIndex odd goes) ts old.tables.items zip)
      (λ i t o at_t at_o. index-stays odd goes n t o
      (λ row k at_row same. none-some (record { table = i; at = spot_from 0 t.parts.items row }) (sym none ∙ ap (get nat_cmp old.spots) same ∙ cells.all (record { table = i; at = spot_from 0 t.parts.items row }) k (kept-row ts i t row (Some k) at_t at_row)))
      (AllZip-slice_get (IsIndex odd goes) ts old.tables.items i t o zip at_t at_o))

  -- that of one cell leaves its table
  pub one-leaves : (s : BookSpot) (k : Kept) (t : TableCells) (o new : TableIndex) → get nat_cmp old.spots n ≡ Some s → kept_at ts s ≡ Some k → slice_get ts s.table ≡ Some t → slice_get old.tables.items s.table ≡ Some o
      → IsRowGone (kept_key t.name.kind k) o new → AllZip (IsIndex odd (or_is n goes)) ts (slice_set old.tables.items s.table new)
  one-leaves s k t o new found kept at_t at_o leaves =
      zip-made (IsIndex odd (or_is n goes)) ts (slice_set old.tables.items s.table new) (zip-length (IsIndex odd goes) ts old.tables.items zip ∙ sym (length-set old.tables.items s.table new))
      (λ i u p at_u at_p. by i u p at_u at_p (i == s.table) refl)
    where
      number : k.number ≡ n
      number =
          let h = cells.spots n s found in
          ap (λ (j : Kept). j.number) (same_Some k h.0 (sym kept ∙ h.1)) ∙ h.2

      -- another cell doesn't have the number
      here : (i row : ℕ) (u : TableCells) (j : Kept) → slice_get ts i ≡ Some u → slice_get (rows_of u.parts.items) row ≡ Some (Some j) → n ≡ j.number → (s.table ≡ i) × (k ≡ j)
      here i row u j at_u at_row same =
          let z : BookSpot = record { table = i; at = spot_from 0 u.parts.items row } in
          let there = kept-row ts i u row (Some j) at_u at_row in
          let one : s ≡ z = apart s z k j kept there (number ∙ same) in
          (ap (λ (x : BookSpot). x.table) one, same_Some k j (sym kept ∙ ap (kept_at ts) one ∙ there))

      by : (i : ℕ) (u : TableCells) (p : TableIndex) → slice_get ts i ≡ Some u → slice_get (slice_set old.tables.items s.table new) i ≡ Some p → (b : Bool) → (i == s.table) ≡ b → IsIndex odd (or_is n goes) u p
      by i u p at_u at_p true e =
          let place : s.table ≡ i = sym (eqb-true i s.table e) in
          let one : t ≡ u = same_Some t u (sym at_t ∙ ap (slice_get ts) place ∙ at_u) in
          let index : new ≡ p = same_Some new p (sym (slice_get-set_same old.tables.items s.table o new at_o) ∙ ap (slice_get (slice_set old.tables.items s.table new)) place ∙ at_p) in
          subst (IsIndex odd (or_is n goes) u) index
          (subst (λ (v : TableCells). IsIndex odd (or_is n goes) v new) one
          (index-leaves odd goes n t k o new number (λ row j at_row same. (here s.table row t j at_t at_row same).1) leaves (AllZip-slice_get (IsIndex odd goes) ts old.tables.items s.table t o zip at_t at_o)))
      by i u p at_u at_p false e =
          let ne : i ≢ s.table = λ same. false≢true (sym e ∙ eq-eqb i s.table same) in
          index-stays odd goes n u p (λ row j at_row same. ne (sym (here i row u j at_u at_row same).0))
          (AllZip-slice_get (IsIndex odd goes) ts old.tables.items i u p zip at_u (sym (slice_get-set_other old.tables.items s.table i new ne) ∙ at_p))

-- one number more
pub leaves-more : (odd : Bool) (gone : List ℕ) (i n : ℕ) (ts : List TableCells) (os : List TableIndex) → slice_get gone i ≡ Some n → AllZip (IsIndex odd (or_is n (is_among (take i gone)))) ts os → AllZip (IsIndex odd (is_among (take (i + 1) gone))) ts os
leaves-more odd gone i n ts os at zip =
    zip-gives (IsIndex odd (or_is n (is_among (take i gone)))) (IsIndex odd (is_among (take (i + 1) gone)))
    (index-goes odd (or_is n (is_among (take i gone))) (is_among (take (i + 1) gone)) (λ m. sym (ap (λ ns. is_among ns m) (take-slice_get gone i n at) ∙ joined (take i gone) m))) ts os zip
  where
    joined : (ns : List ℕ) (m : ℕ) → is_among (ns ++ n ∷ []) m ≡ (is_among ns m || (n == m))
    joined [] m = one (n == m)
      where
        one : (b : Bool) → (b || false) ≡ b
        one true = refl
        one false = refl
    joined (k ∷ ns) m = by (k == m) (joined ns m)
      where
        by : (b : Bool) → is_among (ns ++ n ∷ []) m ≡ (is_among ns m || (n == m)) → (b || is_among (ns ++ n ∷ []) m) ≡ ((b || is_among ns m) || (n == m))
        by true rest = refl
        by false rest = rest

pub leaves-none : (odd : Bool) (gone : List ℕ) (ts : List TableCells) (os : List TableIndex) → AllZip (IsIndex odd (λ n. false)) ts os → AllZip (IsIndex odd (is_among (take 0 gone))) ts os
leaves-none odd gone ts os zip = zip-gives (IsIndex odd (λ n. false)) (IsIndex odd (is_among (take 0 gone))) (index-goes odd (λ n. false) (is_among (take 0 gone)) (λ n. sym (none gone n))) ts os zip
  where
    none : (ns : List ℕ) (n : ℕ) → is_among (take 0 ns) n ≡ false
    none [] n = refl
    none (m ∷ ns) n = refl
