-- How the index of a book goes on to the next version, one step after another.
use Rattle.std.proofs.Common.{◌≡◌, ◌≢◌, ℕ, ◌+◌, ◌<◌, ◌≤◌, ◌^◌, ◌==◌, ◌&&◌, ◌||◌, Bool, true, false, cond, List, [], ◌∷◌, ◌++◌, Option, Some, None, slice_set, take, refl, sym, ap, ◌∙◌, subst, arith}
use Rattle.std.specs.Prelude.{Contains, slice_get}
use Rattle.std.specs.List.{AllZip, filter_map, list_any}
use Rattle.std.specs.BTreeMap.{BTreeMap, get}
use Rattle.std.specs.BTreeSet.{contains}
use Rattle.std.specs.Ordering.{nat_cmp}
use Rattle.std.proofs.lemmas.Bool.{eq-eqb, eqb-true, false≢true}
use Rattle.std.proofs.Math.Bool.{or-false, or-true}
use Rattle.std.proofs.lemmas.List.{append-nil, length-set, take_more_set}
use Rattle.std.proofs.lemmas.List.Elements.{All-contains, all_zip_more, filter_map-append}
use Rattle.std.proofs.lemmas.List.Folds.{list_any-append}
use Rattle.std.proofs.lemmas.Option.{get_or_from_slice_get, same_Some, slice_get_within}
use Rattle.rmt_bits.proofs.ListLaws.{slice_get-item, slice_get-set_other, slice_get-set_same, take-slice_get}
use Rattle.rmt_update.specs.declared.book.index.TableIndex.{TableIndex}
use Rattle.rmt_update.specs.declared.book.index.TableIndex.TheVariants.{Cells, Rows}
use Rattle.rmt_book.specs.declared.spot.BookSpot.{BookSpot}
use Rattle.rmt_book.specs.declared.table.PartCells.{PartCells}
use Rattle.rmt_book.specs.declared.table.TableCells.{TableCells}
use Rattle.rmt_book.specs.BookSpots.{kept_at}
use Rattle.rmt_update.specs.NextIndex.{AreAllFreed, AreFreed, AreSeenSpots, HasFewRows, IsFewRow, IsRenewed, IsRowFreed, is_row_of, is_unseen_of}
use Rattle.rmt_update.specs.RowIndex.{row_number}
use Rattle.rmt_book.proofs.RankLaws.{same-number}

-- ---- the cells of numbers

pub left-none : {X Y : Type 0} (f : X → Option Y) (xs : List X) (i : ℕ) (x : X) → slice_get xs i ≡ Some x → f x ≡ None → filter_map f (take (i + 1) xs) ≡ filter_map f (take i xs)
left-none f xs i x at none =
    let last : filter_map f (x ∷ []) ≡ [] = rw none refl in
    ap (filter_map f) (take-slice_get xs i x at) ∙ filter_map-append f (take i xs) (x ∷ []) ∙ ap (λ ys. filter_map f (take i xs) ++ ys) last ∙ append-nil (filter_map f (take i xs))

pub left-some : {X Y : Type 0} (f : X → Option Y) (xs : List X) (i : ℕ) (x : X) (y : Y) → slice_get xs i ≡ Some x → f x ≡ Some y → filter_map f (take (i + 1) xs) ≡ filter_map f (take i xs) ++ y ∷ []
left-some f xs i x y at some =
    let last : filter_map f (x ∷ []) ≡ y ∷ [] = rw some refl in
    ap (filter_map f) (take-slice_get xs i x at) ∙ filter_map-append f (take i xs) (x ∷ []) ∙ ap (λ ys. filter_map f (take i xs) ++ ys) last

-- ---- the cells that the version sees

module _ (odd : Bool) (ts : List TableCells) (among : List BookSpot) (i : ℕ) (s : BookSpot) (at : slice_get among i ≡ Some s) (old mid : BTreeMap ℕ BookSpot) (h : AreSeenSpots odd ts (take i among) old mid) where
  -- a cell that isn't seen is forgotten
  pub seen-next : (new : BTreeMap ℕ BookSpot) → ((n : ℕ) → get nat_cmp new n ≡ cond (is_unseen_of odd n (kept_at ts s)) None (get nat_cmp mid n)) → AreSeenSpots odd ts (take (i + 1) among) old new
  seen-next new up = record {
    each = λ n.
        let test : BookSpot → Bool = λ z. is_unseen_of odd n (kept_at ts z) in
        up n ∙ ap (λ o. cond (is_unseen_of odd n (kept_at ts s)) None o) (h.each n) ∙ joined (is_unseen_of odd n (kept_at ts s)) (list_any (λ z. is_unseen_of odd n (kept_at ts z)) (take i among)) (get nat_cmp old n)
        ∙ ap (λ f. cond f None (get nat_cmp old n)) (sym (ap (list_any (λ z. is_unseen_of odd n (kept_at ts z))) (take-slice_get among i s at) ∙ list_any-append (λ z. is_unseen_of odd n (kept_at ts z)) (take i among) (s ∷ [])));
  }
    where
      joined : (u a : Bool) (o : Option BookSpot) → cond u None (cond a None o) ≡ cond (a || (u || false)) None o
      joined true true o = refl
      joined true false o = refl
      joined false true o = refl
      joined false false o = refl

-- ---- the rows of the entries that go

-- a further row of the table
freed-here : (at : ℕ) (parts : List PartCells) (xs : List BookSpot) (s : BookSpot) (o m new : TableIndex) → s.table ≡ at → AreFreed at parts xs o m → IsRowFreed (row_number parts s.at) m new → AreFreed at parts (xs ++ s ∷ []) o new
freed-here at parts xs s (Cells o) (Cells m) (Cells new) here before freed = freed ∙ before
freed-here at parts xs s (Cells o) (Cells m) (Rows new) here before freed = absurd freed
freed-here at parts xs s (Cells o) (Rows m) new here before freed = absurd before
freed-here at parts xs s (Rows o) (Cells m) new here before freed = absurd before
freed-here at parts xs s (Rows o) (Rows m) (Cells new) here before freed = absurd freed
freed-here at parts xs s (Rows o) (Rows m) (Rows new) here before freed = (
  freed.0 ∙ before.0,
  λ row.
      freed.1 row ∙ ap (λ f. cond f true (contains nat_cmp m.free row)) (same-number (row_number parts s.at) row) ∙ ap (cond (row_number parts s.at == row) true) (before.1 row)
      ∙ joined (row_number parts s.at == row) (contains nat_cmp o.free row) (list_any (is_row_of at parts row) xs)
      ∙ ap (λ a. contains nat_cmp o.free row || a)
      (ap (λ f. list_any (is_row_of at parts row) xs || ((f && (row_number parts s.at == row)) || false)) (sym (eq-eqb s.table at here)) ∙ sym (list_any-append (is_row_of at parts row) xs (s ∷ []))),
)
  where
    joined : (f c a : Bool) → cond f true (c || a) ≡ (c || (a || ((true && f) || false)))
    joined true c a = sym (ap (λ b. c || b) (or-true a) ∙ or-true c)
    joined false c a = ap (λ b. c || b) (sym (or-false a))

-- one of another table
freed-other : (at : ℕ) (parts : List PartCells) (xs : List BookSpot) (s : BookSpot) (o m : TableIndex) → (s.table == at) ≡ false → AreFreed at parts xs o m → AreFreed at parts (xs ++ s ∷ []) o m
freed-other at parts xs s (Cells o) (Cells m) other before = before
freed-other at parts xs s (Cells o) (Rows m) other before = absurd before
freed-other at parts xs s (Rows o) (Cells m) other before = absurd before
freed-other at parts xs s (Rows o) (Rows m) other before = (
  before.0,
  λ row.
      before.1 row
      ∙ ap (λ a. contains nat_cmp o.free row || a)
      (alone (list_any (is_row_of at parts row) xs) ∙ ap (λ f. list_any (is_row_of at parts row) xs || ((f && (row_number parts s.at == row)) || false)) (sym other)
      ∙ sym (list_any-append (is_row_of at parts row) xs (s ∷ []))),
)
  where
    alone : (b : Bool) → b ≡ (b || false)
    alone true = refl
    alone false = refl

module _ (ts : List TableCells) (among : List BookSpot) (i : ℕ) (s : BookSpot) (at_s : slice_get among i ≡ Some s) (t : TableCells) (at_t : slice_get ts s.table ≡ Some t) (old mid : List TableIndex) (m : TableIndex) (at_m : slice_get mid s.table ≡ Some m)
    (h : AreAllFreed ts (take i among) old mid) where
  abbrev so_far : List BookSpot
  so_far = take i among

  -- the number of its row
  pub few-row : ((j : ℕ) (u : TableCells) (o : TableIndex) → slice_get ts j ≡ Some u → slice_get old j ≡ Some o → HasFewRows j u.parts.items among o) → Contains among s → IsFewRow (row_number t.parts.items s.at) m
  few-row few there =
      let lt = slice_get_within mid s.table m at_m in
      let count = h.count in
      let o = slice_get-item old s.table (omega (arith, lt, count)) in
      by o.0 m (few s.table t o.0 at_t o.1) (h.each s.table t o.0 m at_t o.1 at_m)
    where
      by : (o p : TableIndex) → HasFewRows s.table t.parts.items among o → AreFreed s.table t.parts.items (take i among) o p → IsFewRow (row_number t.parts.items s.at) p
      by (Cells o) (Cells p) f freed = tt
      by (Cells o) (Rows p) f freed = absurd freed
      by (Rows o) (Cells p) f freed = absurd freed
      by (Rows o) (Rows p) f freed = All-contains (λ z. z.table ≡ s.table → row_number t.parts.items z.at < 2 ^ 32) among s f there refl

  pub freed-next : (new : TableIndex) → IsRowFreed (row_number t.parts.items s.at) m new → AreAllFreed ts (take (i + 1) among) old (slice_set mid s.table new)
  freed-next new freed = record {
    count = length-set mid s.table new ∙ h.count;
    each = λ j u o p at_u at_o at_p. subst (λ zs. AreFreed j u.parts.items zs o p) (sym (take-slice_get among i s at_s)) (by j u o p at_u at_o at_p (s.table == j) refl);
  }
    where
      by : (j : ℕ) (u : TableCells) (o p : TableIndex) → slice_get ts j ≡ Some u → slice_get old j ≡ Some o → slice_get (slice_set mid s.table new) j ≡ Some p → (f : Bool) → (s.table == j) ≡ f → AreFreed j u.parts.items (take i among ++ s ∷ []) o p
      by j u o p at_u at_o at_p true e =
          let place = eqb-true s.table j e in
          let table : t ≡ u = same_Some t u (sym at_t ∙ ap (slice_get ts) place ∙ at_u) in
          let index : new ≡ p = same_Some new p (sym (slice_get-set_same mid s.table m new at_m) ∙ ap (slice_get (slice_set mid s.table new)) place ∙ at_p) in
          let before = h.each j u o m at_u at_o (ap (slice_get mid) (sym place) ∙ at_m) in
          freed-here j u.parts.items (take i among) s o m p place before
          (subst (λ (q : TableIndex). IsRowFreed (row_number u.parts.items s.at) m q) index (subst (λ (v : TableCells). IsRowFreed (row_number v.parts.items s.at) m new) table freed))
      by j u o p at_u at_o at_p false e =
          let ne : j ≢ s.table = λ same. false≢true (sym e ∙ eq-eqb s.table j (sym same)) in
          freed-other j u.parts.items (take i among) s o p e (h.each j u o p at_u at_o (sym (slice_get-set_other mid s.table j new ne) ∙ at_p))

-- ---- the cells that exact tables gave

-- those of the first tables are taken back
pub record RenewedSoFar (n : ℕ) (old new : List TableIndex) : Type 0 where
  pub done : AllZip IsRenewed (take n old) (take n new)
  pub rest : (i : ℕ) → n ≤ i → slice_get new i ≡ slice_get old i

pub renewed-next : (n : ℕ) (old mid : List TableIndex) (m new : TableIndex) → RenewedSoFar n old mid → slice_get mid n ≡ Some m → IsRenewed m new → RenewedSoFar (n + 1) old (slice_set mid n new)
renewed-next n old mid m new h at_m renewed = record {
  done = subst (AllZip IsRenewed (take (n + 1) old)) (sym (take_more_set mid n new (slice_get_within mid n m at_m)))
      (all_zip_more IsRenewed old (take n mid) n m new (slice_get_within old n m at_old) (sym (get_or_from_slice_get old n m m at_old)) h.done renewed);
  rest = λ i le. let ne : i ≢ n = omega (arith, le) in slice_get-set_other mid n i new ne ∙ h.rest i (omega (arith, le));
}
  where
    at_old : slice_get old n ≡ Some m
    at_old = sym (h.rest n (omega arith)) ∙ at_m
