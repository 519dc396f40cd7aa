-- The index of a book behind a commit that moves no cell is that of the next tables.
use Rattle.std.proofs.Common.{◌≡◌, ◌⊎◌, ℕ, ◌/◌, ◌%◌, ◌<◌, ◌≤◌, ◌==◌, ◌&&◌, ◌||◌, Bool, true, false, not, cond, List, [], ◌∷◌, ◌++◌, Option, Some, None, Vec, get_or, length, map, option_map, refl, sym, ap, ◌∙◌, subst, inl, inr, arith}
use Rattle.std.specs.Prelude.{All, Contains, IsSome, IsTrue, option_and_then, slice_get, unwrap_or}
use Rattle.std.specs.Global.{Global}
use Rattle.std.specs.List.{AllZip, filter_map, flat_map, list_any}
use Rattle.std.specs.BTreeMap.{BTreeMap, get}
use Rattle.std.specs.BTreeSet.{BTreeSet, contains}
use Rattle.std.specs.Ordering.{nat_cmp}
use Rattle.std.proofs.lemmas.Bool.{and_parts, cases_lt, eq-eqb, eqb-true, false≢true, false_from_ne_true}
use Rattle.std.proofs.lemmas.List.Elements.{All-contains, All-weaker, Contains-append_cases, Contains-append_left, Contains-append_right, Contains-get_or}
use Rattle.std.proofs.lemmas.Option.{none-some, same_Some, slice_get-get_or, slice_get_past, slice_get_within}
use Rattle.rmt_bits.proofs.ListLaws.{AllZip-slice_get, slice_get-item}
use Rattle.rmt_bits.proofs.MemberLaws.{Contains-first, Contains-from_any, Contains-item, Contains-later, Contains-map, Contains-split, Contains-unmap, any_item, from_flat_map, list_any-Contains, Contains-filter_map}
use Rattle.rmt_bits.specs.Members.{is_among}
use Rattle.rmt_ast.specs.Answers.{entry_numbers}
use Rattle.rmt_ast.specs.RankPairs.{pair_cmp}
use Rattle.rmt_ast.specs.declared.entry.Entry.{Entry}
use Rattle.rmt_ast.specs.declared.names.Names.{Names}
use Rattle.rmt_ast.specs.declared.names.TableName.{TableName}
use Rattle.rmt_ast.specs.declared.program.Kind.{Kind}
use Rattle.rmt_config.specs.declared.config.Config.{Config}
use Rattle.rmt_config.specs.RunCells.{RunCells}
use Rattle.rmt_update.specs.declared.book.Book.{Book}
use Rattle.rmt_update.specs.declared.book.book_index.BookIndex.{BookIndex}
use Rattle.rmt_update.specs.declared.book.index.TableIndex.{TableIndex}
use Rattle.rmt_update.specs.declared.book.index.TableIndex.TheVariants.{Cells, Rows}
use Rattle.rmt_book.specs.declared.kept.Kept.{Kept}
use Rattle.rmt_update.specs.declared.book.placing.Coming.{Coming}
use Rattle.rmt_book.specs.declared.row_order.RowOrder.{RowOrder}
use Rattle.rmt_book.specs.declared.spot.BookSpot.{BookSpot}
use Rattle.rmt_book.specs.declared.spots.Spot.{Spot}
use Rattle.rmt_book.specs.declared.table.PartCells.{PartCells}
use Rattle.rmt_book.specs.declared.table.TableCells.{TableCells}
use Rattle.rmt_lists.specs.declared.lists.Changes.{Changes}
use Rattle.rmt_update.specs.BookIndex.{AreApart, FindsCells, IsBookIndex, IsRecentAt}
use Rattle.rmt_book.specs.BookSpots.{kept_at, kept_in}
use Rattle.rmt_update.specs.BookStands.{BookStands}
use Rattle.rmt_update.specs.Come.{AreOrdered, IsRunOf, Run}
use Rattle.rmt_update.specs.ComeIndex.{AreNextRows, HasPlaced, IsNextIndex, next_row}
use Rattle.rmt_update.specs.NextIndex.{AreAllFreed, AreFreed, AreSeenSpots, HasFewRows, IsRenewed, is_row_of, is_unseen_of, spot_behind}
use Rattle.rmt_update.specs.NextKept.{bit_of}
use Rattle.rmt_update.specs.Open.{is_kept_seen}
use Rattle.rmt_update.specs.Placing.{ArePlaced, IsBookSpot, TakesCell}
use Rattle.rmt_update.specs.Planned.{MayChange}
use Rattle.rmt_update.specs.Recent.{is_recent}
use Rattle.rmt_update.specs.RowIndex.{AreRows, IsIndex, has_rows, is_unseen, kept_key, never, row_number, rows_of}
use Rattle.rmt_book.specs.RowOrder.{key_by}
use Rattle.rmt_book.specs.Seen.{is_seen}
use Rattle.rmt_book.specs.Spots.{spot_from}
use Rattle.rmt_update.specs.Turning.{AreLike, AreNext, IsLike, IsSamePart, IsSameTable, IsSpotIn, cell_at, come_to, left_kept}
use Rattle.rmt_update.proofs.ApartLaws.{apart, spot-kept}
use Rattle.rmt_update.proofs.CellsFound.{kept-is, one-spot}
use Rattle.rmt_update.proofs.ComeSeen.{comes-visible, no-come}
use Rattle.rmt_update.proofs.GoingLaws.{kept-there}
use Rattle.rmt_update.proofs.LikeLaws.{like-from, like-of, like-seen}
use Rattle.rmt_update.proofs.NextNumbers.{NextIs, new, old, next-is, same-cell}
use Rattle.rmt_update.proofs.NextRowLaws.{unseen-there}
use Rattle.rmt_update.proofs.NextTables.{beside, left-was, one-comes, both-seen}
use Rattle.rmt_update.proofs.RecentLaws.{recent-goes}
use Rattle.rmt_update.proofs.RowNumbers.{number-spot, number-within, row-cell, same-count, same-spots, spot-number}
use Rattle.rmt_update.proofs.SettledKept.{next_at}
use Rattle.rmt_update.proofs.SettledPlaces.{come-here, none-come}
use Rattle.rmt_update.proofs.StayLaws.{from-filter_map, seen-in_lists}
use Rattle.rmt_update.proofs.ZipLaws.{zip-left, zip-length, zip-made, zip-right}

-- ---- the spots of numbers

behind-cases : (xs : List Coming) (n : ℕ) (o : Option BookSpot) (s : BookSpot) → spot_behind xs n o ≡ Some s → ((x : Coming) × Contains xs x × (x.kept.number ≡ n) × (x.spot ≡ s)) ⊎ (o ≡ Some s)
behind-cases [] n o s e = inr e
behind-cases (x ∷ xs) n o s e = by (x.kept.number == n) refl (behind-cases xs n (cond (x.kept.number == n) (Some x.spot) o) s e)
  where
    by : (b : Bool) → (x.kept.number == n) ≡ b → ((y : Coming) × Contains xs y × (y.kept.number ≡ n) × (y.spot ≡ s)) ⊎ (cond b (Some x.spot) o ≡ Some s)
        → ((y : Coming) × Contains (x ∷ xs) y × (y.kept.number ≡ n) × (y.spot ≡ s)) ⊎ (o ≡ Some s)
    by b at (inl h) = inl (h.0, Contains-later x xs h.0 h.1, h.2, h.3)
    by true at (inr is) = inl (x, Contains-first x xs, eqb-true x.kept.number n at, same_Some x.spot s is)
    by false at (inr is) = inr is

behind-some : (xs : List Coming) (n : ℕ) (o : Option BookSpot) → IsSome o → IsSome (spot_behind xs n o)
behind-some [] n o some = some
behind-some (x ∷ xs) n o some = behind-some xs n (cond (x.kept.number == n) (Some x.spot) o) (by (x.kept.number == n))
  where
    by : (b : Bool) → IsSome (cond b (Some x.spot) o)
    by true = refl
    by false = some

behind-has : (xs : List Coming) (x : Coming) (o : Option BookSpot) → Contains xs x → IsSome (spot_behind xs x.kept.number o)
behind-has [] x o there = absurd (let lt = there.1 in omega (arith, lt))
behind-has (y ∷ xs) x o there = elim (Contains-split y xs x there) [
  | inl same ↦
      behind-some xs x.kept.number (cond (y.kept.number == x.kept.number) (Some y.spot) o)
      (subst (λ b. IsSome (cond b (Some y.spot) o)) (sym (eq-eqb y.kept.number x.kept.number (ap (λ (z : Coming). z.kept.number) same))) refl)
  | inr later ↦ behind-has xs x (cond (y.kept.number == x.kept.number) (Some y.spot) o) later
]

-- one more that comes
pub behind-next : (xs : List Coming) (x : Coming) (n : ℕ) (o : Option BookSpot) → spot_behind (xs ++ x ∷ []) n o ≡ cond (x.kept.number == n) (Some x.spot) (spot_behind xs n o)
behind-next [] x n o = refl
behind-next (y ∷ xs) x n o = behind-next xs x n (cond (y.kept.number == n) (Some y.spot) o)

-- ---- what is seen of a cell

-- a cell that isn't seen lacks a visible bit
unseen-recent : (odd : Bool) (k : Kept) → is_seen odd k ≡ false → is_recent k ≡ true
unseen-recent odd k unseen = ap not (false_from_ne_true (k.visible == 3) (λ three. false≢true (sym unseen ∙ seen odd (eqb-true k.visible 3 three))))
  where
    seen : (o : Bool) → k.visible ≡ 3 → is_seen o k ≡ true
    seen true e = ap (λ v. (v / 2 % 2) == 1) e
    seen false e = ap (λ v. (v / 1 % 2) == 1) e

-- one with the visible bit of one version alone lacks the other
bit-recent : (o : Bool) (k : Kept) → k.visible ≡ bit_of o → is_recent k ≡ true
bit-recent true k e = ap (λ v. not (v == 3)) e
bit-recent false k e = ap (λ v. not (v == 3)) e

-- what is left of a cell that is seen
left-seen : (odd : Bool) (gone : List ℕ) (k : Kept) → is_seen odd k ≡ true → left_kept odd gone (Some k) ≡ Some (record k { visible = cond (is_among gone k.number) (bit_of odd) 3 })
left-seen odd gone k seen = ap (λ s. cond s (Some (record k { visible = cond (is_among gone k.number) (bit_of odd) 3 })) None) seen

left-was-seen : (odd : Bool) (gone : List ℕ) (k j : Kept) → left_kept odd gone (Some k) ≡ Some j → is_seen odd k ≡ true
left-was-seen odd gone k j e = by (is_seen odd k) refl e
  where
    by : (b : Bool) → is_seen odd k ≡ b → cond b (Some (record k { visible = cond (is_among gone k.number) (bit_of odd) 3 })) None ≡ Some j → is_seen odd k ≡ true
    by true is h = is
    by false is h = absurd (none-some j h)

other-unseen : (o : Bool) (k : Kept) → is_seen (not o) (record k { visible = bit_of o }) ≡ false
other-unseen true k = refl
other-unseen false k = refl

module _ (c : Config) (names : Names) (cells : RunCells) (lists : List (List Entry)) (ch : Changes) (b : Book) (xs : List Coming) (stands : BookStands c cells lists b) (named : c.names ≡ Some names)
    (may : MayChange c names cells lists ch) (placed : ArePlaced c names cells lists ch b.odd b.tables.items xs) (ix : BookIndex) (index : HasPlaced b.odd ch.gone xs b.tables.items ix) where
  abbrev ts : List TableCells
  ts = b.tables.items

  -- a cell whose entry goes
  pub left-kept : (s : BookSpot) → Contains (filter_map (get nat_cmp ix.spots) ch.gone) s → (k : Kept) × (kept_at b.tables.items s ≡ Some k) × (is_among ch.gone k.number ≡ true)
  left-kept s there =
      let n = from-filter_map (get nat_cmp ix.spots) ch.gone s there in
      let k = index.cells.spots n.0 s n.2 in
      (k.0, k.1, list_any-Contains (λ m. m == k.0.number) ch.gone n.0 n.1 (eq-eqb n.0 k.0.number (sym k.2)))

  -- its row is within the rows of its table
  pub left-within : (s : BookSpot) → Contains (filter_map (get nat_cmp ix.spots) ch.gone) s → IsBookSpot b.tables.items s
  left-within s there = let k = left-kept s there in spot-kept c cells lists b stands s k.0 k.1

  pub left-there : All (IsSpotIn b.tables.items) (filter_map (get nat_cmp ix.spots) ch.gone)
  left-there k d lt =
      let s = get_or (filter_map (get nat_cmp ix.spots) ch.gone) k d in
      let h = left-kept s (Contains-get_or (filter_map (get nat_cmp ix.spots) ch.gone) k d lt) in
      kept-there b.tables.items s h.0 h.1

  pub recent-there : All (IsSpotIn b.tables.items) ix.recent.items
  recent-there = All-weaker (IsRecentAt b.tables.items) (IsSpotIn b.tables.items) (λ s h. kept-there b.tables.items s h.0 h.1) ix.recent.items index.cells.each

  pub few-rows : (i : ℕ) (t : TableCells) (o : TableIndex) → slice_get b.tables.items i ≡ Some t → slice_get ix.tables.items i ≡ Some o → HasFewRows i t.parts.items (filter_map (get nat_cmp ix.spots) ch.gone) o
  few-rows i t (Cells given) at_t at_o = tt
  few-rows i t (Rows o) at_t at_o = λ k d lt table.
      let s = get_or (filter_map (get nat_cmp ix.spots) ch.gone) k d in
      let at = left-within s (Contains-get_or (filter_map (get nat_cmp ix.spots) ch.gone) k d lt) in
      let same : at.table ≡ t = same_Some at.table t (sym at.in_tables ∙ ap (slice_get ts) table ∙ at_t) in
      let in_parts : slice_get t.parts.items s.at.part ≡ Some at.part = ap (λ (v : TableCells). slice_get v.parts.items s.at.part) (sym same) ∙ at.in_parts in
      let low = number-within t.parts.items s.at at.part in_parts at.within in
      let few = (index.tables i t (Rows o) at_t at_o).1 in
      omega (arith, low, few)

  -- ---- the next tables

  module _ (us : List TableCells) (next : AreNext b.odd ch.gone xs b.tables.items us) where
    abbrev nx : BookSpot → Option Kept
    nx = next_at c names cells lists ch b xs stands named placed

    ordered : All AreOrdered ts
    ordered i d lt =
        let t = get_or ts i d in
        let u = zip-left IsSameTable ts us i t next.same (slice_get-get_or ts i d lt) in
        λ j e l.
        let x = get_or t.parts.items j e in
        let y = zip-left IsSamePart t.parts.items u.0.parts.items j x u.2.1 (slice_get-get_or t.parts.items j e l) in
        y.2.ordered

    -- the entry of a number that goes is seen
    gone-seen : (s : BookSpot) (k : Kept) → kept_at ts s ≡ Some k → is_among ch.gone k.number ≡ true → is_seen b.odd k ≡ true
    gone-seen s k is goes =
        let n = Contains-from_any ch.gone k.number goes in
        let stood = All-contains (λ n. IsTrue (is_among (flat_map entry_numbers lists) n)) ch.gone k.number may.gone_stand n in
        let es = from_flat_map entry_numbers lists k.number (Contains-from_any (flat_map entry_numbers lists) k.number stood) in
        let e = Contains-unmap (λ (e : Entry). e.number) es.0 k.number es.2 in
        let w : Run = record { config = c; names = names; cells = cells; lists = lists } in
        let run : IsRunOf b ch w = record { stands = stands; named = named; may = may } in
        let h = seen-in_lists w b ch run ordered es.0 e.0 es.1 e.1 in
        let there : kept_at ts h.spot ≡ Some h.kept = kept-is ts h.spot h.at ∙ h.there in
        let number : k.number ≡ h.kept.number = sym e.2 ∙ ap (λ (y : Entry). y.number) h.tells in
        let one : s ≡ h.spot = apart c cells lists b stands s h.spot k h.kept is there number in
        ap (is_seen b.odd) (same_Some k h.kept (sym is ∙ ap (kept_at ts) one ∙ there)) ∙ h.seen

    -- what is kept next of a cell that is seen
    seen-next : (s : BookSpot) (k : Kept) → kept_at ts s ≡ Some k → is_seen b.odd k ≡ true → nx s ≡ Some (record k { visible = cond (is_among ch.gone k.number) (bit_of b.odd) 3 })
    seen-next s k is seen =
        none-come xs s (left_kept b.odd ch.gone (kept_at ts s)) (no-come c cells lists b stands placed.coming xs placed.takes s k is seen) ∙ ap (left_kept b.odd ch.gone) is ∙ left-seen b.odd ch.gone k seen

    -- a cell of which something is kept next
    record NextHere (s : BookSpot) (k : Kept) : Type 0 where
      at : IsBookSpot ts s
      kept : Kept
      there : nx s ≡ Some kept
      like : IsLike k kept
      is : NextIs c names cells lists ch b xs stands named may placed s kept

    next-here : (s : BookSpot) (k : Kept) → kept_at us s ≡ Some k → NextHere s k
    next-here s k is =
        let h = like-of (kept_at us s) (nx s) k (next.each s) is in
        let at : IsBookSpot ts s =
        (elim (one-comes xs s) [
          | inl x ↦ let q = beside (TakesCell c cells.seed b.odd ts) placed.coming xs x.0 placed.takes x.1 in subst (IsBookSpot ts) x.2 q.2.at
          | inr none ↦
              let was = left-was b.odd ch.gone (kept_at ts s) h.0 (sym (none-come xs s (left_kept b.odd ch.gone (kept_at ts s)) none) ∙ h.1) in
              spot-kept c cells lists b stands s was.0 was.1
        ]) in
        record { at = at; kept = h.0; there = h.1; like = h.2; is = next-is c names cells lists ch b xs stands named may placed s at h.0 h.1 }

    apart-next : AreApart us
    apart-next s z k l at_s at_z same =
        let one = next-here s k at_s in
        let two = next-here z l at_z in
        let cell = same-cell c names cells lists ch b xs stands named may placed s z one.at two.at one.kept two.kept one.is two.is (sym one.like.number ∙ same ∙ two.like.number) in
        one-spot c cells lists b stands s z one.at two.at cell.0 cell.1 cell.2

    -- what comes to a cell is kept of it
    comes-kept : (x : Coming) → Contains xs x → (k : Kept) × (kept_at us x.spot ≡ Some k) × IsLike k x.kept
    comes-kept x there = like-from (kept_at us x.spot) (nx x.spot) x.kept (next.each x.spot) (come-here xs x (left_kept b.odd ch.gone (kept_at ts x.spot)) placed.apart there)

    -- what is seen is kept too
    seen-kept : (s : BookSpot) (k : Kept) → kept_at ts s ≡ Some k → is_seen b.odd k ≡ true → (j : Kept) × (kept_at us s ≡ Some j) × IsLike j (record k { visible = cond (is_among ch.gone k.number) (bit_of b.odd) 3 })
    seen-kept s k is seen = like-from (kept_at us s) (nx s) (record k { visible = cond (is_among ch.gone k.number) (bit_of b.odd) 3 }) (next.each s) (seen-next s k is seen)

    -- ---- where cells are found

    module _ (kept spots : BTreeMap ℕ BookSpot) (seen_spots : AreSeenSpots b.odd b.tables.items ix.recent.items ix.spots kept) (behind : (n : ℕ) → get nat_cmp spots n ≡ spot_behind xs n (get nat_cmp kept n)) where
      -- a number that is found yet
      kept-spot : (n : ℕ) (s : BookSpot) → get nat_cmp kept n ≡ Some s → (k : Kept) × (kept_at ts s ≡ Some k) × (k.number ≡ n) × (is_seen b.odd k ≡ true)
      kept-spot n s there = by (list_any (λ s. is_unseen_of b.odd n (kept_at ts s)) ix.recent.items) refl (sym (seen_spots.each n) ∙ there)
        where
          by : (f : Bool) → list_any (λ s. is_unseen_of b.odd n (kept_at ts s)) ix.recent.items ≡ f → cond f None (get nat_cmp ix.spots n) ≡ Some s → (k : Kept) × (kept_at ts s ≡ Some k) × (k.number ≡ n) × (is_seen b.odd k ≡ true)
          by true any e = absurd (none-some s e)
          by false any e =
              let h = index.cells.spots n s e in (
                h.0,
                h.1,
                h.2,
                not-false (is_seen b.odd h.0) (λ off.
                    false≢true (sym any ∙ list_any-Contains (λ z. is_unseen_of b.odd n (kept_at ts z)) ix.recent.items s (index.cells.recent s h.0 h.1 (unseen-recent b.odd h.0 off))
                    (ap (is_unseen_of b.odd n) h.1 ∙ ap (λ t. not t && (h.0.number == n)) off ∙ eq-eqb h.0.number n h.2))),
              )
            where
              not-false : (t : Bool) → (t ≡ false → ⊥) → t ≡ true
              not-false true e = refl
              not-false false e = absurd (e refl)

      -- a seen cell is found yet
      spot-stays : (s : BookSpot) (k : Kept) → kept_at ts s ≡ Some k → is_seen b.odd k ≡ true → get nat_cmp kept k.number ≡ Some s
      spot-stays s k is seen =
          seen_spots.each k.number ∙ ap (λ f. cond f None (get nat_cmp ix.spots k.number)) none ∙ index.cells.all s k is
        where
          none : list_any (λ z. is_unseen_of b.odd k.number (kept_at ts z)) ix.recent.items ≡ false
          none = false_from_ne_true (list_any (λ z. is_unseen_of b.odd k.number (kept_at ts z)) ix.recent.items) (λ any.
              let z = any_item (λ z. is_unseen_of b.odd k.number (kept_at ts z)) ix.recent.items any in
              by z.0 (kept_at ts z.0) refl z.2)
            where
              off : (t : Bool) → not t ≡ true → t ≡ false
              off true e = absurd (false≢true e)
              off false e = refl

              by : (z : BookSpot) (o : Option Kept) → kept_at ts z ≡ o → is_unseen_of b.odd k.number o ≡ true → ⊥
              by z None at e = false≢true e
              by z (Some j) at e =
                  let two = and_parts (not (is_seen b.odd j)) (j.number == k.number) e in
                  let one : z ≡ s = apart c cells lists b stands z s j k at is (eqb-true j.number k.number two.1) in
                  false≢true (sym (off (is_seen b.odd j) two.0) ∙ ap (is_seen b.odd) (same_Some j k (sym at ∙ ap (kept_at ts) one ∙ is)) ∙ seen)

      next-spot : (n : ℕ) (s : BookSpot) → get nat_cmp spots n ≡ Some s → (k : Kept) × (kept_at us s ≡ Some k) × (k.number ≡ n)
      next-spot n s there = elim (behind-cases xs n (get nat_cmp kept n) s (sym (behind n) ∙ there)) [
        | inl x ↦ let k = comes-kept x.0 x.1 in (k.0, ap (kept_at us) (sym x.3) ∙ k.1, k.2.number ∙ x.2)
        | inr e ↦ let h = kept-spot n s e in let k = seen-kept s h.0 h.1 h.3 in (k.0, k.1, k.2.number ∙ h.2)
      ]

      next-some : (s : BookSpot) (k : Kept) → kept_at us s ≡ Some k → IsSome (get nat_cmp spots k.number)
      next-some s k is =
          let h = next-here s k is in
          subst (λ n. IsSome (get nat_cmp spots n)) (sym h.like.number) (subst IsSome (sym (behind h.kept.number)) (by h.kept h.is))
        where
          by : (j : Kept) → NextIs c names cells lists ch b xs stands named may placed s j → IsSome (spot_behind xs j.number (get nat_cmp kept j.number))
          by j (new i q x there got takes spot comes) =
              subst (λ (y : Kept). IsSome (spot_behind xs y.number (get nat_cmp kept y.number))) (sym comes) (behind-has xs x (get nat_cmp kept x.kept.number) (Contains-item xs i x got))
          by j (old o was left_so num) =
              behind-some xs j.number (get nat_cmp kept j.number)
              (subst (λ n. IsSome (get nat_cmp kept n)) (sym num) (subst IsSome (sym (spot-stays s o was (left-was-seen b.odd ch.gone o j left_so))) refl))

      next-all : (s : BookSpot) (k : Kept) → kept_at us s ≡ Some k → get nat_cmp spots k.number ≡ Some s
      next-all s k is = by (get nat_cmp spots k.number) refl (next-some s k is)
        where
          by : (o : Option BookSpot) → get nat_cmp spots k.number ≡ o → IsSome o → get nat_cmp spots k.number ≡ Some s
          by None at some = absurd (false≢true some)
          by (Some z) at some = let h = next-spot k.number z at in at ∙ ap Some (apart-next z s h.0 k h.1 is h.2)

      -- those that don't have both visible bits
      left-recent : (s : BookSpot) → Contains (filter_map (get nat_cmp ix.spots) ch.gone) s → IsRecentAt us s
      left-recent s there =
          let h = left-kept s there in
          let k = seen-kept s h.0 h.1 (gone-seen s h.0 h.1 h.2) in
          (k.0, k.1, bit-recent b.odd k.0 (k.2.visible ∙ ap (λ g. cond g (bit_of b.odd) 3) h.2))

      come-recent : (x : Coming) → Contains xs x → IsRecentAt us x.spot
      come-recent x there =
          let k = comes-kept x there in
          let q = beside (TakesCell c cells.seed b.odd ts) placed.coming xs x placed.takes there in
          (k.0, k.1, bit-recent (not b.odd) k.0 (k.2.visible ∙ comes-visible c cells lists b stands q.0 x q.2))

      next-each : (s : BookSpot) → Contains (filter_map (get nat_cmp ix.spots) ch.gone ++ map (λ (x : Coming). x.spot) xs) s → IsRecentAt us s
      next-each s there = elim (Contains-append_cases (filter_map (get nat_cmp ix.spots) ch.gone) (map (λ (x : Coming). x.spot) xs) s there) [
        | inl goes ↦ left-recent s goes
        | inr comes ↦ let x = Contains-unmap (λ (x : Coming). x.spot) xs s comes in subst (IsRecentAt us) x.2 (come-recent x.0 x.1)
      ]

      next-recent : (s : BookSpot) (k : Kept) → kept_at us s ≡ Some k → is_recent k ≡ true → Contains (filter_map (get nat_cmp ix.spots) ch.gone ++ map (λ (x : Coming). x.spot) xs) s
      next-recent s k is off = let h = next-here s k is in by h.kept h.like h.is
        where
          by : (j : Kept) → IsLike k j → NextIs c names cells lists ch b xs stands named may placed s j → Contains (filter_map (get nat_cmp ix.spots) ch.gone ++ map (λ (x : Coming). x.spot) xs) s
          by j like (new i q x there got takes spot comes) =
              Contains-append_right (filter_map (get nat_cmp ix.spots) ch.gone) (map (λ (x : Coming). x.spot) xs) s
              (subst (Contains (map (λ (x : Coming). x.spot) xs)) spot (Contains-map (λ (x : Coming). x.spot) xs x (Contains-item xs i x got)))
          by j like (old o was left_so num) =
              let goes = recent-goes b.odd ch.gone o j left_so (λ three. false≢true (sym (ap not (eq-eqb k.visible 3 (like.visible ∙ three))) ∙ off)) in
              Contains-append_left (filter_map (get nat_cmp ix.spots) ch.gone) (map (λ (x : Coming). x.spot) xs) s
              (Contains-filter_map (get nat_cmp ix.spots) ch.gone o.number s (Contains-from_any ch.gone o.number goes) (index.cells.all s o was))

      pub next-cells : (d : BookIndex) → d.spots ≡ spots → d.recent.items ≡ filter_map (get nat_cmp ix.spots) ch.gone ++ map (λ (x : Coming). x.spot) xs → FindsCells us d
      next-cells d same list = record {
        spots = λ n s there. next-spot n s (ap (λ (m : BTreeMap ℕ BookSpot). get nat_cmp m n) (sym same) ∙ there);
        all = λ s k is. ap (λ (m : BTreeMap ℕ BookSpot). get nat_cmp m k.number) same ∙ next-all s k is;
        each = subst (All (IsRecentAt us)) (sym list) (λ i e lt. next-each (get_or (filter_map (get nat_cmp ix.spots) ch.gone ++ map (λ (x : Coming). x.spot) xs) i e) (Contains-get_or (filter_map (get nat_cmp ix.spots) ch.gone ++ map (λ (x : Coming). x.spot) xs) i e lt));
        recent = λ s k is off. subst (λ zs. Contains zs s) (sym list) (next-recent s k is off);
      }

    -- ---- the rows of a table

    module _ (i : ℕ) (t u : TableCells) (at_t : slice_get b.tables.items i ≡ Some t) (at_u : slice_get us i ≡ Some u) (same : IsSameTable t u) (o new_order : RowOrder)
        (are : AreNextRows t.name.kind b.odd ch.gone xs i t.parts.items o) (rows_same : new_order.rows ≡ o.rows)
        (freed : (row : ℕ) → contains nat_cmp new_order.free row ≡ (contains nat_cmp o.free row || list_any (is_row_of i t.parts.items row) (filter_map (get nat_cmp ix.spots) ch.gone))) where
      abbrev parts : List PartCells
      parts = t.parts.items

      abbrev kind : Kind
      kind = t.name.kind

      abbrev spot : ℕ → BookSpot
      spot row = record { table = i; at = spot_from 0 parts row }

      long : length (rows_of u.parts.items) ≡ length (rows_of t.parts.items)
      long = same-count t.parts.items u.parts.items same.1

      -- what is kept of a row, now and next
      now-row : (row : ℕ) → kept_at ts (spot row) ≡ cell_at parts (spot_from 0 parts row)
      now-row row = ap (option_and_then (λ (v : TableCells). kept_in v (spot_from 0 parts row))) at_t

      next-is-row : (row : ℕ) → nx (spot row) ≡ next_row b.odd ch.gone xs i parts row
      next-is-row row = ap (λ o. come_to xs (spot row) (left_kept b.odd ch.gone o)) (now-row row)

      next-row : (row : ℕ) → row < length (rows_of parts) → slice_get (rows_of u.parts.items) row ≡ Some (kept_at us (spot row))
      next-row row lt =
          row-cell u.parts.items row (omega (arith, lt, long))
          ∙ ap (λ z. Some (cell_at u.parts.items z)) (same-spots 0 parts u.parts.items row same.1)
          ∙ ap Some (sym (ap (option_and_then (λ (v : TableCells). kept_in v (spot_from 0 parts row))) at_u))

      like-row : (row : ℕ) → AreLike (kept_at us (spot row)) (next_row b.odd ch.gone xs i parts row)
      like-row row = subst (AreLike (kept_at us (spot row))) (next-is-row row) (next.each (spot row))

      like-key : (a d : Kept) → IsLike a d → kept_key kind d ≡ kept_key kind a
      like-key a d like = by kind
        where
          by : (k : Kind) → kept_key k d ≡ kept_key k a
          by k = ap (λ n. key_by k n d.number) (sym like.rank) ∙ ap (key_by k a.rank) (sym like.number)

      next-rows : (key : ℕ × ℕ) (row : ℕ) → get pair_cmp o.rows key ≡ Some row → (k : Kept) × (slice_get (rows_of u.parts.items) row ≡ Some (Some k)) × ((is_seen (not b.odd) k ≡ true) × (never k.number ≡ false)) × (key ≡ kept_key kind k)
      next-rows key row there =
          let a = are.rows key row there in
          let k = like-from (kept_at us (spot row)) (next_row b.odd ch.gone xs i parts row) a.1 (like-row row) a.2 in
          (k.0, next-row row a.0 ∙ ap Some k.1, (like-seen (not b.odd) k.0 a.1 k.2 ∙ a.3, refl), a.4 ∙ like-key k.0 a.1 k.2)

      next-keys : (row : ℕ) (k : Kept) → slice_get (rows_of u.parts.items) row ≡ Some (Some k) → is_seen (not b.odd) k ≡ true → get pair_cmp o.rows (kept_key kind k) ≡ Some row
      next-keys row k at_row seen =
          let lt = slice_get_within (rows_of u.parts.items) row (Some k) at_row in
          let within : row < length (rows_of parts) = omega (arith, lt, long) in
          let is : kept_at us (spot row) ≡ Some k = same_Some (kept_at us (spot row)) (Some k) (sym (next-row row within) ∙ at_row) in
          let j = like-of (kept_at us (spot row)) (next_row b.odd ch.gone xs i parts row) k (like-row row) is in
          ap (get pair_cmp o.rows) (sym (like-key k j.0 j.2)) ∙ are.all row j.0 within j.1 (sym (like-seen (not b.odd) k j.0 j.2) ∙ seen)

      like-kept : (p q : Option Kept) → AreLike p q → is_kept_seen (not b.odd) p ≡ is_kept_seen (not b.odd) q
      like-kept None None like = refl
      like-kept None (Some q) like = absurd like
      like-kept (Some p) None like = absurd like
      like-kept (Some p) (Some q) like = like-seen (not b.odd) p q like

      -- the row of a cell whose entry goes
      gone-row : (row : ℕ) (s : BookSpot) → Contains (filter_map (get nat_cmp ix.spots) ch.gone) s → is_row_of i parts row s ≡ true → (s ≡ spot row) × (row < length (rows_of parts))
      gone-row row s there is =
          let two = and_parts (s.table == i) (row_number parts s.at == row) is in
          let table = eqb-true s.table i two.0 in
          let number = eqb-true (row_number parts s.at) row two.1 in
          let at = left-within s there in
          let one : at.table ≡ t = same_Some at.table t (sym at.in_tables ∙ ap (slice_get ts) table ∙ at_t) in
          let in_parts : slice_get parts s.at.part ≡ Some at.part = ap (λ (v : TableCells). slice_get v.parts.items s.at.part) (sym one) ∙ at.in_parts in
          let place : spot_from 0 parts row ≡ s.at = ap (spot_from 0 parts) (sym number) ∙ spot-number parts s.at at.part in_parts at.within in
          (ap (λ n. record { table = n; at = s.at }) table ∙ ap (λ (z : Spot). record { table = i; at = z }) (sym place), subst (λ n. n < length (rows_of parts)) number (number-within parts s.at at.part in_parts at.within))

      -- it is the row of a seen cell
      gone-any : (row : ℕ) → list_any (is_row_of i parts row) (filter_map (get nat_cmp ix.spots) ch.gone) ≡ true
          → (row < length (rows_of parts)) × (k : Kept) × (kept_at ts (spot row) ≡ Some k) × (is_seen b.odd k ≡ true) × (is_among ch.gone k.number ≡ true)
      gone-any row any =
          let s = any_item (is_row_of i parts row) (filter_map (get nat_cmp ix.spots) ch.gone) any in
          let h = gone-row row s.0 s.1 s.2 in
          let k = left-kept s.0 s.1 in
          (h.1, k.0, ap (kept_at ts) (sym h.0) ∙ k.1, gone-seen s.0 k.0 k.1 k.2, k.2)

      any-gone : (row : ℕ) (k : Kept) → row < length (rows_of parts) → kept_at ts (spot row) ≡ Some k → is_among ch.gone k.number ≡ true → list_any (is_row_of i parts row) (filter_map (get nat_cmp ix.spots) ch.gone) ≡ true
      any-gone row k lt is goes =
          list_any-Contains (is_row_of i parts row) (filter_map (get nat_cmp ix.spots) ch.gone) (spot row)
          (Contains-filter_map (get nat_cmp ix.spots) ch.gone k.number (spot row) (Contains-from_any ch.gone k.number goes) (index.cells.all (spot row) k is))
          (ap (λ t. t && (row_number parts (spot_from 0 parts row) == row)) (eq-eqb i i refl) ∙ eq-eqb (row_number parts (spot_from 0 parts row)) row (number-spot parts row lt))

      next-free : (row : ℕ) → (contains nat_cmp o.free row || list_any (is_row_of i parts row) (filter_map (get nat_cmp ix.spots) ch.gone)) ≡ is_unseen (not b.odd) (rows_of u.parts.items) row
      next-free row = elim (cases_lt row (length (rows_of parts))) [
        | inl lt ↦ within lt (is_unseen b.odd (rows_of parts) row) refl (cell_at parts (spot_from 0 parts row)) refl
        | inr ge ↦ past ge
      ]
        where
          answer : Option (Option Kept) → Bool
          answer q = unwrap_or (option_map (λ (o : Option Kept). not (is_kept_seen (not b.odd) o)) q) false

          now-answer : Option (Option Kept) → Bool
          now-answer q = unwrap_or (option_map (λ (o : Option Kept). not (is_kept_seen b.odd o)) q) false

          any : Bool
          any = list_any (is_row_of i parts row) (filter_map (get nat_cmp ix.spots) ch.gone)

          past : length (rows_of parts) ≤ row → (contains nat_cmp o.free row || list_any (is_row_of i parts row) (filter_map (get nat_cmp ix.spots) ch.gone)) ≡ is_unseen (not b.odd) (rows_of u.parts.items) row
          past ge =
              let clear : is_unseen b.odd (rows_of parts) row ≡ false = ap now-answer (slice_get_past (rows_of parts) row ge) in
              let none : list_any (is_row_of i parts row) (filter_map (get nat_cmp ix.spots) ch.gone) ≡ false =
              false_from_ne_true (list_any (is_row_of i parts row) (filter_map (get nat_cmp ix.spots) ch.gone)) (λ is. let lt = (gone-any row is).0 in omega (arith, ge, lt)) in
              ap (λ a. a || list_any (is_row_of i parts row) (filter_map (get nat_cmp ix.spots) ch.gone)) (are.free row ∙ ap (λ a. a && not (is_kept_seen (not b.odd) (next_row b.odd ch.gone xs i parts row))) clear)
              ∙ none ∙ sym (ap answer (slice_get_past (rows_of u.parts.items) row (omega (arith, ge, long))))

          next-answer : row < length (rows_of parts) → is_unseen (not b.odd) (rows_of u.parts.items) row ≡ not (is_kept_seen (not b.odd) (next_row b.odd ch.gone xs i parts row))
          next-answer lt = ap answer (next-row row lt) ∙ ap not (like-kept (kept_at us (spot row)) (next_row b.odd ch.gone xs i parts row) (like-row row))

          nothing : (f : Bool) → f ≡ true → f ≡ false → ⊥
          nothing f e g = false≢true (sym g ∙ e)

          within : row < length (rows_of parts) → (f : Bool) → is_unseen b.odd (rows_of parts) row ≡ f → (q : Option Kept) → cell_at parts (spot_from 0 parts row) ≡ q
              → (contains nat_cmp o.free row || list_any (is_row_of i parts row) (filter_map (get nat_cmp ix.spots) ch.gone)) ≡ is_unseen (not b.odd) (rows_of u.parts.items) row
          within lt true is q cell =
              let none : list_any (is_row_of i parts row) (filter_map (get nat_cmp ix.spots) ch.gone) ≡ false =
              false_from_ne_true (list_any (is_row_of i parts row) (filter_map (get nat_cmp ix.spots) ch.gone)) (λ any.
              let h = gone-any row any in
              let there = unseen-there b.odd (rows_of parts) row is in
              let kept : there.0 ≡ Some h.1 = same_Some there.0 (Some h.1) (sym there.1 ∙ row-cell parts row lt ∙ ap Some (sym (now-row row) ∙ h.2)) in
              false≢true (sym there.2 ∙ ap (is_kept_seen b.odd) kept ∙ h.3)) in
              ap (λ a. contains nat_cmp o.free row || a) none ∙ alone (contains nat_cmp o.free row) ∙ are.free row ∙ ap (λ a. a && not (is_kept_seen (not b.odd) (next_row b.odd ch.gone xs i parts row))) is ∙ sym (next-answer lt)
            where
              alone : (a : Bool) → (a || false) ≡ a
              alone true = refl
              alone false = refl
          within lt false is None cell =
              absurd (false≢true (sym is ∙ ap now-answer (row-cell parts row lt ∙ ap Some cell)))
          within lt false is (Some k) cell =
              let seen : is_seen b.odd k ≡ true = clear (is_seen b.odd k) (sym (ap now-answer (row-cell parts row lt ∙ ap Some cell)) ∙ is) in
              let here : kept_at ts (spot row) ≡ Some k = now-row row ∙ cell in
              let left_is : next_row b.odd ch.gone xs i parts row ≡ Some (record k { visible = cond (is_among ch.gone k.number) (bit_of b.odd) 3 }) = sym (next-is-row row) ∙ seen-next (spot row) k here seen in
              ap (λ a. a || list_any (is_row_of i parts row) (filter_map (get nat_cmp ix.spots) ch.gone)) (are.free row ∙ ap (λ a. a && not (is_kept_seen (not b.odd) (next_row b.odd ch.gone xs i parts row))) is)
              ∙ goes k here (is_among ch.gone k.number) refl
              ∙ sym (next-answer lt ∙ ap (λ q. not (is_kept_seen (not b.odd) q)) left_is)
            where
              clear : (f : Bool) → not f ≡ false → f ≡ true
              clear true e = refl
              clear false e = absurd (false≢true (sym e))

              goes : (k : Kept) → kept_at ts (spot row) ≡ Some k → (g : Bool) → is_among ch.gone k.number ≡ g
                  → list_any (is_row_of i parts row) (filter_map (get nat_cmp ix.spots) ch.gone) ≡ not (is_seen (not b.odd) (record k { visible = cond (is_among ch.gone k.number) (bit_of b.odd) 3 }))
              goes k here true g =
                  any-gone row k lt here g ∙ sym (ap (λ h. not (is_seen (not b.odd) (record k { visible = cond h (bit_of b.odd) 3 }))) g ∙ ap not (other-unseen b.odd k))
              goes k here false g =
                  false_from_ne_true (list_any (is_row_of i parts row) (filter_map (get nat_cmp ix.spots) ch.gone)) (λ any.
                  let h = gone-any row any in
                  false≢true (sym g ∙ ap (λ (j : Kept). is_among ch.gone j.number) (same_Some k h.1 (sym here ∙ h.2)) ∙ h.4))
                  ∙ sym (ap (λ h. not (is_seen (not b.odd) (record k { visible = cond h (bit_of b.odd) 3 }))) g ∙ ap not (both-seen (not b.odd) k))

      rows-next : AreRows t.name.kind (not b.odd) never (rows_of u.parts.items) new_order
      rows-next = record {
        rows = λ key row there. next-rows key row (ap (λ m. get pair_cmp m key) (sym rows_same) ∙ there);
        all = λ row k at_row stays. ap (λ m. get pair_cmp m (kept_key t.name.kind k)) rows_same ∙ next-keys row k at_row stays.0;
        free = λ row. freed row ∙ next-free row;
      }

    -- ---- the indexes of tables

    index-next : (i : ℕ) (t u : TableCells) → slice_get b.tables.items i ≡ Some t → slice_get us i ≡ Some u → IsSameTable t u → (o p q : TableIndex) → IsNextIndex b.odd ch.gone xs i t o
        → AreFreed i t.parts.items (filter_map (get nat_cmp ix.spots) ch.gone) o p → IsRenewed p q → IsIndex (not b.odd) never u q
    index-next i t u at_t at_u same (Cells o) (Cells p) (Cells q) is freed renewed =
        (ap (λ (n : TableName). has_rows n.kind) same.0 ∙ is.0, renewed.0 ∙ ap (λ (g : Vec (BTreeSet ℕ) Global). length g.items) freed ∙ is.1 ∙ zip-length IsSamePart t.parts.items u.parts.items same.1, renewed.1)
    index-next i t u at_t at_u same (Cells o) (Cells p) (Rows q) is freed renewed = absurd renewed
    index-next i t u at_t at_u same (Cells o) (Rows p) q is freed renewed = absurd freed
    index-next i t u at_t at_u same (Rows o) (Cells p) q is freed renewed = absurd freed
    index-next i t u at_t at_u same (Rows o) (Rows p) (Cells q) is freed renewed = absurd renewed
    index-next i t u at_t at_u same (Rows o) (Rows p) (Rows q) is freed renewed =
        let long = same-count t.parts.items u.parts.items same.1 in
        let few = is.1 in (
          ap (λ (n : TableName). has_rows n.kind) same.0 ∙ is.0,
          omega (arith, few, long),
          subst (λ (z : RowOrder). AreRows u.name.kind (not b.odd) never (rows_of u.parts.items) z) (sym renewed)
              (subst (λ (n : TableName). AreRows n.kind (not b.odd) never (rows_of u.parts.items) p) (sym same.0) (rows-next i t u at_t at_u same o p is.2 freed.0 freed.1)),
        )

    indexes-next : (freed renewed : List TableIndex) → AreAllFreed b.tables.items (filter_map (get nat_cmp ix.spots) ch.gone) ix.tables.items freed → AllZip IsRenewed freed renewed → AllZip (IsIndex (not b.odd) never) us renewed
    indexes-next freed renewed f r =
        let count = index.count in
        let f_count = f.count in
        let r_count = zip-length IsRenewed freed renewed r in
        let u_count = zip-length IsSameTable ts us next.same in
        zip-made (IsIndex (not b.odd) never) us renewed (omega (arith, count, f_count, r_count, u_count)) (λ i u q at_u at_q.
        let t = zip-right IsSameTable ts us i u next.same at_u in
        let lt = slice_get_within renewed i q at_q in
        let o = slice_get-item ix.tables.items i (omega (arith, lt, f_count, r_count)) in
        let p = slice_get-item freed i (omega (arith, lt, r_count)) in
        index-next i t.0 u t.1 at_u t.2 o.0 p.0 q (index.tables i t.0 o.0 t.1 o.1) (f.each i t.0 o.0 p.0 t.1 o.1 p.1) (AllZip-slice_get IsRenewed freed renewed i p.0 q r p.1 at_q))

    pub index-stands : (kept : BTreeMap ℕ BookSpot) (d : BookIndex) (freed : List TableIndex) → AreSeenSpots b.odd b.tables.items ix.recent.items ix.spots kept
        → ((n : ℕ) → get nat_cmp d.spots n ≡ spot_behind xs n (get nat_cmp kept n)) → d.recent.items ≡ filter_map (get nat_cmp ix.spots) ch.gone ++ map (λ (x : Coming). x.spot) xs
        → AreAllFreed b.tables.items (filter_map (get nat_cmp ix.spots) ch.gone) ix.tables.items freed → AllZip IsRenewed freed d.tables.items → IsBookIndex (not b.odd) us d
    index-stands kept d freed seen behind list f r = record {
      cells = next-cells kept d.spots seen behind d refl list;
      tables = indexes-next freed d.tables.items f r;
    }
