-- How many cells don't have both visible bits behind a commit that moves none.
use Rattle.std.proofs.Common.{◌≡◌, ◌≢◌, ℕ, ◌+◌, ◌≤◌, Bool, true, false, not, cond, eqb, List, ◌++◌, length, length-append, get_or, map, Some, None, refl, sym, ap, ◌∙◌, subst, arith}
use Rattle.std.specs.Prelude.{AllPairs, Contains, IsSome, slice_get}
use Rattle.std.specs.BTreeMap.{IsOrdered, get, values}
use Rattle.std.specs.Cmp.{nat_eq_equiv}
use Rattle.std.specs.Map.{keys_of}
use Rattle.std.specs.Ordering.{nat_cmp}
use Rattle.std.proofs.Math.ListN.{get_or-map}
use Rattle.std.proofs.lemmas.Bool.{eq-eqb, false≢true, ne_eqb}
use Rattle.std.proofs.lemmas.List.{length-map}
use Rattle.std.proofs.lemmas.List.Elements.{Contains-append_left, Contains-append_right}
use Rattle.std.proofs.lemmas.List.Kept.{AllPairs-filter}
use Rattle.std.proofs.lemmas.Map.Keys.{IsDistinct-from_apart, below_from_sorted}
use Rattle.std.proofs.lemmas.Map.Made.{length-le_from_is_member}
use Rattle.std.proofs.lemmas.Option.{none-some, same_Some, slice_get-get_or}
use Rattle.rmt_bits.proofs.MemberLaws.{Contains-from_any, Contains-item, Contains-map, Contains-unfilter, Contains-unmap, any_item, flat_from, list_any-Contains}
use Rattle.rmt_bits.proofs.PairLaws.{AllPairs-map}
use Rattle.rmt_bits.specs.Members.{is_among}
use Rattle.rmt_ast.specs.declared.entry.Entry.{Entry}
use Rattle.rmt_ast.specs.declared.names.Names.{Names}
use Rattle.rmt_config.specs.declared.config.Config.{Config}
use Rattle.rmt_config.specs.RunCells.{RunCells}
use Rattle.rmt_update.specs.declared.book.Book.{Book}
use Rattle.rmt_book.specs.declared.kept.Kept.{Kept}
use Rattle.rmt_update.specs.declared.book.placing.Coming.{Coming}
use Rattle.rmt_book.specs.declared.spot.BookSpot.{BookSpot}
use Rattle.rmt_book.specs.declared.table.PartCells.{PartCells}
use Rattle.rmt_book.specs.declared.table.TableCells.{TableCells}
use Rattle.rmt_lists.specs.declared.lists.Changes.{Changes}
use Rattle.rmt_update.specs.BookStands.{BookStands}
use Rattle.rmt_update.specs.NextKept.{bit_of}
use Rattle.rmt_update.specs.Placing.{ArePlaced, IsBookSpot}
use Rattle.rmt_update.specs.Planned.{MayChange}
use Rattle.rmt_update.specs.Recent.{is_recent, recent, recent_in, recent_of}
use Rattle.rmt_book.specs.Seen.{is_seen}
use Rattle.rmt_update.specs.Turning.{AreNext, IsLike, left_kept}
use Rattle.rmt_update.proofs.CellsFound.{one-spot}
use Rattle.rmt_update.proofs.LikeLaws.{like-of}
use Rattle.rmt_update.proofs.NextNumbers.{NextIs, new, old, next-is, same-cell}
use Rattle.rmt_update.proofs.NextTables.{kept-within, spot-of, two-parts}
use Rattle.rmt_update.proofs.PairsTold.{cell-there, flat-pairs}
use Rattle.rmt_update.proofs.SettledKept.{next_at}

-- what is left without both visible bits goes
pub recent-goes : (odd : Bool) (gone : List ℕ) (j k : Kept) → left_kept odd gone (Some j) ≡ Some k → (k.visible ≡ 3 → ⊥) → is_among gone j.number ≡ true
recent-goes odd gone j k left off = by (is_seen odd j) (is_among gone j.number) refl left
  where
    by : (s g : Bool) → is_among gone j.number ≡ g → cond s (Some (record j { visible = cond g (bit_of odd) 3 })) None ≡ Some k → is_among gone j.number ≡ true
    by false g is h = absurd (none-some k h)
    by true true is h = is
    by true false is h = absurd (off (ap (λ (i : Kept). i.visible) (sym (same_Some _ k h))))

module _ (c : Config) (names : Names) (cells : RunCells) (lists : List (List Entry)) (ch : Changes) (b : Book) (xs : List Coming) (stands : BookStands c cells lists b) (named : c.names ≡ Some names)
    (may : MayChange c names cells lists ch) (placed : ArePlaced c names cells lists ch b.odd b.tables.items xs) (us : List TableCells) (next : AreNext b.odd ch.gone xs b.tables.items us) where
  -- a kept cell of the next tables, and what is kept of it there
  record IsNextOf (i j n : ℕ) (k : Kept) : Type 0 where
    at : IsBookSpot b.tables.items (record { table = i; at = record { part = j; cell = n } })
    kept : Kept
    like : IsLike k kept
    is : NextIs c names cells lists ch b xs stands named may placed (record { table = i; at = record { part = j; cell = n } }) kept

  next-of : (i j n : ℕ) (u : TableCells) (y : PartCells) (k : Kept) → slice_get us i ≡ Some u → slice_get u.parts.items j ≡ Some y → get nat_cmp y.cells n ≡ Some k → IsNextOf i j n k
  next-of i j n u y k at_u at_y got =
      let s : BookSpot = record { table = i; at = record { part = j; cell = n } } in
      let d = two-parts c names cells lists ch b xs stands named placed us next i j u y at_u at_y in
      let at = spot-of c names cells lists ch b xs stands named placed us next i j n u y d (kept-within c names cells lists ch b xs stands named placed us next i j n u y d (subst IsSome (sym got) refl)) in
      let h = like-of (get nat_cmp y.cells n) (next_at c names cells lists ch b xs stands named placed s) k (d.each n) got in
      record { at = at; kept = h.0; like = h.2; is = next-is c names cells lists ch b xs stands named may placed s at h.0 h.1 }

  ordered : (i j : ℕ) (u : TableCells) (y : PartCells) → slice_get us i ≡ Some u → slice_get u.parts.items j ≡ Some y → IsOrdered nat_cmp y.cells
  ordered i j u y at_u at_y = (two-parts c names cells lists ch b xs stands named placed us next i j u y at_u at_y).same.still

  -- cells of one number are one
  one-cell : (i j n l m o : ℕ) (k h : Kept) → IsNextOf i j n k → IsNextOf l m o h → k.number ≡ h.number → (i ≡ l) × (j ≡ m) × (n ≡ o)
  one-cell i j n l m o k h a d same =
      let s : BookSpot = record { table = i; at = record { part = j; cell = n } } in
      let w : BookSpot = record { table = l; at = record { part = m; cell = o } } in
      let cell = same-cell c names cells lists ch b xs stands named may placed s w a.at d.at a.kept d.kept a.is d.is (sym a.like.number ∙ same ∙ d.like.number) in
      let one : s ≡ w = one-spot c cells lists b stands s w a.at d.at cell.0 cell.1 cell.2 in
      (ap (λ (x : BookSpot). x.table) one, ap (λ (x : BookSpot). x.at.part) one, ap (λ (x : BookSpot). x.at.cell) one)

  in-part : (i j : ℕ) (u : TableCells) (y : PartCells) (k : Kept) → slice_get us i ≡ Some u → slice_get u.parts.items j ≡ Some y → Contains (recent_in y) k → (n : ℕ) × IsNextOf i j n k × (is_recent k ≡ true)
  in-part i j u y k at_u at_y there =
      let d = Contains-unfilter is_recent (values y.cells) k there in
      let h = Contains-unmap (λ (x : ℕ × Kept). x.1) y.cells.entries k d.0 in
      let got : get nat_cmp y.cells h.0.0 ≡ Some k = cell-there y h.0.0 h.0.1 (ordered i j u y at_u at_y) h.1 ∙ ap Some h.2 in
      (h.0.0, next-of i j h.0.0 u y k at_u at_y got, d.1)

  in-table : (i : ℕ) (u : TableCells) (k : Kept) → slice_get us i ≡ Some u → Contains (recent_of u) k → (j n : ℕ) × IsNextOf i j n k × (is_recent k ≡ true)
  in-table i u k at_u there =
      let f = flat_from recent_in u.parts.items k there in
      let h = in-part i f.0 u f.1 k at_u f.2 f.3 in
      (f.0, h.0, h.1, h.2)

  part-numbers : (i j : ℕ) (u : TableCells) (y : PartCells) → slice_get us i ≡ Some u → slice_get u.parts.items j ≡ Some y → AllPairs (λ (a b : Kept). a.number ≢ b.number) (recent_in y)
  part-numbers i j u y at_u at_y =
      AllPairs-filter (λ (a b : Kept). a.number ≢ b.number) is_recent (values y.cells)
      (AllPairs-map (λ (a b : Kept). a.number ≢ b.number) (λ (x : ℕ × Kept). x.1) y.cells.entries (λ p q d lt l same.
      let es = y.cells.entries in
      let e = get_or es p d in
      let f = get_or es q d in
      let sorted = ordered i j u y at_u at_y in
      let got : get nat_cmp y.cells e.0 ≡ Some e.1 = cell-there y e.0 e.1 sorted (Contains-item es p e (slice_get-get_or es p d (omega (arith, lt, l)))) in
      let got2 : get nat_cmp y.cells f.0 ≡ Some f.1 = cell-there y f.0 f.1 sorted (Contains-item es q f (slice_get-get_or es q d l)) in
      let one = one-cell i j e.0 i j f.0 e.1 f.1 (next-of i j e.0 u y e.1 at_u at_y got) (next-of i j f.0 u y f.1 at_u at_y got2) same in
      let less = below_from_sorted (keys_of es) p q d.0 sorted lt (omega (arith, l, length-map es (λ (x : ℕ × Kept). x.0))) in
      let first : get_or (keys_of es) p d.0 ≡ e.0 = get_or-map (λ (x : ℕ × Kept). x.0) es p d in
      let second : get_or (keys_of es) q d.0 ≡ f.0 = get_or-map (λ (x : ℕ × Kept). x.0) es q d in
      let key = one.2 in
      absurd (omega (arith, less, first, second, key))))

  numbers : AllPairs (λ (a b : Kept). a.number ≢ b.number) (recent us)
  numbers =
      flat-pairs (λ (a b : Kept). a.number ≢ b.number) recent_of us
      (λ i u at_u.
      flat-pairs (λ (a b : Kept). a.number ≢ b.number) recent_in u.parts.items (λ j y at_y. part-numbers i j u y at_u at_y)
      (λ j m y z p q lt at_y at_z in_y in_z same.
      let g = in-part i j u y p at_u at_y in_y in
      let h = in-part i m u z q at_u at_z in_z in
      let one = (one-cell i j g.0 i m h.0 p q g.1 h.1 same).1 in
      absurd (omega (arith, lt, one))))
      (λ i l u w p q lt at_u at_w in_u in_w same.
      let g = in-table i u p at_u in_u in
      let h = in-table l w q at_w in_w in
      let one = (one-cell i g.0 g.1 l h.0 h.1 p q g.2 h.2 same).0 in
      absurd (omega (arith, lt, one)))

  -- each is of an entry that goes or comes
  among : (k : Kept) → Contains (recent us) k → Contains (ch.gone ++ map (λ (x : Coming). x.kept.number) xs) k.number
  among k there =
      let f = flat_from recent_of us k there in
      let h = in-table f.0 f.1 k f.2 f.3 in
      by h.2.kept h.2.like h.2.is h.3
    where
      by : {s : BookSpot} (j : Kept) → IsLike k j → NextIs c names cells lists ch b xs stands named may placed s j → is_recent k ≡ true → Contains (ch.gone ++ map (λ (x : Coming). x.kept.number) xs) k.number
      by j like (new i q x there kept takes spot is) off =
          subst (Contains (ch.gone ++ map (λ (x : Coming). x.kept.number) xs)) (ap (λ (y : Kept). y.number) (sym is) ∙ sym like.number)
          (Contains-append_right ch.gone (map (λ (x : Coming). x.kept.number) xs) x.kept.number (Contains-map (λ (x : Coming). x.kept.number) xs x (Contains-item xs i x kept)))
      by j like (old o was left num) off =
          let goes = recent-goes b.odd ch.gone o j left (λ three. false≢true (sym (ap not (eq-eqb k.visible 3 (like.visible ∙ three))) ∙ off)) in
          subst (Contains (ch.gone ++ map (λ (x : Coming). x.kept.number) xs)) (sym num ∙ sym like.number)
          (Contains-append_left ch.gone (map (λ (x : Coming). x.kept.number) xs) o.number (Contains-from_any ch.gone o.number goes))

  pub recent-few : length (recent us) ≤ length ch.gone + length xs
  recent-few =
      let ns = map (λ (k : Kept). k.number) (recent us) in
      let all = ch.gone ++ map (λ (x : Coming). x.kept.number) xs in
      let pairs : AllPairs (λ (a b : ℕ). a ≢ b) ns = AllPairs-map (λ (a b : ℕ). a ≢ b) (λ (k : Kept). k.number) (recent us) numbers in
      let few = length-le_from_is_member nat_eq_equiv ns all (IsDistinct-from_apart eqb ns (λ i j d lt l. ne_eqb _ _ (pairs i j d lt l))) (λ q h.
      let a = any_item (eqb q) ns h in
      let k = Contains-unmap (λ (k : Kept). k.number) (recent us) a.0 a.1 in
      list_any-Contains (eqb q) all a.0 (subst (Contains all) k.2 (among k.0 k.1)) a.2) in
      let l = length-map (recent us) (λ (k : Kept). k.number) in
      let m = length-append ch.gone (map (λ (x : Coming). x.kept.number) xs) in
      let o = length-map xs (λ (x : Coming). x.kept.number) in
      omega (arith, few, l, m, o)
