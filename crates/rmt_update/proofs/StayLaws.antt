-- The entries that stay behind a commit have the rooms of their cells, and those that come are those of its changes, table by table.
use Rattle.std.proofs.Common.{◌≡◌, ◌≢◌, ℕ, zero, suc, ◌+◌, ◌<◌, ◌≤◌, ◌==◌, Bool, true, false, not, List, [], ◌∷◌, ◌++◌, Option, Some, None, get_or, map, length, option_map, refl, sym, ap, ◌∙◌, subst, inl, inr, arith}
use Rattle.std.specs.Prelude.{All, Contains, filter, slice_get, unwrap_or}
use Rattle.std.specs.List.{enumerate_from, filter_map, range_with_len}
use Rattle.std.specs.BTreeMap.{IsOrdered, get, keys}
use Rattle.std.specs.Cmp.{nat_cmp_total}
use Rattle.std.specs.Map.{values_of}
use Rattle.std.specs.Ordering.{nat_cmp}
use Rattle.std.proofs.lemmas.Bool.{cases_lt, eqb-true, false≢true, not-true}
use Rattle.std.proofs.lemmas.List.Elements.{All-contains, Contains-append_cases, Contains-append_left, Contains-get_or}
use Rattle.std.proofs.lemmas.List.FromFn.{length-enumerate_from, length-range_with_len}
use Rattle.std.proofs.lemmas.Map.Lookups.{exact_unsigned}
use Rattle.std.proofs.lemmas.Map.Views.{btree_map_get_iff}
use Rattle.std.proofs.lemmas.Option.{same_Some}
use Rattle.rmt_bits.proofs.AllLaws.{All-slice_get, All-unmap}
use Rattle.rmt_bits.proofs.MemberLaws.{Contains-filter, Contains-first, Contains-flat_map, Contains-item, Contains-later, Contains-map, Contains-split, Contains-unfilter, Contains-unmap, any_item, flat_from, from_flat_map, Contains-filter_map}
use Rattle.rmt_bits.specs.Members.{is_among}
use Rattle.rmt_ast.specs.declared.entry.Entry.{Entry}
use Rattle.rmt_ast.specs.declared.names.TableName.{TableName}
use Rattle.rmt_config.specs.Cells.{cells_in}
use Rattle.rmt_config.specs.Commits.{Placed, all_entries, is_numbered_in, placed_now, stay}
use Rattle.rmt_config.specs.NamesForm.{by_number}
use Rattle.rmt_config.specs.Rooms.{parts_of}
use Rattle.rmt_update.specs.declared.book.Book.{Book}
use Rattle.rmt_book.specs.declared.kept.Kept.{Kept}
use Rattle.rmt_book.specs.declared.spot.BookSpot.{BookSpot}
use Rattle.rmt_book.specs.declared.table.PartCells.{PartCells}
use Rattle.rmt_book.specs.declared.table.TableCells.{TableCells}
use Rattle.rmt_lists.specs.declared.lists.Changes.{Changes}
use Rattle.rmt_update.specs.BookStands.{HoldsPart, IsUsed}
use Rattle.rmt_update.specs.Come.{AreOrdered, IsRunOf, Run, staying}
use Rattle.rmt_update.specs.Loads.{table_of}
use Rattle.rmt_update.specs.Placing.{AreStaying, IsBookSpot, StaysAt, room_of}
use Rattle.rmt_update.specs.Planned.{changed_list, changed_lists}
use Rattle.rmt_book.specs.Seen.{entries_at, entries_by_part, entries_in, is_seen}
use Rattle.rmt_book.specs.Told.{told_entry}
use Rattle.rmt_update.proofs.BookFacts.{book-tables, found-there, holds-there, kept-facts, placed-seen}
use Rattle.rmt_update.proofs.ByNumberLaws.{from-by_number, to-by_number}
use Rattle.rmt_update.proofs.NodeLists.{found-at}
use Rattle.rmt_book.proofs.ShapeLaws.{cells-are}
use Rattle.rmt_update.proofs.ZipLaws.{zip-right}
use Rattle.rmt_pack.proofs.EntryLaws.{is_numbered}

-- ---- lists

pub from-filter_map : {X Y : Type 0} (h : X → Option Y) (xs : List X) (y : Y) → Contains (filter_map h xs) y → (x : X) × Contains xs x × (h x ≡ Some y)
from-filter_map h [] y there = absurd (let lt = there.1 in omega (arith, lt))
from-filter_map {X} {Y} h (x ∷ xs) y there = by (h x) refl there (from-filter_map h xs y)
  where
    by : (o : Option Y) → h x ≡ o → Contains (filter_map h (x ∷ xs)) y → (Contains (filter_map h xs) y → (z : X) × Contains xs z × (h z ≡ Some y)) → (z : X) × Contains (x ∷ xs) z × (h z ≡ Some y)
    by None is c rest = let r = rest (rw is at c) in (r.0, Contains-later x xs r.0 r.1, r.2)
    by (Some z) is c rest = elim (Contains-split z (filter_map h xs) y (rw is at c)) [
      | inl same ↦ (x, Contains-first x xs, is ∙ ap Some same)
      | inr more ↦ let r = rest more in (r.0, Contains-later x xs r.0 r.1, r.2)
    ]

from-enumerate : {X : Type 0} (a : ℕ) (xs : List X) (n : ℕ) (x : X) → Contains (enumerate_from a xs) (n, x) → Contains xs x
from-enumerate a [] n x there = absurd (let lt = there.1 in omega (arith, lt))
from-enumerate a (y ∷ xs) n x there = elim (Contains-split (a, y) (enumerate_from (a + 1) xs) (n, x) there) [
  | inl same ↦ subst (Contains (y ∷ xs)) (ap (λ p. p.1) same) (Contains-first y xs)
  | inr more ↦ Contains-later y xs x (from-enumerate (a + 1) xs n x more)
]

to-enumerate : {X : Type 0} (f : ℕ → X) (a len n : ℕ) → a ≤ n → n < a + len → Contains (enumerate_from a (map f (range_with_len a len))) (n, f n)
to-enumerate f a zero n ge lt = absurd (omega (arith, ge, lt))
to-enumerate {X} f a (suc len) n ge lt = elim (cases_lt a n) [
  | inl less ↦ Contains-later (a, f a) (enumerate_from (a + 1) (map f (range_with_len (a + 1) len))) (n, f n) (to-enumerate f (a + 1) len n (omega (arith, less)) (omega (arith, lt)))
  | inr le ↦
      let here : a ≡ n = omega (arith, ge, le) in
      subst (λ m. Contains ((a, f a) ∷ enumerate_from (a + 1) (map f (range_with_len (a + 1) len))) (m, f m)) here (Contains-first (a, f a) (enumerate_from (a + 1) (map f (range_with_len (a + 1) len))))
]

-- ---- a run

module _ (w : Run) (b : Book) (ch : Changes) (run : IsRunOf b ch w) (ordered : All AreOrdered b.tables.items) where
  -- the entry of a cell that is seen
  pub record SeenAt (e : Entry) : Type 0 where
    pub spot : BookSpot
    pub at : IsBookSpot b.tables.items spot
    pub kept : Kept
    pub there : get nat_cmp at.part.cells spot.at.cell ≡ Some kept
    pub seen : is_seen b.odd kept ≡ true
    pub tells : e ≡ told_entry at.table.name at.part.first kept

  seen-in_table : (i : ℕ) (t : TableCells) (e : Entry) → slice_get b.tables.items i ≡ Some t → Contains (entries_by_part b.odd t) e → SeenAt e
  seen-in_table i t e at there =
      let part = flat_from (entries_in b.odd t.name) t.parts.items e there in
      let x = part.1 in
      let told = Contains-unmap (told_entry t.name x.first) (filter (is_seen b.odd) (values_of x.cells.entries)) e part.3 in
      let seen = Contains-unfilter (is_seen b.odd) (values_of x.cells.entries) told.0 told.1 in
      let entry = Contains-unmap (λ (p : ℕ × Kept). p.1) x.cells.entries told.0 seen.0 in
      let order = All-slice_get (λ (y : PartCells). IsOrdered nat_cmp y.cells) t.parts.items part.0 x (All-slice_get AreOrdered b.tables.items i t ordered at) part.2 in
      let n = entry.0.0 in
      let there = (btree_map_get_iff nat_cmp_total exact_unsigned x.cells order n told.0).1 (subst (λ k. Contains x.cells.entries (n, k)) entry.2 entry.1) in
      let beside = zip-right (HoldsPart w.cells) (parts_of w.config t.name.node) t.parts.items part.0 x (holds-there w.config w.names w.cells w.lists b run.stands run.named i t at) part.2 in
      let inside = All-contains (λ m. m < cells_in beside.0.slot.memory) (keys x.cells) n beside.2.within (Contains-map (λ (p : ℕ × Kept). p.0) x.cells.entries entry.0 entry.1) in
      let size = cells-are beside.0.slot x.shape beside.2.shape in
      record {
        spot = record { table = i; at = record { part = part.0; cell = n } };
        at = record { table = t; in_tables = at; part = x; in_parts = part.2; within = omega (arith, inside, size) };
        kept = told.0;
        there = there;
        seen = seen.1;
        tells = sym told.2;
      }

  -- each entry of the lists is that of a cell that is seen
  pub seen-in_lists : (es : List Entry) (e : Entry) → Contains w.lists es → Contains es e → SeenAt e
  seen-in_lists es e in_lists there =
      let node = Contains-unmap (entries_at b.odd b.tables.items) (range_with_len 0 b.nodes) es (subst (λ ls. Contains ls es) run.stands.lists in_lists) in
      by node.0 (table_of b.tables.items node.0) refl (subst (λ xs. Contains xs e) (sym node.2) there)
    where
      by : (n : ℕ) (o : Option TableCells) → table_of b.tables.items n ≡ o → Contains (unwrap_or (option_map (λ (t : TableCells). by_number (entries_by_part b.odd t)) o) []) e → SeenAt e
      by n None is c = absurd (let lt = c.1 in omega (arith, lt))
      by n (Some t) is c =
          let place = found-at (λ (s : TableCells). s.name.node == n) b.tables.items t is in
          seen-in_table place.0 t e place.1 (from-by_number (entries_by_part b.odd t) e c)

  seen-in_all : (e : Entry) → Contains (all_entries w.lists) e → SeenAt e
  seen-in_all e there = let r = from_flat_map (λ (es : List Entry). es) w.lists e there in seen-in_lists r.0 e r.1 r.2

  -- the number of an entry that comes is that of none
  pub come-new : (o e : Entry) → SeenAt o → Contains ch.come e → o.number ≡ e.number → ⊥
  come-new o e s there same =
      let k = kept-facts w.config w.names w.cells w.lists b run.stands run.named s.spot s.at s.kept s.there in
      let p = k.facts.part in
      All-contains (λ (x : Entry). (k place n : ℕ) → IsUsed w.config w.cells k place n → w.cells.number k place n ≢ x.number) ch.come e run.may.come_new there p.stage p.place s.spot.at.cell k.used (k.number ∙ sym (ap (λ (x : Entry). x.number) s.tells) ∙ same)

  pub come-unnumbered : (e : Entry) → Contains ch.come e → is_numbered_in (all_entries w.lists) e ≡ false
  come-unnumbered e there = by (is_numbered_in (all_entries w.lists) e) refl
    where
      by : (t : Bool) → is_numbered_in (all_entries w.lists) e ≡ t → t ≡ false
      by false is = refl
      by true is =
          let o = any_item (λ (x : Entry). x.number == e.number) (all_entries w.lists) is in
          absurd (come-new o.0 e (seen-in_all o.0 o.1) there (eqb-true o.0.number e.number o.2))

  -- ---- entries that stay

  abbrev after : List (List Entry)
  after = changed_lists w.lists ch

  abbrev the_stay : List Entry
  the_stay = stay w.lists after

  abbrev Stays : BookSpot → Entry → Type 0
  Stays s e = StaysAt b.odd ch.gone b.tables.items s e

  kept-not_gone : (e : Entry) (k : Kept) → not (is_among ch.gone e.number) ≡ true → e.number ≡ k.number → is_among ch.gone k.number ≡ false
  kept-not_gone e k h same = not-true (is_among ch.gone k.number) (ap (λ n. not (is_among ch.gone n)) (sym same) ∙ h)

  stay-from : (e : Entry) → Contains the_stay e → (s : BookSpot) × Stays s e
  stay-from e there =
      let old = Contains-unfilter (is_numbered_in (all_entries w.lists)) (all_entries after) e there in
      let list = from_flat_map (λ (es : List Entry). es) after e old.0 in
      let node = Contains-unmap (changed_list ch) (enumerate_from 0 w.lists) list.0 list.1 in
      let es = node.0.1 in
      let in_lists = from-enumerate 0 w.lists node.0.0 es node.1 in
      let left = filter (λ (x : Entry). not (is_among ch.gone x.number)) es in
      let come = filter (λ (x : Entry). node.0.0 == x.table) ch.come in
      elim (Contains-append_cases left come e (from-by_number (left ++ come) e (subst (λ xs. Contains xs e) (sym node.2) list.2))) [
        | inl own ↦
            let stays = Contains-unfilter (λ (x : Entry). not (is_among ch.gone x.number)) es e own in
            let s = seen-in_lists es e in_lists stays.0 in
            (s.spot, record { at = s.at; kept = s.kept; there = s.there; seen = s.seen; stays = kept-not_gone e s.kept stays.1 (ap (λ (x : Entry). x.number) s.tells); tells = s.tells })
        | inr new ↦ absurd (false≢true (sym (come-unnumbered e (Contains-unfilter (λ (x : Entry). node.0.0 == x.table) ch.come e new).0) ∙ old.1))
      ]

  -- the list of a table
  list-there : (i : ℕ) (t : TableCells) → slice_get b.tables.items i ≡ Some t → entries_at b.odd b.tables.items t.name.node ≡ by_number (entries_by_part b.odd t)
  list-there i t at =
      ap (λ (o : Option TableCells). unwrap_or (option_map (λ (s : TableCells). by_number (entries_by_part b.odd s)) o) []) (found-there w.config w.names w.cells w.lists b run.stands run.named i t at)

  pub count-after : length after ≡ b.nodes
  count-after =
      let a = length-map' in let l = lists-long in a ∙ l
    where
      length-map' : length after ≡ length w.lists
      length-map' = long (enumerate_from 0 w.lists) ∙ length-enumerate_from 0 w.lists
        where
          long : (xs : List (ℕ × List Entry)) → length (map (changed_list ch) xs) ≡ length xs
          long [] = refl
          long (x ∷ xs) = ap suc (long xs)

      lists-long : length w.lists ≡ b.nodes
      lists-long = ap (λ (ls : List (List Entry)). length ls) run.stands.lists ∙ long (range_with_len 0 b.nodes) ∙ length-range_with_len 0 b.nodes
        where
          long : (ns : List ℕ) → length (map (entries_at b.odd b.tables.items) ns) ≡ length ns
          long [] = refl
          long (n ∷ ns) = ap suc (long ns)

  pub node-low : (i : ℕ) (t : TableCells) → slice_get b.tables.items i ≡ Some t → t.name.node < b.nodes
  node-low i t at =
      let all = All-unmap (λ (n : TableName). n.node < length after) (λ (s : TableCells). s.name) b.tables.items
      (subst (All (λ (n : TableName). n.node < length after)) (book-tables w.config w.names w.cells w.lists b run.stands run.named).same run.may.formed.tables) in
      let lt = All-slice_get (λ (s : TableCells). s.name.node < length after) b.tables.items i t all at in
      let long = count-after in
      omega (arith, lt, long)

  stay-to : (s : BookSpot) (e : Entry) → Stays s e → Contains the_stay e
  stay-to s e h =
      let t = h.at.table in
      let x = h.at.part in
      let k = h.kept in
      let node = t.name.node in
      let order = All-slice_get (λ (y : PartCells). IsOrdered nat_cmp y.cells) t.parts.items s.at.part x (All-slice_get AreOrdered b.tables.items s.table t ordered h.at.in_tables) h.at.in_parts in
      let entry = (btree_map_get_iff nat_cmp_total exact_unsigned x.cells order s.at.cell k).0 h.there in
      let value : Contains (values_of x.cells.entries) k = Contains-map (λ (p : ℕ × Kept). p.1) x.cells.entries (s.at.cell, k) entry in
      let told : Contains (entries_in b.odd t.name x) (told_entry t.name x.first k) =
      Contains-map (told_entry t.name x.first) (filter (is_seen b.odd) (values_of x.cells.entries)) k (Contains-filter (is_seen b.odd) (values_of x.cells.entries) k value h.seen) in
      let by_part : Contains (entries_by_part b.odd t) e =
      Contains-flat_map (entries_in b.odd t.name) t.parts.items x e (Contains-item t.parts.items s.at.part x h.at.in_parts) (subst (Contains (entries_in b.odd t.name x)) (sym h.tells) told) in
      let es = entries_at b.odd b.tables.items node in
      let in_list : Contains es e = subst (λ xs. Contains xs e) (sym (list-there s.table t h.at.in_tables)) (to-by_number (entries_by_part b.odd t) e by_part) in
      let low = node-low s.table t h.at.in_tables in
      let at_node : Contains (enumerate_from 0 w.lists) (node, es) =
      subst (λ ls. Contains (enumerate_from 0 ls) (node, es)) (sym run.stands.lists) (to-enumerate (entries_at b.odd b.tables.items) 0 b.nodes node (omega arith) (omega (arith, low))) in
      let stays : not (is_among ch.gone e.number) ≡ true = ap (λ (y : Entry). not (is_among ch.gone y.number)) h.tells ∙ ap not h.stays in
      let left = filter (λ (y : Entry). not (is_among ch.gone y.number)) es in
      let come = filter (λ (y : Entry). node == y.table) ch.come in
      let changed : Contains (changed_list ch (node, es)) e =
      to-by_number (left ++ come) e (Contains-append_left left come e (Contains-filter (λ (y : Entry). not (is_among ch.gone y.number)) es e in_list stays)) in
      let in_after : Contains (all_entries after) e =
      Contains-flat_map (λ (ys : List Entry). ys) after (changed_list ch (node, es)) e (Contains-map (changed_list ch) (enumerate_from 0 w.lists) (node, es) at_node) changed in
      let in_before : Contains (all_entries w.lists) e = Contains-flat_map (λ (ys : List Entry). ys) w.lists es e (from-enumerate 0 w.lists node es at_node) in_list in
      Contains-filter (is_numbered_in (all_entries w.lists)) (all_entries after) e in_after (is_numbered (all_entries w.lists) e in_before)

  stays-placed : (s : BookSpot) (e : Entry) → Stays s e → placed_now w.config w.names w.cells e ≡ Some (record { entry = e; room = room_of w.config b.tables.items s })
  stays-placed s e h =
      subst (λ (x : Entry). placed_now w.config w.names w.cells x ≡ Some (record { entry = x; room = room_of w.config b.tables.items s })) (sym h.tells)
      (placed-seen w.config w.names w.cells w.lists b run.stands run.named s h.at h.kept h.there h.seen)

  -- the entries that stay, with the rooms of their cells
  pub stay_placed : AreStaying w.config w.lists b.odd ch.gone b.tables.items (staying w ch)
  stay_placed = record {
    each = λ i d lt. each (get_or (staying w ch) i d) (Contains-get_or (staying w ch) i d lt);
    all = λ s e h. Contains-filter_map (placed_now w.config w.names w.cells) the_stay e (record { entry = e; room = room_of w.config b.tables.items s }) (stay-to s e h) (stays-placed s e h);
    old = λ i d lt. old (get_or (staying w ch) i d) (Contains-get_or (staying w ch) i d lt);
  }
    where
      each : (p : Placed) → Contains (staying w ch) p → (s : BookSpot) × Stays s p.entry × (p.room ≡ room_of w.config b.tables.items s)
      each p there =
          let r = from-filter_map (placed_now w.config w.names w.cells) the_stay p there in
          let s = stay-from r.0 r.1 in
          let same : record { entry = r.0; room = room_of w.config b.tables.items s.0 } ≡ p =
          same_Some (record { entry = r.0; room = room_of w.config b.tables.items s.0 }) p (sym (stays-placed s.0 r.0 s.1) ∙ r.2) in
          (s.0, subst (λ (x : Entry). Stays s.0 x) (ap (λ (q : Placed). q.entry) same) s.1, sym (ap (λ (q : Placed). q.room) same))

      old : (p : Placed) → Contains (staying w ch) p → is_numbered_in (all_entries w.lists) p.entry ≡ true
      old p there =
          let r = from-filter_map (placed_now w.config w.names w.cells) the_stay p there in
          let s = stay-from r.0 r.1 in
          let same = same_Some (record { entry = r.0; room = room_of w.config b.tables.items s.0 }) p (sym (stays-placed s.0 r.0 s.1) ∙ r.2) in
          ap (λ (q : Placed). is_numbered_in (all_entries w.lists) q.entry) (sym same) ∙ (Contains-unfilter (is_numbered_in (all_entries w.lists)) (all_entries after) r.0 r.1).1

  -- and each of them is behind the commit
  pub stay-in_after : (p : Placed) → Contains (staying w ch) p → Contains (all_entries after) p.entry
  stay-in_after p there =
      let r = from-filter_map (placed_now w.config w.names w.cells) the_stay p there in
      let s = stay-from r.0 r.1 in
      let same = same_Some (record { entry = r.0; room = room_of w.config b.tables.items s.0 }) p (sym (stays-placed s.0 r.0 s.1) ∙ r.2) in
      subst (λ (q : Placed). Contains (all_entries after) q.entry) same (Contains-unfilter (is_numbered_in (all_entries w.lists)) (all_entries after) r.0 r.1).0
