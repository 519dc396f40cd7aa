-- The entries that the next version sees in a book behind a commit that moves no cell are those that the changes leave.
use Rattle.std.proofs.Common.{◌≡◌, ◌≢◌, ◌⊎◌, ℕ, zero, suc, ◌+◌, ◌<◌, ◌==◌, Bool, true, false, not, cond, List, [], ◌∷◌, ◌++◌, length, get_or, map, Option, Some, None, option_map, unwrap_or, refl, sym, ap, ◌∙◌, subst, inl, inr, arith}
use Rattle.std.specs.Prelude.{Contains, IsSome, filter, find, slice_get}
use Rattle.std.specs.List.{AllZip, enumerate_from, range_with_len}
use Rattle.std.specs.BTreeMap.{get, keys}
use Rattle.std.specs.Ordering.{eq_by_cmp, nat_cmp}
use Rattle.std.proofs.lemmas.Bool.{eqb-true, false≢true}
use Rattle.std.proofs.lemmas.List.{length-map}
use Rattle.std.proofs.lemmas.List.FromFn.{length-range_with_len}
use Rattle.std.proofs.lemmas.List.Elements.{All-contains, Contains-append_cases, Contains-append_left}
use Rattle.std.proofs.lemmas.Map.Lookups.{exact_unsigned}
use Rattle.std.proofs.lemmas.Map.Views.{Contains-keys_from_lookup, tells_apart}
use Rattle.std.proofs.lemmas.Option.{none-some, same_Some, slice_get-get_or, slice_get_within}
use Rattle.rmt_bits.proofs.AlikeLaws.{map_alike}
use Rattle.rmt_bits.proofs.AllLaws.{All-range}
use Rattle.rmt_bits.proofs.ListLaws.{find-passes}
use Rattle.rmt_bits.proofs.MemberLaws.{Contains-filter, Contains-flat_map, Contains-item, Contains-unfilter, Contains-unmap, any_item, flat_from, from_flat_map}
use Rattle.rmt_bits.specs.Members.{is_among}
use Rattle.rmt_ast.specs.declared.entry.Entry.{Entry}
use Rattle.rmt_ast.specs.declared.names.Names.{Names}
use Rattle.rmt_ast.specs.declared.names.TableName.{TableName}
use Rattle.rmt_ast.specs.Changes.{list_of}
use Rattle.rmt_ast.specs.EntryLists.{AreEntriesAt, IsEntry, Terms}
use Rattle.rmt_ast.specs.NameRules.{terms_named, terms_of_name}
use Rattle.rmt_config.specs.declared.config.Config.{Config}
use Rattle.rmt_config.specs.Cells.{cells_in}
use Rattle.rmt_config.specs.Commits.{Placed, all_entries, is_numbered_in}
use Rattle.rmt_config.specs.NamesForm.{by_number}
use Rattle.rmt_config.specs.RunCells.{RunCells}
use Rattle.rmt_update.specs.declared.book.Book.{Book}
use Rattle.rmt_book.specs.declared.kept.Kept.{Kept}
use Rattle.rmt_update.specs.declared.book.placing.Coming.{Coming}
use Rattle.rmt_book.specs.declared.spot.BookSpot.{BookSpot}
use Rattle.rmt_book.specs.declared.table.PartCells.{PartCells}
use Rattle.rmt_book.specs.declared.table.TableCells.{TableCells}
use Rattle.rmt_lists.specs.declared.lists.Changes.{Changes}
use Rattle.rmt_book.specs.BookSpots.{kept_at}
use Rattle.rmt_update.specs.BookStands.{BookStands, IsUsed}
use Rattle.rmt_update.specs.NextKept.{bit_of}
use Rattle.rmt_update.specs.Placing.{ArePlaced, IsBookSpot, TakesCell}
use Rattle.rmt_update.specs.Planned.{MayChange, changed_list, changed_lists}
use Rattle.rmt_book.specs.Seen.{HaveNumbers, entries_at, entries_by_part, entries_in, entries_seen, is_seen}
use Rattle.rmt_book.specs.Told.{told_entry}
use Rattle.rmt_update.specs.Turning.{AreNext, IsSamePart, IsSameTable, left_kept}
use Rattle.rmt_update.proofs.ByNumberLaws.{from-by_number, to-by_number}
use Rattle.rmt_update.proofs.CellsFound.{are-tables, nodes-rise, one-node, one-spot, own_names}
use Rattle.rmt_update.proofs.ComeSeen.{comes-seen, no-come}
use Rattle.rmt_update.proofs.LikeLaws.{like-from, like-of, like-seen, like-told}
use Rattle.rmt_update.proofs.NextNumbers.{NextIs, new, old, entry-behind, next-is, old-used, same-cell}
use Rattle.rmt_update.proofs.NextTables.{IsTwoParts, at-part, at-table, kept-within, spot-of, two-parts, both-seen}
use Rattle.rmt_update.proofs.PairsTold.{table-pairs, told-from, told-there}
use Rattle.rmt_update.proofs.RoomNumbers.{slice_get-map_range}
use Rattle.rmt_update.proofs.SettledKept.{left-stays, next_at, same-names}
use Rattle.rmt_update.proofs.SettledPlaces.{come-here, none-come}
use Rattle.rmt_pack.proofs.SortedLaws.{by_number_is}
use Rattle.rmt_update.proofs.TableRules.{entries-at, terms-found}
use Rattle.rmt_update.proofs.ZipLaws.{FoundBoth, find-both, zip-left}

-- ---- what is seen

-- what the next version sees of what was kept stays
pub stays-seen : (odd : Bool) (gone : List ℕ) (j k : Kept) → left_kept odd gone (Some j) ≡ Some k → is_seen (not odd) k ≡ true
    → (is_seen odd j ≡ true) × (is_among gone j.number ≡ false) × (k ≡ record j { visible = 3 })
stays-seen odd gone j k left seen = by (is_seen odd j) refl (is_among gone j.number) refl left
  where
    other : (o : Bool) → is_seen (not o) (record j { visible = bit_of o }) ≡ false
    other true = refl
    other false = refl

    by : (s : Bool) → is_seen odd j ≡ s → (g : Bool) → is_among gone j.number ≡ g → cond s (Some (record j { visible = cond g (bit_of odd) 3 })) None ≡ Some k
        → (is_seen odd j ≡ true) × (is_among gone j.number ≡ false) × (k ≡ record j { visible = 3 })
    by false unseen g is h = absurd (none-some k h)
    by true own true is h = absurd (false≢true (sym (ap (is_seen (not odd)) (sym (same_Some _ k h)) ∙ other odd) ∙ seen))
    by true own false is h = (own, is, sym (same_Some _ k h))

-- ---- lists of nodes

numbered-range : {X Y : Type 0} (f : ℕ × X → Y) (g : ℕ → X) (a n : ℕ) → map f (enumerate_from a (map g (range_with_len a n))) ≡ map (λ m. f (m, g m)) (range_with_len a n)
numbered-range f g a zero = refl
numbered-range f g a (suc n) = ap (λ ys. f (a, g a) ∷ ys) (numbered-range f g (a + 1) n)

-- ---- tables beside the next ones

abbrev AreFound : (ts us : List TableCells) (m : ℕ) → Type 0
AreFound ts us m = FoundBoth IsSameTable (λ (x : TableCells). x.name.node == m) (λ (x : TableCells). x.name.node == m) ts us

both-found : (m : ℕ) (ts us : List TableCells) → AllZip IsSameTable ts us
    → ((find (λ (x : TableCells). x.name.node == m) ts ≡ None) × (find (λ (x : TableCells). x.name.node == m) us ≡ None)) ⊎ AreFound ts us m
both-found m ts us zip = find-both IsSameTable (λ (x : TableCells). x.name.node == m) (λ (x : TableCells). x.name.node == m) (λ t u same. ap (λ (n : TableName). n.node == m) same.0) ts us zip

of-node : (m : ℕ) (ts us : List TableCells) (h : AreFound ts us m) → h.x.name.node ≡ m
of-node m ts us h = eqb-true h.x.name.node m (find-passes (λ (x : TableCells). x.name.node == m) ts h.x h.first)

module _ (c : Config) (names : Names) (cells : RunCells) (lists : List (List Entry)) (ch : Changes) (b : Book) (xs : List Coming) (stands : BookStands c cells lists b) (named : c.names ≡ Some names)
    (may : MayChange c names cells lists ch) (placed : ArePlaced c names cells lists ch b.odd b.tables.items xs) (us : List TableCells) (next : AreNext b.odd ch.gone xs b.tables.items us) where
  abbrev ts : List TableCells
  ts = b.tables.items

  -- ---- cells that are seen

  -- an entry that the version sees, in its cell
  pub record IsSeenCell (m : ℕ) (e : Entry) : Type 0 where
    pub s : BookSpot
    pub at : IsBookSpot ts s
    pub kept : Kept
    pub there : kept_at ts s ≡ Some kept
    pub seen : is_seen b.odd kept ≡ true
    pub is : told_entry at.table.name at.part.first kept ≡ e
    pub node : at.table.name.node ≡ m

  pub seen-cell : (m : ℕ) (e : Entry) → Contains (entries_at b.odd ts m) e → IsSeenCell m e
  seen-cell m e there = elim (both-found m ts us next.same) [
    | inl none ↦ absurd (let lt = (subst (λ (es : List Entry). Contains es e) (ap (λ o. unwrap_or (option_map (λ t. by_number (entries_by_part b.odd t)) o) []) none.0) there).1 in omega (arith, lt))
    | inr h ↦
        let own : Contains (by_number (entries_by_part b.odd h.x)) e = subst (λ (es : List Entry). Contains es e) (ap (λ o. unwrap_or (option_map (λ t. by_number (entries_by_part b.odd t)) o) []) h.first) there in
        let f = flat_from (entries_in b.odd h.x.name) h.x.parts.items e (from-by_number (entries_by_part b.odd h.x) e own) in
        let y = zip-left IsSamePart h.x.parts.items h.y.parts.items f.0 f.1 h.beside.1.1 f.2 in
        let g = told-from b.odd h.x.name f.1 e y.2.ordered f.3 in
        let d = two-parts c names cells lists ch b xs stands named placed us next h.i f.0 h.y y.0 h.beside.0 y.1 in
        let tables : h.x ≡ d.t = same_Some h.x d.t (sym h.at ∙ d.in_tables) in
        let parts : f.1 ≡ d.x = same_Some f.1 d.x (sym f.2 ∙ ap (λ (t : TableCells). slice_get t.parts.items f.0) tables ∙ d.in_parts) in
        let got : get nat_cmp d.x.cells g.n ≡ Some g.kept = ap (λ (x : PartCells). get nat_cmp x.cells g.n) (sym parts) ∙ g.there in
        let lt : g.n < cells_in d.p.slot.memory =
        All-contains (λ k. k < cells_in d.p.slot.memory) (keys d.x.cells) g.n d.holds.within
        (Contains-keys_from_lookup {eq = eq_by_cmp nat_cmp} (tells_apart exact_unsigned) g.n d.x.cells.entries (subst IsSome (sym got) refl)) in
        let at = spot-of c names cells lists ch b xs stands named placed us next h.i f.0 g.n h.y y.0 d lt in
        let own_table = at-table c names cells lists ch b xs stands named placed us next h.i f.0 g.n h.y y.0 d at in
        let own_part = at-part c names cells lists ch b xs stands named placed us next h.i f.0 g.n h.y y.0 d at in
        record {
          s = record { table = h.i; at = record { part = f.0; cell = g.n } };
          at = at;
          kept = g.kept;
          there = sym (d.old g.n) ∙ got;
          seen = g.seen;
          is = ap (λ (t : TableCells). told_entry t.name at.part.first g.kept) (own_table ∙ sym tables) ∙ ap (λ (x : PartCells). told_entry h.x.name x.first g.kept) (own_part ∙ sym parts) ∙ g.is;
          node = ap (λ (t : TableCells). t.name.node) (own_table ∙ sym tables) ∙ (of-node m ts us h);
        }
  ]

  -- ---- what comes has new numbers

  list-here : (es : List Entry) → Contains lists es → (m : ℕ) × (entries_at b.odd ts m ≡ es)
  list-here es there =
      let h = Contains-unmap (entries_at b.odd ts) (range_with_len 0 b.nodes) es (subst (λ (ls : List (List Entry)). Contains ls es) stands.lists there) in
      (h.0, h.2)

  new-number : (e : Entry) → Contains ch.come e → (f : Bool) → is_numbered_in (all_entries lists) e ≡ f → is_numbered_in (all_entries lists) e ≡ false
  new-number e there false h = h
  new-number e there true h =
      let o = any_item (λ (o : Entry). o.number == e.number) (all_entries lists) h in
      let es = from_flat_map (λ (es : List Entry). es) lists o.0 o.1 in
      let m = list-here es.0 es.1 in
      let cell = seen-cell m.0 o.0 (subst (λ (zs : List Entry). Contains zs o.0) (sym m.1) es.2) in
      let used = old-used c names cells lists ch b xs stands named may placed cell.s cell.at cell.kept cell.there in
      absurd (All-contains (λ (e : Entry). (k place n : ℕ) → IsUsed c cells k place n → cells.number k place n ≢ e.number) ch.come e may.come_new there _ _ _ used.0
      (used.1 ∙ ap (λ (x : Entry). x.number) cell.is ∙ eqb-true o.0.number e.number o.2))

  -- ---- the lists behind the changes

  lists-are : changed_lists lists ch ≡ map (λ m. changed_list ch (m, entries_at b.odd ts m)) (range_with_len 0 b.nodes)
  lists-are = ap (λ (ls : List (List Entry)). map (changed_list ch) (enumerate_from 0 ls)) stands.lists ∙ numbered-range (changed_list ch) (entries_at b.odd ts) 0 b.nodes

  lists-count : length (changed_lists lists ch) ≡ b.nodes
  lists-count = ap (λ (ls : List (List Entry)). length ls) lists-are ∙ length-map (range_with_len 0 b.nodes) (λ m. changed_list ch (m, entries_at b.odd ts m)) ∙ length-range_with_len 0 b.nodes

  list-at : (m : ℕ) → m < b.nodes → list_of (changed_lists lists ch) m ≡ changed_list ch (m, entries_at b.odd ts m)
  list-at m lt =
      let none : 0 + m ≡ m = omega arith in
      ap (λ (ls : List (List Entry)). unwrap_or (slice_get ls m) []) lists-are
      ∙ ap (λ o. unwrap_or o []) (slice_get-map_range (λ m. changed_list ch (m, entries_at b.odd ts m)) 0 b.nodes m lt)
      ∙ ap (λ k. changed_list ch (k, entries_at b.odd ts k)) none

  well-formed : (m : ℕ) → m < b.nodes → AreEntriesAt m (changed_list ch (m, entries_at b.odd ts m)) (terms_named names m)
  well-formed m lt =
      let within : m < length (changed_lists lists ch) = (let same = lists-count in omega (arith, lt, same)) in
      subst (λ (es : List Entry). AreEntriesAt m es (terms_named names m)) (list-at m lt) (entries-at names (changed_lists lists ch) m may.formed within)

  -- an entry behind the changes is in the list of its node
  own-list : (e : Entry) → Contains (all_entries (changed_lists lists ch)) e → (e.table < b.nodes) × Contains (changed_list ch (e.table, entries_at b.odd ts e.table)) e
  own-list e there =
      let g = flat_from (λ (es : List Entry). es) (changed_lists lists ch) e there in
      let lt : g.0 < b.nodes = (let l = slice_get_within (changed_lists lists ch) g.0 g.1 g.2 in let same = lists-count in omega (arith, l, same)) in
      let own : g.1 ≡ changed_list ch (g.0, entries_at b.odd ts g.0) = sym (ap (λ (o : Option (List Entry)). unwrap_or o []) g.2) ∙ list-at g.0 lt in
      let in_own : Contains (changed_list ch (g.0, entries_at b.odd ts g.0)) e = subst (λ (es : List Entry). Contains es e) own g.3 in
      let table : e.table ≡ g.0 = by g.0 (changed_list ch (g.0, entries_at b.odd ts g.0)) (terms_named names g.0) (well-formed g.0 lt) in_own in
      (subst (λ m. m < b.nodes) (sym table) lt, subst (λ m. Contains (changed_list ch (m, entries_at b.odd ts m)) e) (sym table) in_own)
    where
      by : (m : ℕ) (es : List Entry) (o : Option Terms) → AreEntriesAt m es o → Contains es e → e.table ≡ m
      by m es None h in_es = absurd (let lt = (subst (λ (zs : List Entry). Contains zs e) h in_es).1 in omega (arith, lt))
      by m es (Some t) h in_es = (All-contains (IsEntry m t) es e h.each in_es).table

  -- ---- one table

  module _ (i : ℕ) (t u : TableCells) (at_t : slice_get ts i ≡ Some t) (at_u : slice_get us i ≡ Some u) (same : IsSameTable t u) (found : find (λ (x : TableCells). x.name.node == t.name.node) ts ≡ Some t) where
    abbrev m : ℕ
    m = t.name.node

    entries-here : entries_at b.odd ts m ≡ by_number (entries_by_part b.odd t)
    entries-here = ap (λ o. unwrap_or (option_map (λ t. by_number (entries_by_part b.odd t)) o) []) found

    -- an entry that the next version sees
    next-listed : (e : Entry) → Contains (entries_by_part (not b.odd) u) e → Contains (changed_list ch (m, entries_at b.odd ts m)) e
    next-listed e there =
        let f = flat_from (entries_in (not b.odd) u.name) u.parts.items e there in
        let d = two-parts c names cells lists ch b xs stands named placed us next i f.0 u f.1 at_u f.2 in
        let g = told-from (not b.odd) u.name f.1 e d.same.still f.3 in
        let lt = kept-within c names cells lists ch b xs stands named placed us next i f.0 g.n u f.1 d (subst IsSome (sym g.there) refl) in
        let s : BookSpot = record { table = i; at = record { part = f.0; cell = g.n } } in
        let at = spot-of c names cells lists ch b xs stands named placed us next i f.0 g.n u f.1 d lt in
        let like = like-of (get nat_cmp f.1.cells g.n) (next_at c names cells lists ch b xs stands named placed s) g.kept (d.each g.n) g.there in
        let is : told_entry d.t.name d.x.first like.0 ≡ e =
        ap (λ (n : TableName). told_entry n d.x.first like.0) (sym d.name) ∙ ap (λ k. told_entry u.name k like.0) (sym d.same.first) ∙ sym (like-told u.name f.1.first g.kept like.0 like.2) ∙ g.is in
        by d like.0 s at is (sym (like-seen (not b.odd) g.kept like.0 like.2) ∙ g.seen) refl refl (next-is c names cells lists ch b xs stands named may placed s at like.0 like.1)
      where
        by : {j : ℕ} {y : PartCells} (d : IsTwoParts c names cells lists ch b xs stands named placed us next i j u y) (k : Kept) (s : BookSpot) (at : IsBookSpot ts s) → told_entry d.t.name d.x.first k ≡ e → is_seen (not b.odd) k ≡ true
            → s.table ≡ i → s.at.part ≡ j → NextIs c names cells lists ch b xs stands named may placed s k → Contains (changed_list ch (m, entries_at b.odd ts m)) e
        by {j} {y} d k s at is seen table part (new i0 q x there kept takes spot comes) =
            let tables : takes.at.table ≡ d.t = same_Some takes.at.table d.t (sym takes.at.in_tables ∙ ap (λ (z : BookSpot). slice_get ts z.table) spot ∙ ap (slice_get ts) table ∙ d.in_tables) in
            let parts : takes.at.part ≡ d.x = same_Some takes.at.part d.x (sym takes.at.in_parts ∙ ap (λ (t : TableCells). slice_get t.parts.items x.spot.at.part) tables ∙ ap (λ (z : BookSpot). slice_get d.t.parts.items z.at.part) spot ∙ ap (slice_get d.t.parts.items) part ∙ d.in_parts) in
            let entry : e ≡ q.entry =
            sym is ∙ ap (told_entry d.t.name d.x.first) comes ∙ ap (λ (t : TableCells). told_entry t.name d.x.first x.kept) (sym tables) ∙ ap (λ (p : PartCells). told_entry takes.at.table.name p.first x.kept) (sym parts) ∙ takes.keeps.told in
            let node : q.entry.table ≡ m = takes.node ∙ ap (λ (t : TableCells). t.name.node) (tables ∙ same_Some d.t t (sym d.in_tables ∙ at_t)) in
            let own = own-list q.entry (entry-behind c names cells lists ch b xs stands named may placed q (Contains-item placed.coming i0 q there)) in
            subst (Contains (changed_list ch (m, entries_at b.odd ts m))) (sym entry) (subst (λ n. Contains (changed_list ch (n, entries_at b.odd ts n)) q.entry) node own.1)
        by {j} {y} d k s at is seen table part (old j0 was left num) =
            let h = stays-seen b.odd ch.gone j0 k left seen in
            let tables : d.t ≡ t = same_Some d.t t (sym d.in_tables ∙ at_t) in
            let in_parts : slice_get t.parts.items j ≡ Some d.x = ap (λ (v : TableCells). slice_get v.parts.items j) (sym tables) ∙ d.in_parts in
            let got : get nat_cmp d.x.cells s.at.cell ≡ Some j0 = d.old s.at.cell ∙ ap (λ z. kept_at ts z) (spot-by s table part) ∙ was in
            let entry : told_entry t.name d.x.first j0 ≡ e = ap (λ (v : TableCells). told_entry v.name d.x.first j0) (sym tables) ∙ ap (told_entry d.t.name d.x.first) (sym h.2) ∙ is in
            let in_part : Contains (entries_in b.odd t.name d.x) e = subst (Contains (entries_in b.odd t.name d.x)) entry (told-there b.odd t.name d.x s.at.cell j0 got h.0) in
            let in_table : Contains (entries_by_part b.odd t) e = Contains-flat_map (entries_in b.odd t.name) t.parts.items d.x e (Contains-item t.parts.items j d.x in_parts) in_part in
            let listed : Contains (entries_at b.odd ts m) e = subst (λ (es : List Entry). Contains es e) (sym entries-here) (to-by_number (entries_by_part b.odd t) e in_table) in
            let number : e.number ≡ j0.number = ap (λ (x : Entry). x.number) (sym entry) in
            to-by_number _ e
            (Contains-append_left (filter (λ (x : Entry). not (is_among ch.gone x.number)) (entries_at b.odd ts m)) (filter (λ (x : Entry). m == x.table) ch.come) e
            (Contains-filter (λ (x : Entry). not (is_among ch.gone x.number)) (entries_at b.odd ts m) e listed (ap (λ n. not (is_among ch.gone n)) number ∙ ap not h.1)))
          where
            spot-by : (z : BookSpot) → z.table ≡ i → z.at.part ≡ j → record { table = i; at = record { part = j; cell = z.at.cell } } ≡ z
            spot-by z a p = sym (ap (λ n. record { table = n; at = z.at }) a ∙ ap (λ n. record { table = i; at = record { part = n; cell = z.at.cell } }) p)

    -- a cell of the next tables
    seen-next : (s : BookSpot) (at : IsBookSpot ts s) (k : Kept) → s.table ≡ i → next_at c names cells lists ch b xs stands named placed s ≡ Some k → is_seen (not b.odd) k ≡ true
        → Contains (entries_by_part (not b.odd) u) (told_entry at.table.name at.part.first k)
    seen-next s at k table is seen =
        let tables : at.table ≡ t = same_Some at.table t (sym at.in_tables ∙ ap (slice_get ts) table ∙ at_t) in
        let in_parts : slice_get t.parts.items s.at.part ≡ Some at.part = ap (λ (v : TableCells). slice_get v.parts.items s.at.part) (sym tables) ∙ at.in_parts in
        let y = zip-left IsSamePart t.parts.items u.parts.items s.at.part at.part same.1 in_parts in
        let d = two-parts c names cells lists ch b xs stands named placed us next i s.at.part u y.0 at_u y.1 in
        let like =
        like-from (get nat_cmp y.0.cells s.at.cell) (next_at c names cells lists ch b xs stands named placed (record { table = i; at = s.at })) k (d.each s.at.cell)
        (ap (λ n. next_at c names cells lists ch b xs stands named placed (record { table = n; at = s.at })) (sym table) ∙ is) in
        let got : get nat_cmp y.0.cells s.at.cell ≡ Some like.0 = like.1 in
        let entry : told_entry u.name y.0.first like.0 ≡ told_entry at.table.name at.part.first k =
        like-told u.name y.0.first like.0 k like.2 ∙ ap (λ n. told_entry u.name n k) y.2.first ∙ ap (λ (n : TableName). told_entry n at.part.first k) (same.0 ∙ ap (λ (v : TableCells). v.name) (sym tables)) in
        Contains-flat_map (entries_in (not b.odd) u.name) u.parts.items y.0 (told_entry at.table.name at.part.first k) (Contains-item u.parts.items s.at.part y.0 y.1)
        (subst (Contains (entries_in (not b.odd) u.name y.0)) entry (told-there (not b.odd) u.name y.0 s.at.cell like.0 got (like-seen (not b.odd) like.0 k like.2 ∙ seen)))

    table-of : (z : BookSpot) (a : IsBookSpot ts z) → a.table.name.node ≡ m → z.table ≡ i
    table-of z a node = one-node ts z.table i a.table t (nodes-rise c cells lists b stands) a.in_tables at_t node

    -- an entry behind the changes is seen by the next version
    listed-next : (e : Entry) → m < b.nodes → Contains (changed_list ch (m, entries_at b.odd ts m)) e → Contains (entries_by_part (not b.odd) u) e
    listed-next e within there =
        let zs = from-by_number (filter (λ (x : Entry). not (is_among ch.gone x.number)) (entries_at b.odd ts m) ++ filter (λ (x : Entry). m == x.table) ch.come) e there in
        elim (Contains-append_cases (filter (λ (x : Entry). not (is_among ch.gone x.number)) (entries_at b.odd ts m)) (filter (λ (x : Entry). m == x.table) ch.come) e zs) [
          | inl was ↦
              let h = Contains-unfilter (λ (x : Entry). not (is_among ch.gone x.number)) (entries_at b.odd ts m) e was in
              let cell = seen-cell m e h.0 in
              let stays : is_among ch.gone cell.kept.number ≡ false = not-true (is_among ch.gone cell.kept.number) (ap (λ (x : Entry). not (is_among ch.gone x.number)) cell.is ∙ h.1) in
              let left : left_kept b.odd ch.gone (kept_at ts cell.s) ≡ Some (record cell.kept { visible = 3 }) = ap (left_kept b.odd ch.gone) cell.there ∙ left-stays b.odd ch.gone cell.kept cell.seen stays in
              let is : next_at c names cells lists ch b xs stands named placed cell.s ≡ Some (record cell.kept { visible = 3 }) = none-come xs cell.s (left_kept b.odd ch.gone (kept_at ts cell.s)) (no-come c cells lists b stands placed.coming xs placed.takes cell.s cell.kept cell.there cell.seen) ∙ left in
              subst (Contains (entries_by_part (not b.odd) u)) cell.is
              (seen-next cell.s cell.at (record cell.kept { visible = 3 }) (table-of cell.s cell.at cell.node) is (both-seen (not b.odd) cell.kept))
          | inr came ↦
              let h = Contains-unfilter (λ (x : Entry). m == x.table) ch.come e came in
              let behind : Contains (all_entries (changed_lists lists ch)) e = in-all within there in
              let comes : Contains (map (λ (q : Placed). q.entry) placed.coming) e =
              subst (λ (es : List Entry). Contains es e) (sym placed.entries)
              (Contains-filter (λ x. not (is_numbered_in (all_entries lists) x)) (all_entries (changed_lists lists ch)) e behind (ap not (new-number e h.0 (is_numbered_in (all_entries lists) e) refl))) in
              let q = Contains-unmap (λ (q : Placed). q.entry) placed.coming e comes in
              let at_q : slice_get placed.coming q.1.0 ≡ Some q.0 = slice_get-get_or placed.coming q.1.0 q.0 q.1.1 ∙ ap Some q.1.2 in
              let x = zip-left (TakesCell c cells.seed b.odd ts) placed.coming xs q.1.0 q.0 placed.takes at_q in
              let node : x.2.at.table.name.node ≡ m = sym x.2.node ∙ ap (λ (y : Entry). y.table) q.2 ∙ sym (eqb-true m e.table h.1) in
              subst (Contains (entries_by_part (not b.odd) u)) (x.2.keeps.told ∙ q.2)
              (seen-next x.0.spot x.2.at x.0.kept (table-of x.0.spot x.2.at node) (come-here xs x.0 (left_kept b.odd ch.gone (kept_at ts x.0.spot)) placed.apart (Contains-item xs q.1.0 x.0 x.1)) (comes-seen c cells lists b stands q.0 x.0 x.2))
        ]
      where
        not-true : (f : Bool) → not f ≡ true → f ≡ false
        not-true true e = absurd (false≢true e)
        not-true false e = refl

        in-all : m < b.nodes → Contains (changed_list ch (m, entries_at b.odd ts m)) e → Contains (all_entries (changed_lists lists ch)) e
        in-all lt own =
            let lt2 : m < length (changed_lists lists ch) = (let same = lists-count in omega (arith, lt, same)) in
            Contains-flat_map (λ (es : List Entry). es) (changed_lists lists ch) (get_or (changed_lists lists ch) m []) e
            (Contains-item (changed_lists lists ch) m (get_or (changed_lists lists ch) m []) (slice_get-get_or (changed_lists lists ch) m [] lt2))
            (subst (λ (es : List Entry). Contains es e) (sym (list-at m lt) ∙ ap (λ (o : Option (List Entry)). unwrap_or o []) (slice_get-get_or (changed_lists lists ch) m [] lt2)) own)

    -- no two entries that the next version sees have one number
    pub numbers-here : HaveNumbers (entries_by_part (not b.odd) u)
    numbers-here =
        table-pairs (not b.odd) u.name (λ (x y : Entry). x.number ≢ y.number) u.parts.items (λ j y at_y. (two-parts c names cells lists ch b xs stands named placed us next i j u y at_u at_y).same.still)
        (λ j k n l y z g h at_y at_z in_y in_z seen_g seen_h order number.
        let d = two-parts c names cells lists ch b xs stands named placed us next i j u y at_u at_y in
        let r = two-parts c names cells lists ch b xs stands named placed us next i k u z at_u at_z in
        let s : BookSpot = record { table = i; at = record { part = j; cell = n } } in
        let w : BookSpot = record { table = i; at = record { part = k; cell = l } } in
        let at = spot-of c names cells lists ch b xs stands named placed us next i j n u y d (kept-within c names cells lists ch b xs stands named placed us next i j n u y d (subst IsSome (sym in_y) refl)) in
        let aw = spot-of c names cells lists ch b xs stands named placed us next i k l u z r (kept-within c names cells lists ch b xs stands named placed us next i k l u z r (subst IsSome (sym in_z) refl)) in
        let one = like-of (get nat_cmp y.cells n) (next_at c names cells lists ch b xs stands named placed s) g (d.each n) in_y in
        let two = like-of (get nat_cmp z.cells l) (next_at c names cells lists ch b xs stands named placed w) h (r.each l) in_z in
        let cell = same-cell c names cells lists ch b xs stands named may placed s w at aw one.0 two.0
        (next-is c names cells lists ch b xs stands named may placed s at one.0 one.1) (next-is c names cells lists ch b xs stands named may placed w aw two.0 two.1) (sym one.2.number ∙ number ∙ two.2.number) in
        let same_spot : s ≡ w = one-spot c cells lists b stands s w at aw cell.0 cell.1 cell.2 in
        let parts : j ≡ k = ap (λ (x : BookSpot). x.at.part) same_spot in
        let numbers : n ≡ l = ap (λ (x : BookSpot). x.at.cell) same_spot in
        apart j k n l parts numbers order)
      where
        apart : (j k n l : ℕ) → j ≡ k → n ≡ l → (j < k) ⊎ ((j ≡ k) × (n < l)) → ⊥
        apart j k n l a e (inl lt) = omega (arith, a, lt)
        apart j k n l a e (inr h) = let lt = h.1 in omega (arith, e, lt)

  -- the list of a node
  node-next : (m : ℕ) → m < b.nodes → changed_list ch (m, entries_at b.odd ts m) ≡ entries_at (not b.odd) us m
  node-next m lt = elim (both-found m ts us next.same) [
    | inl none ↦
        let terms : terms_named names m ≡ None =
        ap (λ (ns : Names). terms_named ns m) (sym (same-names c names cells lists ch b xs stands named placed)) ∙ terms-found c (own_names c cells lists b stands) ts m (are-tables c cells lists b stands)
        ∙ ap (option_map (λ (x : TableCells). terms_of_name x.name)) none.0 in
        subst (λ (o : Option Terms). AreEntriesAt m (changed_list ch (m, entries_at b.odd ts m)) o) terms (well-formed m lt)
        ∙ sym (ap (λ o. unwrap_or (option_map (λ t. by_number (entries_by_part (not b.odd) t)) o) []) none.1)
    | inr h ↦ subst (λ n. n < b.nodes → changed_list ch (n, entries_at b.odd ts n) ≡ entries_at (not b.odd) us n) (of-node m ts us h) (at-node h) lt
  ]
    where
      at-node : (h : AreFound ts us m) → h.x.name.node < b.nodes → changed_list ch (h.x.name.node, entries_at b.odd ts h.x.name.node) ≡ entries_at (not b.odd) us h.x.name.node
      at-node h within =
          let n = h.x.name.node in
          let is : find (λ (x : TableCells). x.name.node == n) ts ≡ Some h.x = ap (λ k. find (λ (x : TableCells). x.name.node == k) ts) (of-node m ts us h) ∙ h.first in
          let also : find (λ (x : TableCells). x.name.node == n) us ≡ Some h.y = ap (λ k. find (λ (x : TableCells). x.name.node == k) us) (of-node m ts us h) ∙ h.second in
          let terms : terms_named names n ≡ Some (terms_of_name h.x.name) =
          ap (λ (ns : Names). terms_named ns n) (sym (same-names c names cells lists ch b xs stands named placed)) ∙ terms-found c (own_names c cells lists b stands) ts n (are-tables c cells lists b stands)
          ∙ ap (option_map (λ (x : TableCells). terms_of_name x.name)) is in
          let formed = subst (λ (o : Option Terms). AreEntriesAt n (changed_list ch (n, entries_at b.odd ts n)) o) terms (well-formed n within) in
          sym (ap (λ o. unwrap_or (option_map (λ t. by_number (entries_by_part (not b.odd) t)) o) []) also
          ∙ by_number_is (entries_by_part (not b.odd) h.y) (changed_list ch (n, entries_at b.odd ts n)) (numbers-here h.i h.x h.y h.at h.beside.0 h.beside.1 is) formed.rising
          (next-listed h.i h.x h.y h.at h.beside.0 h.beside.1 is) (λ e. listed-next h.i h.x h.y h.at h.beside.0 h.beside.1 is e within))

  pub lists-next : changed_lists lists ch ≡ entries_seen (not b.odd) us b.nodes
  lists-next = lists-are ∙ map_alike (λ m. changed_list ch (m, entries_at b.odd ts m)) (entries_at (not b.odd) us) (range_with_len 0 b.nodes) (All-range (λ m. changed_list ch (m, entries_at b.odd ts m) ≡ entries_at (not b.odd) us m) 0 b.nodes (λ m lt. node-next m (omega (arith, lt))))
