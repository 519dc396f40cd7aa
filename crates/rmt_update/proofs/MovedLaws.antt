-- The parts of a table with the entries that are loaded into them are the cells behind the commit, and tell just these entries.
use Rattle.std.proofs.Common.{◌≡◌, ◌≢◌, ℕ, ◌+◌, ◌*◌, ◌/◌, ◌%◌, ◌^◌, ◌<◌, ◌==◌, Bool, true, false, List, [], length, Option, Some, None, option_map, unwrap_or, map, refl, sym, ap, ◌∙◌, subst, inl, inr, arith}
use Rattle.std.specs.Prelude.{AllPairs, Contains, IsSomeAnd, slice_get}
use Rattle.std.specs.List.{AllZip, flat_map, list_any}
use Rattle.std.specs.BTreeMap.{get, keys}
use Rattle.std.proofs.lemmas.Cmp.{nat_cmp_total}
use Rattle.std.specs.Ordering.{nat_cmp}
use Rattle.std.proofs.lemmas.Bool.{and_parts, eq-eqb}
use Rattle.std.proofs.lemmas.List.Elements.{All-contains, All-contains_itself, All-weaker}
use Rattle.std.proofs.lemmas.Map.Lookups.{exact_unsigned}
use Rattle.std.proofs.lemmas.Map.Views.{btree_map_contains_key_iff}
use Rattle.std.proofs.lemmas.Option.{get_or_from_slice_get, none-some, same_Some, slice_get-get_or, slice_get_within}
use Rattle.rmt_bits.proofs.ListLaws.{find-passes, slice_get-item}
use Rattle.rmt_bits.proofs.MemberLaws.{Contains-item, list_any-Contains}
use Rattle.rmt_bits.proofs.AllLaws.{All-slice_get}
use Rattle.rmt_bits.proofs.OptionLaws.{IsSome-value}
use Rattle.rmt_ast.specs.declared.entry.Entry.{Entry}
use Rattle.rmt_ast.specs.declared.names.Names.{Names}
use Rattle.rmt_ast.specs.declared.program.Kind.{Kind}
use Rattle.rmt_ast.specs.declared.program.Kind.TheVariants as kind
use Rattle.rmt_ast.specs.Changes.{list_of}
use Rattle.rmt_ast.specs.EntryLists.{AreEntriesAt, AreTableEntries, IsEntry, Terms}
use Rattle.rmt_ast.specs.NameRules.{AreEntriesOf, terms_named, terms_of_name}
use Rattle.rmt_ast.specs.RowOrder.{goes_first}
use Rattle.rmt_config.specs.declared.config.Config.{Config}
use Rattle.rmt_config.specs.declared.config.SlotUnit.{SlotUnit}
use Rattle.rmt_config.specs.Cells.{candidates, cells_in, is_occupied}
use Rattle.rmt_config.specs.Commits.{AreFilled, IsFilled, Placed, filled, filled_content, placed_at}
use Rattle.rmt_config.specs.LaneForm.{bits_of_lanes}
use Rattle.rmt_config.specs.NamesForm.{by_number, has_order}
use Rattle.rmt_config.specs.Rooms.{PartAt, Room, entry_content, is_at, key_number, parts_of, rooms_for}
use Rattle.rmt_config.specs.RunCells.{RunCells, emptied, no_content, slot_at, with_version}
use Rattle.rmt_config.specs.UnitForm.{memory_is_formed, slot_head_is_formed}
use Rattle.rmt_config.proofs.CellLaws.{candidates-within}
use Rattle.rmt_book.specs.declared.kept.Kept.{Kept}
use Rattle.rmt_book.specs.declared.spots.Spot.{Spot}
use Rattle.rmt_book.specs.declared.table.PartCells.{PartCells}
use Rattle.rmt_book.specs.declared.table.TableCells.{TableCells}
use Rattle.rmt_update.specs.BookStands.{HoldsPart, HoldsTable, IsKeptOf, is_candidate}
use Rattle.rmt_book.specs.Coming.{KeepsEntry}
use Rattle.rmt_update.specs.Loads.{AreTables, table_of}
use Rattle.rmt_book.specs.PartShape.{IsShape}
use Rattle.rmt_update.specs.Refill.{IsMoved, SamePart, spots_of}
use Rattle.rmt_book.specs.Seen.{entries_in, is_seen}
use Rattle.rmt_book.specs.Spots.{no_part, placed_from, room_at}
use Rattle.rmt_book.specs.Told.{told_entry}
use Rattle.rmt_book.specs.declared.shape.PartShape.{PartShape}
use Rattle.rmt_update.proofs.CandidateLaws.{key-low}
use Rattle.rmt_update.proofs.FirstLaws.{firsts, map-twice}
use Rattle.rmt_update.proofs.LoadLaws.{table-entries}
use Rattle.rmt_update.proofs.OncePlaced.{all-numbers, at-own, at-place, found-in, one-key, one-placed, part-once, placed-found}
use Rattle.rmt_update.proofs.PartOrder.{IsPartOf, parts-own}
use Rattle.rmt_update.proofs.PartPairs.{IsBefore, IsCellOf, in-told, parts-pairs, told-in}
use Rattle.rmt_update.proofs.RowsInOrder.{rows-in-order}
use Rattle.rmt_pack.proofs.SortedLaws.{by_number_is}
use Rattle.rmt_config.proofs.LayoutLaws.{memory_formed}
use Rattle.rmt_config.proofs.NameRuleLaws.{each_later-from}
use Rattle.rmt_pack.proofs.RoomOrderLaws.{room_there}
use Rattle.rmt_pack.proofs.RankLaws.{IsRowKind}
use Rattle.rmt_update.proofs.SpotsFit.{from-placed, node-within, own, own-filled, own-placed, own-stands, spots-many, stands-in}
use Rattle.rmt_update.proofs.TableRules.{Own, entries-at}
use Rattle.rmt_book.proofs.ToldEntryLaws.{PartFacts}
use Rattle.rmt_update.proofs.BytesLaws.{sizes-bytes}
use Rattle.rmt_update.proofs.ZipLaws.{zip-left, zip-length, zip-made, zip-right}

module _ (c : Config) (names : Names) (cells : RunCells) (seed : ℕ) (lists : List (List Entry)) (spots : List (List Spot)) (many : AllZip (λ (es : List Entry) (ss : List Spot). length ss ≡ length es) lists spots)
    (filled_so : AreFilled c names seed lists (placed_from c 0 lists spots)) (tables : List TableCells) (are : AreTables c names tables) (formed : AreEntriesOf names lists) where
  abbrev pub placed : List Placed
  placed = placed_from c 0 lists spots

  abbrev pub next : RunCells
  next = with_version (filled c names cells (placed_from c 0 lists spots)) seed

  module _ (x : TableCells) (found : table_of tables x.name.node ≡ Some x) (holds : HoldsTable c cells x) (ys : List PartCells) (moved : IsMoved lists spots x ys) where
    abbrev node : ℕ
    node = x.name.node

    abbrev t : Terms
    t = terms_of_name x.name

    abbrev es : List Entry
    es = list_of lists x.name.node

    abbrev ps : List PartAt
    ps = parts_of c x.name.node

    mine : Own c names lists x.name.node x
    mine = own c names seed lists spots many filled_so tables are formed x found

    inside : x.name.node < length lists
    inside = node-within c names seed lists spots many filled_so tables are formed x found

    entries : AreTableEntries x.name.node (list_of lists x.name.node) (terms_of_name x.name)
    entries = table-entries c names lists x.name.node x mine formed inside

    -- ---- a cell that is kept

    pub record NewCell (i n : ℕ) (y : PartCells) (k : Kept) : Type 0 where
      pub part : PartAt
      pub in_parts : slice_get (parts_of c x.name.node) i ≡ Some part
      pub entry : Entry
      pub in_entries : Contains (list_of lists x.name.node) entry
      pub fits : IsEntry x.name.node (terms_of_name x.name) entry
      pub keeps : KeepsEntry x.name y.first n 3 entry k
      pub in_placed : Contains (placed_from c 0 lists spots) (record { entry = entry; room = record { part = part; cell = n } })
      pub candidate : Contains (candidates seed (bits_of_lanes part.slot.keys) part.slot.memory (key_number (terms_of_name x.name) entry)) n
      pub as_filled : IsFilled c seed (terms_of_name x.name) x.name.kind (list_of lists x.name.node) entry (record { part = part; cell = n })

    pub new-cell : (i n : ℕ) (y : PartCells) (k : Kept) → IsCellOf ys i n y k → NewCell i n y k
    new-cell i n y k cell =
        let h = moved.found i n y k cell.part cell.kept in
        let s : Spot = record { part = i; cell = n } in
        let st = own-stands c names seed lists spots many filled_so x.name.node x mine formed inside h.j h.entry s h.in_entries h.in_spots in
        let room : room_at (parts_of c x.name.node) s ≡ record { part = st.part; cell = n } = ap (λ (p : PartAt). record { part = p; cell = n }) (get_or_from_slice_get (parts_of c x.name.node) i st.part no_part st.there) in
        record {
          part = st.part;
          in_parts = st.there;
          entry = h.entry;
          in_entries = Contains-item (list_of lists x.name.node) h.j h.entry h.in_entries;
          fits = All-slice_get (IsEntry x.name.node (terms_of_name x.name)) (list_of lists x.name.node) h.j h.entry entries.each h.in_entries;
          keeps = h.keeps;
          in_placed = subst (λ (r : Room). Contains (placed_from c 0 lists spots) (record { entry = h.entry; room = r })) room
              (own-placed c names seed lists spots many filled_so x.name.node h.j h.entry s h.in_entries h.in_spots inside);
          candidate = st.candidate;
          as_filled = subst (λ (r : Room). IsFilled c seed (terms_of_name x.name) x.name.kind (list_of lists x.name.node) h.entry r) room
              (own-filled c names seed lists spots many filled_so x.name.node x mine formed inside h.j h.entry s h.in_entries h.in_spots);
        }

    -- ---- a cell in which nothing is kept

    -- the place of an entry in a cell of a part of the table
    record PlacedHere (i n : ℕ) (q : Placed) : Type 0 where
      j : ℕ
      spot : slice_get (spots_of spots x.name.node) j ≡ Some (record { part = i; cell = n })
      below : j < length (list_of lists x.name.node)

    placed-here : (i n : ℕ) (p : PartAt) (q : Placed) → slice_get (parts_of c x.name.node) i ≡ Some p → Contains (placed_from c 0 lists spots) q → is_at p.stage p.place n q.room ≡ true → PlacedHere i n q
    placed-here i n p q at_p there at =
        let f = from-placed c 0 lists spots q there in
        let zero_is : 0 + f.i ≡ f.i = omega arith in
        let in_node : slice_get (list_of lists f.i) f.own.j ≡ Some q.entry = ap (λ (o : Option (List Entry)). slice_get (unwrap_or o []) f.own.j) f.in_lists ∙ f.own.in_entries in
        let in_spots : slice_get (spots_of spots f.i) f.own.j ≡ Some f.own.spot = ap (λ (o : Option (List Spot)). slice_get (unwrap_or o []) f.own.j) f.in_all ∙ f.own.in_spots in
        let table : q.entry.table ≡ f.i = own-table-of f.i f.own.j q.entry (slice_get_within lists f.i f.es f.in_lists) in_node in
        let room : q.room ≡ room_at (parts_of c f.i) f.own.spot = f.own.room ∙ ap (λ m. room_at (parts_of c m) f.own.spot) zero_is in
        let is = All-contains (λ (z : Placed). IsSomeAnd (terms_named names z.entry.table) (λ u. IsFilled c seed u u.kind (list_of lists z.entry.table) z.entry z.room)) (placed_from c 0 lists spots) q filled_so.rooms there in
        by f.i f.own.j f.own.spot table in_node in_spots room (terms_named names q.entry.table) is
      where
        own-table-of : (m j : ℕ) (e : Entry) → m < length lists → slice_get (list_of lists m) j ≡ Some e → e.table ≡ m
        own-table-of m j e lt at_e = pick (terms_named names m) (entries-at names lists m formed lt)
          where
            pick : (o : Option Terms) → AreEntriesAt m (list_of lists m) o → e.table ≡ m
            pick None none = absurd (none-some e (sym (ap (λ xs. slice_get xs j) none) ∙ at_e))
            pick (Some u) some = (All-slice_get (IsEntry m u) (list_of lists m) j e some.each at_e).table

        by : (m j : ℕ) (s : Spot) → q.entry.table ≡ m → slice_get (list_of lists m) j ≡ Some q.entry → slice_get (spots_of spots m) j ≡ Some s → q.room ≡ room_at (parts_of c m) s
            → (o : Option Terms) → IsSomeAnd o (λ u. IsFilled c seed u u.kind (list_of lists q.entry.table) q.entry q.room) → PlacedHere i n q
        by m j s table in_node in_spots room None is = absurd is
        by m j s table in_node in_spots room (Some u) is =
            let in_rooms : Contains (rooms_for c seed m (key_number u q.entry)) (room_at (parts_of c m) s) =
            subst (Contains (rooms_for c seed m (key_number u q.entry))) room (subst (λ k. Contains (rooms_for c seed k (key_number u q.entry)) q.room) table (room_there c seed u u.kind (list_of lists q.entry.table) q.entry q.room is)) in
            let st = stands-in c seed m (key_number u q.entry) s in_rooms in
            let own_room : room_at (parts_of c m) s ≡ record { part = st.part; cell = s.cell } = ap (λ (p : PartAt). record { part = p; cell = s.cell }) (get_or_from_slice_get (parts_of c m) s.part st.part no_part st.there) in
            let place = at-place p.stage p.place n (record { part = st.part; cell = s.cell }) (ap (is_at p.stage p.place n) (sym own_room) ∙ ap (is_at p.stage p.place n) (sym room) ∙ at) in
            let own_a = All-slice_get (IsPartOf c m) (parts_of c m) s.part st.part (parts-own c m are.formed.items (memory_formed c are.formed)) st.there in
            let own_b = All-slice_get (IsPartOf c x.name.node) (parts_of c x.name.node) i p mine.own at_p in
            let slots : st.part.slot ≡ p.slot =
            same_Some st.part.slot p.slot (sym own_a.slot ∙ ap (λ k. slot_at c k st.part.place) place.stage ∙ ap (slot_at c p.stage) place.place ∙ own_b.slot) in
            let nodes : m ≡ x.name.node = sym own_a.own ∙ ap (λ (z : SlotUnit). z.node) slots ∙ own_b.own in
            let parts : s.part ≡ i = part-once c x.name.node s.part i st.part p (subst (λ k. slice_get (parts_of c k) s.part ≡ Some st.part) nodes st.there) at_p place.stage place.place in
            let same : s ≡ record { part = i; cell = n } = ap (λ k. record { part = k; cell = s.cell }) parts ∙ ap (λ k. record { part = i; cell = k }) place.cell in
            record {
              j = j;
              spot = ap (λ k. slice_get (spots_of spots k) j) (sym nodes) ∙ in_spots ∙ ap (λ (z : Spot). Some z) same;
              below = slice_get_within (list_of lists x.name.node) j q.entry (subst (λ k. slice_get (list_of lists k) j ≡ Some q.entry) nodes in_node);
            }

    none-placed : (i n : ℕ) (p : PartAt) (y : PartCells) → slice_get (parts_of c x.name.node) i ≡ Some p → slice_get ys i ≡ Some y → get nat_cmp y.cells n ≡ None → placed_at (placed_from c 0 lists spots) p.stage p.place n ≡ None
    none-placed i n p y at_p at_y none = by (placed_at (placed_from c 0 lists spots) p.stage p.place n) refl
      where
        by : (o : Option Placed) → placed_at (placed_from c 0 lists spots) p.stage p.place n ≡ o → o ≡ None
        by None e = refl
        by (Some q) e =
            let test : Placed → Bool = λ z. is_at p.stage p.place n z.room in
            let h = placed-here i n p q at_p (found-in test (placed_from c 0 lists spots) q e) (find-passes test (placed_from c 0 lists spots) q e) in
            let kept = moved.there h.j (record { part = i; cell = n }) h.below h.spot in
            let same : kept.0 ≡ y = same_Some kept.0 y (sym kept.1 ∙ at_y) in
            let some = IsSome-value (get nat_cmp kept.0.cells n) kept.2 in
            absurd (none-some some.0 (sym none ∙ ap (λ (z : PartCells). get nat_cmp z.cells n) (sym same) ∙ some.1))

    -- ---- the parts

    module _ (i : ℕ) (p : PartAt) (y : PartCells) (at_p : slice_get (parts_of c x.name.node) i ≡ Some p) (at_y : slice_get ys i ≡ Some y) where
      old : (z : PartCells) × (slice_get x.parts.items i ≡ Some z) × HoldsPart cells p z
      old = zip-left (HoldsPart cells) (parts_of c x.name.node) x.parts.items i p holds at_p

      same : SamePart old.0 y
      same =
          let h = zip-left SamePart x.parts.items ys i old.0 moved.same old.1 in
          subst (SamePart old.0) (same_Some h.0 y (sym h.1 ∙ at_y)) h.2

      facts : PartFacts c x.name p
      facts = All-slice_get (PartFacts c x.name) (parts_of c x.name.node) i p mine.parts at_p

      part-own : IsPartOf c x.name.node p
      part-own = All-slice_get (IsPartOf c x.name.node) (parts_of c x.name.node) i p mine.own at_p

      first-is : y.first ≡ p.first
      first-is = same.first ∙ old.2.first

      cell-part : (n : ℕ) (k : Kept) (h : NewCell i n y k) → h.part ≡ p
      cell-part n k h = same_Some h.part p (sym h.in_parts ∙ at_p)

      cell-within : (n : ℕ) (k : Kept) → NewCell i n y k → n < cells_in p.slot.memory
      cell-within n k h =
          let both = and_parts (slot_head_is_formed p.slot) (memory_is_formed p.slot p.slot.memory) facts.stands.slot in
          All-contains (λ m. m < cells_in p.slot.memory) (candidates seed (bits_of_lanes p.slot.keys) p.slot.memory (key_number t h.entry)) n
          (candidates-within p.slot p.slot.memory both.0 both.1 seed (bits_of_lanes p.slot.keys) (key_number t h.entry))
          (subst (λ (q : PartAt). Contains (candidates seed (bits_of_lanes q.slot.keys) q.slot.memory (key_number t h.entry)) n) (cell-part n k h) h.candidate)

      kept-some : (n : ℕ) (k : Kept) → get nat_cmp y.cells n ≡ Some k → IsKeptOf seed p (next.content p.stage p.place n) (record { cell = n; number = next.number p.stage p.place n }) (Some k)
      kept-some n k is =
          let h = new-cell i n y k (record { part = at_y; kept = is }) in
          let q : Placed = record { entry = h.entry; room = record { part = p; cell = n } } in
          let there : Contains (placed_from c 0 lists spots) q = subst (λ (z : PartAt). Contains (placed_from c 0 lists spots) (record { entry = h.entry; room = record { part = z; cell = n } })) (cell-part n k h) h.in_placed in
          let at : placed_at (placed_from c 0 lists spots) p.stage p.place n ≡ Some q = placed-found (placed_from c 0 lists spots) q p.stage p.place n filled_so.apart there (at-own p n) in
          let terms : terms_named names h.entry.table ≡ Some t = ap (terms_named names) h.fits.table ∙ mine.terms in
          let content : next.content p.stage p.place n ≡ entry_content t p 3 h.entry =
          ap (λ o. filled_content c names o p.stage p.place) at ∙ ap (λ (o : Option Terms). unwrap_or (option_map (λ u. entry_content u p 3 h.entry) o) (emptied p.slot)) terms in
          let number : next.number p.stage p.place n ≡ h.entry.number = ap (λ o. unwrap_or (option_map (λ (z : Placed). z.entry.number) o) 0) at in
          let kept = h.keeps.kept p (sym first-is) facts.bits facts.kind in
          let visible = kept.visible in
          let head : (1 + 2 * 3 + 8 * (p.first + h.entry.action)) / 2 % 4 ≡ 3 = omega arith in
          let low : key_number t h.entry % 2 ^ bits_of_lanes p.slot.keys ≡ key_number t h.entry =
          ap (λ b. key_number t h.entry % 2 ^ b) (sym facts.bits) ∙ key-low x.name.keys h.entry.tests h.fits.tests in
          let candidate : is_candidate seed p (key_number t h.entry) n ≡ true =
          ap (λ key. list_any (λ m. m == n) (candidates seed (bits_of_lanes p.slot.keys) p.slot.memory key)) low
          ∙ list_any-Contains (λ m. m == n) (candidates seed (bits_of_lanes p.slot.keys) p.slot.memory (key_number t h.entry)) n
          (subst (λ (z : PartAt). Contains (candidates seed (bits_of_lanes z.slot.keys) z.slot.memory (key_number t h.entry)) n) (cell-part n k h) h.candidate) (eq-eqb n n refl) in
          subst (λ m. IsKeptOf seed p (next.content p.stage p.place n) (record { cell = n; number = m }) (Some k)) (sym number)
          (subst (λ v. IsKeptOf seed p v (record { cell = n; number = h.entry.number }) (Some k)) (sym content)
          (occupied (p.first + h.entry.action), kept, candidate, λ none. absurd (omega (arith, visible, head, none))))
        where
          occupied : (a : ℕ) → is_occupied (1 + 2 * 3 + 8 * a) ≡ true
          occupied a = eq-eqb ((1 + 2 * 3 + 8 * a) % 2) 1 (omega arith)

      kept-none : (n : ℕ) → get nat_cmp y.cells n ≡ None → IsKeptOf seed p (next.content p.stage p.place n) (record { cell = n; number = next.number p.stage p.place n }) None
      kept-none n is =
          let at = none-placed i n p y at_p at_y is in (
            ap (λ o. filled_content c names o p.stage p.place) at ∙ ap (λ (o : Option SlotUnit). unwrap_or (option_map emptied o) no_content) part-own.slot,
            ap (λ o. unwrap_or (option_map (λ (z : Placed). z.entry.number) o) 0) at,
          )

      pub part-holds : HoldsPart next p y
      part-holds = record {
        stage = same.stage ∙ old.2.stage;
        place = same.place ∙ old.2.place;
        first = first-is;
        shape = subst (IsShape p.slot) (sym same.shape) old.2.shape;
        within = All-weaker (Contains (keys y.cells)) (λ n. n < cells_in p.slot.memory) (λ n there.
            let some = IsSome-value (get nat_cmp y.cells n) ((btree_map_contains_key_iff nat_cmp_total exact_unsigned y.cells n).1 there) in
            cell-within n some.0 (new-cell i n y some.0 (record { part = at_y; kept = some.1 }))) (keys y.cells) (All-contains_itself (keys y.cells));
        each = λ n lt. by n (get nat_cmp y.cells n) refl;
        bytes = λ n k is.
            let h = moved.found i n y k at_y is in
            sizes-bytes x.name p y.shape.held k facts.bits facts.kind (ap (λ (u : PartShape). u.held) same.shape ∙ old.2.shape.held) h.sizes;
      }
        where
          by : (n : ℕ) (o : Option Kept) → get nat_cmp y.cells n ≡ o → IsKeptOf seed p (next.content p.stage p.place n) (record { cell = n; number = next.number p.stage p.place n }) o
          by n None e = kept-none n e
          by n (Some k) e = kept-some n k e

    pub table-holds : AllZip (HoldsPart next) (parts_of c x.name.node) ys
    table-holds =
        zip-made (HoldsPart next) (parts_of c x.name.node) ys (zip-length (HoldsPart cells) (parts_of c x.name.node) x.parts.items holds ∙ zip-length SamePart x.parts.items ys moved.same)
        (λ i p y at_p at_y. part-holds i p y at_p at_y)

    -- ---- the entries that are told

    seen-three : (odd : Bool) (n : ℕ) (y : PartCells) (k : Kept) (i : ℕ) → IsCellOf ys i n y k → is_seen odd k ≡ true
    seen-three odd n y k i cell =
        let h = new-cell i n y k cell in
        let z = zip-right (HoldsPart next) (parts_of c x.name.node) ys i y table-holds cell.part in
        let facts = All-slice_get (PartFacts c x.name) (parts_of c x.name.node) i z.0 mine.parts z.1 in
        let kept = h.keeps.kept z.0 (sym z.2.first) facts.bits facts.kind in
        let head : (1 + 2 * 3 + 8 * (z.0.first + h.entry.action)) / 2 % 4 ≡ 3 = omega arith in
        by odd (kept.visible ∙ head)
      where
        by : (o : Bool) → k.visible ≡ 3 → is_seen o k ≡ true
        by true e = ap (λ v. v / 2 % 2 == 1) e
        by false e = ap (λ v. v / 1 % 2 == 1) e

    pub told-own : (odd : Bool) (e : Entry) → Contains (flat_map (entries_in odd x.name) ys) e → Contains (list_of lists x.name.node) e
    told-own odd e there =
        let h = told-in odd x.name ys moved.ordered e there in
        let w = new-cell h.0 h.1 h.2 h.3 h.4 in
        subst (Contains (list_of lists x.name.node)) (sym (h.5 ∙ w.keeps.told)) w.in_entries

    pub own-told : (odd : Bool) (e : Entry) → Contains (list_of lists x.name.node) e → Contains (flat_map (entries_in odd x.name) ys) e
    own-told odd e there =
        let at : slice_get (list_of lists x.name.node) there.0 ≡ Some e = slice_get-get_or (list_of lists x.name.node) there.0 e there.1 ∙ ap Some there.2 in
        let long = spots-many c names seed lists spots many filled_so x.name.node inside in
        let lt = there.1 in
        let s = slice_get-item (spots_of spots x.name.node) there.0 (omega (arith, long, lt)) in
        let kept = moved.there there.0 s.0 lt s.1 in
        let some = IsSome-value (get nat_cmp kept.0.cells s.0.cell) kept.2 in
        let cell : IsCellOf ys s.0.part s.0.cell kept.0 some.0 = record { part = kept.1; kept = some.1 } in
        let h = new-cell s.0.part s.0.cell kept.0 some.0 cell in
        let mine_room : room_at (parts_of c x.name.node) s.0 ≡ record { part = h.part; cell = s.0.cell } =
        ap (λ (p : PartAt). record { part = p; cell = s.0.cell }) (get_or_from_slice_get (parts_of c x.name.node) s.0.part h.part no_part h.in_parts) in
        let other : Contains (placed_from c 0 lists spots) (record { entry = e; room = record { part = h.part; cell = s.0.cell } }) =
        subst (λ (r : Room). Contains (placed_from c 0 lists spots) (record { entry = e; room = r })) mine_room (own-placed c names seed lists spots many filled_so x.name.node there.0 e s.0 at s.1 inside) in
        let same : h.entry ≡ e =
        ap (λ (q : Placed). q.entry) (one-placed (placed_from c 0 lists spots) (record { entry = h.entry; room = record { part = h.part; cell = s.0.cell } }) (record { entry = e; room = record { part = h.part; cell = s.0.cell } })
        h.part.stage h.part.place s.0.cell filled_so.apart h.in_placed other (at-own h.part s.0.cell) (at-own h.part s.0.cell)) in
        subst (Contains (flat_map (entries_in odd x.name) ys)) (h.keeps.told ∙ same) (in-told odd x.name ys moved.ordered s.0.part s.0.cell kept.0 some.0 cell (seen-three odd s.0.cell kept.0 some.0 s.0.part cell))

    -- ---- the entries of two cells

    distinct : AllPairs (λ (m n : ℕ). m ≢ n) (map (λ (q : Placed). q.entry.number) (placed_from c 0 lists spots))
    distinct =
        subst (AllPairs (λ (m n : ℕ). m ≢ n))
        (sym (sym (map-twice (λ (e : Entry). e.number) (λ (q : Placed). q.entry) (placed_from c 0 lists spots)) ∙ ap (map (λ (e : Entry). e.number)) filled_so.each ∙ all-numbers lists)) formed.entries.numbers_once

    differ : (i n j m : ℕ) (y z : PartCells) (k k2 : Kept) (a : NewCell i n y k) (b : NewCell j m z k2) → IsBefore i n j m → a.entry.number ≢ b.entry.number
    differ i n j m y z k k2 a b before same =
        let one = one-key (λ (q : Placed). q.entry.number) (placed_from c 0 lists spots) (record { entry = a.entry; room = record { part = a.part; cell = n } }) (record { entry = b.entry; room = record { part = b.part; cell = m } }) distinct a.in_placed b.in_placed same in
        let part : a.part ≡ b.part = ap (λ (q : Placed). q.room.part) one in
        let cell : n ≡ m = ap (λ (q : Placed). q.room.cell) one in
        let place : i ≡ j = part-once c x.name.node i j a.part b.part a.in_parts b.in_parts (ap (λ (p : PartAt). p.stage) part) (ap (λ (p : PartAt). p.place) part) in
        by place cell before
      where
        by : i ≡ j → n ≡ m → IsBefore i n j m → ⊥
        by e f (inl lt) = omega (arith, e, lt)
        by e f (inr both) = let lt = both.1 in omega (arith, f, lt)

    pub told-numbers : (odd : Bool) → AllPairs (λ (a b : Entry). a.number ≢ b.number) (flat_map (entries_in odd x.name) ys)
    told-numbers odd =
        parts-pairs odd x.name (λ (a b : Entry). a.number ≢ b.number) ys moved.ordered
        (λ i n j m y z k k2 ca cb before.
        let a = new-cell i n y k ca in
        let b = new-cell j m z k2 cb in
        subst (λ (e : Entry). e.number ≢ (told_entry x.name z.first k2).number) (sym a.keeps.told)
        (subst (λ (f : Entry). a.entry.number ≢ f.number) (sym b.keeps.told) (differ i n j m y z k k2 a b before)))

    row-room : (k : Kind) (e : Entry) (room : Room) → IsRowKind k → IsFilled c seed (terms_of_name x.name) k (list_of lists x.name.node) e room
        → slice_get (rooms_for c seed e.table (key_number (terms_of_name x.name) e)) (firsts k (list_of lists x.name.node) e) ≡ Some room
    row-room kind.Keyless e room rowed is = absurd is
    row-room kind.Exact e room (inl r) is = absurd cc
    row-room kind.Exact e room (inr r) is = absurd cc
    row-room kind.Prefix e room rowed is = is
    row-room kind.Ternary e room rowed is = is

    own-row : IsRowKind x.name.kind → (i n : ℕ) (y : PartCells) (k : Kept) (a : NewCell i n y k)
        → slice_get (rooms_for c seed x.name.node (key_number (terms_of_name x.name) a.entry)) (firsts x.name.kind (list_of lists x.name.node) a.entry) ≡ Some (record { part = a.part; cell = n })
    own-row rowed i n y k a =
        subst (λ m. slice_get (rooms_for c seed m (key_number (terms_of_name x.name) a.entry)) (firsts x.name.kind (list_of lists x.name.node) a.entry) ≡ Some (record { part = a.part; cell = n })) a.fits.table
        (row-room x.name.kind a.entry (record { part = a.part; cell = n }) rowed a.as_filled)

    told-order : (odd : Bool) → IsRowKind x.name.kind → AllPairs (λ (a b : Entry). goes_first x.name.kind a b ≡ true) (flat_map (entries_in odd x.name) ys)
    told-order odd rowed =
        parts-pairs odd x.name (λ (a b : Entry). goes_first x.name.kind a b ≡ true) ys moved.ordered
        (λ i n j m y z k k2 ca cb before.
        let a = new-cell i n y k ca in
        let b = new-cell j m z k2 cb in
        let first = rows-in-order c names seed lists x.name.node x mine entries rowed (key_number (terms_of_name x.name) a.entry) (key_number (terms_of_name x.name) b.entry) i n j m a.part b.part a.entry b.entry
        a.in_entries b.in_entries (differ i n j m y z k k2 a b before) a.in_parts b.in_parts (own-row rowed i n y k a) (own-row rowed j m z k2 b) before in
        subst (λ (e : Entry). goes_first x.name.kind e (told_entry x.name z.first k2) ≡ true) (sym a.keeps.told)
        (subst (λ (f : Entry). goes_first x.name.kind a.entry f ≡ true) (sym b.keeps.told) first))

    pub told-has_order : (odd : Bool) → has_order x.name.kind (flat_map (entries_in odd x.name) ys) ≡ true
    told-has_order odd = by x.name.kind refl
      where
        by : (k : Kind) → x.name.kind ≡ k → has_order k (flat_map (entries_in odd x.name) ys) ≡ true
        by kind.Keyless e = refl
        by kind.Exact e = refl
        by kind.Prefix e =
            each_later-from (goes_first kind.Prefix) (flat_map (entries_in odd x.name) ys) (subst (λ k. AllPairs (λ (a b : Entry). goes_first k a b ≡ true) (flat_map (entries_in odd x.name) ys)) e (told-order odd (inl e)))
        by kind.Ternary e =
            each_later-from (goes_first kind.Ternary) (flat_map (entries_in odd x.name) ys) (subst (λ k. AllPairs (λ (a b : Entry). goes_first k a b ≡ true) (flat_map (entries_in odd x.name) ys)) e (told-order odd (inr e)))

    pub told-by-number : (odd : Bool) → by_number (flat_map (entries_in odd x.name) ys) ≡ list_of lists x.name.node
    told-by-number odd = by_number_is (flat_map (entries_in odd x.name) ys) (list_of lists x.name.node) (told-numbers odd) entries.rising (told-own odd) (own-told odd)
