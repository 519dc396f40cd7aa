-- What a book that stands for cells says of the tables and cells in it.
use Rattle.std.proofs.Common.{◌≡◌, ℕ, ◌%◌, ◌^◌, ◌<◌, true, List, [], ◌∷◌, Option, Some, map, sum, option_map, refl, sym, ap, ◌∙◌, subst, inl, inr, arith}
use Rattle.std.specs.Prelude.{AllPairs, Contains, IsSomeAnd, slice_get, slice_index_or, unwrap_or}
use Rattle.std.specs.List.{AllZip}
use Rattle.std.specs.BTreeMap.{get}
use Rattle.std.specs.Ordering.{nat_cmp}
use Rattle.std.proofs.lemmas.Bool.{and_parts, cases_lt}
use Rattle.std.proofs.lemmas.List.Elements.{All-contains, at_from_Contains}
use Rattle.std.proofs.lemmas.Option.{get_or_from_slice_get, same_Some, slice_get-get_or}
use Rattle.rmt_bits.proofs.AllLaws.{All-slice_get}
use Rattle.rmt_bits.proofs.MemberLaws.{Contains-flat_map, Contains-from_any, Contains-item, Contains-map, Contains-unmap, from_flat_map}
use Rattle.rmt_ast.specs.NameRules.{rise, terms_of_name}
use Rattle.rmt_ast.specs.declared.entry.Entry.{Entry}
use Rattle.rmt_ast.specs.declared.names.Names.{Names}
use Rattle.rmt_ast.specs.declared.names.TableName.{TableName}
use Rattle.rmt_config.specs.declared.config.Config.{Config}
use Rattle.rmt_config.specs.declared.config.SlotUnit.{SlotUnit}
use Rattle.rmt_config.specs.Cells.{candidates, cells_in}
use Rattle.rmt_config.specs.Commits.{IsCell, placed_now, rooms_of}
use Rattle.rmt_config.specs.LaneForm.{bits_of_lanes}
use Rattle.rmt_config.specs.Rooms.{PartAt, Room, content_in, key_number, number_in, parts_of}
use Rattle.rmt_config.specs.RunCells.{RunCells, sees}
use Rattle.rmt_update.specs.declared.book.Book.{Book}
use Rattle.rmt_book.specs.declared.kept.Kept.{Kept}
use Rattle.rmt_book.specs.declared.spot.BookSpot.{BookSpot}
use Rattle.rmt_book.specs.declared.table.PartCells.{PartCells}
use Rattle.rmt_book.specs.declared.table.TableCells.{TableCells}
use Rattle.rmt_update.specs.BookStands.{BookStands, HoldsPart, HoldsTable, IsKeptOf, IsUsed}
use Rattle.rmt_update.specs.Loads.{AreTables, HasShape, table_of}
use Rattle.rmt_update.specs.Placing.{IsBookSpot, node_at, room_of}
use Rattle.rmt_book.specs.Seen.{is_seen}
use Rattle.rmt_book.specs.Spots.{no_part, room_at}
use Rattle.rmt_book.specs.Told.{told_entry}
use Rattle.rmt_update.proofs.BookLaws.{names-fit}
use Rattle.rmt_update.proofs.CandidateLaws.{key-told}
use Rattle.rmt_update.proofs.NodeLists.{find-node, rise-pairs}
use Rattle.rmt_update.proofs.PartOrder.{IsPartOf, Rises, never-rises, pair-at, parts-rise}
use Rattle.rmt_update.proofs.PlacedAfter.{stays}
use Rattle.rmt_update.proofs.RoomNumbers.{HasRows, cell-within}
use Rattle.rmt_book.proofs.ShapeLaws.{cells-are}
use Rattle.rmt_update.proofs.SightLaws.{seen-as-packets}
use Rattle.rmt_update.proofs.TableRules.{Own, all-rows, own-table}
use Rattle.rmt_book.proofs.ToldEntryLaws.{PartFacts}
use Rattle.rmt_update.proofs.ZipLaws.{zip-right}

-- ---- lists beside lists

pub zip-shapes : (cells : RunCells) (ps : List PartAt) (xs : List PartCells) → AllZip (HoldsPart cells) ps xs → AllZip HasShape ps xs
zip-shapes cells [] [] zip = tt
zip-shapes cells [] (x ∷ xs) zip = absurd zip
zip-shapes cells (p ∷ ps) [] zip = absurd zip
zip-shapes cells (p ∷ ps) (x ∷ xs) zip = (zip.0.shape, zip-shapes cells ps xs zip.1)

-- ---- tables

module _ (c : Config) (names : Names) (cells : RunCells) (lists : List (List Entry)) (b : Book) (stands : BookStands c cells lists b) (named : c.names ≡ Some names) where
  abbrev tables : List TableCells
  tables = b.tables.items

  abbrev node_of : TableCells → ℕ
  node_of t = t.name.node

  same-names : names.tables ≡ map (λ (t : TableCells). t.name) tables
  same-names = ap (λ (n : Names). n.tables) (same_Some names (record { tables = map (λ (t : TableCells). t.name) tables }) (sym named ∙ stands.names))

  -- the tables are those of the configuration
  pub book-tables : AreTables c names tables
  book-tables = record {
    formed = stands.formed;
    named = named;
    same = same-names;
    shapes = λ i d lt. zip-shapes cells (parts_of c (slice_index_or tables i d).name.node) (slice_index_or tables i d).parts.items (stands.tables i d lt);
  }

  pub nodes-rising : AllPairs (λ (s t : TableCells). s.name.node < t.name.node) tables
  nodes-rising =
      let fit = names-fit c names stands.formed named in
      let made = and_parts _ _ (and_parts _ _ fit).0 in
      let those = and_parts _ _ made.0 in
      let alone = and_parts _ _ (and_parts _ _ those.0).0 in
      let rising : rise (map (λ (t : TableName). t.node) names.tables) ≡ true = (and_parts _ _ (and_parts _ _ alone.0).0).0 in
      rise-pairs node_of tables (sym (ap rise (ap (map (λ (t : TableName). t.node)) same-names ∙ twice tables)) ∙ rising)
    where
      twice : (ts : List TableCells) → map (λ (t : TableName). t.node) (map (λ (t : TableCells). t.name) ts) ≡ map node_of ts
      twice [] = refl
      twice (t ∷ ts) = ap (λ ns. t.name.node ∷ ns) (twice ts)

  -- the table at a place is that of its node
  pub found-there : (i : ℕ) (t : TableCells) → slice_get tables i ≡ Some t → table_of tables t.name.node ≡ Some t
  found-there i t at = find-node node_of tables i t nodes-rising at

  pub own-there : (i : ℕ) (t : TableCells) → slice_get tables i ≡ Some t → Own c names lists t.name.node t
  own-there i t at = own-table c names tables lists t.name.node t book-tables (found-there i t at)

  pub holds-there : (i : ℕ) (t : TableCells) → slice_get tables i ≡ Some t → AllZip (HoldsPart cells) (parts_of c t.name.node) t.parts.items
  holds-there i t at = All-slice_get (HoldsTable c cells) tables i t stands.tables at

  -- what is known of a table of the book
  pub record TableHeld (t : TableCells) : Type 0 where
    pub holds : AllZip (HoldsPart cells) (parts_of c t.name.node) t.parts.items
    pub shapes : AllZip HasShape (parts_of c t.name.node) t.parts.items
    pub own : Own c names lists t.name.node t

  pub table-held : (i : ℕ) (t : TableCells) → slice_get tables i ≡ Some t → TableHeld t
  table-held i t at =
      let holds = holds-there i t at in record { holds = holds; shapes = zip-shapes cells (parts_of c t.name.node) t.parts.items holds; own = own-there i t at }

  -- ---- cells

  -- what is known of a cell of the book
  pub record SpotFacts (s : BookSpot) (at : IsBookSpot tables s) : Type 0 where
    pub part : PartAt
    pub there : slice_get (parts_of c at.table.name.node) s.at.part ≡ Some part
    pub holds : HoldsPart cells part at.part
    pub within : s.at.cell < cells_in part.slot.memory
    pub room : room_of c tables s ≡ record { part = part; cell = s.at.cell }

  pub spot-facts : (s : BookSpot) (at : IsBookSpot tables s) → SpotFacts s at
  spot-facts s at =
      let ps = parts_of c at.table.name.node in
      let beside = zip-right (HoldsPart cells) ps at.table.parts.items s.at.part at.part (holds-there s.table at.table at.in_tables) at.in_parts in
      let size = cells-are beside.0.slot at.part.shape beside.2.shape in
      let less = at.within in
      let node : node_at tables s.table ≡ at.table.name.node = ap (λ (o : Option TableCells). unwrap_or (option_map (λ (t : TableCells). t.name.node) o) 0) at.in_tables in
      record {
        part = beside.0;
        there = beside.1;
        holds = beside.2;
        within = omega (arith, less, size);
        room = ap (λ n. room_at (parts_of c n) s.at) node ∙ ap (λ (p : PartAt). record { part = p; cell = s.at.cell }) (get_or_from_slice_get ps s.at.part beside.0 no_part beside.1);
      }

  -- a part of a table is found by its place
  pub same-part : (node : ℕ) (p q : PartAt) → Contains (parts_of c node) p → Contains (parts_of c node) q → p.stage ≡ q.stage → p.place ≡ q.place → p ≡ q
  same-part node p q in_p in_q stage place =
      let a = at_from_Contains (parts_of c node) p in_p in
      let e = at_from_Contains (parts_of c node) q in_q in
      let at_p : slice_get (parts_of c node) a.0 ≡ Some p = slice_get-get_or (parts_of c node) a.0 p a.1 ∙ ap Some (a.2 p) in
      let at_q : slice_get (parts_of c node) e.0 ≡ Some q = slice_get-get_or (parts_of c node) e.0 q e.1 ∙ ap Some (e.2 q) in
      elim (cases_lt a.0 e.0) [
        | inl lt ↦ absurd (never-rises p q (pair-at Rises (parts_of c node) a.0 e.0 p q (parts-rise c node) lt at_p at_q) (sym stage) (sym place))
        | inr le ↦ elim (cases_lt e.0 a.0) [
          | inl gt ↦ absurd (never-rises q p (pair-at Rises (parts_of c node) e.0 a.0 q p (parts-rise c node) gt at_q at_p) stage place)
          | inr ge ↦
              let here : a.0 ≡ e.0 = omega (arith, le, ge) in
              same_Some p q (sym at_p ∙ ap (slice_get (parts_of c node)) here ∙ at_q)
        ]
      ]

  -- a cell that is kept is used
  pub record KeptFacts (s : BookSpot) (at : IsBookSpot tables s) (k : Kept) : Type 0 where
    pub facts : SpotFacts s at
    pub used : IsUsed c cells facts.part.stage facts.part.place s.at.cell
    pub number : cells.number facts.part.stage facts.part.place s.at.cell ≡ k.number
    pub sight : is_seen b.odd k ≡ sees true cells.version (cells.content facts.part.stage facts.part.place s.at.cell).head
    pub candidate : Contains (candidates cells.seed (bits_of_lanes facts.part.slot.keys) facts.part.slot.memory (key_number (terms_of_name at.table.name) (told_entry at.table.name at.part.first k))) s.at.cell

  pub kept-facts : (s : BookSpot) (at : IsBookSpot tables s) (k : Kept) → get nat_cmp at.part.cells s.at.cell ≡ Some k → KeptFacts s at k
  kept-facts s at k there =
      let facts = spot-facts s at in
      let p = facts.part in
      let n = s.at.cell in
      let own = own-there s.table at.table at.in_tables in
      let h = subst (IsKeptOf cells.seed p (cells.content p.stage p.place n) (record { cell = n; number = cells.number p.stage p.place n })) there (facts.holds.each n facts.within) in
      let part_of = All-slice_get (IsPartOf c at.table.name.node) (parts_of c at.table.name.node) s.at.part p own.own facts.there in
      let bits = (All-slice_get (PartFacts c at.table.name) (parts_of c at.table.name.node) s.at.part p own.parts facts.there).bits in
      let key : key_number (terms_of_name at.table.name) (told_entry at.table.name at.part.first k) ≡ (cells.content p.stage p.place n).key % 2 ^ bits_of_lanes p.slot.keys =
      key-told at.table.name.keys _ _ ∙ ap (λ x. x % 2 ^ sum at.table.name.keys) h.1.key ∙ ap (λ x. (cells.content p.stage p.place n).key % 2 ^ x) bits in
      record {
        facts = facts;
        used = (subst (λ (o : Option SlotUnit). IsSomeAnd o (λ slot. n < cells_in slot.memory)) (sym part_of.slot) facts.within, h.0);
        number = sym h.1.number;
        sight = ap (λ o. is_seen o k) stands.version ∙ seen-as-packets cells.version (bits_of_lanes p.slot.keys) p.slot.memory (cells.content p.stage p.place n) (record { cell = n; number = cells.number p.stage p.place n }) k h.0 h.1;
        candidate =
            subst (λ x. Contains (candidates cells.seed (bits_of_lanes p.slot.keys) p.slot.memory x) n) (sym key)
            (Contains-from_any (candidates cells.seed (bits_of_lanes p.slot.keys) p.slot.memory ((cells.content p.stage p.place n).key % 2 ^ bits_of_lanes p.slot.keys)) n h.2);
      }

  -- the room of an entry that is seen
  pub placed-seen : (s : BookSpot) (at : IsBookSpot tables s) (k : Kept) → get nat_cmp at.part.cells s.at.cell ≡ Some k → is_seen b.odd k ≡ true
      → placed_now c names cells (told_entry at.table.name at.part.first k) ≡ Some (record { entry = told_entry at.table.name at.part.first k; room = room_of c tables s })
  placed-seen s at k there seen =
      let kept = kept-facts s at k there in
      let p = kept.facts.part in
      let n = s.at.cell in
      let t = at.table.name in
      let e = told_entry t at.part.first k in
      let room : Room = record { part = p; cell = n } in
      let own = own-there s.table at.table at.in_tables in
      let in_parts = Contains-item (parts_of c t.node) s.at.part p kept.facts.there in
      stays c names cells e (terms_of_name t) room own.terms
      (Contains-flat_map (λ (q : PartAt). map (λ m. record { part = q; cell = m }) (candidates cells.seed (bits_of_lanes q.slot.keys) q.slot.memory (key_number (terms_of_name t) e))) (parts_of c t.node) p room in_parts
      (Contains-map (λ m. record { part = p; cell = m }) (candidates cells.seed (bits_of_lanes p.slot.keys) p.slot.memory (key_number (terms_of_name t) e)) n kept.candidate))
      (sym kept.sight ∙ seen) kept.number (λ r in_rooms r_seen r_number. only kept in_parts r in_rooms r_seen r_number)
      ∙ ap (λ (r : Room). Some (record { entry = e; room = r })) (sym kept.facts.room)
    where
      only : (kept : KeptFacts s at k) → Contains (parts_of c at.table.name.node) kept.facts.part → (r : Room)
          → Contains (rooms_of c (terms_of_name at.table.name) cells (told_entry at.table.name at.part.first k)) r → sees true cells.version (content_in cells r).head ≡ true → number_in cells r ≡ k.number
          → r ≡ record { part = kept.facts.part; cell = s.at.cell }
      only kept in_parts r in_rooms r_seen r_number =
          let t = at.table.name in
          let key = key_number (terms_of_name t) (told_entry t at.part.first k) in
          let own = own-there s.table at.table at.in_tables in
          let part = from_flat_map (λ (q : PartAt). map (λ m. record { part = q; cell = m }) (candidates cells.seed (bits_of_lanes q.slot.keys) q.slot.memory key)) (parts_of c t.node) r in_rooms in
          let q = part.0 in
          let cell = Contains-unmap (λ m. record { part = q; cell = m }) (candidates cells.seed (bits_of_lanes q.slot.keys) q.slot.memory key) r part.2 in
          let m = cell.0 in
          let within = cell-within cells.seed (bits_of_lanes q.slot.keys) key q.slot.memory m
          (All-contains (λ (x : PartAt). HasRows x.slot.memory) (parts_of c t.node) q (all-rows c names lists t.node at.table own) part.1) cell.1 in
          let part_of = All-contains (IsPartOf c t.node) (parts_of c t.node) q own.own part.1 in
          let is_cell : IsCell c q.stage q.place m = subst (λ (o : Option SlotUnit). IsSomeAnd o (λ slot. m < cells_in slot.memory)) (sym part_of.slot) within in
          let seen_there : sees true cells.version (cells.content q.stage q.place m).head ≡ true = ap (λ (x : Room). sees true cells.version (content_in cells x).head) cell.2 ∙ r_seen in
          let number_there : cells.number q.stage q.place m ≡ k.number = ap (number_in cells) cell.2 ∙ r_number in
          let same = stands.numbers q.stage q.place m kept.facts.part.stage kept.facts.part.place s.at.cell (is_cell, (and_parts _ _ seen_there).0) kept.used (number_there ∙ sym kept.number) in
          sym cell.2 ∙ ap (λ (x : PartAt). record { part = x; cell = m }) (same-part t.node q kept.facts.part part.1 in_parts same.0 same.1) ∙ ap (λ x. record { part = kept.facts.part; cell = x }) same.2
