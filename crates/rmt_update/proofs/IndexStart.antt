-- The index of a table before entries come to it: what it has of the entries that stay.
use Rattle.std.proofs.Common.{◌≡◌, ◌≢◌, ◌⊎◌, ℕ, ◌+◌, ◌<◌, ◌≤◌, ◌&&◌, Bool, true, false, not, eqb, List, [], ◌∷◌, ◌++◌, Option, Some, None, get_or, length, option_map, refl, sym, ap, ◌∙◌, subst, inl, inr, arith}
use Rattle.std.specs.Prelude.{All, Contains, slice_get, unwrap_or}
use Rattle.std.specs.List.{AllZip, list_any}
use Rattle.std.specs.BTreeMap.{get}
use Rattle.std.specs.BTreeSet.{contains}
use Rattle.std.specs.Ordering.{nat_cmp, ordering_reverse}
use Rattle.std.specs.declared.cmp.Ordering.TheVariants.{Less}
use Rattle.std.proofs.lemmas.Bool.{and_parts, cases_lt, false≢true, false_from_ne_true}
use Rattle.std.proofs.lemmas.List.Elements.{All-contains, All-head, Contains-append_cases, Contains-append_left, Contains-get_or, at_from_Contains}
use Rattle.std.proofs.lemmas.Option.{same_Some, slice_get-get_or, slice_get_within}
use Rattle.rmt_bits.proofs.AllLaws.{All-slice_get}
use Rattle.rmt_bits.proofs.ListLaws.{slice_get-item}
use Rattle.rmt_bits.proofs.MemberLaws.{any_item, from_flat_map}
use Rattle.rmt_bits.specs.Members.{is_among}
use Rattle.rmt_ast.specs.Changes.{list_of}
use Rattle.rmt_ast.specs.EntryLists.{AreEntriesAt, HasRank, IsEntry, IsPrefix, Terms}
use Rattle.rmt_ast.specs.NameRules.{has_fields, table_is_formed, terms_named, terms_of_name}
use Rattle.rmt_ast.specs.RankPairs.{pair_cmp}
use Rattle.rmt_ast.specs.RowOrder.{goes_first}
use Rattle.rmt_ast.specs.declared.entry.Entry.{Entry}
use Rattle.rmt_ast.specs.declared.names.TableName.{TableName}
use Rattle.rmt_ast.specs.declared.program.Kind.{Kind}
use Rattle.rmt_ast.specs.declared.program.Kind.TheVariants as kind
use Rattle.rmt_ast.specs.declared.program.Test.{Test}
use Rattle.rmt_config.specs.Cells.{cells_in}
use Rattle.rmt_config.specs.Commits.{Placed, all_entries, is_free}
use Rattle.rmt_config.specs.NamesForm.{each_later, has_order}
use Rattle.rmt_config.specs.Rooms.{PartAt, Room, is_same, parts_of}
use Rattle.rmt_config.specs.RunCells.{has_bit, sees}
use Rattle.rmt_update.specs.declared.book.Book.{Book}
use Rattle.rmt_book.specs.declared.kept.Kept.{Kept}
use Rattle.rmt_book.specs.declared.row_order.RowOrder.{RowOrder}
use Rattle.rmt_book.specs.declared.spot.BookSpot.{BookSpot}
use Rattle.rmt_book.specs.declared.table.PartCells.{PartCells}
use Rattle.rmt_book.specs.declared.table.TableCells.{TableCells}
use Rattle.rmt_lists.specs.declared.lists.Changes.{Changes}
use Rattle.rmt_update.specs.BookStands.{HoldsPart}
use Rattle.rmt_update.specs.Come.{AreOrdered, IsRunOf, Run, staying}
use Rattle.rmt_update.specs.Loads.{table_of}
use Rattle.rmt_update.specs.Open.{is_kept_seen}
use Rattle.rmt_update.specs.Placing.{IsBookSpot, StaysAt, room_of}
use Rattle.rmt_update.specs.Planned.{changed_lists}
use Rattle.rmt_update.specs.RowIndex.{AreRows, Stays, has_rows, kept_key, rows_of}
use Rattle.rmt_book.specs.RowOrder.{AreInOrder, entry_key}
use Rattle.rmt_book.specs.Seen.{IsReadable, entries_by_part}
use Rattle.rmt_book.specs.Told.{told_entry}
use Rattle.rmt_update.proofs.BookFacts.{found-there, kept-facts, own-there, spot-facts, table-held}
use Rattle.rmt_update.proofs.BookLaws.{name-facts}
use Rattle.rmt_update.proofs.FreeLaws.{kept-bit}
use Rattle.rmt_book.proofs.NamedLaws.{keys-low}
use Rattle.rmt_update.proofs.PartOrder.{IsPartOf, nodes-apart, same-as}
use Rattle.rmt_update.proofs.RoomNumbers.{IsNumber, offset}
use Rattle.rmt_update.proofs.RowKeyLaws.{pair-less, prefix-goes}
use Rattle.rmt_book.proofs.RowOrderLaws.{pair-turned}
use Rattle.rmt_update.proofs.RowRise.{rows-rise}
use Rattle.rmt_update.proofs.RowRooms.{numbered-row, room-there, rooms-long, row-there, row_rooms, rows-long}
use Rattle.rmt_update.proofs.RowsStand.{IsLow, RowsStand, never-less}
use Rattle.rmt_book.proofs.ShapeLaws.{cells-are}
use Rattle.rmt_update.proofs.StayLaws.{stay-in_after, stay_placed}
use Rattle.rmt_update.proofs.TableRules.{entries-at}
use Rattle.rmt_update.proofs.ZipLaws.{zip-left}

-- ---- the ranks of entries

prefix-low : (t : TableName) (e : Entry) → table_is_formed t ≡ true → AllZip (IsPrefix e.rank) t.keys e.tests → eqb (length t.keys) 1 ≡ true → e.rank < 4294967296
prefix-low t e formed zip one = by t.keys e.tests (keys-low t formed) zip one
  where
    by : (ws : List ℕ) (ts : List Test) → All (λ w. w ≤ 128) ws → AllZip (IsPrefix e.rank) ws ts → eqb (length ws) 1 ≡ true → e.rank < 4294967296
    by [] ts low zip one = absurd (false≢true one)
    by (w ∷ ws) [] low zip one = absurd zip
    by (w ∷ ws) (t ∷ ts) low zip one = let le = zip.0.0 in let small = All-head (λ w. w ≤ 128) w ws low in omega (arith, le, small)

pub low-entry : (t : TableName) (e : Entry) → table_is_formed t ≡ true → IsEntry t.node (terms_of_name t) e → IsLow t.kind e
low-entry t e formed is = by t.kind is.rank (name-facts t formed).fields
  where
    by : (k : Kind) → HasRank k t.keys e → has_fields k t.keys ≡ true → IsLow k e
    by kind.Keyless r f = tt
    by kind.Exact r f = tt
    by kind.Prefix r f = prefix-low t e formed r f
    by kind.Ternary r f = tt

-- what goes first stands in front in the order of keys
pub key-less : (k : Kind) (a b : Entry) → has_rows k ≡ true → IsLow k a → IsLow k b → goes_first k a b ≡ true → pair_cmp (entry_key k a) (entry_key k b) ≡ Less
key-less kind.Keyless a b rowed la lb h = absurd (false≢true rowed)
key-less kind.Exact a b rowed la lb h = absurd (false≢true rowed)
key-less kind.Prefix a b rowed la lb h = prefix-goes a b la lb h
key-less kind.Ternary a b rowed la lb h = ternary-goes-free a b h
  where
    ternary-goes-free : (a b : Entry) → goes_first kind.Ternary a b ≡ true → pair_cmp (entry_key kind.Ternary a) (entry_key kind.Ternary b) ≡ Less
    ternary-goes-free a b h = pair-less (entry_key kind.Ternary a) (entry_key kind.Ternary b) h

not-both : (a b : ℕ × ℕ) → pair_cmp a b ≡ Less → pair_cmp b a ≡ Less → ⊥
not-both a b p q = absurd-by (sym p ∙ pair-turned a b ∙ ap ordering_reverse q)
  where
    absurd-by : Less ≡ ordering_reverse Less → ⊥
    absurd-by e = cc

order-later : (k : Kind) (es : List Entry) → has_rows k ≡ true → has_order k es ≡ true → each_later (goes_first k) es ≡ true
order-later kind.Keyless es rowed h = absurd (false≢true rowed)
order-later kind.Exact es rowed h = absurd (false≢true rowed)
order-later kind.Prefix es rowed h = h
order-later kind.Ternary es rowed h = h

-- ---- a table

module _ (w : Run) (b : Book) (ch : Changes) (run : IsRunOf b ch w) (ordered : All AreOrdered b.tables.items) (at : ℕ) (x : TableCells) (at_x : slice_get b.tables.items at ≡ Some x) where
  abbrev node : ℕ
  node = x.name.node

  abbrev parts : List PartAt
  parts = parts_of w.config x.name.node

  open table-held w.config w.names w.cells w.lists b run.stands run.named at x at_x use {holds, shapes, own}

  -- the entries of the table are well formed
  pub entry-formed : (e : Entry) → Contains (all_entries (changed_lists w.lists ch)) e → e.table ≡ node → IsEntry node (terms_of_name x.name) e
  entry-formed e there table =
      let after = changed_lists w.lists ch in
      let list = from_flat_map (λ (es : List Entry). es) after e there in
      let place = at_from_Contains after list.0 list.1 in
      let n = place.0 in
      let here : slice_get after n ≡ Some list.0 = slice_get-get_or after n list.0 place.1 ∙ ap Some (place.2 list.0) in
      let listed : list_of after n ≡ list.0 = ap (λ (o : Option (List Entry)). unwrap_or o []) here in
      by list.0 n (terms_named w.names n) refl (subst (λ es. AreEntriesAt n es (terms_named w.names n)) listed (entries-at w.names after n run.may.formed place.1)) list.2
    where
      by : (es : List Entry) (n : ℕ) (o : Option Terms) → terms_named w.names n ≡ o → AreEntriesAt n es o → Contains es e → IsEntry node (terms_of_name x.name) e
      by es n None is none c = absurd (let l = (subst (λ ys. Contains ys e) none c).1 in omega (arith, l))
      by es n (Some t) is are c =
          let entry = All-contains (IsEntry n t) es e are.each c in
          let same : n ≡ node = sym entry.table ∙ table in
          let terms : t ≡ terms_of_name x.name = same_Some t (terms_of_name x.name) (sym is ∙ ap (terms_named w.names) same ∙ own.terms) in
          subst (λ (u : Terms). IsEntry node u e) terms (subst (λ m. IsEntry m t e) same entry)

  abbrev the_staying : List Placed
  the_staying = staying w ch

  stays-at : (p : Placed) → Contains the_staying p → (s : BookSpot) × StaysAt b.odd ch.gone b.tables.items s p.entry × (p.room ≡ room_of w.config b.tables.items s)
  stays-at p there = All-contains (λ (p : Placed). (s : BookSpot) × StaysAt b.odd ch.gone b.tables.items s p.entry × (p.room ≡ room_of w.config b.tables.items s)) the_staying p (stay_placed w b ch run ordered).each there

  -- with others that came to other tables
  module _ (placed : List Placed) (others : All (λ (q : Placed). q.entry.table ≢ node) placed) (there : All (λ (q : Placed). (s : BookSpot) × (z : IsBookSpot b.tables.items s) × (q.entry.table ≡ z.table.name.node) × (q.room ≡ room_of w.config b.tables.items s)) placed) where
    abbrev all_placed : List Placed
    all_placed = the_staying ++ placed

    -- none of them has an unseen cell of the table
    pub none-unseen : (j : ℕ) (p : PartAt) (n : ℕ) → slice_get parts j ≡ Some p → has_bit w.cells.version (w.cells.content p.stage p.place n).head ≡ false
        → list_any (λ (q : Placed). is_same q.room (record { part = p; cell = n })) all_placed ≡ false
    none-unseen j p n at_p clear =
        false_from_ne_true (list_any (λ (q : Placed). is_same q.room (record { part = p; cell = n })) all_placed) (λ any.
        let item = any_item (λ (q : Placed). is_same q.room (record { part = p; cell = n })) all_placed any in
        by item.0 item.2 (Contains-append_cases the_staying placed item.0 item.1))
      where
        by : (q : Placed) → is_same q.room (record { part = p; cell = n }) ≡ true → Contains the_staying q ⊎ Contains placed q → ⊥
        by q same (inl stays) =
            let s = stays-at q stays in
            let k = kept-facts w.config w.names w.cells w.lists b run.stands run.named s.0 s.1.at s.1.kept s.1.there in
            let r = same-as q.room (record { part = p; cell = n }) same in
            let room : q.room ≡ record { part = k.facts.part; cell = s.0.at.cell } = s.2 ∙ k.facts.room in
            let stage : p.stage ≡ k.facts.part.stage = r.stage ∙ ap (λ (z : Room). z.part.stage) room in
            let place : p.place ≡ k.facts.part.place = r.place ∙ ap (λ (z : Room). z.part.place) room in
            let cell : n ≡ s.0.at.cell = r.cell ∙ ap (λ (z : Room). z.cell) room in
            let sight : sees true w.cells.version (w.cells.content k.facts.part.stage k.facts.part.place s.0.at.cell).head ≡ true = sym k.sight ∙ s.1.seen in
            let bit : has_bit w.cells.version (w.cells.content k.facts.part.stage k.facts.part.place s.0.at.cell).head ≡ true = (and_parts _ _ sight).1 in
            false≢true (sym clear ∙ ap (λ m. has_bit w.cells.version (w.cells.content m p.place n).head) stage ∙ ap (λ m. has_bit w.cells.version (w.cells.content k.facts.part.stage m n).head) place
            ∙ ap (λ m. has_bit w.cells.version (w.cells.content k.facts.part.stage k.facts.part.place m).head) cell ∙ bit)
        by q same (inr came) =
            let s = All-contains (λ (q : Placed). (s : BookSpot) × (z : IsBookSpot b.tables.items s) × (q.entry.table ≡ z.table.name.node) × (q.room ≡ room_of w.config b.tables.items s)) placed q there came in
            let z = s.1 in
            let f = spot-facts w.config w.names w.cells w.lists b run.stands run.named s.0 z in
            let other = own-there w.config w.names w.cells w.lists b run.stands run.named s.0.table z.table z.in_tables in
            let part : IsPartOf w.config z.table.name.node f.part = All-slice_get (IsPartOf w.config z.table.name.node) (parts_of w.config z.table.name.node) s.0.at.part f.part other.own f.there in
            let part_q : IsPartOf w.config z.table.name.node q.room.part = subst (λ (r : Room). IsPartOf w.config z.table.name.node r.part) (sym (s.3 ∙ f.room)) part in
            let part_p : IsPartOf w.config node p = All-slice_get (IsPartOf w.config node) parts j p own.own at_p in
            let apart : z.table.name.node ≢ node = λ e. All-contains (λ (q : Placed). q.entry.table ≢ node) placed q others came (s.2 ∙ e) in
            false≢true (sym (nodes-apart w.config z.table.name.node node q.room (record { part = p; cell = n }) part_q part_p apart) ∙ same)

    -- ---- its rows

    module _ (order : RowOrder) (rowed : has_rows x.name.kind ≡ true)
        (are : AreRows x.name.kind b.odd (is_among ch.gone) (rows_of x.parts.items) order) where
      abbrev k_of : Kind
      k_of = x.name.kind

      -- the spot of a row
      abbrev row-spot : (j n : ℕ) (p : PartAt) (y : PartCells) → slice_get parts j ≡ Some p → slice_get x.parts.items j ≡ Some y → HoldsPart w.cells p y → n < cells_in p.slot.memory → IsBookSpot b.tables.items (record { table = at; at = record { part = j; cell = n } })
      row-spot j n p y at_p at_y hold lt = record {
        table = x;
        in_tables = at_x;
        part = y;
        in_parts = at_y;
        within = (let size = cells-are p.slot y.shape hold.shape in omega (arith, lt, size));
      }

      -- the entry of a row that stays
      record RowStays (i : ℕ) (k : Kept) : Type 0 where
        first : ℕ
        room : Room
        at_room : slice_get (row_rooms parts) i ≡ Some room
        listed : Contains the_staying (record { entry = told_entry x.name first k; room = room })

      row-stays : (i : ℕ) (k : Kept) → slice_get (rows_of x.parts.items) i ≡ Some (Some k) → Stays b.odd (is_among ch.gone) k → RowStays i k
      row-stays i k row stays =
          let lt = slice_get_within (rows_of x.parts.items) i (Some k) row in
          let long = rows-long parts x.parts.items shapes in
          let r = numbered-row parts i (omega (arith, lt, long)) in
          let y = zip-left (HoldsPart w.cells) parts x.parts.items r.at r.p holds r.is.there in
          let kept : get nat_cmp y.0.cells r.n ≡ Some k = same_Some (get nat_cmp y.0.cells r.n) (Some k) (sym (row-there parts x.parts.items i r.at r.n r.p y.0 shapes r.is y.1) ∙ row) in
          let s : BookSpot = record { table = at; at = record { part = r.at; cell = r.n } } in
          let z = row-spot r.at r.n r.p y.0 r.is.there y.1 y.2 r.is.within in
          let f = spot-facts w.config w.names w.cells w.lists b run.stands run.named s z in
          let part : f.part ≡ r.p = same_Some f.part r.p (sym f.there ∙ r.is.there) in
          let h : StaysAt b.odd ch.gone b.tables.items s (told_entry x.name y.0.first k) =
          record { at = z; kept = k; there = kept; seen = stays.0; stays = stays.1; tells = refl } in
          record {
            first = y.0.first;
            room = room_of w.config b.tables.items s;
            at_room = room-there parts i r.at r.n r.p r.is ∙ ap (λ (q : PartAt). Some (record { part = q; cell = r.n })) (sym part) ∙ ap Some (sym f.room);
            listed = (stay_placed w b ch run ordered).all s (told_entry x.name y.0.first k) h;
          }

      -- those that stay have ranks that turn round
      low-stays : (p : Placed) → Contains the_staying p → p.entry.table ≡ node → IsLow k_of p.entry
      low-stays p there table =
          low-entry x.name p.entry own.facts.formed (entry-formed p.entry (stay-after p there) table)
        where
          stay-after : (p : Placed) → Contains the_staying p → Contains (all_entries (changed_lists w.lists ch)) p.entry
          stay-after p there = stay-in_after w b ch run ordered p there

      free-rows : (i : ℕ) (a : Room) → slice_get (row_rooms parts) i ≡ Some a → is_free w.cells all_placed a ≡ contains nat_cmp order.free i
      free-rows i a at_a =
          let lt = slice_get_within (row_rooms parts) i a at_a in
          let long = rooms-long parts in
          let r = numbered-row parts i (omega (arith, lt, long)) in
          let y = zip-left (HoldsPart w.cells) parts x.parts.items r.at r.p holds r.is.there in
          let room : record { part = r.p; cell = r.n } ≡ a = same_Some (record { part = r.p; cell = r.n }) a (sym (room-there parts i r.at r.n r.p r.is) ∙ at_a) in
          let row = row-there parts x.parts.items i r.at r.n r.p y.0 shapes r.is y.1 in
          let free : contains nat_cmp order.free i ≡ not (is_kept_seen b.odd (get nat_cmp y.0.cells r.n)) =
          are.free i ∙ ap (λ (o : Option (Option Kept)). unwrap_or (option_map (λ (q : Option Kept). not (is_kept_seen b.odd q)) o) false) row in
          let bit = kept-bit w.cells r.p y.0 b.odd run.stands.version y.2 r.n r.is.within in
          ap (is_free w.cells all_placed) (sym room)
          ∙ by r.p r.n (has_bit w.cells.version (w.cells.content r.p.stage r.p.place r.n).head) refl (none-unseen r.at r.p r.n r.is.there) ∙ sym (free ∙ ap not bit)
        where
          by : (p : PartAt) (n : ℕ) (t : Bool) → has_bit w.cells.version (w.cells.content p.stage p.place n).head ≡ t
              → (has_bit w.cells.version (w.cells.content p.stage p.place n).head ≡ false → list_any (λ (q : Placed). is_same q.room (record { part = p; cell = n })) all_placed ≡ false)
              → is_free w.cells all_placed (record { part = p; cell = n }) ≡ not (has_bit w.cells.version (w.cells.content p.stage p.place n).head)
          by p n true is none = ap (λ t. not t && not (list_any (λ (q : Placed). is_same q.room (record { part = p; cell = n })) all_placed)) is ∙ ap not (sym is)
          by p n false is none = ap (λ t. not (has_bit w.cells.version (w.cells.content p.stage p.place n).head) && not t) (none is) ∙ alone (not (has_bit w.cells.version (w.cells.content p.stage p.place n).head))
            where
              alone : (t : Bool) → (t && true) ≡ t
              alone true = refl
              alone false = refl

      within-rows : (i : ℕ) → contains nat_cmp order.free i ≡ true → (a : Room) × (slice_get (row_rooms parts) i ≡ Some a)
      within-rows i there = by (slice_get (rows_of x.parts.items) i) refl (sym (are.free i) ∙ there)
        where
          by : (o : Option (Option Kept)) → slice_get (rows_of x.parts.items) i ≡ o → unwrap_or (option_map (λ (q : Option Kept). not (is_kept_seen b.odd q)) o) false ≡ true → (a : Room) × (slice_get (row_rooms parts) i ≡ Some a)
          by None is h = absurd (false≢true h)
          by (Some q) is h =
              let lt = slice_get_within (rows_of x.parts.items) i q is in
              let long = rows-long parts x.parts.items shapes in
              let rooms = rooms-long parts in
              slice_get-item (row_rooms parts) i (omega (arith, lt, long, rooms))

      listed-stays : (p : Placed) → Contains the_staying p → p.entry.table ≡ node → (i : ℕ) × (slice_get (row_rooms parts) i ≡ Some p.room) × (get pair_cmp order.rows (entry_key k_of p.entry) ≡ Some i)
      listed-stays p there table =
          let s = stays-at p there in
          let h = s.1 in
          let z = h.at in
          let f = spot-facts w.config w.names w.cells w.lists b run.stands run.named s.0 z in
          let same_node : z.table.name.node ≡ node = sym (ap (λ (e : Entry). e.table) h.tells) ∙ table in
          let same : z.table ≡ x =
          same_Some z.table x (sym (found-there w.config w.names w.cells w.lists b run.stands run.named s.0.table z.table z.in_tables) ∙ ap (table_of b.tables.items) same_node
          ∙ found-there w.config w.names w.cells w.lists b run.stands run.named at x at_x) in
          let in_parts : slice_get x.parts.items s.0.at.part ≡ Some z.part = ap (λ (t : TableCells). slice_get t.parts.items s.0.at.part) (sym same) ∙ z.in_parts in
          let in_node : slice_get parts s.0.at.part ≡ Some f.part = ap (λ n. slice_get (parts_of w.config n) s.0.at.part) (sym same_node) ∙ f.there in
          let i = offset parts s.0.at.part + s.0.at.cell in
          let is : IsNumber parts i s.0.at.part s.0.at.cell f.part = record { there = in_node; within = f.within; number = refl } in
          let row : slice_get (rows_of x.parts.items) i ≡ Some (Some h.kept) = row-there parts x.parts.items i s.0.at.part s.0.at.cell f.part z.part shapes is in_parts ∙ ap Some h.there in (
            i,
            room-there parts i s.0.at.part s.0.at.cell f.part is ∙ ap Some (sym (s.2 ∙ f.room)),
            ap (λ (e : Entry). get pair_cmp order.rows (entry_key k_of e)) h.tells ∙ are.all i h.kept row (h.seen, h.stays),
          )

      in-order : AreInOrder order.rows
      in-order k m i j at_k at_m less =
          let a = are.rows k i at_k in
          let z = are.rows m j at_m in
          elim (cases_lt i j) [
            | inl lt ↦ lt
            | inr le ↦ absurd (elim (cases_lt j i) [
              | inl gt ↦
                  let one = row-stays i a.0 a.1 a.2 in
                  let two = row-stays j z.0 z.1 z.2 in
                  let first = rows-rise x.name k_of b.odd x.parts.items (All-slice_get AreOrdered b.tables.items at x ordered at_x)
                  (order-later k_of (entries_by_part b.odd x) rowed (All-slice_get (IsReadable b.odd) b.tables.items at x run.stands.readable at_x).order) j i z.0 a.0 gt z.1 a.1 z.2.0 a.2.0 in
                  not-both k m less
                  (ap (λ q. pair_cmp q k) z.3 ∙ ap (pair_cmp (kept_key k_of z.0)) a.3
                  ∙ key-less k_of (told_entry x.name 0 z.0) (told_entry x.name 0 a.0) rowed (low-kept two.first z.0 two.room two.listed) (low-kept one.first a.0 one.room one.listed) first)
              | inr ge ↦
                  let here : i ≡ j = omega (arith, le, ge) in
                  let same = same_Some a.0 z.0 (same_Some (Some a.0) (Some z.0) (sym a.1 ∙ ap (slice_get (rows_of x.parts.items)) here ∙ z.1)) in
                  never-less k (ap (pair_cmp k) (a.3 ∙ ap (kept_key k_of) same ∙ sym z.3) ∙ less)
            ])
          ]
        where
          low-kept : (f : ℕ) (k : Kept) (r : Room) → Contains the_staying (record { entry = told_entry x.name f k; room = r }) → IsLow k_of (told_entry x.name 0 k)
          low-kept f k r there = low-any k_of f k (low-stays (record { entry = told_entry x.name f k; room = r }) there refl)
            where
              low-any : (j : Kind) (f : ℕ) (k : Kept) → IsLow j (told_entry x.name f k) → IsLow j (told_entry x.name 0 k)
              low-any kind.Keyless f k h = tt
              low-any kind.Exact f k h = tt
              low-any kind.Prefix f k h = h
              low-any kind.Ternary f k h = tt

      of-placed : (P : Placed → Type 0) → ((p : Placed) → Contains the_staying p → p.entry.table ≡ node → P p) → All (λ (p : Placed). p.entry.table ≡ node → P p) all_placed
      of-placed P stays i d lt table =
          let p = get_or all_placed i d in
          elim (Contains-append_cases the_staying placed p (Contains-get_or all_placed i d lt)) [
            | inl there ↦ stays p there table
            | inr came ↦ absurd (All-contains (λ (q : Placed). q.entry.table ≢ node) placed p others came table)
          ]

      pub rows-start : RowsStand w.cells k_of node (row_rooms parts) all_placed order
      rows-start = record {
        low = of-placed (λ p. IsLow k_of p.entry) low-stays;
        free = free-rows;
        within = within-rows;
        listed = of-placed (λ p. (i : ℕ) × (slice_get (row_rooms parts) i ≡ Some p.room) × (get pair_cmp order.rows (entry_key k_of p.entry) ≡ Some i)) listed-stays;
        own = λ k i at_k.
            let a = are.rows k i at_k in
            let r = row-stays i a.0 a.1 a.2 in
            (record { entry = told_entry x.name r.first a.0; room = r.room }, Contains-append_left the_staying placed (record { entry = told_entry x.name r.first a.0; room = r.room }) r.listed, refl, a.3, r.at_room);
        order = in-order;
      }
