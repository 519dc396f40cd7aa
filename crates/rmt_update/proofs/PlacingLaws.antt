-- How the entries of a commit come to the cells of a table, one after another.
use Rattle.std.proofs.Common.{◌≡◌, ◌≢◌, ℕ, ◌-◌, ◌%◌, ◌^◌, ◌<◌, ◌≤◌, ◌&&◌, Bool, true, false, not, eqb, List, [], ◌∷◌, ◌++◌, append_assoc, Option, Some, None, Vec, get_or, length, map, option_map, sum, refl, sym, ap, ◌∙◌, subst, inl, inr, arith}
use Rattle.std.specs.Prelude.{All, AllPairs, Contains, find, fold, option_and_then, slice_get}
use Rattle.std.specs.List.{AllZip, list_any}
use Rattle.std.specs.Global.{Global}
use Rattle.std.specs.BTreeMap.{get}
use Rattle.std.specs.BTreeSet.{BTreeSet}
use Rattle.std.specs.Ordering.{nat_cmp}
use Rattle.std.specs.declared.cmp.Ordering.TheVariants.{Less}
use Rattle.std.proofs.lemmas.Bool.{and_parts, eq-eqb, false≢true, false_from_ne_true, not-true}
use Rattle.std.proofs.lemmas.List.{map-append}
use Rattle.std.proofs.lemmas.List.Elements.{All-cons, All-head, All-nil, All-tail, All-weaker, Contains-append_right, Contains-get_or}
use Rattle.std.proofs.lemmas.List.Kept.{AllPairs-cons}
use Rattle.std.proofs.lemmas.List.Sums.{fold-append}
use Rattle.std.proofs.lemmas.Option.{same_Some, slice_get_within}
use Rattle.std.proofs.lemmas.Slice.Zip.{AllZip-long}
use Rattle.rmt_bits.proofs.AllLaws.{All-slice_get}
use Rattle.rmt_bits.proofs.ListLaws.{find-passes, zip_push}
use Rattle.rmt_bits.proofs.MemberLaws.{Contains-first, Contains-item, Contains-later, Contains-unmap, from_flat_map, list_any-Contains}
use Rattle.rmt_bits.proofs.PairLaws.{AllPairs-append, AllPairs-none}
use Rattle.rmt_bits.specs.Members.{is_among}
use Rattle.rmt_ast.specs.EntryLists.{IsEntry}
use Rattle.rmt_ast.specs.NameRules.{terms_named, terms_of_name}
use Rattle.rmt_ast.specs.Naming.{has_key}
use Rattle.rmt_ast.specs.RankPairs.{pair_cmp}
use Rattle.rmt_ast.specs.RowOrder.{goes_first}
use Rattle.rmt_ast.specs.declared.entry.Entry.{Entry}
use Rattle.rmt_ast.specs.declared.program.Kind.{Kind}
use Rattle.rmt_ast.specs.declared.program.Kind.TheVariants as kind
use Rattle.rmt_config.specs.Cells.{candidates, cells_in}
use Rattle.rmt_config.specs.Commits.{Placed, is_free, keeps_order, rooms_of, with_coming}
use Rattle.rmt_config.specs.LaneForm.{bits_of_lanes}
use Rattle.rmt_config.specs.Rooms.{PartAt, Room, content_in, is_same, key_number, parts_of, rooms_for}
use Rattle.rmt_config.specs.RunCells.{has_bit}
use Rattle.rmt_pack.proofs.RankLaws.{IsRowKind}
use Rattle.rmt_update.specs.declared.book.Book.{Book}
use Rattle.rmt_update.specs.declared.book.index.TableIndex.{TableIndex}
use Rattle.rmt_update.specs.declared.book.index.TableIndex.TheVariants.{Cells, Rows}
use Rattle.rmt_update.specs.declared.book.placing.Coming.{Coming}
use Rattle.rmt_book.specs.declared.row_order.RowOrder.{RowOrder}
use Rattle.rmt_book.specs.declared.spot.BookSpot.{BookSpot}
use Rattle.rmt_book.specs.declared.spots.Spot.{Spot}
use Rattle.rmt_book.specs.declared.table.PartCells.{PartCells}
use Rattle.rmt_book.specs.declared.table.TableCells.{TableCells}
use Rattle.rmt_lists.specs.declared.lists.Changes.{Changes}
use Rattle.rmt_update.specs.BookStands.{HoldsPart, is_candidate}
use Rattle.rmt_update.specs.Come.{AreOrdered, HaveCome, IsRunOf, Run, behind, staying}
use Rattle.rmt_update.specs.Loads.{HasShape}
use Rattle.rmt_update.specs.Open.{first_open, is_kept_seen}
use Rattle.rmt_update.specs.Placing.{IsBookSpot, TakesCell, room_of}
use Rattle.rmt_update.specs.RowIndex.{IsIndex, has_rows, rows_of}
use Rattle.rmt_book.specs.RowOrder.{IsFirstFit, entry_key}
use Rattle.rmt_book.specs.Spots.{spot_from}
use Rattle.rmt_update.specs.Taking.{IsComing, IsRowGiven, MayBeGiven, MayGive, TakesFrom, TakesOpen, TakesRow, candidates_at}
use Rattle.rmt_update.proofs.BookFacts.{spot-facts, table-held}
use Rattle.rmt_update.proofs.BookLaws.{name-facts}
use Rattle.rmt_update.proofs.CandidateLaws.{key-low}
use Rattle.rmt_update.proofs.ComesLaws.{comes, exact-room, none-comes, room_for, rooms-are, taken}
use Rattle.rmt_update.proofs.FirstRowLaws.{first-row}
use Rattle.rmt_update.proofs.FreeLaws.{AreGiven, FirstIs, all_rooms, first-free, kept-bit}
use Rattle.rmt_update.proofs.IndexStart.{key-less, low-entry, none-unseen, rows-start}
use Rattle.rmt_update.proofs.NodeLists.{found-at}
use Rattle.rmt_update.proofs.PartOrder.{rooms-apart}
use Rattle.rmt_update.proofs.PartStages.{parts-apart}
use Rattle.rmt_update.proofs.RoomGiven.{none-given, one-given}
use Rattle.rmt_update.proofs.RoomNumbers.{HasRows, cell-within, spot-of}
use Rattle.rmt_update.proofs.RowKeyLaws.{less-pair, prefix-goes-by}
use Rattle.rmt_update.proofs.RowRooms.{before-rows, numbered-row, room-there, rooms-long, rooms-rows, row_rooms, rows-long}
use Rattle.rmt_update.proofs.RowsStand.{IsLow, RowsStand, no-row, row-more}
use Rattle.rmt_book.proofs.ShapeLaws.{cells-are}
use Rattle.rmt_update.proofs.TableRules.{all-bits, all-rows, row-parts}
use Rattle.rmt_update.proofs.ZipLaws.{zip-left}
use Rattle.rmt_update.proofs.LoadLaws.{is-same}
use Rattle.rmt_config.proofs.LayoutLaws.{memory_formed}

-- ---- kinds

row-kind : (k : Kind) → has_rows k ≡ true → IsRowKind k
row-kind kind.Keyless e = absurd (false≢true e)
row-kind kind.Exact e = absurd (false≢true e)
row-kind kind.Prefix e = inl refl
row-kind kind.Ternary e = inr refl

exact-kind : (k : Kind) → has_rows k ≡ false → has_key k ≡ true → k ≡ kind.Exact
exact-kind kind.Keyless e f = absurd (false≢true f)
exact-kind kind.Exact e f = refl
exact-kind kind.Prefix e f = absurd (false≢true (sym e))
exact-kind kind.Ternary e f = absurd (false≢true (sym e))

-- what stands in front in the order of keys goes first
key-first : (k : Kind) (a b : Entry) → has_rows k ≡ true → IsLow k a → IsLow k b → pair_cmp (entry_key k a) (entry_key k b) ≡ Less → goes_first k a b ≡ true
key-first kind.Keyless a b rowed la lb h = absurd (false≢true rowed)
key-first kind.Exact a b rowed la lb h = absurd (false≢true rowed)
key-first kind.Prefix a b rowed la lb h = prefix-goes-by a b la lb h
key-first kind.Ternary a b rowed la lb h = less-pair (entry_key kind.Ternary a) (entry_key kind.Ternary b) h

-- what the index of a table is where these entries have rooms
abbrev pub IndexStands : Run → TableCells → List Placed → TableIndex → Type 0
IndexStands w x ps (Cells given) = (has_rows x.name.kind ≡ false) × AllZip (AreGiven w.cells ps) (parts_of w.config x.name.node) given.items
IndexStands w x ps (Rows order) =
    (has_rows x.name.kind ≡ true) × (length (rows_of x.parts.items) ≤ 2 ^ 31) × RowsStand w.cells x.name.kind x.name.node (row_rooms (parts_of w.config x.name.node)) ps order

module _ (w : Run) (b : Book) (ch : Changes) (run : IsRunOf b ch w) (ordered : All AreOrdered b.tables.items) (at : ℕ) (x : TableCells) (at_x : slice_get b.tables.items at ≡ Some x) where
  abbrev node : ℕ
  node = x.name.node

  abbrev parts : List PartAt
  parts = parts_of w.config x.name.node

  open table-held w.config w.names w.cells w.lists b run.stands run.named at x at_x use {holds, shapes, own}

  apart : AllPairs (λ (a b : PartAt). a.stage < b.stage) parts
  apart = parts-apart w.config x.name.node (memory_formed w.config run.stands.formed)

  parts-long : length x.parts.items ≡ length parts
  parts-long = AllZip-long (HoldsPart w.cells) parts x.parts.items holds

  -- before entries come to it
  pub index-start : (placed : List Placed) → All (λ (q : Placed). q.entry.table ≢ node) placed
      → All (λ (q : Placed). (s : BookSpot) × (z : IsBookSpot b.tables.items s) × (q.entry.table ≡ z.table.name.node) × (q.room ≡ room_of w.config b.tables.items s)) placed
      → (index : TableIndex) → IsIndex b.odd (is_among ch.gone) x index → IndexStands w x (staying w ch ++ placed) index
  index-start placed others there (Cells given) h =
      (h.0, none-given w.cells (staying w ch ++ placed) parts given.items (h.1 ∙ parts-long) h.2 (none-unseen w b ch run ordered at x at_x placed others there))
  index-start placed others there (Rows order) h = (h.0, h.1, rows-start w b ch run ordered at x at_x placed others there order h.0 h.2)

  -- ---- one entry

  module _ (ps : List Placed) (e : Entry) (table : e.table ≡ node) (formed : IsEntry node (terms_of_name x.name) e) (fresh : All (λ (p : Placed). p.entry.table ≡ node → p.entry.number ≢ e.number) ps) where
    abbrev key : ℕ
    key = key_number (terms_of_name x.name) e

    abbrev found : Option Room
    found = room_for w.config w.names w.cells ps (terms_of_name x.name) e

    -- the index may give it a cell
    pub may-give : (index : TableIndex) → IndexStands w x ps index → MayGive x e index
    may-give (Cells given) h = AllZip-long (AreGiven w.cells ps) parts given.items h.1 ∙ sym parts-long
    may-give (Rows order) h = record {
      few = λ k row there.
          let p = h.2.own k row there in
          let lt = slice_get_within (row_rooms parts) row p.0.room p.4 in
          let rooms = rooms-long parts in
          let rows = rows-long parts x.parts.items shapes in
          let few = h.1 in
          omega (arith, lt, rooms, rows, few);
      new = no-row w.cells x.name.kind node (row_rooms parts) ps order h.2 e table fresh;
      order = h.2.order;
      free = λ row there.
          let a = h.2.within row there in
          let lt = slice_get_within (row_rooms parts) row a.0 a.1 in
          let rooms = rooms-long parts in
          let rows = rows-long parts x.parts.items shapes in
          omega (arith, lt, rooms, rows);
    }

    -- what comes of it: no room, or that of a spot
    abbrev pub Comes : Option Spot → TableIndex → Type 0
    Comes None index = found ≡ None
    Comes (Some s) index =
        (room : Room) × (found ≡ Some room) × (slice_get parts s.part ≡ Some room.part) × (room.cell ≡ s.cell) × IndexStands w x (ps ++ record { entry = e; room = room } ∷ []) index

    low : IsLow x.name.kind e
    low = low-entry x.name e own.facts.formed formed

    here : (n : ℕ) → List Room
    here n = rooms_for w.config w.cells.seed n key

    -- of an exact table
    within : (qs : List PartAt) → All (λ (p : PartAt). HasRows p.slot.memory) qs → AllZip (λ (p : PartAt) (ns : List ℕ). All (λ n. n < cells_in p.slot.memory) ns) qs (candidates_at w.cells.seed key qs)
    within [] all = tt
    within (p ∷ qs) all = (
      (λ i d lt. cell-within w.cells.seed (bits_of_lanes p.slot.keys) key p.slot.memory (get_or (candidates w.cells.seed (bits_of_lanes p.slot.keys) p.slot.memory key) i d) (All-head (λ (p : PartAt). HasRows p.slot.memory) p qs all)
          (Contains-get_or (candidates w.cells.seed (bits_of_lanes p.slot.keys) p.slot.memory key) i d lt)),
      within qs (All-tail (λ (p : PartAt). HasRows p.slot.memory) p qs all),
    )

    abbrev exact_rooms : List Room
    exact_rooms = all_rooms w.cells ps b.odd run.stands.version parts (candidates_at w.cells.seed key parts)

    exact-found : has_rows x.name.kind ≡ false → found ≡ find (is_free w.cells ps) exact_rooms
    exact-found unrowed =
        let exact = exact-kind x.name.kind unrowed (name-facts x.name own.facts.formed).key in
        let rooms : rooms_of w.config (terms_of_name x.name) w.cells e ≡ exact_rooms =
        ap (λ n. rooms_for w.config w.cells.seed n key) table ∙ rooms-are w.cells ps b.odd run.stands.version w.cells.seed key parts in
        ap (λ k. find (λ room. is_free w.cells ps room && keeps_order k ps e room) (rooms_of w.config (terms_of_name x.name) w.cells e)) exact
        ∙ exact-room w.cells ps e (rooms_of w.config (terms_of_name x.name) w.cells e) ∙ ap (find (is_free w.cells ps)) rooms

    exact-first : (old new : List (BTreeSet ℕ)) (spot : Option Spot) → AllZip (AreGiven w.cells ps) parts old → TakesOpen b.odd b.seed x e old new spot → FirstIs parts 0 spot (find (is_free w.cells ps) exact_rooms)
    exact-first old new spot given takes =
        let is : spot ≡ first_open b.odd 0 x.parts.items old (candidates_at w.cells.seed key parts) =
        takes.first parts shapes (all-bits w.config w.names w.lists x.name.node x own) ∙ ap (λ n. first_open b.odd 0 x.parts.items old (candidates_at n key parts)) run.stands.seed in
        subst (λ o. FirstIs parts 0 o (find (is_free w.cells ps) exact_rooms)) (sym is)
        (first-free w.cells ps b.odd run.stands.version 0 parts x.parts.items old (candidates_at w.cells.seed key parts) holds given (within parts (all-rows w.config w.names w.lists x.name.node x own)))

    exact-comes : (given new : Vec (BTreeSet ℕ) Global) (spot : Option Spot) → has_rows x.name.kind ≡ false → AllZip (AreGiven w.cells ps) parts given.items → TakesOpen b.odd b.seed x e given.items new.items spot
        → Comes spot (Cells new)
    exact-comes given new spot unrowed are takes =
        by spot (find (is_free w.cells ps) exact_rooms) (exact-found unrowed) (exact-first given.items new.items spot are takes) takes.given
      where
        by : (o : Option Spot) (r : Option Room) → found ≡ r → FirstIs parts 0 o r → MayBeGiven given.items new.items o → Comes o (Cells new)
        by None None is first more = is
        by None (Some r) is first more = absurd first
        by (Some s) None is first more = absurd first
        by (Some s) (Some r) is first more =
            let place : s.part - 0 ≡ s.part = omega arith in
            let there : slice_get parts s.part ≡ Some r.part = ap (slice_get parts) (sym place) ∙ first.1 in
            (r, is, there, first.2, (unrowed, one-given w.cells ps (record { entry = e; room = r }) parts given.items new.items s apart there first.2 more are))

    -- of a prefix or ternary one
    rows-found : (order : RowOrder) (row : Option ℕ) → has_rows x.name.kind ≡ true → RowsStand w.cells x.name.kind node (row_rooms parts) ps order → IsFirstFit order.rows order.free (entry_key x.name.kind e) row
        → found ≡ option_and_then (slice_get (row_rooms parts)) row
    rows-found order row rowed h fit =
        ap (λ n. find (λ room. is_free w.cells ps room && keeps_order x.name.kind ps e room) (rooms_for w.config w.cells.seed n key)) table
        ∙ ap (find (λ room. is_free w.cells ps room && keeps_order x.name.kind ps e room)) (rooms-rows w.cells.seed key parts (row-parts w.config w.names w.lists x.name.node x own (row-kind x.name.kind rowed)))
        ∙ first-row w.cells ps x.name.kind e (entry_key x.name.kind) (row_rooms parts) order.rows order.free (IsLow x.name.kind)
        (λ a z la lz g. key-less x.name.kind a z rowed la lz g) (λ a z la lz g. key-first x.name.kind a z rowed la lz g)
        (λ i d lt t. h.low i d lt (t ∙ table)) low (before-rows parts apart) h.free h.within (λ i d lt t. h.listed i d lt (t ∙ table))
        (λ k i there. let p = h.own k i there in (p.0, p.1, p.2 ∙ sym table, p.3, p.4)) row fit

    rows-comes : (order new : RowOrder) (spot : Option Spot) → has_rows x.name.kind ≡ true → length (rows_of x.parts.items) ≤ 2 ^ 31 → RowsStand w.cells x.name.kind node (row_rooms parts) ps order → TakesRow x e order new spot
        → Comes spot (Rows new)
    rows-comes order new spot rowed few h takes = subst (λ o. Comes o (Rows new)) (sym takes.spot_is) (by takes.row takes.first takes.given (rows-found order takes.row rowed h takes.first))
      where
        by : (row : Option ℕ) → IsFirstFit order.rows order.free (entry_key x.name.kind e) row → IsRowGiven (entry_key x.name.kind e) order new row → found ≡ option_and_then (slice_get (row_rooms parts)) row
            → Comes (option_map (spot_from 0 x.parts.items) row) (Rows new)
        by None fit given is = is
        by (Some i) fit given is =
            let a = h.within i fit.0 in
            let lt = slice_get_within (row_rooms parts) i a.0 a.1 in
            let long = rooms-long parts in
            let r = numbered-row parts i (omega (arith, lt, long)) in
            let spot_is : spot_from 0 x.parts.items i ≡ record { part = r.at; cell = r.n } = spot-of parts x.parts.items i r.at r.n r.p shapes r.is in
            let room : record { part = r.p; cell = r.n } ≡ a.0 = same_Some (record { part = r.p; cell = r.n }) a.0 (sym (room-there parts i r.at r.n r.p r.is) ∙ a.1) in
            let other : (j : ℕ) (z : Room) → slice_get (row_rooms parts) j ≡ Some z → i ≢ j → is_same a.0 z ≡ false =
            λ j z at_z ne.
            let lt_z = slice_get_within (row_rooms parts) j z at_z in
            let q = numbered-row parts j (omega (arith, lt_z, long)) in
            let room_z : record { part = q.p; cell = q.n } ≡ z = same_Some (record { part = q.p; cell = q.n }) z (sym (room-there parts j q.at q.n q.p q.is) ∙ at_z) in
            ap (λ (y : Room). is_same y z) (sym room) ∙ ap (is_same (record { part = r.p; cell = r.n })) (sym room_z) ∙ rooms-apart w.config node i j r.at q.at r.n q.n r.p q.p r.is q.is ne in (
              a.0,
              is ∙ a.1,
              ap (λ (s : Spot). slice_get parts s.part) spot_is ∙ r.is.there ∙ ap (λ (y : Room). Some y.part) room,
              sym (ap (λ (s : Spot). s.cell) spot_is ∙ ap (λ (y : Room). y.cell) room),
              (rowed, few, row-more w.cells x.name.kind node (row_rooms parts) ps order h e table fresh low i a.0 a.1 fit.1 new given other),
            )

    pub come-on : (old new : TableIndex) (spot : Option Spot) → IndexStands w x ps old → TakesFrom b.odd b.seed x e old new spot → Comes spot new
    come-on (Cells given) (Cells new) spot h takes = exact-comes given new spot h.0 h.1 takes
    come-on (Cells given) (Rows new) spot h takes = absurd takes
    come-on (Rows order) (Cells new) spot h takes = absurd takes
    come-on (Rows order) (Rows new) spot h takes = rows-comes order new spot h.0 h.1 h.2 takes

  -- ---- the entries so far, with one more

  terms-are : (e : Entry) → e.table ≡ node → terms_named w.names e.table ≡ Some (terms_of_name x.name)
  terms-are e table = ap (terms_named w.names) table ∙ own.terms

  module _ (es : List Entry) (xs : List Coming) (h : HaveCome w b ch es xs) (e : Entry) (table : e.table ≡ node) where
    abbrev so_far : List Placed
    so_far = staying w ch ++ h.placed

    abbrev next : Option Room
    next = room_for w.config w.names w.cells so_far (terms_of_name x.name) e

    one-behind : behind w ch (es ++ e ∷ []) ≡ taken w.config w.names w.cells so_far e next
    one-behind =
        fold-append (with_coming w.config w.names w.cells) (Some (staying w ch)) es (e ∷ [])
        ∙ ap (λ o. with_coming w.config w.names w.cells o e) h.after ∙ comes w.config w.names w.cells so_far e (terms_of_name x.name) next (terms-are e table) refl

    -- one that finds no room
    pub none-behind : (rest : List Entry) → next ≡ None → behind w ch ((es ++ e ∷ []) ++ rest) ≡ None
    none-behind rest none =
        fold-append (with_coming w.config w.names w.cells) (Some (staying w ch)) (es ++ e ∷ []) rest
        ∙ ap (λ o. fold (with_coming w.config w.names w.cells) o rest) (one-behind ∙ ap (taken w.config w.names w.cells so_far e) none) ∙ none-comes w.config w.names w.cells rest

    -- one that comes
    module _ (formed : IsEntry node (terms_of_name x.name) e) (room : Room) (is : next ≡ Some room) (s : Spot) (there : slice_get parts s.part ≡ Some room.part) (cell : room.cell ≡ s.cell) (c : Coming) (coming : IsComing b.odd at x e s c) where
      abbrev q : Placed
      q = record { entry = e; room = room }

      abbrev spot : BookSpot
      spot = record { table = at; at = s }

      passes : (is_free w.cells so_far room && keeps_order x.name.kind so_far e room) ≡ true
      passes = find-passes (λ r. is_free w.cells so_far r && keeps_order x.name.kind so_far e r) (rooms_of w.config (terms_of_name x.name) w.cells e) room is

      free : is_free w.cells so_far room ≡ true
      free = (and_parts _ _ passes).0

      candidate : Contains (candidates w.cells.seed (bits_of_lanes room.part.slot.keys) room.part.slot.memory (key_number (terms_of_name x.name) e)) room.cell
      candidate =
          let key = key_number (terms_of_name x.name) e in
          let in_rooms : Contains (rooms_for w.config w.cells.seed node key) room =
          subst (λ n. Contains (rooms_for w.config w.cells.seed n key) room) table (find-there (λ r. is_free w.cells so_far r && keeps_order x.name.kind so_far e r) (rooms_of w.config (terms_of_name x.name) w.cells e) room is) in
          let part = from_flat_map (λ (p : PartAt). map (λ n. record { part = p; cell = n }) (candidates w.cells.seed (bits_of_lanes p.slot.keys) p.slot.memory key)) parts room in_rooms in
          let p = part.0 in
          let n = Contains-unmap (λ n. record { part = p; cell = n }) (candidates w.cells.seed (bits_of_lanes p.slot.keys) p.slot.memory key) room part.2 in
          subst (λ (r : Room). Contains (candidates w.cells.seed (bits_of_lanes r.part.slot.keys) r.part.slot.memory key) r.cell) n.2 n.1
        where
          find-there : (test : Room → Bool) (rs : List Room) (r : Room) → find test rs ≡ Some r → Contains rs r
          find-there test rs r found = let i = found-at test rs r found in Contains-item rs i.0 r i.1

      low-cell : room.cell < cells_in room.part.slot.memory
      low-cell =
          cell-within w.cells.seed (bits_of_lanes room.part.slot.keys) (key_number (terms_of_name x.name) e) room.part.slot.memory room.cell
          (All-slice_get (λ (p : PartAt). HasRows p.slot.memory) parts s.part room.part (all-rows w.config w.names w.lists x.name.node x own) there) candidate

      beside : (y : PartCells) × (slice_get x.parts.items s.part ≡ Some y) × HoldsPart w.cells room.part y
      beside = zip-left (HoldsPart w.cells) parts x.parts.items s.part room.part holds there

      abbrev the_spot : IsBookSpot b.tables.items spot
      the_spot = record {
        table = x;
        in_tables = at_x;
        part = coming.part;
        in_parts = coming.there;
        within =
            (let size = cells-are room.part.slot coming.part.shape (same-shape) in
            let lt = low-cell in
            omega (arith, lt, size, cell));
      }
        where
          same-shape : HasShape room.part coming.part
          same-shape = subst (HasShape room.part) (same_Some beside.0 coming.part (sym beside.1 ∙ coming.there)) beside.2.shape

      takes-cell : TakesCell w.config w.cells.seed b.odd b.tables.items q c
      takes-cell =
          let holds_part : HoldsPart w.cells room.part coming.part = subst (HoldsPart w.cells room.part) (same_Some beside.0 coming.part (sym beside.1 ∙ coming.there)) beside.2 in
          let facts = spot-facts w.config w.names w.cells w.lists b run.stands run.named spot the_spot in
          let part : facts.part ≡ room.part = same_Some facts.part room.part (sym facts.there ∙ there) in
          let bit = kept-bit w.cells room.part coming.part b.odd run.stands.version holds_part room.cell low-cell in
          let clear : has_bit w.cells.version (content_in w.cells room).head ≡ false = not-true (has_bit w.cells.version (content_in w.cells room).head) (and_parts _ _ free).0 in
          let bits = all-bits w.config w.names w.lists x.name.node x own in
          let size : bits_of_lanes room.part.slot.keys ≡ sum x.name.keys = All-slice_get (λ (p : PartAt). bits_of_lanes p.slot.keys ≡ sum x.name.keys) parts s.part room.part bits there in
          let key = key_number (terms_of_name x.name) e in
          let low_key : key % 2 ^ bits_of_lanes room.part.slot.keys ≡ key = ap (λ n. key % 2 ^ n) size ∙ key-low x.name.keys e.tests formed.tests in
          let among : Contains (candidates w.cells.seed (bits_of_lanes room.part.slot.keys) room.part.slot.memory (key % 2 ^ bits_of_lanes room.part.slot.keys)) room.cell =
          subst (λ k. Contains (candidates w.cells.seed (bits_of_lanes room.part.slot.keys) room.part.slot.memory k) room.cell) (sym low_key) candidate in
          let made : TakesCell w.config w.cells.seed b.odd b.tables.items q (record { spot = spot; kept = c.kept }) = record {
            at = the_spot;
            free = ap (λ n. is_kept_seen b.odd (get nat_cmp coming.part.cells n)) (sym cell) ∙ bit ∙ clear;
            node = table;
            room = sym (facts.room ∙ ap (λ (p : PartAt). record { part = p; cell = s.cell }) part ∙ ap (λ n. record { part = room.part; cell = n }) (sym cell));
            candidate =
                ap (is_candidate w.cells.seed room.part key) (sym cell)
                ∙ list_any-Contains (λ m. eqb m room.cell) (candidates w.cells.seed (bits_of_lanes room.part.slot.keys) room.part.slot.memory (key % 2 ^ bits_of_lanes room.part.slot.keys)) room.cell among (eq-eqb room.cell room.cell refl);
            keeps = coming.keeps;
            sizes = coming.sizes;
          } in
          subst (λ (z : BookSpot). TakesCell w.config w.cells.seed b.odd b.tables.items q (record { spot = z; kept = c.kept })) (sym coming.spot) made

      -- no other entry comes to its spot
      new-spot : (ps : List Placed) (ys : List Coming) → AllZip (TakesCell w.config w.cells.seed b.odd b.tables.items) ps ys → ((p : Placed) → Contains ps p → is_same p.room room ≡ false) → All (λ (y : Coming). y.spot ≢ c.spot) ys
      new-spot [] [] zip other = All-nil (λ (y : Coming). y.spot ≢ c.spot)
      new-spot [] (y ∷ ys) zip other = absurd zip
      new-spot (p ∷ ps) [] zip other = absurd zip
      new-spot (p ∷ ps) (y ∷ ys) zip other =
          All-cons (λ (y : Coming). y.spot ≢ c.spot) y ys
          (λ same.
          let rooms : p.room ≡ room = zip.0.room ∙ ap (room_of w.config b.tables.items) same ∙ sym takes-cell.room in
          false≢true (sym (other p (Contains-first p ps)) ∙ ap (λ (r : Room). is_same r room) rooms ∙ is-same room))
          (new-spot ps ys zip.1 (λ r there. other r (Contains-later p ps r there)))

      pub have-more : (more : HaveCome w b ch (es ++ e ∷ []) (xs ++ c ∷ [])) × (more.placed ≡ h.placed ++ q ∷ [])
      have-more = (
        record {
          placed = h.placed ++ q ∷ [];
          entries = map-append (λ (p : Placed). p.entry) h.placed (q ∷ []) ∙ ap (λ ys. ys ++ e ∷ []) h.entries;
          after = one-behind ∙ ap (taken w.config w.names w.cells so_far e) is ∙ ap Some (append_assoc (staying w ch) h.placed (q ∷ []));
          takes = zip_push (TakesCell w.config w.cells.seed b.odd b.tables.items) h.placed xs q c h.takes takes-cell;
          apart =
              AllPairs-append (λ (y z : Coming). y.spot ≢ z.spot) xs (c ∷ []) h.apart (AllPairs-cons (λ (y z : Coming). y.spot ≢ z.spot) c [] (All-nil (λ (z : Coming). c.spot ≢ z.spot)) (AllPairs-none (λ (y z : Coming). y.spot ≢ z.spot)))
              (All-weaker (λ (y : Coming). y.spot ≢ c.spot) (λ (y : Coming). All (λ (z : Coming). y.spot ≢ z.spot) (c ∷ [])) (λ y ne. All-cons (λ (z : Coming). y.spot ≢ z.spot) c [] ne (All-nil (λ (z : Coming). y.spot ≢ z.spot))) xs
              (new-spot h.placed xs h.takes (λ p there. not-given p (Contains-append_right (staying w ch) h.placed p there))));
        },
        refl,
      )
        where
          not-given : (p : Placed) → Contains so_far p → is_same p.room room ≡ false
          not-given p there =
              false_from_ne_true (is_same p.room room) (λ same.
              false≢true (sym (not-true (list_any (λ (r : Placed). is_same r.room room) so_far) (and_parts (not (has_bit w.cells.version (content_in w.cells room).head)) (not (list_any (λ (r : Placed). is_same r.room room) so_far)) free).1) ∙ list_any-Contains (λ (r : Placed). is_same r.room room) so_far p there same))
