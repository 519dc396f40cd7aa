-- Entries that are loaded stand in rooms as they may where cells must move; and where entries do, the keys of each exact table have a loading.
use Rattle.std.proofs.Common.{◌≡◌, ℕ, zero, suc, ◌+◌, ◌<◌, ◌==◌, ◌&&◌, Bool, true, false, cond, List, [], ◌∷◌, ◌++◌, get_or, length, map, sum, Option, Some, None, option_map, refl, sym, ap, ◌∙◌, subst, inl, inr, arith}
use Rattle.std.specs.Prelude.{◌↔◌, All, Contains, IsSomeAnd, filter, slice_get, unwrap_or}
use Rattle.std.specs.List.{AllZip, flat_map}
use Rattle.std.proofs.lemmas.Bool.{and_from, eq-eqb, eqb-true, false≢true, ne_eqb}
use Rattle.std.proofs.lemmas.List.{append-nil, get_or_default, length-map}
use Rattle.std.proofs.lemmas.List.Elements.{All-cons, All-head, All-nil, All-tail, All-weaker}
use Rattle.std.proofs.lemmas.List.Kept.{AllPairs-filter}
use Rattle.std.proofs.lemmas.Option.{same_Some, slice_get_within}
use Rattle.std.proofs.lemmas.Slice.Zip.{AllZip-long}
use Rattle.rmt_bits.proofs.AllLaws.{All-slice_get}
use Rattle.rmt_bits.proofs.MemberLaws.{Contains-flat_map, Contains-item, Contains-map, Contains-unmap, flat_from}
use Rattle.rmt_bits.proofs.PairLaws.{AllPairs-map}
use Rattle.rmt_bits.specs.Bits.{bytes_of}
use Rattle.rmt_bits.proofs.AlikeLaws.{filter_none, filter_all}
use Rattle.rmt_ast.specs.declared.entry.Entry.{Entry}
use Rattle.rmt_ast.specs.declared.names.Names.{Names}
use Rattle.rmt_ast.specs.declared.program.Kind.{Kind}
use Rattle.rmt_ast.specs.declared.program.Kind.TheVariants as kind
use Rattle.rmt_ast.specs.Changes.{list_of}
use Rattle.rmt_ast.specs.EntryLists.{AreEntriesAt, AreTableEntries, IsEntry, Terms}
use Rattle.rmt_ast.specs.NameRules.{AreEntriesOf, terms_named, terms_of_name}
use Rattle.rmt_config.specs.declared.config.Config.{Config}
use Rattle.rmt_config.specs.Cells.{candidates}
use Rattle.rmt_config.specs.Commits.{AreFilled, IsFilled, Placed, all_entries}
use Rattle.rmt_config.specs.LaneForm.{bits_of_lanes}
use Rattle.rmt_config.specs.Rooms.{PartAt, Room, is_same, key_number, parts_of, rooms_for}
use Rattle.rmt_config.specs.BlockCounts.{divided_up}
use Rattle.rmt_cuckoo.specs.Loading.{IsLoading, candidates as loaded_in}
use Rattle.rmt_pack.proofs.RankLaws.{IsRowKind}
use Rattle.rmt_update.specs.declared.book.loading.TableTried.TheVariants as table
use Rattle.rmt_book.specs.declared.spots.Spot.{Spot}
use Rattle.rmt_book.specs.declared.table.PartCells.{PartCells}
use Rattle.rmt_book.specs.declared.table.TableCells.{TableCells}
use Rattle.rmt_update.specs.FirstFull.{keys_of}
use Rattle.rmt_update.specs.Loads.{AreTables, IsTriedAt, StandBy, layout_in, table_of}
use Rattle.rmt_book.specs.Spots.{placed_in, spot_from, spots_at}
use Rattle.rmt_update.proofs.FirstLaws.{firsts, firsts-differ, firsts-within, map-twice}
use Rattle.rmt_update.proofs.PlacedLaws.{FitsHere, NodeStands, StandsAt, none-stand, table-stands, zip-pairs}
use Rattle.rmt_update.proofs.RoomNumbers.{IsNumber, candidate-of, of-candidate, offset, rooms_in, row-at, spot-of}
use Rattle.rmt_update.proofs.TableRules.{Own, all-bits, all-rows, entries-at, exact-parts, own-table, row-parts, rows-suffice, terms-found}

-- ---- lists beside lists

zip-all : {X Y : Type 0} (P : X → Type 0) (R S : X → Y → Type 0) → ((x : X) (y : Y) → P x → R x y → S x y) → (xs : List X) (ys : List Y) → All P xs → AllZip R xs ys → AllZip S xs ys
zip-all P R S gives [] [] all zip = tt
zip-all P R S gives [] (y ∷ ys) all zip = absurd zip
zip-all P R S gives (x ∷ xs) [] all zip = absurd zip
zip-all P R S gives (x ∷ xs) (y ∷ ys) all zip = (gives x y (All-head P x xs all) zip.0, zip-all P R S gives xs ys (All-tail P x xs all) zip.1)

zip-unmap : {X Y Z : Type 0} (R : Y → Z → Type 0) (f : X → Y) (xs : List X) (zs : List Z) → AllZip R (map f xs) zs → AllZip (λ x z. R (f x) z) xs zs
zip-unmap R f [] [] zip = tt
zip-unmap R f [] (z ∷ zs) zip = absurd zip
zip-unmap R f (x ∷ xs) [] zip = absurd zip
zip-unmap R f (x ∷ xs) (z ∷ zs) zip = (zip.0, zip-unmap R f xs zs zip.1)

zip-onto : {X Y Z : Type 0} (R : Y → Z → Type 0) (f : X → Y) (xs : List X) (zs : List Z) → AllZip (λ x z. R (f x) z) xs zs → AllZip R (map f xs) zs
zip-onto R f [] [] zip = tt
zip-onto R f [] (z ∷ zs) zip = absurd zip
zip-onto R f (x ∷ xs) [] zip = absurd zip
zip-onto R f (x ∷ xs) (z ∷ zs) zip = (zip.0, zip-onto R f xs zs zip.1)

zip-with : {X Y : Type 0} (S : X → Y → Type 0) (g : X → Y) (xs : List X) → All (λ x. S x (g x)) xs → AllZip S xs (map g xs)
zip-with S g [] all = tt
zip-with S g (x ∷ xs) all = (All-head (λ y. S y (g y)) x xs all, zip-with S g xs (All-tail (λ y. S y (g y)) x xs all))

choose : {X Y : Type 0} (R : X → Y → Type 0) (xs : List X) → All (λ x. (y : Y) × R x y) xs → (ys : List Y) × AllZip R xs ys
choose R [] all = ([], tt)
choose {X} {Y} R (x ∷ xs) all =
    let one = All-head (λ z. (y : Y) × R z y) x xs all in
    let rest = choose R xs (All-tail (λ z. (y : Y) × R z y) x xs all) in
    (one.0 ∷ rest.0, (one.1, rest.1))

map-filter : {X Y : Type 0} (f : X → Y) (q : Y → Bool) (xs : List X) → map f (filter (λ x. q (f x)) xs) ≡ filter q (map f xs)
map-filter f q [] = refl
map-filter {X} {Y} f q (x ∷ xs) = by (q (f x)) (map-filter f q xs)
  where
    by : (b : Bool) → map f (filter (λ x. q (f x)) xs) ≡ filter q (map f xs) → map f (cond b (x ∷ filter (λ x. q (f x)) xs) (filter (λ x. q (f x)) xs)) ≡ cond b (f x ∷ filter q (map f xs)) (filter q (map f xs))
    by true e = ap (λ ys. f x ∷ ys) e
    by false e = e

filter-both : {X : Type 0} (q : X → Bool) (xs ys : List X) → filter q (xs ++ ys) ≡ filter q xs ++ filter q ys
filter-both q [] ys = refl
filter-both {X} q (x ∷ xs) ys = by (q x) (filter-both q xs ys)
  where
    by : (b : Bool) → filter q (xs ++ ys) ≡ filter q xs ++ filter q ys → cond b (x ∷ filter q (xs ++ ys)) (filter q (xs ++ ys)) ≡ cond b (x ∷ filter q xs) (filter q xs) ++ filter q ys
    by true e = ap (λ zs. x ∷ zs) e
    by false e = e

all-filter : {X : Type 0} (P : X → Type 0) (q : X → Bool) (xs : List X) → All P xs → All (λ x. P x × (q x ≡ true)) (filter q xs)
all-filter P q [] all = All-nil (λ x. P x × (q x ≡ true))
all-filter {X} P q (x ∷ xs) all = by (q x) refl (all-filter P q xs (All-tail P x xs all))
  where
    by : (b : Bool) → q x ≡ b → All (λ y. P y × (q y ≡ true)) (filter q xs) → All (λ y. P y × (q y ≡ true)) (cond b (x ∷ filter q xs) (filter q xs))
    by true is rest = All-cons (λ y. P y × (q y ≡ true)) x (filter q xs) (All-head P x xs all, is) rest
    by false is rest = rest

contains-at : {X : Type 0} (xs : List X) (i : ℕ) (d : X) → i < length xs → Contains xs (get_or xs i d)
contains-at xs i d lt = (i, lt, get_or_default xs i (get_or xs i d) d lt)

-- ---- the entries of a node among all

-- each list has the entries of its own node
abbrev OwnTables : ℕ → List (List Entry) → Type 0
OwnTables k lists = (m : ℕ) (es : List Entry) → slice_get lists m ≡ Some es → All (λ (e : Entry). e.table ≡ k + m) es

own-later : (k : ℕ) (es : List Entry) (lists : List (List Entry)) → OwnTables k (es ∷ lists) → OwnTables (k + 1) lists
own-later k es lists own m fs at = let next : k + suc m ≡ k + 1 + m = omega arith in subst (λ n. All (λ (e : Entry). e.table ≡ n) fs) next (own (suc m) fs at)

others-out : (k n : ℕ) (es : List Entry) → All (λ (e : Entry). e.table ≡ k) es → (k ≡ n → ⊥) → filter (λ (e : Entry). e.table == n) es ≡ []
others-out k n es all ne =
    filter_none (λ (e : Entry). e.table == n) es (All-weaker (λ (e : Entry). e.table ≡ k) (λ (e : Entry). (e.table == n) ≡ false) (λ e is. ne_eqb e.table n (λ same. ne (sym is ∙ same))) es all)

none-below : (k n : ℕ) (lists : List (List Entry)) → OwnTables k lists → n < k → filter (λ (e : Entry). e.table == n) (flat_map (λ es. es) lists) ≡ []
none-below k n [] own lt = refl
none-below k n (es ∷ lists) own lt =
    let none : k + 0 ≡ k = omega arith in
    filter-both (λ (e : Entry). e.table == n) es (flat_map (λ es. es) lists)
    ∙ ap (λ xs. xs ++ filter (λ (e : Entry). e.table == n) (flat_map (λ es. es) lists))
    (others-out k n es (subst (λ m. All (λ (e : Entry). e.table ≡ m) es) none (own 0 es refl)) (λ e. omega (arith, e, lt)))
    ∙ none-below (k + 1) n lists (own-later k es lists own) (omega (arith, lt))

own-from : (k node : ℕ) (lists : List (List Entry)) → OwnTables k lists → filter (λ (e : Entry). e.table == k + node) (flat_map (λ es. es) lists) ≡ list_of lists node
own-from k node [] own = refl
own-from k zero (es ∷ lists) own =
    filter-both (λ (e : Entry). e.table == k + 0) es (flat_map (λ es. es) lists)
    ∙ ap (λ xs. xs ++ filter (λ (e : Entry). e.table == k + 0) (flat_map (λ es. es) lists))
    (filter_all (λ (e : Entry). e.table == k + 0) es (All-weaker (λ (e : Entry). e.table ≡ k + 0) (λ (e : Entry). (e.table == k + 0) ≡ true) (λ e is. eq-eqb e.table (k + 0) is) es (own 0 es refl)))
    ∙ ap (λ xs. es ++ xs) (none-below (k + 1) (k + 0) lists (own-later k es lists own) (omega arith)) ∙ append-nil es
own-from k (suc node) (es ∷ lists) own =
    let next : k + suc node ≡ k + 1 + node = omega arith in
    let none : k + 0 ≡ k = omega arith in
    filter-both (λ (e : Entry). e.table == k + suc node) es (flat_map (λ es. es) lists)
    ∙ ap (λ xs. xs ++ filter (λ (e : Entry). e.table == k + suc node) (flat_map (λ es. es) lists))
    (others-out k (k + suc node) es (subst (λ m. All (λ (e : Entry). e.table ≡ m) es) none (own 0 es refl)) (λ e. omega (arith, e)))
    ∙ ap (λ n. filter (λ (e : Entry). e.table == n) (flat_map (λ es. es) lists)) next ∙ own-from (k + 1) node lists (own-later k es lists own)

own-tables : (names : Names) (lists : List (List Entry)) → AreEntriesOf names lists → OwnTables 0 lists
own-tables names lists are m es at = by (terms_named names m) (subst (λ xs. AreEntriesAt m xs (terms_named names m)) own (entries-at names lists m are (slice_get_within lists m es at)))
  where
    own : list_of lists m ≡ es
    own = ap (λ (o : Option (List Entry)). unwrap_or o []) at

    here : m ≡ 0 + m
    here = omega arith

    by : (o : Option Terms) → AreEntriesAt m es o → All (λ (e : Entry). e.table ≡ 0 + m) es
    by None none = subst (λ xs. All (λ (e : Entry). e.table ≡ 0 + m) xs) (sym none) (All-nil (λ (e : Entry). e.table ≡ 0 + m))
    by (Some t) some = All-weaker (IsEntry m t) (λ (e : Entry). e.table ≡ 0 + m) (λ e is. is.table ∙ here) es some.each

pub own-entries : (names : Names) (lists : List (List Entry)) (node : ℕ) → AreEntriesOf names lists → filter (λ (e : Entry). e.table == node) (all_entries lists) ≡ list_of lists node
own-entries names lists node are =
    let none : node ≡ 0 + node = omega arith in
    ap (λ n. filter (λ (e : Entry). e.table == n) (all_entries lists)) none ∙ own-from 0 node lists (own-tables names lists are)

-- ---- one table

pub is-same : (r : Room) → is_same r r ≡ true
is-same r =
    and_from ((r.part.stage == r.part.stage) && (r.part.place == r.part.place)) (r.cell == r.cell)
    (and_from (r.part.stage == r.part.stage) (r.part.place == r.part.place) (eq-eqb r.part.stage r.part.stage refl) (eq-eqb r.part.place r.part.place refl)) (eq-eqb r.cell r.cell refl)

module _ (c : Config) (names : Names) (seed : ℕ) (lists : List (List Entry)) (node : ℕ) (x : TableCells) (h : Own c names lists node x) (entries : AreTableEntries node (list_of lists node) (terms_of_name x.name)) where
  abbrev t : Terms
  t = terms_of_name x.name

  abbrev es : List Entry
  es = list_of lists node

  abbrev ps : List PartAt
  ps = parts_of c node

  abbrev xs : List PartCells
  xs = x.parts.items

  abbrev bits : ℕ
  bits = sum x.name.keys

  abbrev key_bytes : Entry → List ℕ
  key_bytes e = bytes_of (divided_up bits 8) (key_number t e)

  abbrev Fits : Entry → Room → Type 0
  Fits = FitsHere c seed node lists t

  -- ---- prefix and ternary tables

  filled-row : (k : Kind) (e : Entry) (room : Room) → IsRowKind k → slice_get (rooms_for c seed e.table (key_number t e)) (firsts k es e) ≡ Some room → IsFilled c seed t k es e room
  filled-row k e room (inl is) at = subst (λ j. slice_get (rooms_for c seed e.table (key_number t e)) (firsts j es e) ≡ Some room → IsFilled c seed t j es e room) (sym is) (λ a. a) at
  filled-row k e room (inr is) at = subst (λ j. slice_get (rooms_for c seed e.table (key_number t e)) (firsts j es e) ≡ Some room → IsFilled c seed t j es e room) (sym is) (λ a. a) at

  row-stands : IsRowKind x.name.kind → (e : Entry) → Contains es e → IsEntry node t e → StandsAt Fits ps e (firsts x.name.kind es e)
  row-stands rowed e there entry =
      let few = firsts-within x.name.kind es e there in
      let size = entries.within_size in
      let room = rows-suffice c names lists node x h rowed in
      let r = row-at seed (key_number t e) ps (firsts x.name.kind es e) (row-parts c names lists node x h rowed) (omega (arith, few, size, room)) in
      record {
        i = r.i;
        n = r.n;
        p = r.p;
        is = r.is;
        fits = (
          entry.table,
          filled-row x.name.kind e (record { part = r.p; cell = r.n }) rowed
              (subst (λ m. slice_get (rooms_for c seed m (key_number t e)) (firsts x.name.kind es e) ≡ Some (record { part = r.p; cell = r.n })) (sym entry.table) r.room),
        );
      }

  pub rows-stand : IsRowKind x.name.kind → NodeStands c names seed lists node (placed_in ps es (spots_at xs (map (firsts x.name.kind es) es)))
  rows-stand rowed =
      table-stands c names seed node lists xs h.shapes h.own t h.terms es (map (firsts x.name.kind es) es)
      (zip-with (StandsAt Fits ps) (firsts x.name.kind es) es (λ i d lt. row-stands rowed (get_or es i d) (contains-at es i d lt) (entries.each i d lt)))
      (AllPairs-map (λ a b. a ≡ b → ⊥) (firsts x.name.kind es) es
      (λ i j d lt inside same.
      firsts-differ x.name.kind es rowed (get_or es i d) (get_or es j d) (contains-at es i d (omega (arith, lt, inside))) (contains-at es j d inside) (entries.rising i j d lt inside) same))

  -- ---- exact tables

  module _ (exact : x.name.kind ≡ kind.Exact) where
    -- the candidate cells of a key with as many bits as its part says
    own-bits : (i key n : ℕ) (p : PartAt) → slice_get ps i ≡ Some p → Contains (candidates seed bits p.slot.memory key) n ↔ Contains (candidates seed (bits_of_lanes p.slot.keys) p.slot.memory key) n
    own-bits i key n p there =
        let same = All-slice_get (λ (q : PartAt). bits_of_lanes q.slot.keys ≡ bits) ps i p (all-bits c names lists node x h) there in (
          subst (λ b. Contains (candidates seed b p.slot.memory key) n) (sym same),
          subst (λ b. Contains (candidates seed b p.slot.memory key) n) same,
        )

    loaded-stands : (e : Entry) (cell : ℕ) → IsEntry node t e → Contains (loaded_in (layout_in xs) seed (key_bytes e)) cell → StandsAt Fits ps e cell
    loaded-stands e cell entry there =
        let key = key_number t e in
        let r = candidate-of seed bits key ps xs h.shapes h.follow (exact-parts c names lists node x h exact) (all-rows c names lists node x h) cell there in
        let room : Room = record { part = r.p; cell = r.n } in
        let one : Contains (rooms_for c seed node key) room =
        Contains-flat_map (rooms_in seed key) ps r.p room (Contains-item ps r.i r.p r.is.there)
        (Contains-map (λ n. record { part = r.p; cell = n }) (candidates seed (bits_of_lanes r.p.slot.keys) r.p.slot.memory key) r.n ((own-bits r.i key r.n r.p r.is.there).0 r.cell)) in
        record {
          i = r.i;
          n = r.n;
          p = r.p;
          is = r.is;
          fits = (entry.table, subst (λ k. IsFilled c seed t k es e room) (sym exact) (subst (λ m. Contains (rooms_for c seed m key) room) (sym entry.table) one));
        }

    pub exact-stand : (cells : List ℕ) → IsLoading (layout_in xs) seed (keys_of t es) cells → NodeStands c names seed lists node (placed_in ps es (spots_at xs cells))
    exact-stand cells load =
        table-stands c names seed node lists xs h.shapes h.own t h.terms es cells
        (zip-all (IsEntry node t) (λ e cell. Contains (loaded_in (layout_in xs) seed (key_bytes e)) cell) (StandsAt Fits ps) loaded-stands es cells entries.each
        (zip-unmap (λ key cell. Contains (loaded_in (layout_in xs) seed key) cell) key_bytes es cells load.stand)) load.apart

    -- ---- the other way

    -- a number that is the room of a placed entry, and in which its key may be loaded
    record NumberOf (p : Placed) (y : ℕ) : Type 0 where
      i : ℕ
      n : ℕ
      q : PartAt
      is : IsNumber ps y i n q
      room : record { part = q; cell = n } ≡ p.room
      there : Contains (loaded_in (layout_in xs) seed (key_bytes p.entry)) y

    abbrev Filled : Placed → Type 0
    Filled p = IsSomeAnd (terms_named names p.entry.table) (λ u. IsFilled c seed u u.kind (list_of lists p.entry.table) p.entry p.room)

    number-of : (p : Placed) → Filled p × ((p.entry.table == node) ≡ true) → (y : ℕ) × NumberOf p y
    number-of p both =
        let key = key_number t p.entry in
        let same : p.entry.table ≡ node = eqb-true p.entry.table node both.1 in
        let own = subst (λ n. IsSomeAnd (terms_named names n) (λ u. IsFilled c seed u u.kind (list_of lists n) p.entry p.room)) same both.0 in
        let filled = subst (λ (o : Option Terms). IsSomeAnd o (λ u. IsFilled c seed u u.kind es p.entry p.room)) h.terms own in
        let room = subst (λ n. Contains (rooms_for c seed n key) p.room) same (subst (λ k. IsFilled c seed t k es p.entry p.room) exact filled) in
        let w = flat_from (rooms_in seed key) ps p.room room in
        let q : PartAt = w.1 in
        let v = Contains-unmap (λ n. record { part = q; cell = n }) (candidates seed (bits_of_lanes q.slot.keys) q.slot.memory key) p.room w.3 in
        let two = of-candidate seed bits key ps xs h.shapes h.follow (exact-parts c names lists node x h exact) (all-rows c names lists node x h) w.0 v.0 q w.2 ((own-bits w.0 key v.0 q w.2).1 v.1) in
        (offset ps w.0 + v.0, record { i = w.0; n = v.0; q = q; is = two.0; room = v.2; there = two.1 })

    differ : (p q : Placed) (y z : ℕ) → NumberOf p y → NumberOf q z → is_same p.room q.room ≡ false → y ≡ z → ⊥
    differ p q y z a b apart same =
        let spot_y = spot-of ps xs y a.i a.n a.q h.shapes a.is in
        let spot_z = spot-of ps xs z b.i b.n b.q h.shapes b.is in
        let spots = sym spot_y ∙ ap (spot_from 0 xs) same ∙ spot_z in
        let places : a.i ≡ b.i = ap (λ (s : Spot). s.part) spots in
        let cells : a.n ≡ b.n = ap (λ (s : Spot). s.cell) spots in
        let parts : a.q ≡ b.q = same_Some a.q b.q (sym a.is.there ∙ ap (slice_get ps) places ∙ b.is.there) in
        let rooms : p.room ≡ q.room = sym a.room ∙ ap (λ (r : PartAt). record { part = r; cell = a.n }) parts ∙ ap (λ n. record { part = b.q; cell = n }) cells ∙ b.room in
        false≢true (sym apart ∙ ap (λ r. is_same r q.room) rooms ∙ is-same q.room)

    pub loading-of : (placed : List Placed) → AreEntriesOf names lists → AreFilled c names seed lists placed → (cells : List ℕ) × IsLoading (layout_in xs) seed (keys_of t es) cells
    loading-of placed are filled =
        let here : Placed → Bool = λ p. p.entry.table == node in
        let own = filter here placed in
        let some = choose NumberOf own (All-weaker (λ p. Filled p × (here p ≡ true)) (λ p. (y : ℕ) × NumberOf p y) number-of own (all-filter Filled here placed filled.rooms)) in
        let same : map (λ (p : Placed). p.entry) own ≡ es =
        map-filter (λ (p : Placed). p.entry) (λ (e : Entry). e.table == node) placed ∙ ap (filter (λ (e : Entry). e.table == node)) filled.each ∙ own-entries names lists node are in
        let keys : map (λ (p : Placed). key_bytes p.entry) own ≡ keys_of t es = sym (map-twice key_bytes (λ (p : Placed). p.entry) own) ∙ ap (map key_bytes) same in
        let Loads : List ℕ → ℕ → Type 0 = λ key cell. Contains (loaded_in (layout_in xs) seed key) cell in (
          some.0,
          record {
            stand = subst (λ ks. AllZip Loads ks some.0) keys
                (zip-onto Loads (λ (p : Placed). key_bytes p.entry) own some.0
                (zip-all (λ p. Unit {0}) NumberOf (λ p y. Loads (key_bytes p.entry) y) (λ p y u a. a.there) own some.0 (λ i d lt. tt) some.1));
            apart = zip-pairs NumberOf (λ (p q : Placed). is_same p.room q.room ≡ false) (λ y z. y ≡ z → ⊥) (λ p q y z a b apart. differ p q y z a b apart) own some.0 some.1
                (AllPairs-filter (λ (p q : Placed). is_same p.room q.room ≡ false) here placed filled.apart);
          },
        )

-- ---- a node

-- where the entries of a node stand, and as many as they are
pub record NodeTried (c : Config) (names : Names) (seed : ℕ) (lists : List (List Entry)) (node : ℕ) (ss : List Spot) : Type 0 where
  pub many : length ss ≡ length (list_of lists node)
  pub stand : NodeStands c names seed lists node (placed_in (parts_of c node) (list_of lists node) ss)

module _ (c : Config) (names : Names) (seed : ℕ) (lists : List (List Entry)) (node : ℕ) (x : TableCells) (h : Own c names lists node x) (entries : AreTableEntries node (list_of lists node) (terms_of_name x.name)) (ss : List Spot) where
  at-spots : (ns : List ℕ) → length ns ≡ length (list_of lists node) → ss ≡ spots_at x.parts.items ns
      → NodeStands c names seed lists node (placed_in (parts_of c node) (list_of lists node) (spots_at x.parts.items ns)) → NodeTried c names seed lists node ss
  at-spots ns many is stand = record {
    many = ap (λ (s : List Spot). length s) is ∙ length-map ns (spot_from 0 x.parts.items) ∙ many;
    stand = subst (λ s. NodeStands c names seed lists node (placed_in (parts_of c node) (list_of lists node) s)) (sym is) stand;
  }

  by-kind : (k : Kind) → x.name.kind ≡ k → StandBy x.parts.items seed (terms_of_name x.name) (list_of lists node) k ss → NodeTried c names seed lists node ss
  by-kind kind.Keyless is stand = absurd stand
  by-kind kind.Exact is stand =
      at-spots stand.0
      (AllZip-long (λ key cell. Contains (loaded_in (layout_in x.parts.items) seed key) cell) (keys_of (terms_of_name x.name) (list_of lists node)) stand.0 stand.1.stand
      ∙ length-map (list_of lists node) (λ (e : Entry). bytes_of (divided_up (sum x.name.keys) 8) (key_number (terms_of_name x.name) e)))
      stand.2 (exact-stand c names seed lists node x h entries is stand.0 stand.1)
  by-kind kind.Prefix is stand =
      at-spots (map (firsts x.name.kind (list_of lists node)) (list_of lists node)) (length-map (list_of lists node) (firsts x.name.kind (list_of lists node)))
      (subst (λ k. ss ≡ spots_at x.parts.items (map (firsts k (list_of lists node)) (list_of lists node))) (sym is) stand) (rows-stand c names seed lists node x h entries (inl is))
  by-kind kind.Ternary is stand =
      at-spots (map (firsts x.name.kind (list_of lists node)) (list_of lists node)) (length-map (list_of lists node) (firsts x.name.kind (list_of lists node)))
      (subst (λ k. ss ≡ spots_at x.parts.items (map (firsts k (list_of lists node)) (list_of lists node))) (sym is) stand) (rows-stand c names seed lists node x h entries (inr is))

pub table-entries : (c : Config) (names : Names) (lists : List (List Entry)) (node : ℕ) (x : TableCells) → Own c names lists node x → AreEntriesOf names lists → node < length lists
    → AreTableEntries node (list_of lists node) (terms_of_name x.name)
table-entries c names lists node x h are lt = subst (AreEntriesAt node (list_of lists node)) h.terms (entries-at names lists node are lt)

pub node-tried : (c : Config) (names : Names) (tables : List TableCells) (seed : ℕ) (lists : List (List Entry)) (node : ℕ) (ss : List Spot) → AreTables c names tables → AreEntriesOf names lists → node < length lists
    → IsTriedAt seed (list_of lists node) (table_of tables node) (table.Stand ss) → NodeTried c names seed lists node ss
node-tried c names tables seed lists node ss are formed lt tried = by (table_of tables node) refl tried
  where
    by : (o : Option TableCells) → table_of tables node ≡ o → IsTriedAt seed (list_of lists node) o (table.Stand ss) → NodeTried c names seed lists node ss
    by None is none =
        let nothing : list_of lists node ≡ [] =
        subst (AreEntriesAt node (list_of lists node)) (terms-found c names tables node are ∙ ap (option_map (λ (y : TableCells). terms_of_name y.name)) is) (entries-at names lists node formed lt) in
        record {
          many = ap (λ (s : List Spot). length s) none ∙ sym (ap (λ (es : List Entry). length es) nothing);
          stand = subst (λ es. NodeStands c names seed lists node (placed_in (parts_of c node) es ss)) (sym nothing) (none-stand c names seed lists node);
        }
    by (Some x) is stand =
        let h = own-table c names tables lists node x are is in
        by-kind c names seed lists node x h (table-entries c names lists node x h formed lt) ss x.name.kind refl stand
