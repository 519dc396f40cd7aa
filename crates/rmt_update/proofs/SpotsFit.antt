-- The spots of loaded entries: each is a cell of its table in which the key of its entry may stand.
use Rattle.std.proofs.Common.{◌≡◌, ℕ, zero, suc, ◌+◌, ◌<◌, ◌≤◌, ◌==◌, Bool, true, ◌&&◌, List, [], ◌∷◌, get_or, length, map, sum, Option, Some, refl, sym, ap, ◌∙◌, subst, inl, inr, arith}
use Rattle.std.specs.Prelude.{All, Contains, IsSomeAnd, nat_le, slice_get, unwrap_or}
use Rattle.std.specs.List.{AllZip, list_all}
use Rattle.std.proofs.lemmas.Bool.{and_parts, cases_lt, leb-true}
use Rattle.std.proofs.lemmas.List.Elements.{All-contains, Contains-append_cases, Contains-append_left, Contains-append_right}
use Rattle.std.proofs.lemmas.Option.{none-some, same_Some, slice_get-get_or}
use Rattle.std.proofs.lemmas.Slice.Zip.{AllZip-long}
use Rattle.rmt_bits.proofs.AllLaws.{All-find, All-from_test, All-slice_get, All-unmap}
use Rattle.rmt_bits.proofs.ListLaws.{slice_get-item}
use Rattle.rmt_bits.proofs.MemberLaws.{Contains-first, Contains-later, Contains-split, Contains-unmap, from_flat_map}
use Rattle.rmt_ast.specs.declared.entry.Entry.{Entry}
use Rattle.rmt_ast.specs.declared.names.ActionName.{ActionName}
use Rattle.rmt_ast.specs.declared.names.Names.{Names}
use Rattle.rmt_ast.specs.declared.names.TableName.{TableName}
use Rattle.rmt_ast.specs.Changes.{list_of}
use Rattle.rmt_ast.specs.EntryLists.{IsEntry, Terms}
use Rattle.rmt_ast.specs.NameRules.{AreEntriesOf, terms_named, terms_of_name}
use Rattle.rmt_config.specs.declared.config.Config.{Config}
use Rattle.rmt_config.specs.Cells.{candidates}
use Rattle.rmt_config.specs.Commits.{AreFilled, IsFilled, Placed}
use Rattle.rmt_config.specs.LaneForm.{bits_of_lanes}
use Rattle.rmt_config.specs.NamesForm.{has_actions, is_made_so}
use Rattle.rmt_config.specs.Rooms.{PartAt, Room, key_number, parts_of, rooms_for}
use Rattle.rmt_book.specs.declared.spots.Spot.{Spot}
use Rattle.rmt_book.specs.declared.table.TableCells.{TableCells}
use Rattle.rmt_update.specs.Loads.{AreTables, HasShape, table_of}
use Rattle.rmt_update.specs.Refill.{FitsInto, TableFits, spots_of}
use Rattle.rmt_book.specs.Spots.{no_part, placed_from, placed_in, room_at}
use Rattle.rmt_update.proofs.BookLaws.{names-fit}
use Rattle.rmt_update.proofs.LoadLaws.{table-entries}
use Rattle.rmt_update.proofs.TableRules.{Own, few-bits, own-table}
use Rattle.rmt_update.proofs.ZipLaws.{zip-left, zip-made}
use Rattle.rmt_pack.proofs.RoomOrderLaws.{room_there}

-- ---- entries with rooms, one by one

pub placed-own : (ps : List PartAt) (es : List Entry) (ss : List Spot) (j : ℕ) (e : Entry) (s : Spot) → slice_get es j ≡ Some e → slice_get ss j ≡ Some s → Contains (placed_in ps es ss) (record { entry = e; room = room_at ps s })
placed-own ps [] ss j e s at_e at_s = absurd (none-some e at_e)
placed-own ps (x ∷ es) [] j e s at_e at_s = absurd (none-some s at_s)
placed-own ps (x ∷ es) (y ∷ ss) zero e s at_e at_s =
    subst (λ z. Contains (placed_in ps (x ∷ es) (y ∷ ss)) (record { entry = z; room = room_at ps s })) (same_Some x e at_e)
    (subst (λ z. Contains (placed_in ps (x ∷ es) (y ∷ ss)) (record { entry = x; room = room_at ps z })) (same_Some y s at_s) (Contains-first (record { entry = x; room = room_at ps y }) (placed_in ps es ss)))
placed-own ps (x ∷ es) (y ∷ ss) (suc j) e s at_e at_s =
    Contains-later (record { entry = x; room = room_at ps y }) (placed_in ps es ss) (record { entry = e; room = room_at ps s }) (placed-own ps es ss j e s at_e at_s)

pub placed-here : (c : Config) (k : ℕ) (lists : List (List Entry)) (spots : List (List Spot)) (i : ℕ) (es : List Entry) (ss : List Spot) (p : Placed) → slice_get lists i ≡ Some es → slice_get spots i ≡ Some ss
    → Contains (placed_in (parts_of c (k + i)) es ss) p → Contains (placed_from c k lists spots) p
placed-here c k [] spots i es ss p at_es at_ss there = absurd (none-some es at_es)
placed-here c k (xs ∷ lists) [] i es ss p at_es at_ss there = absurd (none-some ss at_ss)
placed-here c k (xs ∷ lists) (ys ∷ spots) zero es ss p at_es at_ss there =
    let none : k + 0 ≡ k = omega arith in
    Contains-append_left (placed_in (parts_of c k) xs ys) (placed_from c (k + 1) lists spots) p
    (subst (λ zs. Contains (placed_in (parts_of c k) xs zs) p) (sym (same_Some ys ss at_ss))
    (subst (λ zs. Contains (placed_in (parts_of c k) zs ss) p) (sym (same_Some xs es at_es)) (subst (λ m. Contains (placed_in (parts_of c m) es ss) p) none there)))
placed-here c k (xs ∷ lists) (ys ∷ spots) (suc i) es ss p at_es at_ss there =
    let next : k + suc i ≡ k + 1 + i = omega arith in
    Contains-append_right (placed_in (parts_of c k) xs ys) (placed_from c (k + 1) lists spots) p
    (placed-here c (k + 1) lists spots i es ss p at_es at_ss (subst (λ m. Contains (placed_in (parts_of c m) es ss) p) next there))

-- where an entry with its room stands among those of a node
pub record IsIn (ps : List PartAt) (es : List Entry) (ss : List Spot) (p : Placed) : Type 0 where
  pub j : ℕ
  pub spot : Spot
  pub in_entries : slice_get es j ≡ Some p.entry
  pub in_spots : slice_get ss j ≡ Some spot
  pub room : p.room ≡ room_at ps spot

pub from-own : (ps : List PartAt) (es : List Entry) (ss : List Spot) (p : Placed) → Contains (placed_in ps es ss) p → IsIn ps es ss p
from-own ps [] ss p there = absurd (let lt = there.1 in omega (arith, lt))
from-own ps (e ∷ es) [] p there = absurd (let lt = there.1 in omega (arith, lt))
from-own ps (e ∷ es) (s ∷ ss) p there = elim (Contains-split (record { entry = e; room = room_at ps s }) (placed_in ps es ss) p there) [
  | inl same ↦ record { j = 0; spot = s; in_entries = ap (λ (q : Placed). Some q.entry) same; in_spots = refl; room = sym (ap (λ (q : Placed). q.room) same) }
  | inr later ↦ let h = from-own ps es ss p later in record { j = suc h.j; spot = h.spot; in_entries = h.in_entries; in_spots = h.in_spots; room = h.room }
]

-- and among all
pub record IsInNode (c : Config) (lists : List (List Entry)) (spots : List (List Spot)) (k : ℕ) (p : Placed) : Type 0 where
  pub i : ℕ
  pub es : List Entry
  pub ss : List Spot
  pub in_lists : slice_get lists i ≡ Some es
  pub in_all : slice_get spots i ≡ Some ss
  pub own : IsIn (parts_of c (k + i)) es ss p

pub from-placed : (c : Config) (k : ℕ) (lists : List (List Entry)) (spots : List (List Spot)) (p : Placed) → Contains (placed_from c k lists spots) p → IsInNode c lists spots k p
from-placed c k [] spots p there = absurd (let lt = there.1 in omega (arith, lt))
from-placed c k (es ∷ lists) [] p there = absurd (let lt = there.1 in omega (arith, lt))
from-placed c k (es ∷ lists) (ss ∷ spots) p there = elim (Contains-append_cases (placed_in (parts_of c k) es ss) (placed_from c (k + 1) lists spots) p there) [
  | inl here ↦
      let none : k ≡ k + 0 = omega arith in
      record { i = 0; es = es; ss = ss; in_lists = refl; in_all = refl; own = subst (λ m. IsIn (parts_of c m) es ss p) none (from-own (parts_of c k) es ss p here) }
  | inr later ↦
      let h = from-placed c (k + 1) lists spots p later in
      let next : k + 1 + h.i ≡ k + suc h.i = omega arith in
      record { i = suc h.i; es = h.es; ss = h.ss; in_lists = h.in_lists; in_all = h.in_all; own = subst (λ m. IsIn (parts_of c m) h.es h.ss p) next h.own }
]

-- ---- the cell of an entry

-- the spot of an entry: a cell of a part of its table in which its key may stand
pub record StandsIn (seed key : ℕ) (ps : List PartAt) (s : Spot) : Type 0 where
  pub part : PartAt
  pub there : slice_get ps s.part ≡ Some part
  pub candidate : Contains (candidates seed (bits_of_lanes part.slot.keys) part.slot.memory key) s.cell

pub stands-in : (c : Config) (seed node key : ℕ) (s : Spot) → Contains (rooms_for c seed node key) (room_at (parts_of c node) s) → StandsIn seed key (parts_of c node) s
stands-in c seed node key s there =
    let f = from_flat_map (λ (p : PartAt). map (λ n. record { part = p; cell = n }) (candidates seed (bits_of_lanes p.slot.keys) p.slot.memory key)) (parts_of c node) (room_at (parts_of c node) s) there in
    let g = Contains-unmap (λ n. record { part = f.0; cell = n }) (candidates seed (bits_of_lanes f.0.slot.keys) f.0.slot.memory key) (room_at (parts_of c node) s) f.2 in
    let part : f.0 ≡ (room_at (parts_of c node) s).part = ap (λ (r : Room). r.part) g.2 in
    let cell : g.0 ≡ s.cell = ap (λ (r : Room). r.cell) g.2 in
    by f.0 g.0 part cell g.1
  where
    by : (p : PartAt) (n : ℕ) → p ≡ get_or (parts_of c node) s.part no_part → n ≡ s.cell → Contains (candidates seed (bits_of_lanes p.slot.keys) p.slot.memory key) n → StandsIn seed key (parts_of c node) s
    by p n is cell own = elim (cases_lt s.part (length (parts_of c node))) [
      | inl lt ↦ record {
        part = p;
        there = slice_get-get_or (parts_of c node) s.part no_part lt ∙ ap Some (sym is);
        candidate = subst (Contains (candidates seed (bits_of_lanes p.slot.keys) p.slot.memory key)) cell own;
      }
      | inr ge ↦
          let past : get_or (parts_of c node) s.part no_part ≡ no_part = past-end (parts_of c node) s.part ge in
          let none : Contains [] n = subst (λ (q : PartAt). Contains (candidates seed (bits_of_lanes q.slot.keys) q.slot.memory key) n) (is ∙ past) own in
          absurd (let lt = none.1 in omega (arith, lt))
    ]
      where
        past-end : (ps : List PartAt) (i : ℕ) → length ps ≤ i → get_or ps i no_part ≡ no_part
        past-end [] i le = refl
        past-end (q ∷ ps) zero le = absurd (omega (arith, le))
        past-end (q ∷ ps) (suc i) le = past-end ps i (omega (arith, le))

module _ (c : Config) (names : Names) (seed : ℕ) (lists : List (List Entry)) (spots : List (List Spot)) (many : AllZip (λ (es : List Entry) (ss : List Spot). length ss ≡ length es) lists spots)
    (filled : AreFilled c names seed lists (placed_from c 0 lists spots)) where
  abbrev pub all_placed : List Placed
  all_placed = placed_from c 0 lists spots

  -- the entry of a number in the list of a node, with its room
  pub own-placed : (node j : ℕ) (e : Entry) (s : Spot) → slice_get (list_of lists node) j ≡ Some e → slice_get (spots_of spots node) j ≡ Some s → node < length lists
      → Contains all_placed (record { entry = e; room = room_at (parts_of c node) s })
  own-placed node j e s at_e at_s lt =
      let es = slice_get-item lists node lt in
      let ss = zip-left (λ (xs : List Entry) (ys : List Spot). length ys ≡ length xs) lists spots node es.0 many es.1 in
      let own_es : list_of lists node ≡ es.0 = ap (λ (o : Option (List Entry)). unwrap_or o []) es.1 in
      let own_ss : spots_of spots node ≡ ss.0 = ap (λ (o : Option (List Spot)). unwrap_or o []) ss.1 in
      let none : node ≡ 0 + node = omega arith in
      placed-here c 0 lists spots node es.0 ss.0 (record { entry = e; room = room_at (parts_of c node) s }) es.1 ss.1
      (subst (λ m. Contains (placed_in (parts_of c m) es.0 ss.0) (record { entry = e; room = room_at (parts_of c node) s })) none
      (placed-own (parts_of c node) es.0 ss.0 j e s (ap (λ xs. slice_get xs j) (sym own_es) ∙ at_e) (ap (λ xs. slice_get xs j) (sym own_ss) ∙ at_s)))

  pub spots-many : (node : ℕ) → node < length lists → length (spots_of spots node) ≡ length (list_of lists node)
  spots-many node lt =
      let es = slice_get-item lists node lt in
      let ss = zip-left (λ (xs : List Entry) (ys : List Spot). length ys ≡ length xs) lists spots node es.0 many es.1 in
      ap (λ (o : Option (List Spot)). length (unwrap_or o [])) ss.1 ∙ ss.2 ∙ sym (ap (λ (o : Option (List Entry)). length (unwrap_or o [])) es.1)

  module _ (node : ℕ) (x : TableCells) (h : Own c names lists node x) (formed : AreEntriesOf names lists) (lt : node < length lists) where
    abbrev t : Terms
    t = terms_of_name x.name

    pub own-filled : (j : ℕ) (e : Entry) (s : Spot) → slice_get (list_of lists node) j ≡ Some e → slice_get (spots_of spots node) j ≡ Some s → IsFilled c seed t t.kind (list_of lists node) e (room_at (parts_of c node) s)
    own-filled j e s at_e at_s =
        let entry = All-slice_get (IsEntry node t) (list_of lists node) j e (table-entries c names lists node x h formed lt).each at_e in
        let is = All-contains (λ (p : Placed). IsSomeAnd (terms_named names p.entry.table) (λ u. IsFilled c seed u u.kind (list_of lists p.entry.table) p.entry p.room)) all_placed
        (record { entry = e; room = room_at (parts_of c node) s }) filled.rooms (own-placed node j e s at_e at_s lt) in
        subst (λ (o : Option Terms). IsSomeAnd o (λ u. IsFilled c seed u u.kind (list_of lists node) e (room_at (parts_of c node) s))) h.terms
        (subst (λ n. IsSomeAnd (terms_named names n) (λ u. IsFilled c seed u u.kind (list_of lists n) e (room_at (parts_of c node) s))) entry.table is)

    pub own-stands : (j : ℕ) (e : Entry) (s : Spot) → slice_get (list_of lists node) j ≡ Some e → slice_get (spots_of spots node) j ≡ Some s → StandsIn seed (key_number t e) (parts_of c node) s
    own-stands j e s at_e at_s =
        let entry = All-slice_get (IsEntry node t) (list_of lists node) j e (table-entries c names lists node x h formed lt).each at_e in
        let there = room_there c seed t t.kind (list_of lists node) e (room_at (parts_of c node) s) (own-filled j e s at_e at_s) in
        stands-in c seed node (key_number t e) s (subst (λ n. Contains (rooms_for c seed n (key_number t e)) (room_at (parts_of c node) s)) entry.table there)

  -- ---- a table

  module _ (tables : List TableCells) (are : AreTables c names tables) (formed : AreEntriesOf names lists) (x : TableCells) (found : table_of tables x.name.node ≡ Some x) where
    abbrev node : ℕ
    node = x.name.node

    pub own : Own c names lists x.name.node x
    own = own-table c names tables lists node x are found

    pub node-within : x.name.node < length lists
    node-within =
        let all = All-unmap (λ (t : TableName). t.node < length lists) (λ (y : TableCells). y.name) tables (subst (All (λ (t : TableName). t.node < length lists)) are.same formed.tables) in
        All-find (λ (y : TableCells). y.name.node < length lists) (λ (y : TableCells). y.name.node == node) tables x all found

    -- the data of an entry has room in each part
    own-data : All (λ (p : PartAt). (a : ActionName) (n : ℕ) → slice_get x.name.actions n ≡ Some a → sum a.params ≤ p.slot.held) (parts_of c node)
    own-data i d lt a n at =
        let fit = names-fit c names are.formed are.named in
        let made = All-from_test (λ (t : TableName). is_made_so c t ≡ true) (is_made_so c) (λ t e. e) names.tables (and_parts _ _ (and_parts _ _ fit).0).1 in
        let mine = All-find (λ (y : TableCells). is_made_so c y.name ≡ true) (λ (y : TableCells). y.name.node == node) tables x
        (All-unmap (λ (t : TableName). is_made_so c t ≡ true) (λ (y : TableCells). y.name) tables (subst (All (λ (t : TableName). is_made_so c t ≡ true)) are.same made)) found in
        let has : has_actions c x.name ≡ true = (and_parts _ _ (and_parts _ _ mine).0).1 in
        let held = (get_or (parts_of c node) i d).slot.held in
        let rule : PartAt → Bool = λ p. (length x.name.actions == p.slot.actions) && list_all (λ (b : ActionName). nat_le (sum b.params) p.slot.held) x.name.actions in
        let here = All-from_test (λ p. rule p ≡ true) rule (λ p e. e) (parts_of c node) has i d lt in
        let each = All-from_test (λ (b : ActionName). nat_le (sum b.params) held ≡ true) (λ (b : ActionName). nat_le (sum b.params) held) (λ b e. e) x.name.actions (and_parts _ _ here).1 in
        leb-true (sum a.params) held (All-slice_get (λ (b : ActionName). nat_le (sum b.params) held ≡ true) x.name.actions n a each at)

    pub table-fits : TableFits lists spots x
    table-fits = record {
      within = node-within;
      in_spots = (let long = AllZip-long (λ (es : List Entry) (ss : List Spot). length ss ≡ length es) lists spots many in let lt = node-within in omega (arith, long, lt));
      formed = own.facts.formed;
      few = few-bits c names lists node x own;
      entries = (table-entries c names lists node x own formed node-within).each;
      fit = zip-made (FitsInto x) (list_of lists node) (spots_of spots node) (sym (spots-many node node-within)) (λ j e s at_e at_s.
          let st = own-stands node x own formed node-within j e s at_e at_s in
          let y = zip-left HasShape (parts_of c node) x.parts.items s.part st.part own.shapes st.there in
          record {
            part = y.0;
            there = y.1;
            room = λ a at.
                let le = All-slice_get (λ (p : PartAt). (b : ActionName) (n : ℕ) → slice_get x.name.actions n ≡ Some b → sum b.params ≤ p.slot.held) (parts_of c node) s.part st.part own-data st.there a e.action at in
                let same = y.2.held in
                omega (arith, le, same);
          });
    }
