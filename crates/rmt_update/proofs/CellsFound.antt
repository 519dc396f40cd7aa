-- Each cell of a slot is a cell of one table of a book, and of one alone.
use Rattle.std.proofs.Common.{◌≡◌, ℕ, zero, suc, ◌+◌, ◌<◌, ◌==◌, Bool, true, false, not, ◌||◌, cond, List, [], ◌∷◌, get_or, map, Option, Some, None, option_map, unwrap_or, refl, sym, ap, ◌∙◌, subst, inl, inr, arith}
use Rattle.std.specs.Prelude.{Contains, IsSomeAnd, find, nat_lt, option_and_then, slice_get}
use Rattle.std.specs.List.{AllZip, list_all, list_any}
use Rattle.std.specs.BTreeMap.{get}
use Rattle.std.specs.Ordering.{nat_cmp}
use Rattle.std.proofs.lemmas.Bool.{and_parts, cases_lt, eq-eqb, eqb-true, ltb-true, ne_eqb}
use Rattle.std.proofs.lemmas.List.Elements.{All-contains, Contains-append_left, Contains-append_right}
use Rattle.std.proofs.lemmas.Option.{get_or_from_slice_get, none-some, same_Some, slice_get-get_or}
use Rattle.rmt_bits.proofs.AllLaws.{All-from_test, All-slice_get}
use Rattle.rmt_bits.proofs.MemberLaws.{Contains-item, Contains-map}
use Rattle.rmt_ast.specs.declared.entry.Entry.{Entry}
use Rattle.rmt_ast.specs.declared.names.Names.{Names}
use Rattle.rmt_ast.specs.declared.names.TableName.{TableName}
use Rattle.rmt_ast.specs.NameRules.{rise}
use Rattle.rmt_config.specs.declared.config.Config.{Config}
use Rattle.rmt_config.specs.declared.config.SlotUnit.{SlotUnit}
use Rattle.rmt_config.specs.declared.config.Stage.{Stage}
use Rattle.rmt_config.specs.declared.config.Unit.{Unit}
use Rattle.rmt_config.specs.declared.config.Unit.TheVariants.{Slot}
use Rattle.rmt_config.specs.Cells.{cells_in}
use Rattle.rmt_config.specs.Commits.{IsCell}
use Rattle.rmt_config.specs.NamesForm.{is_named}
use Rattle.rmt_config.specs.Rooms.{PartAt, parts_of}
use Rattle.rmt_config.specs.RunCells.{RunCells, slot_at}
use Rattle.rmt_config.specs.TableForm.{Placed, placed_from, placed_units}
use Rattle.rmt_config.proofs.MemoryLaws.{has_cells}
use Rattle.rmt_pack.proofs.PartLaws.{part_of_slot}
use Rattle.rmt_pack.proofs.RoomLaws.{PartAtPlace, part_at_place}
use Rattle.rmt_update.specs.declared.book.Book.{Book}
use Rattle.rmt_book.specs.declared.spot.BookSpot.{BookSpot}
use Rattle.rmt_book.specs.declared.table.PartCells.{PartCells}
use Rattle.rmt_book.specs.declared.table.TableCells.{TableCells}
use Rattle.rmt_book.specs.BookSpots.{kept_at, kept_in}
use Rattle.rmt_update.specs.BookStands.{BookStands, HoldsPart, HoldsTable}
use Rattle.rmt_update.specs.Loads.{AreTables, HasShape}
use Rattle.rmt_update.specs.Placing.{IsBookSpot, node_at, room_of}
use Rattle.rmt_book.specs.Spots.{no_part}
use Rattle.rmt_update.proofs.BookLaws.{names-fit}
use Rattle.rmt_update.proofs.OwnNumbers.{standing}
use Rattle.rmt_update.proofs.PartOrder.{IsPartOf, Rises, never-rises, pair-at, parts-rise}
use Rattle.rmt_book.proofs.ShapeLaws.{cells-are}
use Rattle.rmt_update.proofs.TableRules.{Own, own-table}
use Rattle.rmt_book.proofs.ToldEntryLaws.{PartFacts}
use Rattle.rmt_update.proofs.ZipLaws.{zip-left, zip-right}

-- ---- lists beside lists

-- ---- the nodes of tables rise

node-above : (n : ℕ) (ts : List TableCells) (j : ℕ) (u : TableCells) → list_all (λ m. nat_lt n m) (map (λ (t : TableName). t.node) (map (λ (t : TableCells). t.name) ts)) ≡ true → slice_get ts j ≡ Some u → n < u.name.node
node-above n [] j u all at = absurd (none-some u at)
node-above n (t ∷ ts) zero u all at = subst (λ (x : TableCells). n < x.name.node) (same_Some t u at) (ltb-true n t.name.node (and_parts _ _ all).0)
node-above n (t ∷ ts) (suc j) u all at = node-above n ts j u (and_parts _ _ all).1 at

-- the table of a node stands once
pub one-node : (ts : List TableCells) (i j : ℕ) (t u : TableCells) → rise (map (λ (t : TableName). t.node) (map (λ (t : TableCells). t.name) ts)) ≡ true → slice_get ts i ≡ Some t → slice_get ts j ≡ Some u → t.name.node ≡ u.name.node → i ≡ j
one-node [] i j t u rises at_t at_u same = absurd (none-some t at_t)
one-node (x ∷ ts) zero zero t u rises at_t at_u same = refl
one-node (x ∷ ts) zero (suc j) t u rises at_t at_u same =
    let above = node-above x.name.node ts j u (and_parts _ _ rises).0 at_u in
    let is = ap (λ (y : TableCells). y.name.node) (same_Some x t at_t) in
    absurd (omega (arith, above, is, same))
one-node (x ∷ ts) (suc i) zero t u rises at_t at_u same =
    let above = node-above x.name.node ts i t (and_parts _ _ rises).0 at_t in
    let is = ap (λ (y : TableCells). y.name.node) (same_Some x u at_u) in
    absurd (omega (arith, above, is, same))
one-node (x ∷ ts) (suc i) (suc j) t u rises at_t at_u same = ap suc (one-node ts i j t u (and_parts _ _ rises).1 at_t at_u same)

pub found-node : (ts : List TableCells) (i : ℕ) (t : TableCells) → rise (map (λ (t : TableName). t.node) (map (λ (t : TableCells). t.name) ts)) ≡ true → slice_get ts i ≡ Some t
    → find (λ (y : TableCells). y.name.node == t.name.node) ts ≡ Some t
found-node [] i t rises at = absurd (none-some t at)
found-node (x ∷ ts) zero t rises at =
    let same = same_Some x t at in
    ap (λ b. cond b (Some x) (find (λ (y : TableCells). y.name.node == t.name.node) ts)) (eq-eqb x.name.node t.name.node (ap (λ (y : TableCells). y.name.node) same)) ∙ ap Some same
found-node (x ∷ ts) (suc i) t rises at =
    let above = node-above x.name.node ts i t (and_parts _ _ rises).0 at in
    ap (λ b. cond b (Some x) (find (λ (y : TableCells). y.name.node == t.name.node) ts)) (ne_eqb x.name.node t.name.node (λ e. absurd (omega (arith, above, e))))
    ∙ found-node ts i t (and_parts _ _ rises).1 at

-- ---- the slots of a configuration

-- the part of a slot
pub part-there : (c : Config) (k place : ℕ) (s : SlotUnit) → slot_at c k place ≡ Some s → PartAtPlace k place s (parts_of c s.node)
part-there c k place s at = let h = part_of_slot c s.node k place s at refl in part_at_place c s.node k place h.0 s h.1

-- a slot is among the units
pub units-there : (stages : List Stage) (a i : ℕ) (stage : Stage) (u : Unit) → slice_get stages i ≡ Some stage → Contains stage.units u → Contains (placed_from a stages) (record { stage = a + i; unit = u })
units-there [] a i stage u is there = absurd (none-some stage is)
units-there (x ∷ stages) a zero stage u is there =
    let none : a ≡ a + 0 = omega arith in
    let here : Contains (map (λ (v : Unit). record { stage = a; unit = v }) x.units) (record { stage = a; unit = u }) =
    Contains-map (λ (v : Unit). record { stage = a; unit = v }) x.units u (subst (λ (y : Stage). Contains y.units u) (sym (same_Some x stage is)) there) in
    subst (λ n. Contains (placed_from a (x ∷ stages)) (record { stage = n; unit = u })) none
    (Contains-append_left (map (λ (v : Unit). record { stage = a; unit = v }) x.units) (placed_from (a + 1) stages) (record { stage = a; unit = u }) here)
units-there (x ∷ stages) a (suc i) stage u is there =
    let one : a + 1 + i ≡ a + suc i = omega arith in
    subst (λ n. Contains (placed_from a (x ∷ stages)) (record { stage = n; unit = u })) one
    (Contains-append_right (map (λ (v : Unit). record { stage = a; unit = v }) x.units) (placed_from (a + 1) stages) (record { stage = a + 1 + i; unit = u }) (units-there stages (a + 1) i stage u is there))

-- ---- the cells of a book

-- the part of a cell of a book
pub record IsSpotPart (c : Config) (cells : RunCells) (tables : List TableCells) (s : BookSpot) (at : IsBookSpot tables s) : Type 0 where
  pub part : PartAt
  pub in_node : slice_get (parts_of c at.table.name.node) s.at.part ≡ Some part
  pub holds : HoldsPart cells part at.part
  pub own : IsPartOf c at.table.name.node part
  pub facts : PartFacts c at.table.name part
  pub within : s.at.cell < cells_in part.slot.memory

-- where a cell of a slot stands
pub record IsFound (c : Config) (cells : RunCells) (tables : List TableCells) (k in_stage n : ℕ) : Type 0 where
  pub spot : BookSpot
  pub at : IsBookSpot tables spot
  pub is : IsSpotPart c cells tables spot at
  pub stage : is.part.stage ≡ k
  pub place : is.part.place ≡ in_stage
  pub cell : spot.at.cell ≡ n

pub kept-is : (tables : List TableCells) (s : BookSpot) (at : IsBookSpot tables s) → kept_at tables s ≡ get nat_cmp at.part.cells s.at.cell
kept-is tables s at =
    ap (λ (o : Option TableCells). option_and_then (λ (t : TableCells). kept_in t s.at) o) at.in_tables
    ∙ ap (λ (o : Option PartCells). option_and_then (λ (p : PartCells). get nat_cmp p.cells s.at.cell) o) at.in_parts

module _ (c : Config) (cells : RunCells) (lists : List (List Entry)) (b : Book) (stands : BookStands c cells lists b) where
  abbrev pub own_tables : List TableCells
  own_tables = b.tables.items

  abbrev pub own_names : Names
  own_names = record { tables = map (λ (t : TableCells). t.name) b.tables.items }

  pub are-tables : AreTables c own_names own_tables
  are-tables = record {
    formed = stands.formed;
    named = stands.names;
    same = refl;
    shapes = λ k d lt. shapes (parts_of c (get_or own_tables k d).name.node) (get_or own_tables k d).parts.items (stands.tables k d lt);
  }
    where
      shapes : (ps : List PartAt) (xs : List PartCells) → AllZip (HoldsPart cells) ps xs → AllZip HasShape ps xs
      shapes [] [] zip = tt
      shapes [] (x ∷ xs) zip = absurd zip
      shapes (p ∷ ps) [] zip = absurd zip
      shapes (p ∷ ps) (x ∷ xs) zip = (zip.0.shape, shapes ps xs zip.1)

  pub nodes-rise : rise (map (λ (t : TableName). t.node) own_names.tables) ≡ true
  nodes-rise =
      let fit = names-fit c own_names stands.formed stands.names in
      let made = and_parts _ _ (and_parts _ _ fit).0 in
      let those = and_parts _ _ made.0 in
      let alone = and_parts _ _ (and_parts _ _ those.0).0 in
      (and_parts _ _ (and_parts _ _ alone.0).0).0

  pub all-named : list_all (λ (placed : Placed). is_named own_names placed.unit) (placed_units c) ≡ true
  all-named =
      let fit = names-fit c own_names stands.formed stands.names in
      let made = and_parts _ _ (and_parts _ _ fit).0 in
      let those = and_parts _ _ made.0 in
      (and_parts _ _ those.1).1

  -- what is known of a table at a place
  pub table-own : (i : ℕ) (t : TableCells) → slice_get own_tables i ≡ Some t → Own c own_names lists t.name.node t
  table-own i t at = own-table c own_names own_tables lists t.name.node t are-tables (found-node own_tables i t nodes-rise at)

  pub table-holds : (i : ℕ) (t : TableCells) → slice_get own_tables i ≡ Some t → HoldsTable c cells t
  table-holds i t at = All-slice_get (HoldsTable c cells) own_tables i t stands.tables at

  pub spot-part : (s : BookSpot) (at : IsBookSpot own_tables s) → IsSpotPart c cells own_tables s at
  spot-part s at =
      let own = table-own s.table at.table at.in_tables in
      let h = zip-right (HoldsPart cells) (parts_of c at.table.name.node) at.table.parts.items s.at.part at.part (table-holds s.table at.table at.in_tables) at.in_parts in
      let lt = at.within in
      let same = cells-are h.0.slot at.part.shape h.2.shape in
      record {
        part = h.0;
        in_node = h.1;
        holds = h.2;
        own = All-slice_get (IsPartOf c at.table.name.node) (parts_of c at.table.name.node) s.at.part h.0 own.own h.1;
        facts = All-slice_get (PartFacts c at.table.name) (parts_of c at.table.name.node) s.at.part h.0 own.parts h.1;
        within = omega (arith, lt, same);
      }

  pub room-is : (s : BookSpot) (at : IsBookSpot own_tables s) → room_of c own_tables s ≡ record { part = (spot-part s at).part; cell = s.at.cell }
  room-is s at =
      let h = spot-part s at in
      let node : node_at own_tables s.table ≡ at.table.name.node = ap (λ (o : Option TableCells). unwrap_or (option_map (λ (t : TableCells). t.name.node) o) 0) at.in_tables in
      ap (λ n. record { part = get_or (parts_of c n) s.at.part no_part; cell = s.at.cell }) node
      ∙ ap (λ (p : PartAt). record { part = p; cell = s.at.cell }) (get_or_from_slice_get (parts_of c at.table.name.node) s.at.part h.part no_part h.in_node)

  -- cells of one slot and number are one
  pub one-spot : (s z : BookSpot) (at : IsBookSpot own_tables s) (az : IsBookSpot own_tables z) → (spot-part s at).part.stage ≡ (spot-part z az).part.stage → (spot-part s at).part.place ≡ (spot-part z az).part.place
      → s.at.cell ≡ z.at.cell → s ≡ z
  one-spot s z at az stage place cell =
      let h = spot-part s at in
      let g = spot-part z az in
      let slots : h.part.slot ≡ g.part.slot =
      same_Some h.part.slot g.part.slot (sym h.own.slot ∙ ap (λ k. slot_at c k h.part.place) stage ∙ ap (slot_at c g.part.stage) place ∙ g.own.slot) in
      let nodes : at.table.name.node ≡ az.table.name.node = sym h.own.own ∙ ap (λ (x : SlotUnit). x.node) slots ∙ g.own.own in
      let tables : s.table ≡ z.table = one-node own_tables s.table z.table at.table az.table nodes-rise at.in_tables az.in_tables nodes in
      let there : slice_get (parts_of c at.table.name.node) z.at.part ≡ Some g.part = ap (λ n. slice_get (parts_of c n) z.at.part) nodes ∙ g.in_node in
      let parts : s.at.part ≡ z.at.part =
      (elim (cases_lt s.at.part z.at.part) [
        | inl lt ↦ absurd (never-rises h.part g.part (pair-at Rises (parts_of c at.table.name.node) s.at.part z.at.part h.part g.part (parts-rise c at.table.name.node) lt h.in_node there) (sym stage) (sym place))
        | inr le ↦ elim (cases_lt z.at.part s.at.part) [
          | inl gt ↦ absurd (never-rises g.part h.part (pair-at Rises (parts_of c at.table.name.node) z.at.part s.at.part g.part h.part (parts-rise c at.table.name.node) gt there h.in_node) stage place)
          | inr ge ↦ omega (arith, le, ge)
        ]
      ]) in
      ap (λ i. record { table = i; at = s.at }) tables ∙ ap (λ j. record { table = z.table; at = record { part = j; cell = s.at.cell } }) parts
      ∙ ap (λ n. record { table = z.table; at = record { part = z.at.part; cell = n } }) cell

  -- each cell of a slot is found
  pub found : (k place n : ℕ) → IsCell c k place n → IsFound c cells own_tables k place n
  found k place n cell = by (slot_at c k place) refl cell
    where
      at-table : (slot : SlotUnit) → slot_at c k place ≡ Some slot → n < cells_in slot.memory → (i : ℕ) (t : TableCells) → slice_get own_tables i ≡ Some t → t.name.node ≡ slot.node → IsFound c cells own_tables k place n
      at-table slot is lt i t at same =
          let h = part-there c k place slot is in
          let there : Contains (parts_of c t.name.node) h.part = subst (λ m. Contains (parts_of c m) h.part) (sym same) h.there in
          let get_part : slice_get (parts_of c t.name.node) there.0 ≡ Some h.part = slice_get-get_or (parts_of c t.name.node) there.0 h.part there.1 ∙ ap Some there.2 in
          let x = zip-left (HoldsPart cells) (parts_of c t.name.node) t.parts.items there.0 h.part (table-holds i t at) get_part in
          let count = cells-are h.part.slot x.0.shape x.2.shape in
          let sizes = ap (λ (s : SlotUnit). cells_in s.memory) h.slot_is in
          let s : BookSpot = record { table = i; at = record { part = there.0; cell = n } } in
          let a : IsBookSpot own_tables s = record { table = t; in_tables = at; part = x.0; in_parts = x.1; within = omega (arith, lt, count, sizes) } in
          let g = spot-part s a in
          let one : g.part ≡ h.part = same_Some g.part h.part (sym g.in_node ∙ get_part) in
          record { spot = s; at = a; is = g; stage = ap (λ (p : PartAt). p.stage) one ∙ h.stage_is; place = ap (λ (p : PartAt). p.place) one ∙ h.place_is; cell = refl }

      by : (o : Option SlotUnit) → slot_at c k place ≡ o → IsSomeAnd o (λ slot. n < cells_in slot.memory) → IsFound c cells own_tables k place n
      by None is lt = absurd lt
      by (Some slot) is lt =
          let st = standing c k place slot is in
          let unit : Contains (placed_units c) (record { stage = 0 + k; unit = Slot slot }) = units-there c.stages 0 k st.stage (Slot slot) st.in_stages (Contains-item st.stage.units place (Slot slot) st.in_units) in
          let named : is_named own_names (Slot slot) ≡ true =
          All-contains (λ (x : Placed). is_named own_names x.unit ≡ true) (placed_units c) (record { stage = 0 + k; unit = Slot slot })
          (All-from_test (λ (x : Placed). is_named own_names x.unit ≡ true) (λ (x : Placed). is_named own_names x.unit) (λ x e. e) (placed_units c) all-named) unit in
          let any : list_any (λ (t : TableName). t.node == slot.node) own_names.tables ≡ true =
          sym (ap (λ h. not h || list_any (λ (t : TableName). t.node == slot.node) own_names.tables) (has_cells slot.memory n lt)) ∙ named in
          among own_tables 0 (λ i t at. at-table slot is lt i t at) (λ i. ap (slice_get own_tables) (omega arith)) any
        where
          among : (ts : List TableCells) (a : ℕ) → ((i : ℕ) (t : TableCells) → slice_get own_tables i ≡ Some t → t.name.node ≡ slot.node → IsFound c cells own_tables k place n)
              → ((i : ℕ) → slice_get ts i ≡ slice_get own_tables (a + i)) → list_any (λ (t : TableName). t.node == slot.node) (map (λ (t : TableCells). t.name) ts) ≡ true → IsFound c cells own_tables k place n
          among [] a gives at any = absurd (no any)
            where
              no : false ≡ true → ⊥
              no e = cc
          among (t ∷ ts) a gives at any = pick (t.name.node == slot.node) refl any (among ts (a + 1) gives (λ i. at (suc i) ∙ ap (slice_get own_tables) (omega arith)))
            where
              none : a + 0 ≡ a
              none = omega arith

              pick : (b : Bool) → (t.name.node == slot.node) ≡ b → (b || list_any (λ (t : TableName). t.node == slot.node) (map (λ (t : TableCells). t.name) ts)) ≡ true
                  → (list_any (λ (t : TableName). t.node == slot.node) (map (λ (t : TableCells). t.name) ts) ≡ true → IsFound c cells own_tables k place n) → IsFound c cells own_tables k place n
              pick true e h rest = gives a t (sym (at 0 ∙ ap (slice_get own_tables) none)) (eqb-true t.name.node slot.node e)
              pick false e h rest = rest h
