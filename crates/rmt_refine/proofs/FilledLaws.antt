-- A commit that moves cells leaves cells in which each packet sees just the entries after it.
use Rattle.std.proofs.Common.{◌≡◌, ◌≢◌, ◌⊎◌, ℕ, ◌+◌, ◌*◌, ◌%◌, ◌<◌, true, false, List, [], map, get_or, Option, Some, None, Contains, refl, sym, ap, subst, ◌∙◌, inl, inr, arith}
use Rattle.std.specs.Prelude.{AllPairs, IsSomeAnd, count_by, option_map, slice_get, unwrap_or}
use Rattle.std.proofs.lemmas.Bool.{and_from, eq-eqb, false≢true}
use Rattle.std.proofs.lemmas.List.Elements.{All-contains, All-contains_itself}
use Rattle.std.proofs.lemmas.Option.{same_Some}
use Rattle.rmt_bits.proofs.MemberLaws.{Contains-map, Contains-unmap}
use Rattle.rmt_ast.specs.declared.entry.Entry.{Entry}
use Rattle.rmt_ast.specs.declared.names.Names.{Names}
use Rattle.rmt_ast.specs.declared.program.Kind.TheVariants as kind
use Rattle.rmt_ast.specs.Changes.{list_of}
use Rattle.rmt_ast.specs.EntryLists.{AreEntries, Terms, terms_of}
use Rattle.rmt_ast.specs.NameRules.{terms_named}
use Rattle.rmt_ast.specs.RowOrder.{goes_first}
use Rattle.rmt_refine.specs.Types.{Config, Kind, Program, SlotUnit, Table}
use Rattle.rmt_config.specs.Cells.{code_of, is_occupied, is_seen}
use Rattle.rmt_config.specs.Limits.{IsWithinLimits}
use Rattle.rmt_config.specs.RunCells.{RunCells, emptied, has_bit, no_content, sees, slot_at, with_version}
use Rattle.rmt_config.specs.Rooms.{Room, entry_content, is_before, key_number, rooms_for}
use Rattle.rmt_config.specs.Commits.{AreFilled, IsFilled, Placed, all_entries, filled, filled_content, placed_at}
use Rattle.rmt_config.proofs.RunCellLaws.{both_show}
use Rattle.rmt_refine.specs.declared.map.CellOf.{CellOf}
use Rattle.rmt_refine.specs.declared.map.Map.{Map}
use Rattle.rmt_refine.specs.View.{View}
use Rattle.rmt_refine.specs.Units.{UnitsCarried, table_at}
use Rattle.rmt_refine.specs.Cells.{CellsCarried}
use Rattle.rmt_refine.specs.Commits.{AreNamesOf, seen_by}
use Rattle.rmt_pack.proofs.EntryLaws.{AllPairs-unmap}
use Rattle.rmt_refine.proofs.EntryLaws.{entry_listed, entry_named, numbers_apart}
use Rattle.rmt_pack.proofs.PartLaws.{and_at}
use Rattle.rmt_pack.proofs.RoomLaws.{room_is}
use Rattle.rmt_refine.proofs.RoomOrderLaws.{any_key, rooms_rise}
use Rattle.rmt_pack.proofs.RoomOrderLaws.{fewer_first, pair_at, room_there}
use Rattle.rmt_refine.proofs.StandLaws.{Apart, HoldsIts, InOrder, StandsIn, all_carried, entry_holds, few_codes, placed_there, shown, shown_seen, told_of, seen_placed}

-- ---- a head with both visible bits

full_bit : (v i : ℕ) → has_bit v (1 + 2 * 3 + 8 * i) ≡ true
full_bit v i = both_show v (1 + 2 * 3 + 8 * i) (omega arith)

pub full_occupied : (i : ℕ) → is_occupied (1 + 2 * 3 + 8 * i) ≡ true
full_occupied i = eq-eqb ((1 + 2 * 3 + 8 * i) % 2) 1 (omega arith)

pub full_seen : (v i : ℕ) → sees true v (1 + 2 * 3 + 8 * i) ≡ true
full_seen v i = and_from (is_occupied (1 + 2 * 3 + 8 * i)) (has_bit v (1 + 2 * 3 + 8 * i)) (full_occupied i) (full_bit v i)

full_code : (i : ℕ) → i < 32 → code_of (1 + 2 * 3 + 8 * i) ≡ i
full_code i lt = omega (arith, lt)

-- ---- its entries in their rooms

module _ (p : Program) (m : Map) (c : Config) (names : Names) (cells : RunCells) (after : List (List Entry)) (seed : ℕ) (placed : List Placed)
    (limits : IsWithinLimits c) (naming : AreNamesOf p names) (units : UnitsCarried p m.places m.placement.parts m.starts c)
    (entries : AreEntries p after) (are : AreFilled c names seed after placed) where
  -- what a packet of the next version sees
  abbrev new : View
  new = seen_by (cells.version + 1) (with_version (filled c names cells placed) seed)

  abbrev its_entry : Placed → Entry
  its_entry q = q.entry

  pub record Fills (q : Placed) : Type 0 where
    pub base : StandsIn p c new after q
    pub named : terms_named names q.entry.table ≡ Some (terms_of p base.listed.table)
    pub filled : IsFilled c seed (terms_of p base.listed.table) base.listed.table.kind (list_of after q.entry.table) q.entry q.room

  pub fills : (q : Placed) → Contains placed q → Fills q
  fills q there =
      let in_after : Contains (all_entries after) q.entry = subst (λ es. Contains es q.entry) are.each (Contains-map its_entry placed q there) in
      let l = entry_listed p after q.entry entries in_after in
      let named = entry_named p names after q.entry naming l in
      let has = All-contains (λ (x : Placed). IsSomeAnd (terms_named names x.entry.table) (λ t. IsFilled c seed t t.kind (list_of after x.entry.table) x.entry x.room)) placed q are.rooms there in
      let own = and_at (terms_named names q.entry.table) (λ t. IsFilled c seed t t.kind (list_of after q.entry.table) q.entry q.room) (terms_of p l.table) named has in
      let key = key_number (terms_of p l.table) q.entry in
      record {
        base = record { entry = in_after; listed = l; room = room_is c seed q.entry.table key q.room (room_there c seed (terms_of p l.table) l.table.kind (list_of after q.entry.table) q.entry q.room own) };
        named = named;
        filled = own;
      }

  abbrev pub its : (q : Placed) → Contains placed q → StandsIn p c new after q
  its q there = (fills q there).base

  pub differ : AllPairs (λ (a b : Placed). a.entry.number ≢ b.entry.number) placed
  differ = AllPairs-unmap (λ (a b : Entry). a.number ≢ b.number) its_entry placed (subst (AllPairs (λ (a b : Entry). a.number ≢ b.number)) (sym are.each) (numbers_apart p after entries))

  each_there : (e : Entry) → Contains (all_entries after) e → (q : Placed) × Contains placed q × (q.entry ≡ e)
  each_there e there = Contains-unmap its_entry placed e (subst (λ es. Contains es e) (sym are.each) there)

  -- ---- rows stand in order

  module _ (t : Table) (a b : Placed) (there_a : Contains placed a) (there_b : Contains placed b) (table : table_at p a.entry.table ≡ Some t) (same : a.entry.table ≡ b.entry.table) where
    table_a : (fills a there_a).base.listed.table ≡ t
    table_a = same_Some (fills a there_a).base.listed.table t (sym (fills a there_a).base.listed.table_is ∙ table)

    table_b : (fills b there_b).base.listed.table ≡ t
    table_b = same_Some (fills b there_b).base.listed.table t (sym (fills b there_b).base.listed.table_is ∙ ap (table_at p) (sym same) ∙ table)

    filled_a : IsFilled c seed (terms_of p t) t.kind (list_of after a.entry.table) a.entry a.room
    filled_a = subst (λ (x : Table). IsFilled c seed (terms_of p x) x.kind (list_of after a.entry.table) a.entry a.room) table_a (fills a there_a).filled

    filled_b : IsFilled c seed (terms_of p t) t.kind (list_of after b.entry.table) b.entry b.room
    filled_b = subst (λ (x : Table). IsFilled c seed (terms_of p x) x.kind (list_of after b.entry.table) b.entry b.room) table_b (fills b there_b).filled

    -- the entry stands in the list of its table
    listed_a : Contains (list_of after a.entry.table) a.entry
    listed_a =
        let l = (fills a there_a).base.listed in
        subst (λ es. Contains es a.entry) (sym (ap (λ o. unwrap_or o []) l.list_is)) l.there

    rows_in_order : (k : Kind) → t.kind ≡ k → (k ≡ kind.Prefix) ⊎ (k ≡ kind.Ternary)
        → slice_get (rooms_for c seed a.entry.table (key_number (terms_of p t) a.entry)) (count_by (λ f. goes_first k f a.entry) (list_of after a.entry.table)) ≡ Some a.room
        → slice_get (rooms_for c seed b.entry.table (key_number (terms_of p t) b.entry)) (count_by (λ f. goes_first k f b.entry) (list_of after b.entry.table)) ≡ Some b.room
        → goes_first t.kind a.entry b.entry ≡ true → is_before a.room b.room ≡ true
    rows_in_order k is rowed at_a at_b h =
        let n = a.entry.table in
        let es = list_of after n in
        let key_a = key_number (terms_of p t) a.entry in
        let key_b = key_number (terms_of p t) b.entry in
        let rowed_t : (t.kind ≡ kind.Prefix) ⊎ (t.kind ≡ kind.Ternary) = subst (λ x. (x ≡ kind.Prefix) ⊎ (x ≡ kind.Ternary)) (sym is) rowed in
        let goes : goes_first k a.entry b.entry ≡ true = subst (λ x. goes_first x a.entry b.entry ≡ true) is h in
        let there : slice_get (rooms_for c seed n key_a) (count_by (λ f. goes_first k f b.entry) es) ≡ Some b.room =
        ap (λ rs. slice_get rs (count_by (λ f. goes_first k f b.entry) es)) (any_key p m c units n t table rowed_t seed key_a key_b)
        ∙ ap (λ x. slice_get (rooms_for c seed x key_b) (count_by (λ f. goes_first k f b.entry) (list_of after x))) same ∙ at_b in
        pair_at (λ (r s : Room). is_before r s ≡ true) (rooms_for c seed n key_a) (count_by (λ f. goes_first k f a.entry) es) (count_by (λ f. goes_first k f b.entry) es) a.room b.room
        (rooms_rise p m c units n t table rowed_t seed key_a) (fewer_first k es a.entry b.entry listed_a goes) at_a there

    in_order_by : (k : Kind) → t.kind ≡ k → goes_first t.kind a.entry b.entry ≡ true → is_before a.room b.room ≡ true
    in_order_by kind.Keyless is h = absurd (false≢true (ap (λ x. goes_first x a.entry b.entry) (sym is) ∙ h))
    in_order_by kind.Exact is h = absurd (false≢true (ap (λ x. goes_first x a.entry b.entry) (sym is) ∙ h))
    in_order_by kind.Prefix is h =
        rows_in_order kind.Prefix is (inl refl) (subst (λ x. IsFilled c seed (terms_of p t) x (list_of after a.entry.table) a.entry a.room) is filled_a)
        (subst (λ x. IsFilled c seed (terms_of p t) x (list_of after b.entry.table) b.entry b.room) is filled_b) h
    in_order_by kind.Ternary is h =
        rows_in_order kind.Ternary is (inr refl) (subst (λ x. IsFilled c seed (terms_of p t) x (list_of after a.entry.table) a.entry a.room) is filled_a)
        (subst (λ x. IsFilled c seed (terms_of p t) x (list_of after b.entry.table) b.entry b.room) is filled_b) h

  in_order : (a b : Placed) → Contains placed a → Contains placed b → InOrder p c new after a b
  in_order a b there_a there_b t table same h = in_order_by t a b there_a there_b table same t.kind refl h

  apart : AllPairs (Apart p c new after) placed
  apart i j d lt within =
      let all = All-contains_itself placed in
      let in_i = all i d (omega (arith, lt, within)) in
      let in_j = all j d within in
      record {
        rooms = are.apart i j d lt within;
        forth = in_order (get_or placed i d) (get_or placed j d) in_i in_j;
        back = in_order (get_or placed j d) (get_or placed i d) in_j in_i;
      }

  pub fills_cell : (q : Placed) → Contains placed q → placed_at placed q.room.part.stage q.room.part.place q.room.cell ≡ Some q
  fills_cell q there = placed_there p m c new after units entries placed apart q there

  -- ---- what the cells hold

  abbrev next_version : ℕ
  next_version = cells.version + 1

  holds : (q : Placed) (there : Contains placed q) → HoldsIts p c new after q (its q there) (new.number q.room.part.stage q.room.part.place q.room.cell) (new.content q.room.part.stage q.room.part.place q.room.cell)
  holds q there =
      let f = fills q there in
      let x = entry_content (terms_of p f.base.listed.table) q.room.part 3 q.entry in
      let code = q.room.part.first + q.entry.action in
      let is : filled_content c names (Some q) q.room.part.stage q.room.part.place ≡ x =
      ap (λ (o : Option Terms). unwrap_or (option_map (λ t. entry_content t q.room.part 3 q.entry) o) (emptied q.room.part.slot)) f.named in
      subst (λ (o : Option Placed). HoldsIts p c new after q f.base (unwrap_or (option_map (λ (y : Placed). y.entry.number) o) 0) (shown next_version (filled_content c names o q.room.part.stage q.room.part.place)))
      (sym (placed_there p m c new after units entries placed apart q there))
      (subst (λ y. HoldsIts p c new after q f.base q.entry.number (shown next_version y)) (sym is)
      (subst (HoldsIts p c new after q f.base q.entry.number) (sym (shown_seen next_version x (full_seen next_version code)))
      (entry_holds p m c new after units entries q f.base 3 (full_occupied code) (full_code code (few_codes p m c new after units entries limits q f.base)))))

  none_unseen : (k place : ℕ) → sees true next_version (filled_content c names None k place).head ≡ false
  none_unseen k place = by (slot_at c k place)
    where
      by : (o : Option SlotUnit) → sees true next_version (unwrap_or (option_map emptied o) no_content).head ≡ false
      by None = refl
      by (Some slot) = refl

  only_placed : (k place n : ℕ) (slot : SlotUnit) → slot_at c k place ≡ Some slot → is_seen (new.content k place n).head ≡ true → (q : Placed) × (placed_at placed k place n ≡ Some q)
  only_placed k place n slot at = seen_placed next_version placed k place n (λ o. filled_content c names o k place) (none_unseen k place)

  pub filled_carried : (now : List CellOf) × CellsCarried p c new now after
  filled_carried = (map told_of placed, all_carried p m c new after units entries placed apart its differ each_there holds only_placed)
