-- A commit that moves no cell keeps what packets see: just the entries.
use Rattle.std.proofs.Common.{◌≡◌, ◌≢◌, ◌⊎◌, ℕ, ◌+◌, ◌^◌, ◌%◌, ◌<◌, ◌==◌, Bool, true, false, not, ◌&&◌, ◌||◌, cond, List, filter_map, map, length, get_or, Option, Some, None, All, Contains, refl, sym, ap, subst, ◌∙◌, inl, inr, arith}
use Rattle.std.specs.Prelude.{AllPairs, IsSomeAnd, find, option_and_then, option_map, slice_get, unwrap_or}
use Rattle.std.specs.List.{list_any}
use Rattle.std.proofs.lemmas.Bool.{and_from, and_left, and_parts, eq-eqb, false≢true, false_from_ne_true, not_from_true}
use Rattle.std.proofs.lemmas.List.Elements.{All-contains, All-contains_itself, All-weaker, filter_passes}
use Rattle.std.proofs.lemmas.List.Kept.{AllPairs-filter}
use Rattle.std.proofs.lemmas.List.Quantifiers.{all_pairs_push}
use Rattle.std.proofs.lemmas.Option.{same_Some}
use Rattle.rmt_bits.proofs.AllLaws.{All-from_test}
use Rattle.rmt_bits.proofs.MemberLaws.{Contains-unmap, list_any-Contains}
use Rattle.rmt_bits.proofs.PairLaws.{AllPairs-append, AllPairs-map}
use Rattle.rmt_ast.specs.declared.entry.Entry.{Entry}
use Rattle.rmt_ast.specs.declared.names.Names.{Names}
use Rattle.rmt_ast.specs.EntryLists.{AreEntries, Terms, terms_of}
use Rattle.rmt_ast.specs.NameRules.{terms_named}
use Rattle.rmt_ast.specs.RowOrder.{goes_first}
use Rattle.rmt_refine.specs.Types.{Config, Program, SlotUnit, Stage, Table}
use Rattle.rmt_config.specs.LaneForm.{bits_of_lanes}
use Rattle.rmt_config.specs.Cells.{Content, candidates, is_occupied, is_seen, visible_bits}
use Rattle.rmt_config.specs.Limits.{IsWithinLimits}
use Rattle.rmt_config.specs.RunCells.{RunCells, emptied, has_bit, sees, slot_at}
use Rattle.rmt_config.specs.Rooms.{Room, content_in, entry_content, is_before, is_same, key_number, number_in, tests_as_one}
use Rattle.rmt_config.specs.Commits.{IsCell, Placed, all_entries, come, coming_content, is_numbered_in, leaving_content, placed_after, placed_at, placed_now, rooms_of, settled, settled_content, settled_number, stay, staying_content, stays, without_bit}
use Rattle.rmt_refine.specs.declared.map.CellOf.{CellOf}
use Rattle.rmt_refine.specs.declared.map.Map.{Map}
use Rattle.rmt_refine.specs.View.{View, slot_of}
use Rattle.rmt_refine.specs.Units.{UnitsCarried, table_at}
use Rattle.rmt_refine.specs.Cells.{CellsCarried, IsSpotOf, IsTold, Spot}
use Rattle.rmt_refine.specs.Commits.{AreNamesOf, CommitsKeepEntries, KeepEntries, seen_by}
use Rattle.rmt_pack.proofs.PartLaws.{and_at}
use Rattle.rmt_refine.proofs.PartLaws.{part_of_spot}
use Rattle.rmt_refine.proofs.EntryLaws.{All-filter_map, AllPairs-filter_map, IsListed, entry_listed, entry_named, listed_in, numbers_apart, one_entry}
use Rattle.rmt_pack.proofs.EntryLaws.{AllPairs-unmap}
use Rattle.rmt_pack.proofs.RoomLaws.{RoomAt, RoomIs, room_at, room_is, at_is}
use Rattle.rmt_pack.proofs.PlacedLaws.{Comes, HasItsRoom, Stays, Takes, all_placed, each_has_its_room, each_placed, placed_entries, placed_entry, stay_fine}
use Rattle.rmt_refine.proofs.StandLaws.{cell_of_spot, Apart, HoldsIts, InOrder, StandsIn, all_carried, before_from, entry_holds, few_codes, is_spot, its_key, placed_there, seen_from, shown, shown_seen, spot, told_of, widths, seen_placed}
use Rattle.rmt_refine.proofs.VisibleBitLaws.{seen_coming, seen_next, set-alike, unseen_next}
use Rattle.rmt_bits.proofs.FindLaws.{find-some}
use Rattle.rmt_bits.proofs.TestLaws.{then_so}

module _ (p : Program) (m : Map) (c : Config) (names : Names) (cells : RunCells) (before after : List (List Entry)) (told : List CellOf) (placed : List Placed)
    (limits : IsWithinLimits c) (naming : AreNamesOf p names) (units : UnitsCarried p m.places m.placement.parts m.starts c)
    (entries_before : AreEntries p before) (entries_after : AreEntries p after) (keep : KeepEntries before after)
    (carried : CellsCarried p c (seen_by cells.version cells) told before) (made : placed_after c names cells before after ≡ Some placed) where
  abbrev old : View
  old = seen_by cells.version cells

  abbrev new : View
  new = seen_by (cells.version + 1) (settled c names cells before placed)

  -- ---- one placed entry

  record Stands (q : Placed) : Type 0 where
    entry : Contains (all_entries after) q.entry
    listed : IsListed p after q.entry
    named : terms_named names q.entry.table ≡ Some (terms_of p listed.table)
    room : RoomIs c q.entry.table cells.seed (key_number (terms_of p listed.table) q.entry) q.room
    kept : Stays c names cells before q ⊎ Comes c names cells before q

  stands : (q : Placed) → HasItsRoom c names cells before (all_entries after) q → Stands q
  stands q h =
      let l = entry_listed p after q.entry entries_after h.entry in
      let named = entry_named p names after q.entry naming l in
      let same : h.terms ≡ terms_of p l.table = same_Some h.terms (terms_of p l.table) (sym h.named ∙ named) in
      record {
        entry = h.entry;
        listed = l;
        named = named;
        room = room_is c cells.seed q.entry.table (its_key p c new after l.table q.entry) q.room (subst (λ t. Contains (rooms_of c t cells q.entry) q.room) same h.room);
        kept = h.kept;
      }

  -- it stands in its room, as the next version sees it
  abbrev in_room : (q : Placed) → Stands q → StandsIn p c new after q
  in_room q s = record { entry = s.entry; listed = s.listed; room = s.room }

  its_spot : (q : Placed) → Stands q → IsSpotOf c q.entry.table (spot q)
  its_spot q s = is_spot p m c new after units entries_after q (in_room q s)

  -- ---- entries that stay

  was_there : (e : Entry) → Contains (all_entries after) e → is_numbered_in (all_entries before) e ≡ true → Contains (all_entries before) e
  was_there e there stood = All-contains (λ x. is_numbered_in (all_entries before) x ≡ true → Contains (all_entries before) x) (all_entries after) e keep there stood

  record Stayed (q : Placed) (t : Table) : Type 0 where
    list : List Entry
    list_is : slice_get before q.entry.table ≡ Some list
    there : Contains list q.entry
    told_there : IsTold told q.entry (spot q)

  stayed : (q : Placed) (s : Stands q) → Stays c names cells before q → Stayed q s.listed.table
  stayed q s st =
      let k = q.room.part.stage in
      let place = q.room.part.place in
      let n = q.room.cell in
      let there = was_there q.entry s.entry st.stood in
      let l = entry_listed p before q.entry entries_before there in
      let own = carried.tables q.entry.table s.listed.table l.list s.listed.table_is l.list_is in
      let is = its_spot q s in
      let content = shown_seen cells.version (cells.content k place n) st.seen in
      let occupied = (and_parts (is_occupied (cells.content k place n).head) (has_bit cells.version (cells.content k place n).head) st.seen).0 in
      let o = own.only (spot q) is (ap (λ (x : Content). is_seen x.head) content ∙ occupied) in
      let holds = own.holds o.0 (spot q) s.room.part.stage o.1 is o.2 s.room.part.part.stage_is in
      let same = one_entry p before o.0 q.entry entries_before (listed_in before q.entry.table l.list o.0 l.list_is o.1) there (sym holds.number_is ∙ st.number) in
      record { list = l.list; list_is = l.list_is; there = l.there; told_there = subst (λ e. IsTold told e (spot q)) same o.2 }

  abbrev its_test : Entry → Room → Bool
  its_test e room = sees true cells.version (content_in cells room).head && (number_in cells room == e.number)

  -- a room in whose cell the entry is passes
  test_there : (e : Entry) (key k place n : ℕ) (r : RoomAt c cells.seed e.table key k place n) → sees true cells.version (cells.content k place n).head ≡ true → cells.number k place n ≡ e.number
      → its_test e r.room ≡ true
  test_there e key k place n r seen number =
      let content : content_in cells r.room ≡ cells.content k place n = λ i. cells.content (r.stage_is i) (r.place_is i) (r.cell_is i) in
      let numbers : number_in cells r.room ≡ cells.number k place n = λ i. cells.number (r.stage_is i) (r.place_is i) (r.cell_is i) in
      and_from (sees true cells.version (content_in cells r.room).head) (number_in cells r.room == e.number) (ap (λ (x : Content). sees true cells.version x.head) content ∙ seen)
      (eq-eqb (number_in cells r.room) e.number (numbers ∙ number))

  placed_found : (e : Entry) (t : Terms) (room : Room) → terms_named names e.table ≡ Some t → find (its_test e) (rooms_of c t cells e) ≡ Some room
      → placed_now c names cells e ≡ Some (record { entry = e; room = room })
  placed_found e t room named found =
      let with_room : Room → Placed = λ r. record { entry = e; room = r } in
      ap (λ (o : Option Terms). option_map with_room (option_and_then (λ (u : Terms). find (its_test e) (rooms_of c u cells e)) o)) named ∙ ap (option_map with_room) found

  -- an entry that stays has a room
  has_room : (e : Entry) → Contains (all_entries after) e → is_numbered_in (all_entries before) e ≡ true → (q : Placed) × (placed_now c names cells e ≡ Some q)
  has_room e in_after stood =
      let l = entry_listed p before e entries_before (was_there e in_after stood) in
      let t = l.table in
      let own = carried.tables e.table t l.list l.table_is l.list_is in
      let at = All-contains (λ (x : Entry). (s : Spot) × IsSpotOf c e.table s × IsTold told x s) l.list e own.each l.there in
      let k = at.0.stage in
      let place = at.0.place in
      let n = at.0.cell in
      let part = part_of_spot c e.table at.0 at.1 in
      let holds = own.holds e at.0 part.0 l.there at.1 at.2 part.2.stage_is in
      let key = tests_as_one (λ u. u.value) (widths p c new after t) e.tests in
      let in_stage = and_at (slice_get c.stages k)
      (λ (stage : Stage). IsSomeAnd (slot_of stage place) (λ (x : SlotUnit). Contains (candidates cells.seed (bits_of_lanes x.keys) x.memory key) n)) part.0 part.2.stage_is (own.candidate e at.0 l.there at.1 at.2) in
      let in_slot = and_at (slot_of part.0 place) (λ (x : SlotUnit). Contains (candidates cells.seed (bits_of_lanes x.keys) x.memory key) n) part.1 part.2.slot_is in_stage in
      let r = room_at c cells.seed e.table (its_key p c new after t e) k place n part.0 part.1 part.2 in_slot in
      let passes = test_there e (its_key p c new after t e) k place n r (seen_from cells.version (cells.content k place n) holds.seen) holds.number_is in
      let found = find-some (its_test e) (rooms_of c (terms_of p t) cells e) r.room r.there passes in
      (record { entry = e; room = found.0 }, placed_found e (terms_of p t) found.0 (entry_named p names before e naming l) found.1)

  -- ---- two placed entries

  abbrev Follows : Placed → Placed → Type 0
  Follows = InOrder p c new after

  abbrev AreApart : Placed → Placed → Type 0
  AreApart = Apart p c new after

  stays_in_order : (a b : Placed) → Stands a → Stands b → Stays c names cells before a → Stays c names cells before b → Follows a b
  stays_in_order a b sa sb sta stb t table_is same h =
      let oa = stayed a sa sta in
      let ob = stayed b sb stb in
      let own = carried.tables a.entry.table t oa.list table_is oa.list_is in
      let one_list : ob.list ≡ oa.list = same_Some ob.list oa.list (sym ob.list_is ∙ ap (slice_get before) (sym same) ∙ oa.list_is) in
      before_from a b
      (own.order a.entry b.entry (spot a) (spot b) oa.there (subst (λ es. Contains es b.entry) one_list ob.there) (its_spot a sa)
      (subst (λ n. IsSpotOf c n (spot b)) (sym same) (its_spot b sb)) oa.told_there ob.told_there h)

  stays_apart : (a b : Placed) → Stands a → Stands b → Stays c names cells before a → Stays c names cells before b → a.entry.number ≢ b.entry.number → AreApart a b
  stays_apart a b sa sb sta stb numbers = record {
    rooms = false_from_ne_true (is_same a.room b.room) (λ h.
        let at = at_is a.room.part.stage a.room.part.place a.room.cell b.room h in
        numbers (sym sta.number ∙ (λ i. cells.number (sym at.0 i) (sym at.1 i) (sym at.2 i)) ∙ stb.number));
    forth = stays_in_order a b sa sb sta stb;
    back = stays_in_order b a sb sa stb sta;
  }

  abbrev Fine : Placed → Type 0
  Fine = HasItsRoom c names cells before (all_entries after)

  takes_apart : (ps : List Placed) (q : Placed) → Takes c names cells before (all_entries after) ps q → (a : Placed) → Contains ps a → AreApart a q
  takes_apart ps q takes a there =
      let s = stands q takes.fine in
      let test : Placed → Bool = λ x. not (x.entry.table == q.entry.table)
      || ((not (goes_first takes.fine.terms.kind x.entry q.entry) || is_before x.room q.room) && (not (goes_first takes.fine.terms.kind q.entry x.entry) || is_before q.room x.room)) in
      let fits = All-contains (λ x. test x ≡ true) ps a (All-from_test (λ x. test x ≡ true) test (λ x e. e) ps takes.order) there in
      let terms : takes.fine.terms ≡ terms_of p s.listed.table = same_Some takes.fine.terms (terms_of p s.listed.table) (sym takes.fine.named ∙ s.named) in
      let both : a.entry.table ≡ q.entry.table
      → ((not (goes_first takes.fine.terms.kind a.entry q.entry) || is_before a.room q.room) && (not (goes_first takes.fine.terms.kind q.entry a.entry) || is_before q.room a.room)) ≡ true =
      λ same. then_so (a.entry.table == q.entry.table)
      ((not (goes_first takes.fine.terms.kind a.entry q.entry) || is_before a.room q.room) && (not (goes_first takes.fine.terms.kind q.entry a.entry) || is_before q.room a.room)) fits (eq-eqb a.entry.table q.entry.table same) in
      let kind_is : (t : Table) → table_at p q.entry.table ≡ Some t → t.kind ≡ takes.fine.terms.kind =
      λ t e. ap (λ (x : Table). x.kind) (same_Some t s.listed.table (sym e ∙ s.listed.table_is)) ∙ ap (λ (x : Terms). x.kind) (sym terms) in
      record {
        rooms = false_from_ne_true (is_same a.room q.room) (λ h. false≢true (sym takes.free ∙ list_any-Contains (λ (x : Placed). is_same x.room q.room) ps a there h));
        forth = λ t e same h.
            then_so (goes_first takes.fine.terms.kind a.entry q.entry) (is_before a.room q.room)
            (and_parts (not (goes_first takes.fine.terms.kind a.entry q.entry) || is_before a.room q.room) (not (goes_first takes.fine.terms.kind q.entry a.entry) || is_before q.room a.room) (both same)).0
            (subst (λ k. goes_first k a.entry q.entry ≡ true) (kind_is t (ap (table_at p) (sym same) ∙ e)) h);
        back = λ t e same h.
            then_so (goes_first takes.fine.terms.kind q.entry a.entry) (is_before q.room a.room)
            (and_parts (not (goes_first takes.fine.terms.kind a.entry q.entry) || is_before a.room q.room) (not (goes_first takes.fine.terms.kind q.entry a.entry) || is_before q.room a.room) (both (sym same))).1
            (subst (λ k. goes_first k q.entry a.entry ≡ true) (kind_is t e) h);
      }

  -- ---- all placed entries

  abbrev Differ : Entry → Entry → Type 0
  Differ a b = a.number ≢ b.number

  abbrev its_entry : Placed → Entry
  its_entry q = q.entry

  abbrev stood : Entry → Bool
  stood e = is_numbered_in (all_entries before) e

  abbrev staying : List Placed
  staying = filter_map (placed_now c names cells) (stay before after)

  after_apart : AllPairs Differ (all_entries after)
  after_apart = numbers_apart p after entries_after

  staying_differ : AllPairs (λ (a b : Placed). Differ a.entry b.entry) staying
  staying_differ =
      AllPairs-filter_map (placed_now c names cells) Differ (λ (a b : Placed). Differ a.entry b.entry)
      (λ x z y w apart ey ew same.
      apart (ap (λ (e : Entry). e.number) (sym (placed_entry c names cells before x y ey)) ∙ same ∙ ap (λ (e : Entry). e.number) (placed_entry c names cells before z w ew)))
      (stay before after) (AllPairs-filter Differ stood (all_entries after) after_apart)

  staying_stood : All (λ (q : Placed). stood q.entry ≡ true) staying
  staying_stood =
      All-filter_map (placed_now c names cells) (λ e. stood e ≡ true) (λ (q : Placed). stood q.entry ≡ true) (λ e q h k. ap stood (placed_entry c names cells before e q k) ∙ h) (stay before after)
      (filter_passes stood (all_entries after))

  differ_from : (x y : Entry) → stood x ≡ true → not (stood y) ≡ true → Differ x y
  differ_from x y sx sy same =
      let also : stood y ≡ true = ap (λ n. list_any (λ (o : Entry). o.number == n) (all_entries before)) (sym same) ∙ sx in
      false≢true (sym (not_from_true (stood y) also) ∙ sy)

  pub placed_differ : AllPairs (λ (a b : Placed). Differ a.entry b.entry) placed
  placed_differ =
      let now = map its_entry staying in
      let across : All (λ x. All (Differ x) (come before after)) now =
      All-weaker (Contains now) (λ x. All (Differ x) (come before after))
      (λ x there.
      let u = Contains-unmap its_entry staying x there in
      let sx : stood x ≡ true = ap stood (sym u.2) ∙ All-contains (λ (q : Placed). stood q.entry ≡ true) staying u.0 staying_stood u.1 in
      All-weaker (λ y. not (stood y) ≡ true) (Differ x) (λ y sy. differ_from x y sx sy) (come before after) (filter_passes (λ y. not (stood y)) (all_entries after)))
      now (All-contains_itself now) in
      AllPairs-unmap Differ its_entry placed
      (subst (AllPairs Differ) (sym (placed_entries c names cells before after placed made))
      (AllPairs-append Differ now (come before after) (AllPairs-map Differ its_entry staying staying_differ)
      (AllPairs-filter Differ (λ y. not (stood y)) (all_entries after) after_apart) across))

  it_stays : (q : Placed) → Fine q → stood q.entry ≡ true → Stays c names cells before q
  it_stays q h s = by h.kept
    where
      by : Stays c names cells before q ⊎ Comes c names cells before q → Stays c names cells before q
      by (inl x) = x
      by (inr x) = absurd (false≢true (sym x.new ∙ s))

  staying_apart : AllPairs AreApart staying
  staying_apart i j d lt within =
      let fine = stay_fine c names cells before after in
      let earlier : i < length staying = omega (arith, lt, within) in
      let a = get_or staying i d in
      let b = get_or staying j d in
      stays_apart a b (stands a (fine i d earlier)) (stands b (fine j d within)) (it_stays a (fine i d earlier) (staying_stood i d earlier)) (it_stays b (fine j d within) (staying_stood j d within))
      (staying_differ i j d lt within)

  placed_apart : AllPairs AreApart placed
  placed_apart =
      all_placed c names cells before after placed (AllPairs AreApart)
      (λ ps q good takes. all_pairs_push AreApart ps q good (All-weaker (Contains ps) (λ a. AreApart a q) (λ a there. takes_apart ps q takes a there) ps (All-contains_itself ps)))
      staying_apart made

  its : (q : Placed) → Contains placed q → Stands q
  its q there = stands q (All-contains Fine placed q (each_has_its_room c names cells before after placed made) there)

  -- ---- what the cells hold

  abbrev next_version : ℕ
  next_version = cells.version + 1

  abbrev HoldsNow : (q : Placed) → Stands q → ℕ → Content → Type 0
  HoldsNow q s number x = HoldsIts p c new after q (in_room q s) number x

  stay_holds : (q : Placed) (s : Stands q) → Stays c names cells before q → HoldsNow q s q.entry.number (shown next_version (staying_content next_version (content_in cells q.room)))
  stay_holds q s st =
      let x = content_in cells q.room in
      let o = stayed q s st in
      let own = carried.tables q.entry.table s.listed.table o.list s.listed.table_is o.list_is in
      let h = subst (HoldsNow q s (number_in cells q.room)) (shown_seen cells.version x st.seen) (own.holds q.entry (spot q) s.room.part.stage o.there (its_spot q s) o.told_there s.room.part.part.stage_is) in
      let alike = set-alike cells.version x.head in
      subst (HoldsNow q s q.entry.number) (sym (shown_seen next_version (staying_content next_version x) (seen_next cells.version x.head st.seen)))
      (record { seen = sym alike.occupied ∙ h.seen; code = sym alike.code ∙ h.code; key = h.key; mask = h.mask; held = h.held; number_is = refl })

  come_holds : (q : Placed) (s : Stands q) → HoldsNow q s q.entry.number (shown next_version (coming_content names next_version q))
  come_holds q s =
      let is : coming_content names next_version q ≡ entry_content (terms_of p s.listed.table) q.room.part (2 ^ (next_version % 2)) q.entry =
      ap (λ (o : Option Terms). unwrap_or (option_map (λ u. entry_content u q.room.part (2 ^ (next_version % 2)) q.entry) o) (emptied q.room.part.slot)) s.named in
      let x = entry_content (terms_of p s.listed.table) q.room.part (2 ^ (next_version % 2)) q.entry in
      let head = seen_coming cells.version (q.room.part.first + q.entry.action) (few_codes p m c new after units entries_after limits q (in_room q s)) in
      subst (λ y. HoldsNow q s q.entry.number (shown next_version y)) (sym is)
      (subst (HoldsNow q s q.entry.number) (sym (shown_seen next_version x head.0))
      (entry_holds p m c new after units entries_after q (in_room q s) (2 ^ (next_version % 2)) (and_parts (is_occupied x.head) (has_bit next_version x.head) head.0).0 head.1))

  placed_holds : (q : Placed) (there : Contains placed q) → HoldsNow q (its q there) (new.number q.room.part.stage q.room.part.place q.room.cell) (new.content q.room.part.stage q.room.part.place q.room.cell)
  placed_holds q there =
      subst (λ o. HoldsNow q s (settled_number cells o k place n) (shown next_version (settled_content c names cells before o k place n))) (sym (placed_there p m c new after units entries_after placed placed_apart q there)) (by s.kept)
    where
      s : Stands q
      s = its q there

      k : ℕ
      k = q.room.part.stage

      place : ℕ
      place = q.room.part.place

      n : ℕ
      n = q.room.cell

      by : Stays c names cells before q ⊎ Comes c names cells before q
          → HoldsNow q s q.entry.number (shown next_version (cond (stood q.entry) (staying_content next_version (content_in cells q.room)) (coming_content names next_version q)))
      by (inl st) =
          subst (λ b. HoldsNow q s q.entry.number (shown next_version (cond b (staying_content next_version (content_in cells q.room)) (coming_content names next_version q)))) (sym st.stood) (stay_holds q s st)
      by (inr co) =
          subst (λ b. HoldsNow q s q.entry.number (shown next_version (cond b (staying_content next_version (content_in cells q.room)) (coming_content names next_version q)))) (sym co.new) (come_holds q s)

  leaving_unseen : (slot : SlotUnit) (x : Content) → sees true next_version (leaving_content next_version slot x).head ≡ false
  leaving_unseen slot x = by (visible_bits (without_bit next_version x.head) == 0)
    where
      by : (b : Bool) → sees true next_version (cond b (emptied slot) (record x { head = without_bit next_version x.head })).head ≡ false
      by true = refl
      by false = unseen_next cells.version x.head

  none_unseen : (k place n : ℕ) (slot : SlotUnit) → slot_at c k place ≡ Some slot → sees true next_version (settled_content c names cells before None k place n).head ≡ false
  none_unseen k place n slot e = by (is_occupied (cells.content k place n).head) refl
    where
      x : Content
      x = cells.content k place n

      by : (b : Bool) → is_occupied (cells.content k place n).head ≡ b
          → sees true next_version (cond b (unwrap_or (option_map (λ y. leaving_content next_version y (cells.content k place n)) (slot_at c k place)) (cells.content k place n)) (cells.content k place n)).head ≡ false
      by false f = and_left (is_occupied (cells.content k place n).head) (has_bit next_version (cells.content k place n).head) f
      by true f =
          subst (λ (o : Option SlotUnit). sees true next_version (unwrap_or (option_map (λ y. leaving_content next_version y (cells.content k place n)) o) (cells.content k place n)).head ≡ false) (sym e)
          (leaving_unseen slot (cells.content k place n))

  only_placed : (k place n : ℕ) (slot : SlotUnit) → slot_at c k place ≡ Some slot → is_seen (new.content k place n).head ≡ true → (q : Placed) × (placed_at placed k place n ≡ Some q)
  only_placed k place n slot at = seen_placed next_version placed k place n (λ o. settled_content c names cells before o k place n) (none_unseen k place n slot at)

  -- each entry that is placed stands in its room
  pub placed_stand : (q : Placed) → Contains placed q → StandsIn p c new after q
  placed_stand q there = in_room q (its q there)

  -- it stays or comes
  pub placed_kept : (q : Placed) → Contains placed q → Stays c names cells before q ⊎ Comes c names cells before q
  placed_kept q there = (its q there).kept

  -- and is seen by the next version
  pub placed_occupied : (q : Placed) → Contains placed q → is_occupied ((settled c names cells before placed).content q.room.part.stage q.room.part.place q.room.cell).head ≡ true
  placed_occupied q there =
      let x = (settled c names cells before placed).content q.room.part.stage q.room.part.place q.room.cell in
      (and_parts (is_occupied x.head) (has_bit next_version x.head) (seen_from next_version x (placed_holds q there).seen)).0

  pub its_cell : (q : Placed) → Contains placed q → IsCell c q.room.part.stage q.room.part.place q.room.cell
  its_cell q there = cell_of_spot c q.entry.table (spot q) (its_spot q (its q there))

  pub at_its_cell : (q : Placed) → Contains placed q → placed_at placed q.room.part.stage q.room.part.place q.room.cell ≡ Some q
  at_its_cell q there = placed_there p m c new after units entries_after placed placed_apart q there

  pub each_is_placed : (e : Entry) → Contains (all_entries after) e → (q : Placed) × Contains placed q × (q.entry ≡ e)
  each_is_placed e there = each_placed c names cells before after placed made e there (has_room e there)

  now_carried : (now : List CellOf) × CellsCarried p c new now after
  now_carried = (
    map told_of placed,
    all_carried p m c new after units entries_after placed placed_apart (λ q there. in_room q (its q there)) placed_differ
        each_is_placed
        placed_holds only_placed,
  )

pub entries_kept : CommitsKeepEntries
entries_kept p m c names cells before after next seed told limits naming units entries_before entries_after keep carried (stays placed made) =
    now_carried p m c names cells before after told placed limits naming units entries_before entries_after keep carried made
