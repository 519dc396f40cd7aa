-- What packets of the first version see of a configuration's own cells is what it holds, where every occupied cell has both visible bits.
use Rattle.std.proofs.Common.{◌≡◌, ℕ, ◌+◌, ◌/◌, ◌%◌, ◌^◌, ◌<◌, ◌==◌, ◌&&◌, Bool, true, false, cond, List, Option, Some, None, All, Contains, refl, sym, ap, subst, ◌∙◌, arith}
use Rattle.std.specs.Prelude.{bit_and, find, is_some, nat_le, nat_lt, option_and_then, option_map, slice_get}
use Rattle.std.specs.List.{list_all}
use Rattle.std.proofs.lemmas.Bool.{and_from, and_parts, eq-eqb, eqb-true}
use Rattle.std.proofs.lemmas.List.Elements.{All-contains}
use Rattle.rmt_bits.proofs.AllLaws.{All-from_test, All-slice_get}
use Rattle.rmt_bits.proofs.FunctionLaws.{funext}
use Rattle.rmt_bits.proofs.ListLaws.{find-passes}
use Rattle.rmt_ast.specs.declared.entry.Entry.{Entry}
use Rattle.rmt_ast.specs.declared.names.Names.{Names}
use Rattle.rmt_ast.specs.EntryLists.{AreEntries}
use Rattle.rmt_refine.specs.Types.{Config, Program, SlotUnit, Stage, Table}
use Rattle.rmt_config.specs.Instructions.{first_code}
use Rattle.rmt_config.specs.LaneForm.{bits_of_lanes}
use Rattle.rmt_config.specs.CellForm.{Coded, SlotHolds, StageHolds, cells_of, content_is_formed}
use Rattle.rmt_config.specs.Order.{rises_from}
use Rattle.rmt_config.specs.Cells.{Content, Found, candidates, cells_in, code_of, content_of, has_key, is_occupied, is_seen, visible_bits}
use Rattle.rmt_config.specs.Commits.{all_entries}
use Rattle.rmt_config.specs.RunCells.{RunCells, has_bit, is_hit, own_cells, sees}
use Rattle.rmt_config.specs.RunCells as run
use Rattle.rmt_refine.specs.declared.map.CellOf.{CellOf}
use Rattle.rmt_refine.specs.declared.map.Map.{Map}
use Rattle.rmt_refine.specs.View.{View, look_in, own_content, own_view}
use Rattle.rmt_refine.specs.View as view
use Rattle.rmt_refine.specs.Units.{UnitsCarried}
use Rattle.rmt_refine.specs.Cells.{CellsCarried, HoldsEntry, IsSpotOf, Spot, TableCellsCarried}
use Rattle.rmt_refine.specs.Commits.{seen_by}
use Rattle.rmt_refine.specs.Outcomes.{entries_at}
use Rattle.rmt_refine.proofs.CellNumberLaws.{cells_listed, coded_slot, part_table}
use Rattle.rmt_refine.proofs.OutcomeLaws.{list_at}
use Rattle.rmt_refine.proofs.EntryLaws.{listed_in}
use Rattle.rmt_pack.proofs.PartLaws.{IsPart, part_of_slot}
use Rattle.rmt_refine.proofs.PartLaws.{part_of_spot, spot_of_part}
use Rattle.rmt_refine.proofs.StandLaws.{seen_from, shown, shown_seen}
use Rattle.rmt_refine.proofs.ViewLaws.{content_is}

-- ---- look-ups in what a packet sees

module _ (v : ℕ) (cells : RunCells) (k place key : ℕ) where
  hit_shown : (x : Content) → is_hit true v key x ≡ has_key key (shown v x)
  hit_shown x = by (sees true v x.head) refl
    where
      by : (b : Bool) → sees true v x.head ≡ b → is_hit true v key x ≡ has_key key (shown v x)
      by true e =
          let occupied = (and_parts (is_occupied x.head) (has_bit v x.head) e).0 in
          ap (λ b. b && (bit_and key x.mask == x.key)) (e ∙ sym occupied) ∙ ap (has_key key) (sym (shown_seen v x e))
      by false e = ap (λ b. b && (bit_and key x.mask == x.key)) e ∙ ap (λ b. has_key key (cond b x view.no_content)) (sym e)

  slot_shown : (slot : SlotUnit) → run.found_in_slot true v cells k place key slot ≡ view.found_in_slot (seen_by v cells) k place key slot
  slot_shown slot =
      by (find test among) refl
      ∙ ap (λ (test : ℕ → Bool). option_map (view.found_at (seen_by v cells) k place) (find test among)) (funext test (λ n. has_key key (shown v (cells.content k place n))) (λ n. hit_shown (cells.content k place n)))
    where
      among : List ℕ
      among = candidates cells.seed (bits_of_lanes slot.keys) slot.memory key

      test : ℕ → Bool
      test n = is_hit true v key (cells.content k place n)

      found_by : Content → ℕ → Found
      found_by x number = record { code = code_of x.head; held = x.held; number = number }

      by : (o : Option ℕ) → find test among ≡ o → option_map (run.found_at cells k place) o ≡ option_map (view.found_at (seen_by v cells) k place) o
      by None e = refl
      by (Some n) e =
          let x = cells.content k place n in
          let seen = (and_parts (sees true v x.head) (bit_and key x.mask == x.key) (find-passes test among n e)).0 in
          ap (λ (y : Content). Some (found_by y (cells.number k place n))) (sym (shown_seen v x seen))

  -- a packet finds in cells what look-ups find in the view of its version
  pub look_shown : (c : Config) (names : Names) → c.names ≡ Some names → run.look_in c v cells k place key ≡ look_in c (seen_by v cells) k place key
  look_shown c names named =
      ap (λ (o : Option Names). option_and_then (run.found_in_slot (is_some o) v cells k place key) (run.slot_at c k place)) named ∙ by (run.slot_at c k place)
    where
      by : (o : Option SlotUnit) → option_and_then (run.found_in_slot true v cells k place key) o ≡ option_and_then (view.found_in_slot (seen_by v cells) k place key) o
      by None = refl
      by (Some slot) = slot_shown slot

-- ---- own cells

-- a cell that is occupied has the visible bits that the rules of form ask for
pub cell_visible : (visible : ℕ) (stage : Stage) (first : ℕ) (slot : SlotUnit) → SlotHolds visible stage first slot → (n : ℕ) → n < cells_in slot.memory → is_seen (content_of stage slot n).head ≡ true
    → visible_bits (content_of stage slot n).head ≡ visible
cell_visible visible stage first slot holds n lt seen =
    let listed = (cells_listed visible stage first slot holds).others n lt seen in
    let front = rises_from 0 (cells_of slot) && list_all (λ x. nat_lt x (cells_in slot.memory)) (cells_of slot) in
    let formed = (and_parts front (list_all (λ x. content_is_formed visible first slot (content_of stage slot x)) (cells_of slot)) holds.numbers).1 in
    let own = All-contains (λ x. content_is_formed visible first slot (content_of stage slot x) ≡ true) (cells_of slot) n
    (All-from_test (λ x. content_is_formed visible first slot (content_of stage slot x) ≡ true) (λ x. content_is_formed visible first slot (content_of stage slot x)) (λ x e. e) (cells_of slot) formed) listed in
    let head = (content_of stage slot n).head in
    let two = is_occupied head && (visible_bits head == visible) in
    let three = two && nat_le first (code_of head) in
    eqb-true (visible_bits head) visible
    (and_parts (is_occupied head) (visible_bits head == visible) (and_parts two (nat_le first (code_of head)) (and_parts three (nat_lt (code_of head) (first + slot.actions)) own).0).0).1

both_bits : (h : ℕ) → is_occupied h ≡ true → visible_bits h ≡ 3 → sees true 0 h ≡ true
both_bits h occupied bits = and_from (is_occupied h) (has_bit 0 h) occupied (eq-eqb (h / 2 ^ 1 % 2) 1 (low (h / 2 ^ 1) bits))
  where
    low : (x : ℕ) → x % 2 ^ 2 ≡ 3 → x % 2 ≡ 1
    low x e = omega (arith, e)

-- ---- what is seen of a part

-- a cell of a part that is seen in a view has the number of an entry of its table
pub record SeenEntry (lists : List (List Entry)) (n number : ℕ) : Type 0 where
  pub entry : Entry
  pub list_is : slice_get lists n ≡ Some (entries_at lists n)
  pub there : Contains (entries_at lists n) entry
  pub number_is : number ≡ entry.number

pub seen_entry : (p : Program) (m : Map) (c : Config) (v : View) (told : List CellOf) (lists : List (List Entry)) (n k place cell : ℕ) (stage : Stage) (slot : SlotUnit)
    → UnitsCarried p m.places m.placement.parts m.starts c → AreEntries p lists → CellsCarried p c v told lists → IsPart c n k place stage slot → cell < cells_in slot.memory
    → is_seen (v.content k place cell).head ≡ true → SeenEntry lists n (v.number k place cell)
seen_entry p m c v told lists n k place cell stage slot units entries carried part lt seen =
    let t = part_table p m c n k place stage slot units part in
    let list = list_at p lists n t.node entries t.node_is in
    let own = carried.tables n t.table (entries_at lists n) t.table_is list.0 in
    let at : Spot = record { stage = k; place = place; cell = cell } in
    let is = spot_of_part c n k place cell stage slot part lt in
    let e = own.only at is seen in
    record { entry = e.0; list_is = list.0; there = e.1; number_is = (own.holds e.0 at stage e.1 is e.2 part.stage_is).number_is }

-- ---- the start of a run

module _ (p : Program) (lists : List (List Entry)) (told : List CellOf) (c : Config) (carried : CellsCarried p c (own_view c) told lists) (memory : All (StageHolds 3) c.stages) where
  start_seen : (n : ℕ) (at : Spot) → IsSpotOf c n at → is_seen (own_content c at.stage at.place at.cell).head ≡ true → sees true 0 (own_content c at.stage at.place at.cell).head ≡ true
  start_seen n at is seen =
      let part = part_of_spot c n at is in
      let content = content_is c at.stage at.place part.0 part.1 part.2.stage_is part.2.slot_is at.cell in
      let there : is_seen (content_of part.0 part.1 at.cell).head ≡ true = sym (ap (λ (x : Content). is_seen x.head) content) ∙ seen in
      let coded = coded_slot (λ (x : Coded). SlotHolds 3 part.0 x.first x.slot) part.0.units 0 at.place part.1 part.2.slot_is (All-slice_get (StageHolds 3) c.stages at.stage part.0 memory part.2.stage_is) in
      ap (λ (x : Content). sees true 0 x.head) content ∙ both_bits (content_of part.0 part.1 at.cell).head there (cell_visible 3 part.0 coded.0 part.1 coded.1 at.cell part.3 there)

  start_table : (n : ℕ) (t : Table) (es : List Entry) (widths : List ℕ) → TableCellsCarried p c (own_view c) told n t widths es → TableCellsCarried p c (seen_by 0 (own_cells c)) told n t widths es
  start_table n t es widths own = record {
    only = λ at is seen.
        let x = own_content c at.stage at.place at.cell in
        own.only at is (and_parts (is_occupied x.head) (has_bit 0 x.head) (seen_from 0 x seen)).0;
    each = own.each;
    one = own.one;
    holds = λ e at stage there is is_told stage_is.
        let h = own.holds e at stage there is is_told stage_is in
        subst (HoldsEntry p t widths (first_code stage at.place) e ((own_view c).number at.stage at.place at.cell)) (sym (shown_seen 0 (own_content c at.stage at.place at.cell) (start_seen n at is h.seen))) h;
    candidate = own.candidate;
    order = own.order;
  }

  pub start_carried : CellsCarried p c (seen_by 0 (own_cells c)) told lists
  start_carried = record { tables = λ n t es at list. start_table n t es _ (carried.tables n t es at list); once = carried.once; no_other = carried.no_other }

-- each occupied cell has the number of an entry
pub own_used : (p : Program) (m : Map) (c : Config) (lists : List (List Entry)) → UnitsCarried p m.places m.placement.parts m.starts c → AreEntries p lists → (told : List CellOf) → CellsCarried p c (own_view c) told lists
    → (next : ℕ) → All (λ (e : Entry). e.number < next) (all_entries lists) → (k place n : ℕ) (slot : SlotUnit) → run.slot_at c k place ≡ Some slot → n < cells_in slot.memory
    → is_occupied (own_content c k place n).head ≡ true → (own_view c).number k place n < next
own_used p m c lists units entries told carried next below k place n slot at lt h =
    let part = part_of_slot c slot.node k place slot at refl in
    let e = seen_entry p m c (own_view c) told lists slot.node k place n part.0 slot units entries carried part.1 lt h in
    let less = All-contains (λ (x : Entry). x.number < next) (all_entries lists) e.entry below (listed_in lists slot.node (entries_at lists slot.node) e.entry e.list_is e.there) in
    omega (arith, e.number_is, less)
