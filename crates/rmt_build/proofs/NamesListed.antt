-- What is told of the cells that the parts of a table list, part by part: the same of its entries, by rising cell; and what those cells hold.
use Rattle.std.proofs.Common.{◌≡◌, ℕ, ◌+◌, ◌<◌, ◌∙◌, List, [], Option, Some, length, map, get_or, refl, sym, ap, subst, inl, inr, arith}
use Rattle.std.specs.Prelude.{All, Contains, IsSomeAnd, option_map, slice_get, unwrap_or}
use Rattle.std.specs.List.{flat_map}
use Rattle.std.proofs.lemmas.List.{append-nil}
use Rattle.std.proofs.lemmas.List.Elements.{Contains-get_or}
use Rattle.std.proofs.lemmas.Option.{get_or_from_slice_get}
use Rattle.std.proofs.lemmas.Simd.{map-map}
use Rattle.rmt_bits.proofs.ListLaws.{slice_get-item}
use Rattle.rmt_bits.proofs.MemberLaws.{Contains-item}
use Rattle.rmt_ast.specs.declared.entry.Entry.{Entry}
use Rattle.rmt_ast.specs.EntryLists.{AreEntries}
use Rattle.rmt_ast.specs.State.{width_of}
use Rattle.rmt_config.specs.Cells.{candidates}
use Rattle.rmt_config.specs.LaneForm.{bits_of_lanes}
use Rattle.rmt_config.specs.NamesForm.{held_by}
use Rattle.rmt_config.specs.Rooms.{PartAt, parts_among, parts_of, tests_as_one}
use Rattle.rmt_config.specs.Instructions.{first_code}
use Rattle.rmt_refine.specs.Cells.{HoldsEntry, Spot}
use Rattle.rmt_refine.specs.Units.{UnitsCarried, table_at}
use Rattle.rmt_refine.specs.View.{slot_of}
use Rattle.rmt_pack.proofs.PartLaws.{and_at}
use Rattle.rmt_refine.proofs.PartLaws.{spot_of_part}
use Rattle.rmt_refine.proofs.TheLaw.{table_entries}
use Rattle.rmt_build.specs.Types.{CellNumber, Config, Program, SlotUnit, Stage, Table, Test}
use Rattle.rmt_filling.specs.declared.plan.Plan.{Plan}
use Rattle.rmt_filling.specs.declared.stands.Stand.{Stand}
use Rattle.rmt_build.specs.BuiltStage.{HoldsStand, IsBuiltSlot, IsBuiltStage}
use Rattle.rmt_filling.specs.EntryCells.{StandOnce, cells_for, counted_from, stands_within}
use Rattle.rmt_filling.specs.Numbers.{number_at}
use Rattle.rmt_build.specs.Plans.{AreStands, stands_of_part}
use Rattle.rmt_filling.specs.Formats.{format_at}
use Rattle.rmt_build.specs.Told.{cells_told}
use Rattle.rmt_build.proofs.CellsLaws.{each_stands, stands_told}
use Rattle.rmt_build.proofs.NamesListedParts.{IsPartOf, NoPart, OnePart, by_stage, parts_in_stage}
use Rattle.rmt_build.proofs.NamesListedStands.{all_parts, no_cell, no_quanta, stands_in}
use Rattle.rmt_build.proofs.SpotLaws.{part_size, rising_place, slot_built, stand_there}
use Rattle.rmt_build.proofs.StandLaws.{behind_parts, entry_within, first_cell, one_stand, part_cells}
use Rattle.rmt_build.proofs.TableLaws.{AreInRows, AreLoaded, own_content_is, table_cells}
use Rattle.rmt_bits.proofs.AlikeLaws.{map_alike}

-- the cell of a part in which an entry stands holds it, as the part's instructions are numbered
pub record StandHolds (p : Program) (c : Config) (t : Table) (es : List Entry) (part : PartAt) (s : Stand) : Type 0 where
  pub entry : Entry
  pub is : slice_get es s.entry ≡ Some entry
  pub number_is : (number_at es s).number ≡ entry.number
  pub holds : HoldsEntry p t (map (width_of p) t.key) part.first entry entry.number (held_by c part (number_at es s))

-- it is one in which the entry's key may stand
abbrev pub MayStand : Program → Config → Table → List Entry → PartAt → Stand → Type 0
MayStand p c t es part s =
    (e : Entry) → slice_get es s.entry ≡ Some e
    → Contains (candidates c.seed (bits_of_lanes part.slot.keys) part.slot.memory (tests_as_one (λ (u : Test). u.value) (map (width_of p) t.key) e.tests)) s.cell

module _ (p : Program) (lists : List (List Entry)) (plan : Plan) (c : Config) (entries : AreEntries p lists)
    (units : UnitsCarried p plan.places plan.placement.parts plan.starts c) (stands : AreStands p lists plan.placement.parts plan.stands)
    (built : (k : ℕ) (stage : Stage) → slice_get c.stages k ≡ Some stage → IsBuiltStage p lists plan k stage)
    (n : ℕ) (t : Table) (es : List Entry) (own : List Stand) (table_is : table_at p n ≡ Some t) (es_are : slice_get lists n ≡ Some es) (own_is : slice_get plan.stands n ≡ Some own) where
  once : StandOnce (length es) own
  once = stands.each n es own es_are own_is

  -- each entry stands in a part
  in_parts : All (λ (s : Stand). s.cell < first_cell t.kind (format_at p n).per plan.placement.parts n (length c.stages)) own
  in_parts i d lt =
      let s = get_or own i d in
      let there = Contains-get_or own i d lt in
      let e = slice_get-item es s.entry (entry_within (length es) own once s there) in
      let r = each_stands p lists plan c (cells_told (length p.nodes) c.stages) entries units stands built refl n t es own table_is es_are own_is e.0 (Contains-item es s.entry e.0 e.1) in
      let place = rising_place es r.3.stand.entry s.entry e.0 e.0 (table_entries p lists n t es entries table_is es_are).rising r.3.entry_is e.1 refl in
      let cell = ap (λ (x : Stand). x.cell) (one_stand (length es) own once r.3.stand s r.3.there there place) in
      let behind = behind_parts t.kind (format_at p n).per plan.placement.parts n r.0 (length c.stages) r.2 in
      omega (arith, cell, r.3.cell_is, r.3.within, behind)

  -- those of the part in a stage
  there_are : (k : ℕ) → stands_of_part p plan t n k
      ≡ stands_within (first_cell t.kind (format_at p n).per plan.placement.parts n k) (part_cells t.kind (format_at p n).per plan.placement.parts n k) own
  there_are k =
      ap (stands_within (first_cell t.kind (format_at p n).per plan.placement.parts n k) (part_cells t.kind (format_at p n).per plan.placement.parts n k))
      (get_or_from_slice_get plan.stands n own [] own_is)

  slot_of_part : (part : PartAt) → (is : IsPartOf c n part) → IsBuiltSlot p plan part.stage part.place is.in_stage part.slot t es
  slot_of_part part is = slot_built p lists plan c entries units stands built n part.stage part.place is.in_stage part.slot is.is t es own table_is es_are own_is

  pub numbers_are : (part : PartAt) → IsPartOf c n part → part.slot.numbers ≡ map (number_at es) (stands_of_part p plan t n part.stage)
  numbers_are part is = (slot_of_part part is).numbers ∙ ap (λ m. map (number_at es) (stands_of_part p plan t m part.stage)) is.is.node_is

  -- ---- all cells that are listed

  module _ {A : Type 0} (h : PartAt → CellNumber → A) (g : ℕ → A)
      (each : (part : PartAt) → IsPartOf c n part → All (λ (s : Stand). h part (number_at es s) ≡ g s.entry) (stands_of_part p plan t n part.stage)) where
    abbrev of_part : PartAt → List A
    of_part part = map (h part) part.slot.numbers

    abbrev of_stand : Stand → A
    of_stand s = g s.entry

    in_stage : (k : ℕ) (stage : Stage) → slice_get c.stages k ≡ Some stage
        → flat_map of_part (parts_among n k 0 0 stage.units) ≡ map of_stand (stands_in t.kind (format_at p n).per plan.placement.parts n own once.rise k)
    in_stage k stage at = elim (parts_in_stage p lists plan c entries units stands built n t table_is k stage at) [
      | inl one ↦ with_part one
      | inr absent ↦ without absent
    ]
      where
        first : ℕ
        first = first_cell t.kind (format_at p n).per plan.placement.parts n k

        with_part : OnePart c n k stage.units → flat_map of_part (parts_among n k 0 0 stage.units)
            ≡ map of_stand (stands_in t.kind (format_at p n).per plan.placement.parts n own once.rise k)
        with_part one =
            let part = one.part in
            let there = stands_of_part p plan t n part.stage in
            ap (flat_map of_part) one.alone
            ∙ append-nil (of_part part)
            ∙ ap (map (h part)) (numbers_are part one.is)
            ∙ map-map (h part) (number_at es) there
            ∙ map_alike (λ s. h part (number_at es s)) of_stand there (each part one.is)
            ∙ ap (λ j. map of_stand (stands_of_part p plan t n j)) one.stage_is
            ∙ ap (map of_stand) (there_are k)
            ∙ map-map of_stand (counted_from first) (stands_in t.kind (format_at p n).per plan.placement.parts n own once.rise k)

        without : NoPart plan n k stage.units → flat_map of_part (parts_among n k 0 0 stage.units)
            ≡ map of_stand (stands_in t.kind (format_at p n).per plan.placement.parts n own once.rise k)
        without absent =
            let none : part_cells t.kind (format_at p n).per plan.placement.parts n k ≡ 0 = ap (cells_for t.kind (format_at p n).per) absent.quanta ∙ no_quanta t.kind (format_at p n).per in
            ap (flat_map of_part) absent.none ∙ sym (ap (map of_stand) (no_cell first (part_cells t.kind (format_at p n).per plan.placement.parts n k) own none))

    -- what is told of each, part by part, is told of the entries by rising cell
    pub listed : flat_map of_part (parts_of c n) ≡ map of_stand own
    listed =
        by_stage of_part n 0 (λ k. map of_stand (stands_in t.kind (format_at p n).per plan.placement.parts n own once.rise k)) c.stages (λ k stage at.
        let none : k ≡ 0 + k = omega arith in
        subst (λ j. flat_map of_part (parts_among n j 0 0 stage.units) ≡ map of_stand (stands_in t.kind (format_at p n).per plan.placement.parts n own once.rise j)) none (in_stage k stage at))
        ∙ all_parts t.kind (format_at p n).per plan.placement.parts n own once.rise of_stand (length c.stages) in_parts

  -- ---- what they hold

  pub each_holds : (part : PartAt) → IsPartOf c n part → All (StandHolds p c t es part) (stands_of_part p plan t n part.stage)
  each_holds part is i d lt =
      let there = subst (λ m. All (HoldsStand p t es (first_code is.in_stage part.place) is.in_stage part.slot) (stands_of_part p plan t m part.stage)) is.is.node_is (slot_of_part part is).holds in
      let h = there i d lt in
      let s = get_or (stands_of_part p plan t n part.stage) i d in
      let content = own_content_is c n part.stage part.place s.cell is.in_stage part.slot is.is in
      record {
        entry = h.entry;
        is = h.is;
        number_is = ap (λ (o : Option Entry). unwrap_or (option_map (λ (x : Entry). x.number) o) 0) h.is;
        holds =
            subst (λ f. HoldsEntry p t (map (width_of p) t.key) f h.entry h.entry.number (held_by c part (number_at es s))) (sym is.first_is)
            (subst (HoldsEntry p t (map (width_of p) t.key) (first_code is.in_stage part.place) h.entry h.entry.number) (sym content) h.holds);
      }

  module _ (loaded : AreLoaded p lists plan c (cells_told (length p.nodes) c.stages) entries units stands built refl)
      (in_rows : AreInRows p lists plan c (cells_told (length p.nodes) c.stages) entries units stands built refl) where
    pub each_may_stand : (part : PartAt) → IsPartOf c n part → All (MayStand p c t es part) (stands_of_part p plan t n part.stage)
    each_may_stand part is i d lt e at =
        let cells = cells_told (length p.nodes) c.stages in
        let k = part.stage in
        let place = part.place in
        let stage = is.in_stage in
        let slot = part.slot in
        let s = get_or (stands_of_part p plan t n k) i d in
        let there = subst (λ m. Contains (stands_of_part p plan t m k) s) (sym is.is.node_is) (Contains-get_or (stands_of_part p plan t n k) i d lt) in
        let stand = stand_there p lists plan c entries units stands built n k place stage slot is.is t es own table_is es_are own_is s there e at in
        let size = part_size p lists plan c entries units stands built n k place stage slot is.is t es own table_is es_are own_is in
        let spot = spot_of_part c n k place s.cell stage slot is.is (omega (arith, stand.within, size)) in
        let told = stands_told p lists plan c cells entries units stands built refl n t es own table_is es_are own_is e k place s.cell stage slot is.is stand in
        let spot_at : Spot = record { stage = k; place = place; cell = s.cell } in
        let key = tests_as_one (λ (u : Test). u.value) (map (width_of p) t.key) e.tests in
        let all = table_cells p lists plan c cells entries units stands built refl n t es own table_is es_are own_is loaded in_rows in
        let may = all.candidate e spot_at (Contains-item es s.entry e at) spot told in
        and_at (slot_of stage place) (λ (y : SlotUnit). Contains (candidates c.seed (bits_of_lanes y.keys) y.memory key) s.cell) slot is.is.slot_is
        (and_at (slice_get c.stages k) (λ (x : Stage). IsSomeAnd (slot_of x place) (λ (y : SlotUnit). Contains (candidates c.seed (bits_of_lanes y.keys) y.memory key) s.cell)) stage is.is.stage_is may)
