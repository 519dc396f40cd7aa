-- The cells of a configuration that is built by a plan hold the entries, as the map tells.
use Rattle.std.proofs.Common.{◌≡◌, ℕ, zero, suc, ◌+◌, ◌-◌, ◌*◌, ◌<◌, ◌≤◌, List, Option, Some, length, map, refl, sym, ap, ◌∙◌, subst, inl, inr, arith}
use Rattle.std.specs.Prelude.{All, AllPairs, Contains, IsSomeAnd, MatchOption, nat_lt, option_and_then, slice_get, sum_by, ⊤}
use Rattle.std.specs.List.{AllZip, range_with_len}
use Rattle.std.proofs.lemmas.Bool.{lt-ltb}
use Rattle.std.proofs.lemmas.List.Elements.{All-weaker, All-contains}
use Rattle.std.proofs.lemmas.Option.{get_or_from_slice_get, none-some, same_Some, slice_get_within}
use Rattle.std.proofs.lemmas.Slice.Zip.{AllZip-left}
use Rattle.rmt_bits.proofs.ListLaws.{slice_get-item}
use Rattle.rmt_build.specs.Types.{Program, Table, Kind, Node, What, Config, Stage, Unit, SlotUnit}
use Rattle.rmt_ast.specs.declared.program.Kind.TheVariants.{Keyless, Exact, Prefix, Ternary}
use Rattle.rmt_ast.specs.declared.program.What.TheVariants as what
use Rattle.rmt_ast.specs.declared.entry.Entry.{Entry}
use Rattle.rmt_ast.specs.EntryLists.{AreEntries}
use Rattle.rmt_config.specs.declared.config.Unit.TheVariants.{Gate, Slot}
use Rattle.rmt_pack.specs.declared.placement.Part.{Part}
use Rattle.rmt_pack.specs.Placements.{quanta_in, quanta_of}
use Rattle.rmt_bounds.proofs.StageSums.{Within, quanta_of-le-total, total, total-same}
use Rattle.rmt_refine.specs.declared.map.CellOf.{CellOf}
use Rattle.rmt_refine.specs.Cells.{IsTold, Spot}
use Rattle.rmt_refine.specs.Units.{DoesAs, UnitCarried, UnitsCarried, applied, nodes_in, table_at}
use Rattle.rmt_refine.specs.View.{as_slot}
use Rattle.rmt_pack.proofs.FindLaws.{Contains-range}
use Rattle.rmt_refine.proofs.NumberLaws.{one_list}
use Rattle.rmt_pack.proofs.PartLaws.{IsPart, and_at, then_some}
use Rattle.rmt_refine.proofs.PartLaws.{some_and}
use Rattle.rmt_refine.proofs.TheLaw.{table_entries}
use Rattle.rmt_filling.specs.declared.plan.Plan.{Plan}
use Rattle.rmt_filling.specs.declared.stands.Stand.{Stand}
use Rattle.rmt_build.specs.BuiltStage.{IsBuiltStage}
use Rattle.rmt_build.specs.Plans.{AreStands, quanta_before}
use Rattle.rmt_filling.specs.Formats.{format_at}
use Rattle.rmt_filling.specs.EntryCells.{cells_for}
use Rattle.rmt_build.specs.Told.{cells_told}
use Rattle.rmt_build.proofs.PartLaws.{sum_more}
use Rattle.rmt_build.proofs.SpotLaws.{StandsAt, listed_stands, rising_place, stands_listed, table_of_part}
use Rattle.rmt_build.proofs.StandLaws.{behind_parts, entry_there, first_cell, one_stand, some_part}
use Rattle.rmt_build.proofs.ToldLaws.{listed_told, slot_there, told_listed}
use Rattle.rmt_bits.proofs.MemberLaws.{Contains-map, Contains-filter}
use Rattle.rmt_refine.proofs.RankLaws.{compare}

-- ---- members of lists of entries

item_of : (es : List Entry) (e : Entry) → Contains es e → (i : ℕ) × (slice_get es i ≡ Some e)
item_of es e there =
    let r = slice_get-item es there.0 there.1 in
    (there.0, r.1 ∙ ap Some (sym (get_or_from_slice_get es there.0 r.0 e r.1) ∙ there.2))

pub same_entry : (es : List Entry) (e f : Entry) → AllPairs (λ (a b : Entry). a.number < b.number) es → Contains es e → Contains es f → e.number ≡ f.number → e ≡ f
same_entry es e f rise in_e in_f same =
    let i = item_of es e in_e in
    let j = item_of es f in_f in
    same_Some e f (sym i.1 ∙ ap (slice_get es) (rising_place es i.0 j.0 e f rise i.1 j.1 same) ∙ j.1)

-- ---- all quanta of a node stand in the stages

sum_total : (f : ℕ → ℕ) (k : ℕ) → sum_by f (range_with_len 0 k) ≡ total f k
sum_total f zero = refl
sum_total f (suc k) =
    let e : suc k ≡ k + 1 = omega arith in
    ap (λ n. sum_by f (range_with_len 0 n)) e ∙ sum_more f k ∙ ap (λ n. n + f k) (sum_total f k)

pub all_quanta : (parts : List Part) (n stages : ℕ) → All (λ (x : Part). x.stage < stages) parts → quanta_of parts n ≤ quanta_before parts n stages
all_quanta parts n stages below =
    let within = All-weaker (λ (x : Part). x.stage < stages) (Within n 0 stages) (λ (x : Part) lt own some. (omega arith, omega (arith, lt))) parts below in
    let same = total-same (λ s. quanta_in parts n (0 + s)) (quanta_in parts n) stages (λ s. (let e : 0 + s ≡ s = omega arith in ap (quanta_in parts n) e)) in
    omega (arith, quanta_of-le-total parts n 0 stages within, same, sum_total (quanta_in parts n) stages)

cells_le : (kind : Kind) (per a b : ℕ) → a ≤ b → cells_for kind per a ≤ cells_for kind per b
cells_le Keyless per a b le = omega arith
cells_le Exact per a b le = let e : 4096 * b * per ≡ 4096 * a * per + 4096 * (b - a) * per = more in omega (arith, e)
  where
    more : 4096 * b * per ≡ 4096 * a * per + 4096 * (b - a) * per
    more = let s : b ≡ a + (b - a) = omega (arith, le) in ap (λ n. 4096 * n * per) s ∙ omega arith
cells_le Prefix per a b le = omega (arith, le)
cells_le Ternary per a b le = omega (arith, le)

pub no_cells : (kind : Kind) (per q cell : ℕ) → cell < cells_for kind per q → 0 < q
no_cells kind per zero cell lt = absurd (by kind lt)
  where
    by : (kd : Kind) → cell < cells_for kd per 0 → ⊥
    by Keyless h = omega (arith, h)
    by Exact h = omega (arith, h)
    by Prefix h = omega (arith, h)
    by Ternary h = omega (arith, h)
no_cells kind per (suc q) cell lt = omega arith

module _ (p : Program) (lists : List (List Entry)) (plan : Plan) (c : Config) (cells : List CellOf) (entries : AreEntries p lists)
    (units : UnitsCarried p plan.places plan.placement.parts plan.starts c) (stands : AreStands p lists plan.placement.parts plan.stands)
    (built : (k : ℕ) (stage : Stage) → slice_get c.stages k ≡ Some stage → IsBuiltStage p lists plan k stage)
    (cells_are : cells ≡ cells_told (length p.nodes) c.stages) where
  -- the part that a node with quanta in a stage has there
  pub part_in : (n k : ℕ) (t : Table) → table_at p n ≡ Some t → n < length p.nodes → k < length c.stages → 0 < quanta_in plan.placement.parts n k
      → (place : ℕ) × (stage : Stage) × (slot : SlotUnit) × IsPart c n k place stage slot
  part_in n k t table lt within some =
      let parts = plan.placement.parts in
      let nodes = nodes_in p parts k in
      let stage = some_and (slice_get c.stages k) (λ (s : Stage). AllZip (UnitCarried p plan.places parts k) nodes s.units) (units.units k within) in
      let there = Contains-filter (λ m. nat_lt 0 (quanta_in parts m k)) (range_with_len 0 (length p.nodes)) n (Contains-range (length p.nodes) n lt) (lt-ltb 0 (quanta_in parts n k) some) in
      let item = slice_get-item nodes there.0 there.1 in
      let at : slice_get nodes there.0 ≡ Some n = item.1 ∙ ap Some (sym (get_or_from_slice_get nodes there.0 item.0 n item.1) ∙ there.2) in
      let zip = subst (λ (o : Option ℕ). MatchOption o ⊤ (λ x. IsSomeAnd (slice_get stage.0.units there.0) (UnitCarried p plan.places parts k x))) at
      (AllZip-left (UnitCarried p plan.places parts k) nodes stage.0.units stage.2 there.0) in
      let u = some_and (slice_get stage.0.units there.0) (UnitCarried p plan.places parts k n) zip in
      by_unit there.0 stage.0 stage.1 u.0 u.1 u.2
    where
      by_what : (place : ℕ) (stage : Stage) → slice_get c.stages k ≡ Some stage → (u : Unit) → slice_get stage.units place ≡ Some u → UnitCarried p plan.places plan.placement.parts k n u
          → (w : What) → applied p w ≡ Some t → DoesAs p plan.places plan.placement.parts k n w u
          → (q : ℕ) × (s : Stage) × (slot : SlotUnit) × IsPart c n k q s slot
      by_what place stage at (Slot slot) unit_is carried w app does =
          (place, stage, slot, record { stage_is = at; slot_is = ap (option_and_then as_slot) unit_is; node_is = carried.number })
      by_what place stage at (Gate g) unit_is carried (what.Apply i) app does = absurd does
      by_what place stage at (Gate g) unit_is carried (what.Gate field test) app does = absurd (none-some t app)

      by_unit : (place : ℕ) (stage : Stage) → slice_get c.stages k ≡ Some stage → (u : Unit) → slice_get stage.units place ≡ Some u → UnitCarried p plan.places plan.placement.parts k n u
          → (q : ℕ) × (s : Stage) × (slot : SlotUnit) × IsPart c n k q s slot
      by_unit place stage at u unit_is carried =
          let node = then_some (λ (x : Node). applied p x.what) (slice_get p.nodes n) t table in
          let does = and_at (slice_get p.nodes n) (λ (x : Node). DoesAs p plan.places plan.placement.parts k n x.what u) node.0 node.1 carried.does in
          by_what place stage at u unit_is carried node.0.what node.2 does

  module _ (n : ℕ) (t : Table) (es : List Entry) (own : List Stand) (table_is : table_at p n ≡ Some t) (es_are : slice_get lists n ≡ Some es) (own_is : slice_get plan.stands n ≡ Some own) where
    is_node : n < length p.nodes
    is_node = let node = then_some (λ (x : Node). applied p x.what) (slice_get p.nodes n) t table_is in slice_get_within p.nodes n node.0 node.1

    -- where the map tells that an entry stands it stands
    pub told_stands : (e : Entry) (at : Spot) → Contains es e → IsTold cells e at → StandsAt p plan n t es own e at.stage at.cell
    told_stands e at there told =
        let x : CellOf = record { entry = e.number; stage = at.stage; cell = at.cell } in
        let r = told_listed (length p.nodes) c.stages x (subst (λ xs. Contains xs x) cells_are told) in
        let q = r.2 in
        let part : IsPart c r.0 q.at q.place q.stage q.own.slot = record { stage_is = q.stage_is; slot_is = slot_there q; node_is = q.own.node_is } in
        let has = table_of_part p lists plan c entries units stands built r.0 q.at q.place q.stage q.own.slot part in
        let its = listed_stands p lists plan c entries units stands built r.0 q.at q.place q.stage q.own.slot part has.table has.entries has.own has.table_is has.entries_are has.own_is q.own.number q.own.there in
        let number : q.own.number.number ≡ e.number = ap (λ (y : CellOf). y.entry) q.own.told in
        let node : r.0 ≡ n =
        one_list lists r.0 n has.entries es e.number entries.numbers_once has.entries_are es_are
        (subst (Contains (map (λ (y : Entry). y.number) has.entries)) (its.2 ∙ number) (Contains-map (λ (y : Entry). y.number) has.entries its.0 its.1))
        (Contains-map (λ (y : Entry). y.number) es e there) in
        let own_part : IsPart c n q.at q.place q.stage q.own.slot = record { stage_is = q.stage_is; slot_is = slot_there q; node_is = q.own.node_is ∙ node } in
        let s = listed_stands p lists plan c entries units stands built n q.at q.place q.stage q.own.slot own_part t es own table_is es_are own_is q.own.number q.own.there in
        let same : s.0 ≡ e = same_entry es s.0 e (table_entries p lists n t es entries table_is es_are).rising s.1 there (s.2 ∙ number) in
        let stage : q.at ≡ at.stage = (let none : q.at ≡ 0 + q.at = omega arith in none) ∙ ap (λ (y : CellOf). y.stage) q.own.told in
        let cell : q.own.number.cell ≡ at.cell = ap (λ (y : CellOf). y.cell) q.own.told in
        subst (λ (y : Entry). StandsAt p plan n t es own y at.stage at.cell) same
        (subst (λ k. StandsAt p plan n t es own s.0 k at.cell) stage (subst (StandsAt p plan n t es own s.0 q.at) cell s.3))

    -- and the map tells where it stands
    pub stands_told : (e : Entry) (k place cell : ℕ) (stage : Stage) (slot : SlotUnit) → IsPart c n k place stage slot → StandsAt p plan n t es own e k cell
        → IsTold cells e (record { stage = k; place = place; cell = cell })
    stands_told e k place cell stage slot part s =
        subst (λ xs. Contains xs (record { entry = e.number; stage = k; cell = cell })) (sym cells_are)
        (listed_told (length p.nodes) n k place c.stages stage slot (record { cell = cell; number = e.number }) is_node part.stage_is part.slot_is part.node_is
        (stands_listed p lists plan c entries units stands built n k place stage slot part t es own table_is es_are own_is e cell s))

    -- each entry stands somewhere
    pub each_stands : (e : Entry) → Contains es e → (k : ℕ) × (cell : ℕ) × (k < length c.stages) × StandsAt p plan n t es own e k cell
    each_stands e there =
        let parts = plan.placement.parts in
        let per = (format_at p n).per in
        let i = item_of es e there in
        let s = entry_there (length es) own (stands.each n es own es_are own_is) i.0 (slice_get_within es i.0 e i.1) in
        let below = All-contains (λ (x : Stand). x.cell < cells_for t.kind per (quanta_of parts n)) own s.0 (stands.within n t own table_is own_is) s.1 in
        let all = cells_le t.kind per (quanta_of parts n) (quanta_before parts n (length c.stages))
        (all_quanta parts n (length c.stages) (All-weaker (λ (x : Part). (x.node < length p.nodes) × (x.stage < length c.stages) × (0 < x.quanta)) (λ (x : Part). x.stage < length c.stages) (λ x h. h.1) parts units.no_other)) in
        let r = some_part t.kind per parts n (length c.stages) s.0.cell (omega (arith, below, all)) in
        let high = r.3 in (
          r.0,
          s.0.cell - first_cell t.kind per parts n r.0,
          r.1,
          record { stand = s.0; there = s.1; entry_is = ap (slice_get es) s.2 ∙ i.1; cell_is = omega (arith, r.2); within = omega (arith, r.2, high) },
        )

    -- in one cell
    pub one_spot : (e : Entry) (j k a b : ℕ) → StandsAt p plan n t es own e j a → StandsAt p plan n t es own e k b → (j ≡ k) × (a ≡ b)
    one_spot e j k a b one two =
        let parts = plan.placement.parts in
        let per = (format_at p n).per in
        let entry = rising_place es one.stand.entry two.stand.entry e e (table_entries p lists n t es entries table_is es_are).rising one.entry_is two.entry_is refl in
        let same = ap (λ (x : Stand). x.cell) (one_stand (length es) own (stands.each n es own es_are own_is) one.stand two.stand one.there two.there entry) in
        elim (compare j k) [
          | inl lt ↦ absurd (let behind = behind_parts t.kind per parts n j k lt in omega (arith, behind, same, one.cell_is, two.cell_is, one.within, two.within))
          | inr (inl gt) ↦ absurd (let behind = behind_parts t.kind per parts n k j gt in omega (arith, behind, same, one.cell_is, two.cell_is, one.within, two.within))
          | inr (inr e_jk) ↦ (e_jk, (let first = ap (first_cell t.kind per parts n) e_jk in omega (arith, same, one.cell_is, two.cell_is, first)))
        ]
