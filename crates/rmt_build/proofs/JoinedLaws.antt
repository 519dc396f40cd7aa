-- A configuration of the stages of a plan: it carries the program, and keeps what is promised beside that.
use Rattle.std.proofs.Common.{◌≡◌, ℕ, ◌+◌, ◌*◌, ◌/◌, ◌-◌, ◌<◌, ◌≤◌, true, List, Option, Some, None, length, map, get_or, refl, sym, ap, subst, ◌∙◌, inl, inr, arith}
use Rattle.std.specs.Prelude.{All, Contains, IsSomeAnd, option_map, slice_get}
use Rattle.std.specs.List.{range_with_len}
use Rattle.std.proofs.lemmas.Nat.{le-div}
use Rattle.std.proofs.lemmas.Option.{get_or_from_slice_get, none-some, slice_get-get_or, slice_get-map}
use Rattle.std.proofs.lemmas.Slice.Zip.{AllZip-long}
use Rattle.rmt_bits.proofs.AllLaws.{All-slice_get}
use Rattle.rmt_bits.proofs.ListLaws.{slice_get-item, AllZip-slice_get}
use Rattle.rmt_bits.specs.declared.lane.Lane.{Lane}
use Rattle.rmt_build.specs.Types.{Program, Test, Table, Kind, Node, What, Config, Stage, Unit, Memory}
use Rattle.rmt_ast.specs.declared.program.Kind.TheVariants.{Keyless, Exact, Prefix, Ternary}
use Rattle.rmt_ast.specs.declared.program.What.TheVariants.{Apply, Gate}
use Rattle.rmt_ast.specs.declared.entry.Entry.{Entry}
use Rattle.rmt_ast.specs.EntryLists.{AreEntries}
use Rattle.rmt_ast.specs.NameRules.{CanBeNamed}
use Rattle.rmt_ast.specs.Naming.{names_of}
use Rattle.rmt_ast.specs.State.{width_of}
use Rattle.rmt_ast.specs.WellFormed.{AllNumbered, IsProgram, IsTable}
use Rattle.rmt_config.specs.declared.config.Unit.TheVariants as unit
use Rattle.rmt_config.specs.Agreement.{AgreesWith}
use Rattle.rmt_config.specs.Cells.{candidates}
use Rattle.rmt_config.specs.Form.{Formed}
use Rattle.rmt_config.specs.LaneForm.{bits_of_lanes}
use Rattle.rmt_config.specs.Limits.{IsWithinLimits}
use Rattle.rmt_config.specs.NamesForm.{names_have_counts}
use Rattle.rmt_pack.specs.declared.format.Need.{Need}
use Rattle.rmt_pack.specs.declared.placement.Part.{Part}
use Rattle.rmt_pack.specs.declared.placement.Placement.{Placement}
use Rattle.rmt_pack.specs.Formats.{HasNeed, memory_format, no_memory}
use Rattle.rmt_pack.specs.Placements.{data_bits, key_bits, quanta_in, table_need, what_format}
use Rattle.rmt_pack.proofs.NeedLaws.{table_has_need, memory_format-is}
use Rattle.rmt_ptcam.specs.Clustering.{clustered}
use Rattle.rmt_ptcam.specs.Needs.{refusal}
use Rattle.rmt_refine.specs.declared.map.CellOf.{CellOf}
use Rattle.rmt_refine.specs.declared.map.Map.{Map}
use Rattle.rmt_refine.specs.Carries.{CarriesIn}
use Rattle.rmt_config.specs.Rooms.{tests_as_one}
use Rattle.rmt_refine.specs.Places.{PlacesCarried}
use Rattle.rmt_refine.specs.Units.{UnitCarried, UnitsCarried, nodes_in, table_at}
use Rattle.rmt_refine.specs.View.{as_slot, own_view}
use Rattle.rmt_filling.specs.declared.plan.Plan.{Plan}
use Rattle.rmt_build.specs.BuiltStage.{IsBuiltStage}
use Rattle.rmt_filling.specs.Memories.{blocks_for, memory_for}
use Rattle.rmt_filling.specs.Formats.{format_at}
use Rattle.rmt_build.specs.Plans.{need_in, quanta_before, taken_upto}
use Rattle.rmt_build.specs.Promises.{HasBlocksInOrder, HasCodeOfRule, HasDataOfRule, HasFormat, HasFormatOfRule, StandInRows}
use Rattle.rmt_build.specs.Stages.{AreStagesOf, IsPlanFor}
use Rattle.rmt_filling.specs.EntryCells.{cells_for}
use Rattle.rmt_build.specs.Told.{cells_told}
use Rattle.rmt_build.proofs.BuiltLaws.{slot_keys}
use Rattle.rmt_build.proofs.AssemblyLaws.{code_coded}
use Rattle.rmt_build.proofs.CarriedLaws.{built_carries, units_carried}
use Rattle.rmt_build.proofs.FormBlocks.{HasMemory, are_blocks, blocks_in_order}
use Rattle.rmt_build.proofs.FormConfig.{formed_with_clustered, limits_by_plan}
use Rattle.rmt_build.proofs.FormFits.{data_held, memories, zip_right}
use Rattle.rmt_build.proofs.FormStage.{HoldsData, kinds}
use Rattle.rmt_build.proofs.LoadedLaws.{loaded_there, rows_in_order}
use Rattle.rmt_build.proofs.NamesFilled.{names_filled}
use Rattle.rmt_build.proofs.NamesMade.{names_made}
use Rattle.rmt_build.proofs.NumberedLaws.{entries_numbered}
use Rattle.rmt_build.proofs.PromiseLaws.{memory_format_is, stand_in_rows}
use Rattle.rmt_build.proofs.SpotLaws.{slot_built}
use Rattle.rmt_build.proofs.TableLaws.{AreInRows, AreLoaded}

-- ---- each node has a quantum

format_some : (kind : Kind) (need : Need) → HasNeed kind need → 0 < (memory_format kind need).quanta
format_some Keyless need has = omega arith
format_some Exact need has =
    let f = memory_format Exact need in
    let is = memory_format-is Exact need has in
    let quanta = le-div 1 (need.size + need.size / 8 + 4096 * f.per - 1) (4096 * f.per) (omega (arith, is.has_cells)) (omega (arith, is.has_cells, has.has_size)) in
    omega (arith, quanta, ap (λ g. g.quanta) is.layout)
format_some Prefix need has = omega (arith, has.has_size)
format_some Ternary need has = omega (arith, has.has_size)

what_some : (p : Program) → IsProgram p → (w : What) → 0 < (what_format p w).quanta
what_some p program (Gate field test) = omega arith
what_some p program (Apply number) = by (slice_get p.tables number) refl
  where
    by : (o : Option Table) → slice_get p.tables number ≡ o → 0 < (what_format p (Apply number)).quanta
    by None is = rw (is) (omega arith)
    by (Some t) is = rw (is) (format_some t.kind (table_need p t) (table_has_need p program t (All-slice_get (IsTable p) p.tables number t program.tables is)))

pub node_some : (p : Program) → IsProgram p → (n : ℕ) → n < length p.nodes → 0 < (format_at p n).quanta
node_some p program n lt =
    let node = slice_get-item p.nodes n lt in
    let g = λ (x : Node). what_format p x.what in
    let format : format_at p n ≡ g node.0 = get_or_from_slice_get (map g p.nodes) n (g node.0) no_memory (slice_get-map g p.nodes n ∙ ap (option_map g) node.1) in
    omega (arith, what_some p program node.0.what, ap (λ f. f.quanta) format)

-- ---- a configuration

module _ (p : Program) (lists : List (List Entry)) (plan : Plan) (c : Config) (program : IsProgram p) (entries : AreEntries p lists) (is : IsPlanFor p lists plan)
    (stages : List Stage) (same : c.stages ≡ stages) (are : AreStagesOf p lists plan stages) (seed : c.seed ≡ plan.seed) where
  own : AreStagesOf p lists plan c.stages
  own = subst (AreStagesOf p lists plan) (sym same) are

  long : length c.stages ≡ length plan.starts
  long = own.all_there

  built : AllNumbered (IsBuiltStage p lists plan) c.stages
  built = own.each

  abbrev parts : List Part
  parts = plan.placement.parts

  abbrev cells : List CellOf
  cells = cells_told (length p.nodes) c.stages

  room : All (λ (x : Part). x.stage < length c.stages) parts
  room = subst (λ m. All (λ (x : Part). x.stage < m) parts) (sym long) is.in_stages

  pub units_are : UnitsCarried p plan.places parts plan.starts c
  units_are = units_carried p lists plan c entries is.is_plan.parts is.is_plan.stands (node_some p program) long room built

  are_loaded : AreLoaded p lists plan c cells entries units_are is.is_plan.stands built refl
  are_loaded n k place cell t es own stage slot e table exact es_are own_is part s =
      let b = slot_built p lists plan c entries units_are is.is_plan.stands built n k place stage slot part t es own table es_are own_is in
      let bits = slot_keys p plan k stage is.is_plan.places (built k stage part.stage_is).units place slot t part.slot_is (ap (table_at p) part.node_is ∙ table) in
      let key = tests_as_one (λ (u : Test). u.value) (map (width_of p) t.key) e.tests in
      let need = need_in p parts t n k in
      let taken = taken_upto p parts k n in
      let memory : slot.memory ≡ memory_for Exact need taken =
      b.memory ∙ ap (λ m. memory_for t.kind (need_in p parts t m k) (taken_upto p parts k m)) part.node_is ∙ ap (λ kind. memory_for kind need taken) exact in
      let at = subst (λ kind. s.stand.cell ≡ cells_for kind (format_at p n).per (quanta_before parts n k) + cell) exact s.cell_is in
      let within = subst (λ kind. cell < cells_for kind (format_at p n).per (quanta_in parts n k)) exact s.within in
      let shape = blocks_for Exact need in
      let there = loaded_there p lists parts plan.seed plan.stands is.loaded n t es own k cell need.format.width (range_with_len taken.sram shape.keys) (range_with_len (taken.sram + shape.keys) shape.records)
      (range_with_len (taken.sram + shape.keys + shape.records) shape.counters) e s.stand table exact es_are own_is s.there s.entry_is at within in
      subst (λ (x : Memory). Contains (candidates c.seed (bits_of_lanes slot.keys) x key) cell) (sym memory)
      (subst (λ w. Contains (candidates c.seed w (memory_for Exact need taken) key) cell) (sym bits)
      (subst (λ x. Contains (candidates x (key_bits p t) (memory_for Exact need taken) key) cell) (sym seed) there))

  in_rows : AreInRows p lists plan c cells entries units_are is.is_plan.stands built refl
  in_rows n t es own table has es_are own_is = rows_in_order p lists parts plan.seed plan.stands is.loaded n t es own table has es_are own_is

  pub joined_carries : PlacesCarried p plan.places c → AgreesWith c.parser plan.places p
      → CarriesIn p lists (record { places = plan.places; placement = plan.placement; starts = plan.starts; cells = cells }) c (own_view c)
  joined_carries places parser =
      built_carries p lists plan c entries is.is_plan.parts is.is_plan.stands (node_some p program) long room built are_loaded in_rows program places parser is.edges

  pub joined_rows : StandInRows p lists parts cells
  joined_rows = stand_in_rows p lists plan c cells entries units_are is.is_plan.stands built refl in_rows

  pub joined_code : All (HasCodeOfRule p plan.places) c.stages
  joined_code k d lt = code_coded p plan.places (get_or c.stages k d) (built k (get_or c.stages k d) (slice_get-get_or c.stages k d lt)).code

  pub joined_blocks : All HasBlocksInOrder c.stages
  joined_blocks k d lt =
      let stage = get_or c.stages k d in
      let b = built k stage (slice_get-get_or c.stages k d lt) in
      blocks_in_order p program plan.places parts k stage (are_blocks p program plan.places parts k stage.units b.units (memories p lists plan program entries is.is_plan.parts k stage b))

  has_format : (k n : ℕ) (u : Unit) → UnitCarried p plan.places parts k n u → HasMemory p program plan.places parts k n u → HasFormatOfRule p u
  has_format k n (unit.Gate g) carried memory = tt
  has_format k n (unit.Slot s) carried memory = elim (kinds p plan.places parts k n (unit.Slot s) carried) [
    | inl own ↦
        let its = memory s own.table refl own.at in
        subst (λ m. HasFormat (format_at p m) s.memory) (sym carried.number)
        (subst (HasFormat (format_at p n)) (sym its) (memory_format_is own.table.kind (need_in p parts own.table n k) (taken_upto p parts k n)))
    | inr gate ↦ absurd (none-some s (sym (ap as_slot gate.is)))
  ]

  pub joined_formats : All (λ (s : Stage). All (HasFormatOfRule p) s.units) c.stages
  joined_formats k d lt i e inside =
      let stage = get_or c.stages k d in
      let b = built k stage (slice_get-get_or c.stages k d lt) in
      let u = slice_get-item stage.units i inside in
      let all = AllZip-long (UnitCarried p plan.places parts k) (nodes_in p parts k) stage.units b.units in
      let n = slice_get-item (nodes_in p parts k) i (omega (arith, inside, all)) in
      let carried = AllZip-slice_get (UnitCarried p plan.places parts k) (nodes_in p parts k) stage.units i n.0 u.0 b.units n.1 u.1 in
      let memory = AllZip-slice_get (HasMemory p program plan.places parts k) (nodes_in p parts k) stage.units i n.0 u.0 (memories p lists plan program entries is.is_plan.parts k stage b) n.1 u.1 in
      subst (HasFormatOfRule p) (sym (get_or_from_slice_get stage.units i u.0 e u.1)) (has_format k n.0 u.0 carried memory)

  has_data : (k n : ℕ) (u : Unit) → UnitCarried p plan.places parts k n u × HoldsData p plan.places parts k n u → HasDataOfRule p u
  has_data k n (unit.Gate g) both = tt
  has_data k n (unit.Slot s) both = elim (kinds p plan.places parts k n (unit.Slot s) both.0) [
    | inl own ↦
        let table : table_at p s.node ≡ Some own.table = ap (table_at p) both.0.number ∙ own.at in
        subst (λ (o : Option Table). IsSomeAnd o (λ t. s.held ≡ data_bits p t)) (sym table) (both.1 s own.table refl own.at)
    | inr gate ↦ absurd (none-some s (sym (ap as_slot gate.is)))
  ]

  pub joined_data : All (λ (s : Stage). All (HasDataOfRule p) s.units) c.stages
  joined_data k d lt =
      let stage = get_or c.stages k d in
      zip_right (λ n u. UnitCarried p plan.places parts k n u × HoldsData p plan.places parts k n u) (HasDataOfRule p) (nodes_in p parts k) stage.units (has_data k)
      (data_held p lists plan program entries is.is_plan.parts k stage (built k stage (slice_get-get_or c.stages k d lt)))

  few : length c.stages ≤ 32
  few = let most = is.few_stages in omega (arith, long, most)

  pub joined_limits : refusal p ≡ None → c.parser ≡ clustered p plan.places → IsWithinLimits c
  joined_limits fits parser = limits_by_plan p lists plan c program entries is.is_plan built few long is.early fits parser is.placed.limits

  pub joined_formed : CanBeNamed p lists → PlacesCarried p plan.places c → refusal p ≡ None → c.parser ≡ clustered p plan.places → c.names ≡ Some (names_of p lists)
      → names_have_counts (names_of p lists) ≡ true → plan.seed < 8 → Formed c
  joined_formed can places fits parser names counts small =
      formed_with_clustered p lists plan c program entries is.is_plan built few long is.early places units_are is.edges is.exact (names_of p lists) fits parser names
      (names_made p lists plan c program entries is own units_are can counts (names_filled p lists plan c program entries units_are is.is_plan.stands built are_loaded in_rows)) (omega (arith, small, seed))
      (entries_numbered p lists plan c entries units_are is.is_plan.stands built)

-- ---- its map

pub same_map : (a b : List (List Lane)) (d e : Placement) (s t : List ℕ) (x y : List CellOf) → a ≡ b → d ≡ e → s ≡ t → x ≡ y
    → ◌≡◌ {A = Map} (record { places = a; placement = d; starts = s; cells = x }) (record { places = b; placement = e; starts = t; cells = y })
same_map a b d e s t x y ea ed es ex = cc
