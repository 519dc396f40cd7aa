-- Built stages keep the rules of form of stages.
use Rattle.std.proofs.lemmas.Slice.Zip.{AllZip-long}
use Rattle.std.proofs.Common.{◌≡◌, ℕ, ◌*◌, ◌^◌, ◌<◌, ◌≤◌, true, nat_lt, List, Some, length, map, get_or, refl, sym, ap, ◌∙◌, subst, inl, inr, arith}
use Rattle.std.specs.Prelude.{All, option_map, slice_get, slice_index, unwrap_or}
use Rattle.std.specs.List.{list_all, range_with_len}
use Rattle.std.proofs.lemmas.Bool.{lt-ltb}
use Rattle.std.proofs.lemmas.List.FromFn.{length-range_with_len}
use Rattle.std.proofs.lemmas.List.Sums.{count_by-le-length, length-filter, list_all-from_AllPass}
use Rattle.std.proofs.lemmas.Option.{slice_get-get_or}
use Rattle.rmt_bits.proofs.AllLaws.{All-slice_get}
use Rattle.rmt_bits.proofs.ListLaws.{slice_get-item, AllZip-slice_get}
use Rattle.rmt_ast.specs.declared.entry.Entry.{Entry}
use Rattle.rmt_build.specs.Types.{Program, Field, Table, Node, Stage, Unit}
use Rattle.rmt_ast.specs.declared.program.Kind.TheVariants as kind
use Rattle.rmt_ast.specs.EntryLists.{AreEntries}
use Rattle.rmt_ast.specs.State.{width_of}
use Rattle.rmt_ast.specs.WellFormed.{AllNumbered, IsProgram, IsWhat, IsWidth}
use Rattle.rmt_phv.specs.Places.{KeepsApart}
use Rattle.rmt_config.specs.declared.config.Unit.TheVariants.{Gate, Slot}
use Rattle.rmt_config.specs.StageForm.{srow_fits, stage_is_formed, stages_are_formed, starts_are_formed, trow_fits}
use Rattle.rmt_config.specs.UnitForm.{unit_is_formed}
use Rattle.rmt_pack.specs.declared.placement.Part.{Part}
use Rattle.rmt_pack.specs.Placements.{quanta_in}
use Rattle.rmt_refine.specs.Units.{UnitCarried, guard_of, last_stage, nodes_in, table_at}
use Rattle.rmt_pack.proofs.PartLaws.{and_at}
use Rattle.rmt_refine.proofs.PartLaws.{quanta_of_node}
use Rattle.rmt_filling.specs.declared.plan.Plan.{Plan}
use Rattle.rmt_build.specs.BuiltStage.{IsBuiltStage, SmallUnit}
use Rattle.rmt_build.specs.Plans.{AreParts, AreStands, stands_of_part}
use Rattle.rmt_build.proofs.FormCode.{HasData, code_formed}
use Rattle.rmt_build.proofs.FormEach.{slot_formed}
use Rattle.rmt_build.proofs.FormFits.{memories, slot_built, zip_at, zip_right}
use Rattle.rmt_build.proofs.FormStage.{kinds}
use Rattle.rmt_build.proofs.FormUnits.{gate_formed}
use Rattle.rmt_filling.specs.Numbers.{number_at}
use Rattle.rmt_refine.proofs.TheLaw.{table_entries}

-- a table without a key stands in one stage
abbrev pub StandAlone : Program → List Part → Type 0
StandAlone p parts = (n k : ℕ) (t : Table) → table_at p n ≡ Some t → t.kind ≡ kind.Keyless → 0 < quanta_in parts n k → k ≡ last_stage parts n

module _ (p : Program) (program : IsProgram p) (lists : List (List Entry)) (entries : AreEntries p lists) (plan : Plan) (are : AreParts p plan.placement.parts) (keeps : KeepsApart p plan.places)
    (stands : AreStands p lists plan.placement.parts plan.stands) (alone : StandAlone p plan.placement.parts) where
  abbrev parts : List Part
  parts = plan.placement.parts

  field_width : (f : ℕ) → f < length p.fields → IsWidth (width_of p f)
  field_width f lt =
      let x = slice_get-item p.fields f lt in
      subst IsWidth (sym (ap (λ o. unwrap_or (option_map (λ (y : Field). y.width) o) 0) x.1)) (All-slice_get (λ (y : Field). IsWidth y.width) p.fields f x.0 program.fields.widths x.1)

  module _ (k : ℕ) (few : k < 32) (stage : Stage) (built : IsBuiltStage p lists plan k stage) where
    unit_formed : (i n : ℕ) (u : Unit) → slice_get (nodes_in p parts k) i ≡ Some n → slice_get stage.units i ≡ Some u → UnitCarried p plan.places parts k n u → unit_is_formed u ≡ true
    unit_formed i n u at_n at_u carried =
        let here = All-slice_get SmallUnit stage.units i u built.small at_u in
        elim (kinds p plan.places parts k n u carried) [
          | inl s ↦
              let at = at_u ∙ ap Some s.is in
              let own : UnitCarried p plan.places parts k n (Slot s.slot) = subst (UnitCarried p plan.places parts k n) s.is carried in
              let b = slot_built p lists plan program entries are k stage built i n s.slot s.table at own.number s.at in
              let memory = AllZip-slice_get _ (nodes_in p parts k) stage.units i n u (memories p lists plan program entries are k stage built) at_n at_u s.slot s.table s.is s.at in
              let numbers = b.1.numbers ∙ ap (λ m. map (number_at b.0) (stands_of_part p plan s.table m k)) own.number in
              ap unit_is_formed s.is
              ∙ slot_formed p program lists entries plan are keeps stands k n few (quanta_of_node p parts k i n at_n) s.node s.node_is s.slot s.table s.at own s.carried b.0 b.2
              (table_entries p lists n s.table b.0 entries s.at b.2) b.1.held memory numbers (subst SmallUnit s.is here).0 (subst SmallUnit s.is here).1
              (λ keyless. alone n k s.table s.at keyless (quanta_of_node p parts k i n at_n))
          | inr g ↦
              let own : UnitCarried p plan.places parts k n (Gate g.gate) = subst (UnitCarried p plan.places parts k n) g.is carried in
              let is = subst (IsWhat p) g.what_is (program.nodes n g.node g.node_is).what in
              let width = field_width g.field is.0 in
              ap unit_is_formed g.is
              ∙ gate_formed p program plan.places keeps n g.node g.gate g.field g.test g.node_is own.number
              (and_at (slice_get p.nodes n) (λ (x : Node). g.gate.guard ≡ guard_of x.guard) g.node g.node_is own.guard) is.0 is.1 width.0 width.1 g.tests (subst SmallUnit g.is here)
        ]

    units_formed : list_all unit_is_formed stage.units ≡ true
    units_formed =
        list_all-from_AllPass unit_is_formed stage.units
        (zip_right (λ n u. unit_is_formed u ≡ true) (λ u. unit_is_formed u ≡ true) (nodes_in p parts k) stage.units (λ n u e. e)
        (zip_at (UnitCarried p plan.places parts k) (λ n u. unit_is_formed u ≡ true) (nodes_in p parts k) stage.units (λ i n u at_n at_u carried. unit_formed i n u at_n at_u carried) built.units))

    few_units : length stage.units ≤ 128
    few_units =
        let one = AllZip-long (UnitCarried p plan.places parts k) (nodes_in p parts k) stage.units built.units in
        let two = length-filter (λ n. nat_lt 0 (quanta_in parts n k)) (range_with_len 0 (length p.nodes)) in
        let three = count_by-le-length (λ n. nat_lt 0 (quanta_in parts n k)) (range_with_len 0 (length p.nodes)) in
        omega (arith, one, two, three, length-range_with_len 0 (length p.nodes), program.counts.nodes)

    data_of_units : All (HasData p plan.places) stage.units
    data_of_units =
        zip_right (λ n u. HasData p plan.places u) (HasData p plan.places) (nodes_in p parts k) stage.units (λ n u h. h)
        (zip_at (UnitCarried p plan.places parts k) (λ n u. HasData p plan.places u) (nodes_in p parts k) stage.units
        (λ i n u at_n at_u carried s t is table.
        (let own = subst (UnitCarried p plan.places parts k n) is carried in
        (slot_built p lists plan program entries are k stage built i n s t (at_u ∙ ap Some is) own.number (ap (table_at p) (sym own.number) ∙ table)).1.held)) built.units)

    rows_formed : list_all srow_fits stage.srows ≡ true
    rows_formed = list_all-from_AllPass srow_fits stage.srows (λ j d lt.
        (let r = built.rows_fit.0 j d lt in
        rw (lt-ltb (get_or stage.srows j d).block 106 r.0, lt-ltb (get_or stage.srows j d).row 65536 (omega (arith, r.1)), lt-ltb (get_or stage.srows j d).bits (2 ^ 112) r.2) refl))

    trows_formed : list_all trow_fits stage.trows ≡ true
    trows_formed = list_all-from_AllPass trow_fits stage.trows (λ j d lt.
        (let r = built.trows_fit.0 j d lt in
        rw (
          lt-ltb (get_or stage.trows j d).block 16 r.0,
          lt-ltb (get_or stage.trows j d).row 65536 (omega (arith, r.1)),
          lt-ltb (get_or stage.trows j d).value (2 ^ 40) r.2,
          lt-ltb (get_or stage.trows j d).mask (2 ^ 40) r.3,
        ) refl))

    pub stage_formed : stage.start ≤ 372 → stage_is_formed stage ≡ true
    stage_formed early =
        rw (
          lt-ltb stage.start 65536 (omega (arith, early)),
          lt-ltb (length stage.units) 256 (omega (arith, few_units)),
          units_formed,
          (code_formed p plan.places stage.units stage.code data_of_units built.code),
          lt-ltb (length stage.srows) (2 ^ 32) built.rows_fit.1,
          rows_formed,
          lt-ltb (length stage.trows) (2 ^ 32) built.trows_fit.1,
          trows_formed,
        ) refl

  -- all stages
  pub stages_formed : (stages : List Stage) → AllNumbered (IsBuiltStage p lists plan) stages → length stages ≤ 32 → length stages ≡ length plan.starts
      → ((k : ℕ) → k < length plan.starts → slice_index plan.starts k ≤ 12 * k) → starts_are_formed (map (λ (s : Stage). s.start) stages) ≡ true → stages_are_formed stages ≡ true
  stages_formed stages built few long early starts =
      let all = list_all-from_AllPass stage_is_formed stages (λ k d lt.
      (let own = built k (get_or stages k d) (slice_get-get_or stages k d lt) in
      let most = early k (omega (arith, lt, long)) in
      stage_formed k (omega (arith, lt, few)) (get_or stages k d) own (omega (arith, own.start, most, lt, few)))) in
      rw (lt-ltb (length stages) 256 (omega (arith, few)), all, starts) refl
