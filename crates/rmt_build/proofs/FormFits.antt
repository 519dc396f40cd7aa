-- The stages of a plan fit the chip, so a configuration that has them is within the limits.
use Rattle.std.proofs.Common.{List, Some, [], ap, arith, get_or, inl, inr, length, map, nat_lt, refl, subst, suc, sym, true, ℕ, ◌*◌, ◌<◌, ◌∙◌, ◌∷◌, ◌≡◌, ◌≤◌}
use Rattle.std.specs.Prelude.{All, option_and_then, slice_get, slice_index, sum_by}
use Rattle.std.specs.List.{AllZip, range_with_len}
use Rattle.std.proofs.lemmas.List.{get_or_default, length-map}
use Rattle.std.proofs.lemmas.List.Elements.{All-cons, All-map, All-nil, All-contains}
use Rattle.std.proofs.lemmas.Option.{get_or_from_slice_get, slice_get-get_or, slice_get_within}
use Rattle.rmt_bits.proofs.AllLaws.{All-flat_map, All-range}
use Rattle.rmt_bits.proofs.ListLaws.{slice_get-item, AllZip-slice_get}
use Rattle.rmt_ast.specs.declared.entry.Entry.{Entry}
use Rattle.rmt_build.specs.Types.{Program, Table, Kind, Node, Config, Stage, Unit, SlotUnit}
use Rattle.rmt_ast.specs.declared.program.Kind.TheVariants as kind
use Rattle.rmt_ast.specs.EntryLists.{AreEntries, terms_at}
use Rattle.rmt_ast.specs.WellFormed.{AllNumbered, IsProgram}
use Rattle.rmt_config.specs.declared.config.Unit.TheVariants.{Slot}
use Rattle.rmt_config.specs.Resources.{distinct, memory_width, node_count, node_numbers, unit_width}
use Rattle.rmt_config.specs.TableForm.{node_of}
use Rattle.rmt_pack.specs.declared.format.Need.{Need}
use Rattle.rmt_pack.specs.declared.placement.Part.{Part}
use Rattle.rmt_pack.specs.Formats.{IsFormat}
use Rattle.rmt_pack.specs.Placements.{quanta_in, table_need}
use Rattle.rmt_place.specs.Needs.{demands_of, keeps_limits}
use Rattle.rmt_place.specs.Placing.{standing_in}
use Rattle.rmt_refine.specs.Units.{UnitCarried, applied, nodes_in, table_at}
use Rattle.rmt_refine.specs.View.{as_slot}
use Rattle.rmt_pack.proofs.FindLaws.{Contains-range}
use Rattle.rmt_bits.proofs.MemberLaws.{Contains-unfilter}
use Rattle.rmt_pack.proofs.PartLaws.{then_some}
use Rattle.rmt_filling.specs.declared.memory.PartNeed.{PartNeed}
use Rattle.rmt_filling.specs.declared.memory.Taken.{Taken}
use Rattle.rmt_filling.specs.declared.plan.Plan.{Plan}
use Rattle.rmt_build.specs.BuiltStage.{IsBuiltSlot, IsBuiltStage}
use Rattle.rmt_filling.specs.Memories.{memory_for}
use Rattle.rmt_build.specs.Plans.{AreParts, need_in, taken_upto}
use Rattle.rmt_build.proofs.FormBlocks.{HasMemory, are_blocks, few_sram, few_tcam, greatest_le, none_twice}
use Rattle.rmt_build.proofs.FormLimits.{FewParts, FitsStage, within_limits}
use Rattle.rmt_build.proofs.FormStage.{HoldsData, keep_limits, kinds}
use Rattle.rmt_build.proofs.PlanLaws.{is_format}
use Rattle.rmt_config.specs.Limits.{IsWithinLimits}
use Rattle.rmt_build.proofs.FormSums.{distinct_apart, distinct_from, sum_within}
use Rattle.std.proofs.lemmas.List.FromFn.{length-range_with_len}
use Rattle.std.proofs.lemmas.List.Sums.{sum_by-cons}

-- ---- items beside each other

pub zip_at : {X Y : Type 0} (P Q : X → Y → Type 0) (xs : List X) (ys : List Y) → ((i : ℕ) (x : X) (y : Y) → slice_get xs i ≡ Some x → slice_get ys i ≡ Some y → P x y → Q x y)
    → AllZip P xs ys → AllZip Q xs ys
zip_at P Q [] [] h zip = tt
zip_at P Q [] (y ∷ ys) h zip = absurd zip
zip_at P Q (x ∷ xs) [] h zip = absurd zip
zip_at P Q (x ∷ xs) (y ∷ ys) h zip = (h 0 x y refl refl zip.0, zip_at P Q xs ys (λ i a b. h (suc i) a b) zip.1)

pub zip_right : {X Y : Type 0} (P : X → Y → Type 0) (Q : Y → Type 0) (xs : List X) (ys : List Y) → ((x : X) (y : Y) → P x y → Q y) → AllZip P xs ys → All Q ys
zip_right P Q [] [] h zip = All-nil Q
zip_right P Q [] (y ∷ ys) h zip = absurd zip
zip_right P Q (x ∷ xs) [] h zip = absurd zip
zip_right P Q (x ∷ xs) (y ∷ ys) h zip = All-cons Q y ys (h x y zip.0) (zip_right P Q xs ys h zip.1)

ones : (xs : List ℕ) → sum_by (λ n. 1) xs ≡ length xs
ones [] = refl
ones (x ∷ xs) = let first = sum_by-cons (λ n. 1) x xs in let rest = ones xs in omega (arith, first, rest)

-- ---- one stage

module _ (p : Program) (lists : List (List Entry)) (plan : Plan) (program : IsProgram p) (entries : AreEntries p lists) (are : AreParts p plan.placement.parts) where
  abbrev parts : List Part
  parts = plan.placement.parts

  -- the entries of each node
  pub list_there : (n : ℕ) → n < length p.nodes → (es : List Entry) × (slice_get lists n ≡ Some es)
  list_there n lt =
      slice_get-item lists n (omega (arith, lt, entries.for_each_node ∙ length-map p.nodes (λ (x : Node). terms_at p x.what)))

  module _ (k : ℕ) (stage : Stage) (built : IsBuiltStage p lists plan k stage) where
    -- what is built of the slot at a place
    pub slot_built : (i n : ℕ) (s : SlotUnit) (t : Table) → slice_get stage.units i ≡ Some (Slot s) → s.node ≡ n → table_at p n ≡ Some t
        → (es : List Entry) × IsBuiltSlot p plan k i stage s t es × (slice_get lists n ≡ Some es)
    slot_built i n s t at number table =
        let es = list_there n (table_within n t table) in
        (es.0, built.slots i s t es.0 (ap (option_and_then as_slot) at) (ap (table_at p) number ∙ table) (ap (slice_get lists) number ∙ es.1), es.1)
      where
        table_within : (m : ℕ) (x : Table) → table_at p m ≡ Some x → m < length p.nodes
        table_within m x e = slice_get_within p.nodes m _ (then_some (λ (y : Node). applied p y.what) (slice_get p.nodes m) x e).1

    pub data_held : AllZip (λ n u. UnitCarried p plan.places parts k n u × HoldsData p plan.places parts k n u) (nodes_in p parts k) stage.units
    data_held = zip_at (UnitCarried p plan.places parts k) (λ n u. UnitCarried p plan.places parts k n u × HoldsData p plan.places parts k n u) (nodes_in p parts k) stage.units
        (λ i n u at_n at_u carried. (
          carried,
          λ s t is table. (slot_built i n s t (at_u ∙ ap Some is) (ap node_of (sym is) ∙ carried.number) table).1.held,
        )) built.units

    pub memories : AllZip (HasMemory p program plan.places parts k) (nodes_in p parts k) stage.units
    memories = zip_at (UnitCarried p plan.places parts k) (HasMemory p program plan.places parts k) (nodes_in p parts k) stage.units
        (λ i n u at_n at_u carried s t is table.
        (let number : s.node ≡ n = ap node_of (sym is) ∙ carried.number in
        let own = (slot_built i n s t (at_u ∙ ap Some is) number table).1.memory in
        own ∙ ap (λ m. memory_for t.kind (need_in p parts t m k) (taken_upto p parts k m)) number)) built.units

    narrow_memory : (kd : Kind) (n : ℕ) (t : Need) (need : PartNeed) (taken : Taken) → IsFormat kd t need.format → memory_width (memory_for kd need taken) ≤ 8
    narrow_memory kind.Keyless n t need taken f = omega arith
    narrow_memory kind.Exact n t need taken f = f.width
    narrow_memory kind.Prefix n t need taken f = omega arith
    narrow_memory kind.Ternary n t need taken f = omega arith

    narrow_unit : (n : ℕ) (u : Unit) → UnitCarried p plan.places parts k n u × HasMemory p program plan.places parts k n u → unit_width u ≤ 8
    narrow_unit n u both = elim (kinds p plan.places parts k n u both.0) [
      | inl s ↦ subst (λ w. w ≤ 8) (sym (ap unit_width s.is ∙ ap memory_width (both.1 s.slot s.table s.is s.at)))
          (narrow_memory s.table.kind n (table_need p s.table) (need_in p parts s.table n k) (taken_upto p parts k n) (is_format p program n s.table s.at))
      | inr g ↦ subst (λ w. w ≤ 8) (sym (ap unit_width g.is)) (omega arith)
    ]

    both_zip : AllZip (λ n u. UnitCarried p plan.places parts k n u × HasMemory p program plan.places parts k n u) (nodes_in p parts k) stage.units
    both_zip = zip_at (HasMemory p program plan.places parts k) (λ n u. UnitCarried p plan.places parts k n u × HasMemory p program plan.places parts k n u) (nodes_in p parts k) stage.units
        (λ i n u at_n at_u memory. (carried_at i n u at_n at_u, memory)) memories
      where
        carried_at : (i n : ℕ) (u : Unit) → slice_get (nodes_in p parts k) i ≡ Some n → slice_get stage.units i ≡ Some u → UnitCarried p plan.places parts k n u
        carried_at i n u at_n at_u = AllZip-slice_get (UnitCarried p plan.places parts k) (nodes_in p parts k) stage.units i n u built.units at_n at_u

    -- it fits, where the placement keeps the limits and it starts early
    pub stage_fits : keeps_limits (standing_in (demands_of p plan.places) parts k) ≡ true → stage.start ≤ 372 → FitsStage stage
    stage_fits keeps early =
        let kept = keep_limits p plan.places parts k stage.units keeps built.units data_held in
        let blocks = are_blocks p program plan.places parts k stage.units built.units memories in
        record {
          sram = few_sram p program plan.places parts k stage blocks are;
          tcam = few_tcam p program plan.places parts k stage blocks are;
          exact = kept.exact;
          ternary = kept.ternary;
          slots = kept.slots;
          code = kept.code;
          held = kept.held;
          gates = kept.gates;
          width = greatest_le unit_width 8 stage.units
              (zip_right (λ n u. UnitCarried p plan.places parts k n u × HasMemory p program plan.places parts k n u) (λ u. unit_width u ≤ 8) (nodes_in p parts k) stage.units narrow_unit both_zip);
          listed = none_twice p program plan.places parts k stage blocks;
          start = early;
        }

    own_nodes : All (λ n. n < length p.nodes) (map node_of stage.units)
    own_nodes =
        All-map (λ n. n < length p.nodes) node_of stage.units
        (zip_right (λ n u. n < length p.nodes × UnitCarried p plan.places parts k n u) (λ u. node_of u < length p.nodes) (nodes_in p parts k) stage.units
        (λ n u both. subst (λ m. m < length p.nodes) (sym (both.1.number)) both.0)
        (zip_at (UnitCarried p plan.places parts k) (λ n u. n < length p.nodes × UnitCarried p plan.places parts k n u) (nodes_in p parts k) stage.units
        (λ i n u at_n at_u carried. (node_within n i at_n, carried)) built.units))
      where
        node_within : (n i : ℕ) → slice_get (nodes_in p parts k) i ≡ Some n → n < length p.nodes
        node_within n i at =
            let there = (Contains-unfilter (λ m. nat_lt 0 (quanta_in parts m k)) (range_with_len 0 (length p.nodes)) n (i, slice_get_within (nodes_in p parts k) i n at, get_or_from_slice_get (nodes_in p parts k) i n n at)).0 in
            All-contains (λ m. m < length p.nodes) (range_with_len 0 (length p.nodes)) n (All-range (λ m. m < length p.nodes) 0 (length p.nodes) (λ m lt. omega (arith, lt))) there

  -- ---- all stages

  module _ (stages : List Stage) (built : AllNumbered (IsBuiltStage p lists plan) stages) where
    built_at : (k : ℕ) (d : Stage) → k < length stages → IsBuiltStage p lists plan k (get_or stages k d)
    built_at k d lt = built k (get_or stages k d) (slice_get-get_or stages k d lt)

    all_nodes : All (λ n. n < length p.nodes) (node_numbers stages)
    all_nodes =
        All-flat_map (λ n. n < length p.nodes) (λ (s : Stage). map node_of s.units) stages (λ k d lt. own_nodes k (get_or stages k d) (built_at k d lt))

    few_nodes : node_count stages ≤ length p.nodes
    few_nodes =
        let own = distinct (node_numbers stages) in
        let nodes = range_with_len 0 (length p.nodes) in
        let within = sum_within (λ n. 1) own nodes (distinct_apart (node_numbers stages)) (λ k d lt.
        (let n = get_or own k d in
        let there = distinct_from (node_numbers stages) n (k, lt, get_or_default own k n d lt) in
        Contains-range (length p.nodes) n (All-contains (λ m. m < length p.nodes) (node_numbers stages) n all_nodes there))) in
        omega (arith, within, ones own, ones nodes, length-range_with_len 0 (length p.nodes))

    -- each fits, where the placement keeps the limits of every stage, and stages start at most 12 cycles behind each other
    pub stages_fit : length stages ≤ 32 → length stages ≡ length plan.starts → ((k : ℕ) → k < 32 → keeps_limits (standing_in (demands_of p plan.places) parts k) ≡ true)
        → ((k : ℕ) → k < length plan.starts → slice_index plan.starts k ≤ 12 * k) → All FitsStage stages
    stages_fit few long keeps early k d lt =
        let own = built_at k d lt in
        let most = early k (omega (arith, lt, long)) in
        stage_fits k (get_or stages k d) own (keeps k (omega (arith, lt, few))) (omega (arith, own.start, most, lt, few))

  -- so a configuration with these stages is within the limits
  pub limits_kept : (c : Config) → AllNumbered (IsBuiltStage p lists plan) c.stages → length c.stages ≤ 32 → length c.stages ≡ length plan.starts → FewParts c.parser
      → ((k : ℕ) → k < 32 → keeps_limits (standing_in (demands_of p plan.places) parts k) ≡ true)
      → ((k : ℕ) → k < length plan.starts → slice_index plan.starts k ≤ 12 * k) → IsWithinLimits c
  limits_kept c built few long parser keeps early =
      within_limits c few parser (stages_fit c.stages built few long keeps early) (omega (arith, few_nodes c.stages built, program.counts.nodes))
