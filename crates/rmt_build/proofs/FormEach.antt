-- Each unit of a built stage is formed, and with its code and rows the stage is.
use Rattle.rmt_bits.proofs.AllLaws.{All-unmap}
use Rattle.std.proofs.Common.{◌≡◌, ℕ, ◌+◌, ◌*◌, ◌^◌, ◌<◌, ◌≤◌, true, List, [], ◌∷◌, Some, length, map, get_or, refl, sym, ap, ◌∙◌, subst, arith}
use Rattle.std.specs.Prelude.{All, filter, fold, max, slice_get, slice_index_or}
use Rattle.std.specs.List.{list_all, range_with_len}
use Rattle.std.proofs.lemmas.Bool.{eq-eqb, le-leb, lt-ltb}
use Rattle.std.proofs.lemmas.List.{length-map}
use Rattle.std.proofs.lemmas.List.Elements.{All-map}
use Rattle.std.proofs.lemmas.List.FromFn.{length-range_with_len}
use Rattle.std.proofs.lemmas.List.Sorted.{length_permutation}
use Rattle.std.proofs.lemmas.List.Sums.{count_by-le-length, length-filter, list_all-from_AllPass}
use Rattle.std.proofs.lemmas.Option.{slice_get-get_or, slice_get_within}
use Rattle.rmt_ast.specs.declared.entry.Entry.{Entry}
use Rattle.rmt_build.specs.Types.{Program, Table, Kind, Node, SlotUnit, CellNumber}
use Rattle.rmt_ast.specs.declared.program.Kind.TheVariants as kind
use Rattle.rmt_ast.specs.EntryLists.{AreEntries, AreTableEntries, terms_of}
use Rattle.rmt_ast.specs.WellFormed.{HasKey, IsProgram, IsTable}
use Rattle.rmt_phv.specs.Places.{KeepsApart, LiesInWord, high_first}
use Rattle.rmt_config.specs.declared.config.Unit.TheVariants.{Slot}
use Rattle.rmt_config.specs.LaneForm.{bits_of_lanes, lane_is_formed}
use Rattle.rmt_config.specs.UnitForm.{guard_is_formed, memory_is_formed, number_is_formed, slot_head_is_formed, slot_is_formed}
use Rattle.rmt_pack.specs.declared.placement.Part.{Part}
use Rattle.rmt_pack.specs.Formats.{HasNeed, IsFormat}
use Rattle.rmt_pack.specs.Placements.{data_bits, key_bits, param_bits, quanta_in, table_need}
use Rattle.rmt_ptcam.proofs.FormLaws.{in_order_lie}
use Rattle.rmt_ptcam.proofs.PlainLaws.{lanes_bits}
use Rattle.rmt_refine.specs.Units.{TableCarried, UnitCarried, guard_of, last_stage, table_at}
use Rattle.rmt_pack.proofs.PartLaws.{and_at}
use Rattle.rmt_filling.specs.declared.plan.Plan.{Plan}
use Rattle.rmt_filling.specs.declared.stands.Stand.{Stand}
use Rattle.rmt_build.specs.BuiltStage.{SmallGuard}
use Rattle.rmt_filling.specs.Memories.{blocks_for, memory_for, sram_for, tcam_for}
use Rattle.rmt_filling.specs.Numbers.{number_at}
use Rattle.rmt_build.specs.Plans.{AreParts, AreStands, need_in, parts_before, quanta_before, stands_of_part, taken_upto}
use Rattle.rmt_filling.specs.Formats.{format_at}
use Rattle.rmt_filling.specs.EntryCells.{cells_for, counted_from, stands_there}
use Rattle.rmt_build.proofs.FormLanes.{lanes_formed}
use Rattle.rmt_build.proofs.FormMemory.{cells_within}
use Rattle.rmt_build.proofs.FormSlots.{AreSmall, HasKeyed, are_small, exact_formed, few_quanta_cells, ternary_formed}
use Rattle.rmt_build.proofs.FormUnits.{few_lanes, guard_formed, small_mask, some_lanes}
use Rattle.rmt_build.proofs.PlanLaws.{has_need, is_format, is_table, sram_fits, tcam_fits, parts-le}
use Rattle.rmt_config.specs.BlockCounts.{divided_up}
use Rattle.rmt_build.proofs.MemoryLaws.{few_quanta}

none_below : (xs : List Stand) → All (λ (s : Stand). s.cell < 0) xs → length xs ≡ 0
none_below [] all = refl
none_below (x ∷ xs) all = absurd (let lt = all 0 x (omega arith) in omega (arith, lt))

module _ (p : Program) (program : IsProgram p) (lists : List (List Entry)) (entries : AreEntries p lists) (plan : Plan) (are : AreParts p plan.placement.parts) (keeps : KeepsApart p plan.places)
    (stands : AreStands p lists plan.placement.parts plan.stands) where
  abbrev parts : List Part
  parts = plan.placement.parts

  -- no more stand in a part than the table has entries
  part_count : (n k : ℕ) (t : Table) (es : List Entry) → slice_get lists n ≡ Some es → length (stands_of_part p plan t n k) ≤ length es
  part_count n k t es list =
      let own = slice_index_or plan.stands n [] in
      let within = slice_get_within lists n es list in
      let once = stands.each n es own list (slice_get-get_or plan.stands n [] (omega (arith, within, stands.all_there))) in
      let first = cells_for t.kind (format_at p n).per (quanta_before parts n k) in
      let count = cells_for t.kind (format_at p n).per (quanta_in parts n k) in
      let two = length-filter (stands_there first count) own in
      let three = count_by-le-length (stands_there first count) own in
      let four = length_permutation (range_with_len 0 (length es)) (map (λ (s : Stand). s.entry) own) once.each in
      let five = length-map own (λ (s : Stand). s.entry) in
      let six = length-range_with_len 0 (length es) in
      omega (arith, length-map (filter (stands_there first count) own) (counted_from first), two, three, four, five, six)

  module _ (k n : ℕ) (few : k < 32) (stands_here : 0 < quanta_in parts n k) (node : Node) (at : slice_get p.nodes n ≡ Some node) (s : SlotUnit) (t : Table) (table : table_at p n ≡ Some t)
      (unit : UnitCarried p plan.places parts k n (Slot s)) (carried : TableCarried plan.places parts n k t s) (es : List Entry) (list : slice_get lists n ≡ Some es)
      (entry_list : AreTableEntries n es (terms_of p t)) (held : s.held ≡ data_bits p t) (memory : s.memory ≡ memory_for t.kind (need_in p parts t n k) (taken_upto p parts k n))
      (numbers : s.numbers ≡ map (number_at es) (stands_of_part p plan t n k)) (mask : SmallGuard s.guard) (small : All (λ (x : CellNumber). x.number < 2 ^ 32) s.numbers)
      (alone : t.kind ≡ kind.Keyless → k ≡ last_stage parts n) where
    formed_table : IsTable p t
    formed_table = is_table p program n t table

    sizes : AreSmall p t
    sizes = are_small p t t.kind formed_table.key (has_need p program n t table)

    bits : bits_of_lanes s.keys ≡ key_bits p t
    bits = ap bits_of_lanes carried.keys ∙ lanes_bits p plan.places t.key keeps

    key_lanes : length s.keys ≤ bits_of_lanes s.keys
    key_lanes = few_lanes s.keys (subst (All LiesInWord) (sym carried.keys) (in_order_lie p plan.places t.key keeps))

    count : length s.numbers ≤ 1048576
    count =
        let two = part_count n k t es list in
        omega (arith, ap length numbers ∙ length-map (stands_of_part p plan t n k) (number_at es), two, entry_list.within_size, sizes.size)

    before : parts_before parts n k ≤ 31
    before = omega (arith, parts-le parts n k, few)

    keyed : 1 ≤ key_bits p t → 1 ≤ length t.actions → HasKeyed p t s (need_in p parts t n k)
    keyed key actions =
        let most = sizes.key in
        record {
          some_keys = some_lanes s.keys (omega (arith, bits, key));
          bits = bits;
          some_bits = key;
          few_bits = sizes.key;
          some_actions = omega (arith, carried.actions, actions);
          some_quanta = omega (arith, stands_here);
          before = omega (arith, before);
          held = held;
          counted = carried.counted;
        }

    memory_by : (kd : Kind) → t.kind ≡ kd → HasKey p kd t → HasNeed kd (table_need p t) → IsFormat kd (table_need p t) (format_at p n)
        → memory_is_formed s (memory_for kd (need_in p parts t n k) (taken_upto p parts k n)) ≡ true
    memory_by kind.Keyless is key need f =
        let none = none_below (stands_of_part p plan t n k)
        (subst (λ c. All (λ (x : Stand). x.cell < c) (stands_of_part p plan t n k)) (ap (λ x. cells_for x (format_at p n).per (quanta_in parts n k)) is)
        (cells_within (cells_for t.kind (format_at p n).per (quanta_before parts n k)) (cells_for t.kind (format_at p n).per (quanta_in parts n k)) (slice_index_or plan.stands n []))) in
        let no_numbers : length s.numbers ≡ 0 = ap length numbers ∙ length-map (stands_of_part p plan t n k) (number_at es) ∙ none in
        let no_actions : s.actions ≡ 0 = carried.actions ∙ ap length key.actions in
        let no_data : s.held ≡ 0 = held ∙ ap (λ ns. fold max 0 (map (param_bits p) ns)) key.actions in
        let no_keys : length s.keys ≡ 0 = ap length (carried.keys ∙ ap (high_first plan.places) key.key) in
        rw (
          carried.counted ∙ key.counted,
          eq-eqb s.actions 0 no_actions,
          carried.last ∙ eq-eqb k (last_stage parts n) (alone is),
          eq-eqb s.held 0 no_data,
          eq-eqb (length s.keys) 0 no_keys,
          eq-eqb (length s.numbers) 0 no_numbers,
        ) refl
    memory_by kind.Exact is key need f =
        exact_formed p t s (need_in p parts t n k) (taken_upto p parts k n) (table_need p t) refl f (keyed need.has_key key.has_actions)
        (subst (λ x. (taken_upto p parts k n).sram + sram_for x (blocks_for x (need_in p parts t n k)) ≤ 106) is (sram_fits p program n t table parts k are))
    memory_by kind.Prefix is key need f =
        ternary_formed p t s (need_in p parts t n k) (taken_upto p parts k n) (sym bits) (keyed need.has_key key.0.has_actions)
        (subst (λ x. (taken_upto p parts k n).sram + sram_for x (blocks_for x (need_in p parts t n k)) ≤ 106) is (sram_fits p program n t table parts k are))
        (subst (λ x. (taken_upto p parts k n).tcam + tcam_for x (blocks_for x (need_in p parts t n k)) ≤ 16) is (tcam_fits p program n t table parts k are))
    memory_by kind.Ternary is key need f =
        ternary_formed p t s (need_in p parts t n k) (taken_upto p parts k n) (sym bits) (keyed need.has_key key.has_actions)
        (subst (λ x. (taken_upto p parts k n).sram + sram_for x (blocks_for x (need_in p parts t n k)) ≤ 106) is (sram_fits p program n t table parts k are))
        (subst (λ x. (taken_upto p parts k n).tcam + tcam_for x (blocks_for x (need_in p parts t n k)) ≤ 16) is (tcam_fits p program n t table parts k are))

    ternary_small : (kd : Kind) → (taken_upto p parts k n).tcam + quanta_in parts n k * divided_up (key_bits p t) 40 ≤ 16 → 1 ≤ key_bits p t → 2048 * quanta_in parts n k ≤ 2 ^ 32
    ternary_small kd room key =
        let row : 1 ≤ divided_up (key_bits p t) 40 = omega (arith, key) in
        omega (arith, few_quanta (quanta_in parts n k) (divided_up (key_bits p t) 40) 16 row (omega (arith, room)))

    cells_small : (kd : Kind) → t.kind ≡ kd → HasNeed kd (table_need p t) → IsFormat kd (table_need p t) (format_at p n) → cells_for kd (format_at p n).per (quanta_in parts n k) ≤ 2 ^ 32
    cells_small kind.Keyless is need f = omega arith
    cells_small kind.Exact is need f =
        let room = subst (λ x. (taken_upto p parts k n).sram + sram_for x (blocks_for x (need_in p parts t n k)) ≤ 106) is (sram_fits p program n t table parts k are) in
        few_quanta_cells (table_need p t) (format_at p n) (quanta_in parts n k) f (few_quanta (quanta_in parts n k) (4 * (format_at p n).width) 106 (omega (arith, f.has_width)) (omega (arith, room)))
    cells_small kind.Prefix is need f = ternary_small kind.Prefix (subst (λ x. (taken_upto p parts k n).tcam + tcam_for x (blocks_for x (need_in p parts t n k)) ≤ 16) is (tcam_fits p program n t table parts k are)) need.has_key
    cells_small kind.Ternary is need f = ternary_small kind.Ternary (subst (λ x. (taken_upto p parts k n).tcam + tcam_for x (blocks_for x (need_in p parts t n k)) ≤ 16) is (tcam_fits p program n t table parts k are)) need.has_key

    numbers_small : All (λ j. (number_at es j).number < 2 ^ 32) (stands_of_part p plan t n k)
    numbers_small = All-unmap (λ (x : CellNumber). x.number < 2 ^ 32) (number_at es) (stands_of_part p plan t n k) (subst (All (λ (x : CellNumber). x.number < 2 ^ 32)) numbers small)

    pub slot_formed : slot_is_formed s ≡ true
    slot_formed =
        let within = slice_get_within p.nodes n node at in
        let nodes = program.counts.nodes in
        let its_guard = and_at (slice_get p.nodes n) (λ (x : Node). s.guard ≡ guard_of x.guard) node at unit.guard in
        let guard : guard_is_formed s.guard ≡ true =
        ap guard_is_formed its_guard
        ∙ guard_formed n node.guard (omega (arith, within, nodes)) (program.nodes n node at).guard (small_mask node.guard (subst SmallGuard its_guard mask)) in
        let keys : list_all lane_is_formed s.keys ≡ true = ap (list_all lane_is_formed) carried.keys ∙ lanes_formed p plan.places keeps t.key in
        let room = cells_small t.kind refl (has_need p program n t table) (is_format p program n t table) in
        let cells = cells_within (cells_for t.kind (format_at p n).per (quanta_before parts n k)) (cells_for t.kind (format_at p n).per (quanta_in parts n k)) (slice_index_or plan.stands n []) in
        let each : All (λ x. number_is_formed x ≡ true) (map (number_at es) (stands_of_part p plan t n k)) =
        All-map (λ x. number_is_formed x ≡ true) (number_at es) (stands_of_part p plan t n k) (λ j d lt.
        (let below = cells j d lt in
        rw (
          lt-ltb (get_or (stands_of_part p plan t n k) j d).cell (2 ^ 32) (omega (arith, below, room)),
          lt-ltb (number_at es (get_or (stands_of_part p plan t n k) j d)).number (2 ^ 32) (numbers_small j d lt),
        ) refl)) in
        let listed : list_all number_is_formed s.numbers ≡ true =
        ap (list_all number_is_formed) numbers ∙ list_all-from_AllPass number_is_formed (map (number_at es) (stands_of_part p plan t n k)) each in
        let head : slot_head_is_formed s ≡ true =
        rw (
          lt-ltb s.node 256 (omega (arith, unit.number, within, nodes)),
          guard,
          le-leb s.actions 14 (omega (arith, carried.actions, formed_table.few_actions)),
          lt-ltb s.held 65536 (omega (arith, held, sizes.held)),
          lt-ltb (length s.keys) 65536 (omega (arith, key_lanes, bits, sizes.key)),
          keys,
          lt-ltb (length s.numbers) (2 ^ 32) (omega (arith, count)),
          listed,
        ) refl in
        let own : memory_is_formed s s.memory ≡ true =
        ap (memory_is_formed s) memory ∙ memory_by t.kind refl formed_table.key (has_need p program n t table) (is_format p program n t table) in
        rw (head, own) refl
