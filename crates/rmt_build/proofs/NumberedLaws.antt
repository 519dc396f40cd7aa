-- No entry's number stands twice in a configuration that is put together.
use Rattle.std.proofs.Common.{◌≡◌, ℕ, suc, ◌<◌, ◌==◌, true, not, List, [], ◌∷◌, Some, length, map, get_or, refl, sym, ap, ◌∙◌, subst, inl, inr, arith, ◌≢◌}
use Rattle.std.specs.Prelude.{AllPairs, Contains, option_and_then, slice_get}
use Rattle.std.specs.List.{list_any}
use Rattle.std.proofs.lemmas.Bool.{and_from, false_from_ne_true}
use Rattle.std.proofs.lemmas.List.{get_or-map, length-map}
use Rattle.std.proofs.lemmas.List.Elements.{Contains-get_or}
use Rattle.rmt_build.specs.Types.{Program, Config, Stage, Unit, SlotUnit, CellNumber}
use Rattle.rmt_ast.specs.declared.entry.Entry.{Entry}
use Rattle.rmt_ast.specs.EntryLists.{AreEntries}
use Rattle.rmt_config.specs.declared.config.Unit.TheVariants.{Gate, Slot}
use Rattle.rmt_config.specs.CellForm.{entries_are_numbered, entry_numbers, numbers_of_stage, numbers_of_unit}
use Rattle.rmt_config.specs.Order.{are_new}
use Rattle.rmt_bits.proofs.PairLaws.{AllPairs-none}
use Rattle.rmt_refine.specs.Units.{UnitsCarried}
use Rattle.rmt_refine.specs.View.{as_slot}
use Rattle.rmt_refine.proofs.NodeLaws.{one_place}
use Rattle.rmt_refine.proofs.NumberLaws.{one_list}
use Rattle.rmt_pack.proofs.PartLaws.{IsPart}
use Rattle.rmt_refine.proofs.PartLaws.{unit_of_part}
use Rattle.rmt_filling.specs.declared.plan.Plan.{Plan}
use Rattle.rmt_build.specs.BuiltStage.{IsBuiltStage}
use Rattle.rmt_build.specs.Plans.{AreStands}
use Rattle.rmt_build.specs.Told.{cell_told, cells_told}
use Rattle.rmt_build.proofs.CellsLaws.{one_spot, same_entry}
use Rattle.rmt_build.proofs.DistinctLaws.{flat_pairs, slot_apart}
use Rattle.rmt_build.proofs.SpotLaws.{StandsAt, listed_stands, table_of_part}
use Rattle.rmt_bits.proofs.MemberLaws.{Contains-unmap, Contains-map, Contains-first, Contains-later, Contains-split, flat_from, Contains-from_any}
use Rattle.rmt_refine.proofs.TheLaw.{table_entries}

-- ---- numbers that differ are new

new_of : (seen xs : List ℕ) → AllPairs ◌≢◌ xs → ((m : ℕ) → Contains seen m → Contains xs m → ⊥) → are_new seen xs ≡ true
new_of seen [] apart clear = refl
new_of seen (n ∷ ns) apart clear =
    and_from (not (list_any (λ m. m == n) seen)) (are_new (n ∷ seen) ns)
    (ap not (false_from_ne_true (list_any (λ m. m == n) seen) (λ any. clear n (Contains-from_any seen n any) (Contains-first n ns))))
    (new_of (n ∷ seen) ns (λ i j d lt inside. apart (suc i) (suc j) d (omega (arith, lt)) (omega (arith, inside))) (λ m in_seen in_ns.
    elim (Contains-split n seen m in_seen) [
      | inl same ↦ (let lt = in_ns.1 in apart 0 (suc in_ns.0) m (omega arith) (omega (arith, lt)) (same ∙ sym in_ns.2))
      | inr later ↦ clear m later (Contains-later n ns m in_ns)
    ]))

-- ---- the numbers of a configuration

module _ (p : Program) (lists : List (List Entry)) (plan : Plan) (c : Config) (entries : AreEntries p lists)
    (units : UnitsCarried p plan.places plan.placement.parts plan.starts c) (stands : AreStands p lists plan.placement.parts plan.stands)
    (built : (k : ℕ) (stage : Stage) → slice_get c.stages k ≡ Some stage → IsBuiltStage p lists plan k stage) where
  -- a number that a unit of stage k lists
  record NumberAt (k place x : ℕ) (stage : Stage) (u : Unit) : Type 0 where
    slot : SlotUnit
    part : IsPart c slot.node k place stage slot
    number : CellNumber
    there : Contains slot.numbers number
    is : number.number ≡ x

  number_at_unit : (k place x : ℕ) (stage : Stage) (u : Unit) → slice_get c.stages k ≡ Some stage → slice_get stage.units place ≡ Some u → Contains (numbers_of_unit u) x → NumberAt k place x stage u
  number_at_unit k place x stage (Gate g) at unit_is there = absurd (let lt = there.1 in omega (arith, lt))
  number_at_unit k place x stage (Slot s) at unit_is there =
      let y = Contains-unmap (λ (n : CellNumber). n.number) s.numbers x there in
      record { slot = s; part = record { stage_is = at; slot_is = ap (option_and_then as_slot) unit_is; node_is = refl }; number = y.0; there = y.1; is = y.2 }

  -- one number stands in one unit alone, in one cell
  record IsOne (j k m n a b : ℕ) : Type 0 where
    node : m ≡ n
    stage : j ≡ k
    cell : a ≡ b

  one_number : (j k q r x : ℕ) (stage other : Stage) (u v : Unit) (one : NumberAt j q x stage u) (two : NumberAt k r x other v) → IsOne j k one.slot.node two.slot.node one.number.cell two.number.cell
  one_number j k q r x stage other u v one two =
      let n = one.slot.node in
      let has = table_of_part p lists plan c entries units stands built n j q stage one.slot one.part in
      let its = listed_stands p lists plan c entries units stands built n j q stage one.slot one.part has.table has.entries has.own has.table_is has.entries_are has.own_is one.number one.there in
      let has_two = table_of_part p lists plan c entries units stands built two.slot.node k r other two.slot two.part in
      let its_two = listed_stands p lists plan c entries units stands built two.slot.node k r other two.slot two.part has_two.table has_two.entries has_two.own has_two.table_is has_two.entries_are has_two.own_is two.number two.there in
      let node = one_list lists n two.slot.node has.entries has_two.entries x entries.numbers_once has.entries_are has_two.entries_are
      (subst (Contains (map (λ (e : Entry). e.number) has.entries)) (its.2 ∙ one.is) (Contains-map (λ (e : Entry). e.number) has.entries its.0 its.1))
      (subst (Contains (map (λ (e : Entry). e.number) has_two.entries)) (its_two.2 ∙ two.is) (Contains-map (λ (e : Entry). e.number) has_two.entries its_two.0 its_two.1)) in
      let part : IsPart c n k r other two.slot = record { stage_is = two.part.stage_is; slot_is = two.part.slot_is; node_is = two.part.node_is ∙ sym node } in
      let that = listed_stands p lists plan c entries units stands built n k r other two.slot part has.table has.entries has.own has.table_is has.entries_are has.own_is two.number two.there in
      let cells = cells_told (length p.nodes) c.stages in
      let rising = (table_entries p lists n has.table has.entries entries has.table_is has.entries_are).rising in
      let entry : that.0 ≡ its.0 = same_entry has.entries that.0 its.0 rising that.1 its.1 (that.2 ∙ two.is ∙ sym (its.2 ∙ one.is)) in
      let spot = one_spot p lists plan c cells entries units stands built refl n has.table has.entries has.own has.table_is has.entries_are has.own_is its.0 j k one.number.cell two.number.cell its.3
      (subst (λ e. StandsAt p plan n has.table has.entries has.own e k two.number.cell) entry that.3) in
      record { node = node; stage = spot.0; cell = spot.1 }

  -- in a slot
  slot_numbers : (k place : ℕ) (stage : Stage) (s : SlotUnit) → slice_get c.stages k ≡ Some stage → slice_get stage.units place ≡ Some (Slot s) → AllPairs ◌≢◌ (map (λ (n : CellNumber). n.number) s.numbers)
  slot_numbers k place stage s at unit_is i j d lt inside same =
      let in_j : j < length s.numbers = omega (arith, inside, length-map s.numbers (λ (n : CellNumber). n.number)) in
      let in_i : i < length s.numbers = omega (arith, in_j, lt) in
      let z : CellNumber = record { cell = 0; number = d } in
      let a = get_or s.numbers i z in
      let b = get_or s.numbers j z in
      let part : IsPart c s.node k place stage s = record { stage_is = at; slot_is = ap (option_and_then as_slot) unit_is; node_is = refl } in
      let equal : a.number ≡ b.number = sym (get_or-map (λ (n : CellNumber). n.number) s.numbers i z d in_i) ∙ same ∙ get_or-map (λ (n : CellNumber). n.number) s.numbers j z d in_j in
      let one : NumberAt k place b.number stage (Slot s) = record { slot = s; part = part; number = a; there = Contains-get_or s.numbers i z in_i; is = equal } in
      let two : NumberAt k place b.number stage (Slot s) = record { slot = s; part = part; number = b; there = Contains-get_or s.numbers j z in_j; is = refl } in
      let is = one_number k k place place b.number stage stage (Slot s) (Slot s) one two in
      let many = length-map s.numbers (cell_told k) in
      let told = cell_told k z in
      (slot_apart p lists plan c entries units stands built s.node k place stage s part) i j told lt (omega (arith, many, in_j))
      (get_or-map (cell_told k) s.numbers i z told in_i ∙ both k a b equal is.cell ∙ sym (get_or-map (cell_told k) s.numbers j z told in_j))
    where
      both : (m : ℕ) (a b : CellNumber) → a.number ≡ b.number → a.cell ≡ b.cell → cell_told m a ≡ cell_told m b
      both m a b number cell = ap (λ x. cell_told m (record { cell = a.cell; number = x })) number ∙ ap (λ x. cell_told m (record { cell = x; number = b.number })) cell

  unit_numbers : (k place : ℕ) (stage : Stage) (u : Unit) → slice_get c.stages k ≡ Some stage → slice_get stage.units place ≡ Some u → AllPairs ◌≢◌ (numbers_of_unit u)
  unit_numbers k place stage (Gate g) at unit_is = AllPairs-none ◌≢◌
  unit_numbers k place stage (Slot s) at unit_is = slot_numbers k place stage s at unit_is

  stage_numbers : (k : ℕ) (stage : Stage) → slice_get c.stages k ≡ Some stage → AllPairs ◌≢◌ (numbers_of_stage stage)
  stage_numbers k stage at =
      flat_pairs ◌≢◌ numbers_of_unit stage.units (λ place u is. unit_numbers k place stage u at is)
      (λ i j u v a b lt is_u is_v in_a in_b same.
      (let one = number_at_unit k i b stage u at is_u (subst (Contains (numbers_of_unit u)) same in_a) in
      let two = number_at_unit k j b stage v at is_v in_b in
      let is = one_number k k i j b stage stage u v one two in
      let part : IsPart c one.slot.node k j stage two.slot = record { stage_is = two.part.stage_is; slot_is = two.part.slot_is; node_is = two.part.node_is ∙ sym is.node } in
      let place = one_place p plan.placement.parts k one.slot.node i j
      (unit_of_part p plan.places plan.placement.parts plan.starts c one.slot.node k i stage one.slot units one.part).0
      (unit_of_part p plan.places plan.placement.parts plan.starts c one.slot.node k j stage two.slot units part).0 in
      omega (arith, place, lt)))

  all_numbers : AllPairs ◌≢◌ (entry_numbers c)
  all_numbers =
      flat_pairs ◌≢◌ numbers_of_stage c.stages stage_numbers
      (λ j k s t a b lt at_s at_t in_a in_b same.
      (let u = flat_from numbers_of_unit s.units a in_a in
      let v = flat_from numbers_of_unit t.units b in_b in
      let one = number_at_unit j u.0 b s u.1 at_s u.2 (subst (Contains (numbers_of_unit u.1)) same u.3) in
      omega (arith, (one_number j k u.0 v.0 b s t u.1 v.1 one (number_at_unit k v.0 b t v.1 at_t v.2 v.3)).stage, lt)))

  pub entries_numbered : entries_are_numbered c ≡ true
  entries_numbered = new_of [] (entry_numbers c) all_numbers (λ m there in_xs. (let lt = there.1 in omega (arith, lt)))
