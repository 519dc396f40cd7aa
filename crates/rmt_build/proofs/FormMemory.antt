-- The memories of a built stage hold what their slots list, and no other bit.
use Rattle.std.proofs.Common.{◌≡◌, ℕ, suc, ◌+◌, ◌-◌, ◌<◌, ◌≤◌, Bool, true, false, ◌&&◌, ◌==◌, cond, nat_lt, List, [], ◌∷◌, Some, length, map, take, get_or, refl, sym, ap, ◌∙◌, subst, arith}
use Rattle.std.specs.Prelude.{All, AllPairs, filter, nat_le, option_map, slice_get, slice_index_or, sum_by}
use Rattle.std.specs.List.{list_all, list_any}
use Rattle.std.proofs.lemmas.Simd.{map-map}
use Rattle.std.proofs.lemmas.Bool.{and_parts, both_ways, eq-eqb, le-leb, leb-true, lt-ltb, ltb-true, not-true}
use Rattle.std.proofs.lemmas.List.{length-map}
use Rattle.std.proofs.lemmas.List.Elements.{All-cons, All-head, All-map, All-nil, All-tail, All-weaker, filter_passes}
use Rattle.std.proofs.lemmas.List.Folds.{list_any_at}
use Rattle.std.proofs.lemmas.List.Sums.{list_all-from_AllPass, sum_by-cons}
use Rattle.std.proofs.lemmas.Option.{get_or_from_slice_get, slice_get-get_or, slice_get-map, slice_get_within}
use Rattle.rmt_bits.proofs.AllLaws.{All-slice_get}
use Rattle.rmt_ast.specs.declared.entry.Entry.{Entry}
use Rattle.rmt_build.specs.Types.{Program, Table, Stage, Unit, SlotUnit, CellNumber}
use Rattle.rmt_ast.specs.EntryLists.{AreTableEntries, IsEntry, params_of, terms_of}
use Rattle.rmt_config.specs.declared.config.Unit.TheVariants.{Gate, Slot}
use Rattle.rmt_config.specs.CellForm.{Coded, SlotHolds, cells_of, coded_from, content_is_formed, numbers_are_formed}
use Rattle.rmt_config.specs.Cells.{cells_in, code_of, content_of, visible_bits}
use Rattle.rmt_config.specs.Order.{rises_from}
use Rattle.rmt_config.specs.Instructions.{first_code, unit_instructions}
use Rattle.rmt_filling.specs.declared.plan.Plan.{Plan}
use Rattle.rmt_filling.specs.declared.stands.Stand.{Stand}
use Rattle.rmt_build.specs.BuiltStage.{HoldsStand, IsBuiltSlot}
use Rattle.rmt_filling.specs.Numbers.{number_at}
use Rattle.rmt_filling.specs.Formats.{format_at}
use Rattle.rmt_build.specs.Plans.{need_in, quanta_before, stands_of_part, taken_upto}
use Rattle.rmt_filling.specs.EntryCells.{cells_for, counted_from, stands_there, stands_within}
use Rattle.rmt_pack.specs.Placements.{quanta_in}
use Rattle.rmt_refine.proofs.PartLaws.{some_and}
use Rattle.rmt_build.proofs.MemoryLaws.{memory_cells}

-- ---- the slots of a stage, with their first instructions

coded_each : (P : Coded → Type 0) (first : ℕ) (us : List Unit)
    → ((j : ℕ) (s : SlotUnit) → slice_get us j ≡ Some (Slot s) → P (record { first = first + sum_by unit_instructions (take j us); slot = s })) → All P (coded_from first us)
coded_each P first [] h = All-nil P
coded_each P first (Gate g ∷ us) h =
    coded_each P first us (λ j s at.
    (let more = sum_by-cons unit_instructions (Gate g) (take j us) in
    let e : first + sum_by unit_instructions (take (suc j) (Gate g ∷ us)) ≡ first + sum_by unit_instructions (take j us) = omega (arith, more) in
    subst (λ n. P (record { first = n; slot = s })) e (h (suc j) s at)))
coded_each P first (Slot x ∷ us) h =
    let none : first + 0 ≡ first = omega arith in
    All-cons P (record { first = first; slot = x }) (coded_from (first + x.actions + 1) us) (subst (λ n. P (record { first = n; slot = x })) none (h 0 x refl))
    (coded_each P (first + x.actions + 1) us (λ j s at.
    (let more = sum_by-cons unit_instructions (Slot x) (take j us) in
    let e : first + sum_by unit_instructions (take (suc j) (Slot x ∷ us)) ≡ first + x.actions + 1 + sum_by unit_instructions (take j us) = omega (arith, more) in
    subst (λ n. P (record { first = n; slot = s })) e (h (suc j) s at))))

pub slots_hold : (stage : Stage) → ((i : ℕ) (s : SlotUnit) → slice_get stage.units i ≡ Some (Slot s) → SlotHolds 3 stage (first_code stage i) s)
    → All (λ (c : Coded). SlotHolds 3 stage c.first c.slot) (coded_from 0 stage.units)
slots_hold stage each =
    coded_each (λ (c : Coded). SlotHolds 3 stage c.first c.slot) 0 stage.units (λ j s at.
    (let e : first_code stage j ≡ 0 + first_code stage j = omega arith in subst (λ n. SlotHolds 3 stage n s) e (each j s at)))

-- ---- the cells that a slot lists

-- the cells of entries in a part rise
step_true : (first count least : ℕ) (b : Bool) (x : Stand) (xs : List Stand) → stands_there first count x ≡ b → (first ≤ x.cell → first + least ≤ x.cell)
    → (first ≤ x.cell → rises_from (x.cell - first + 1) (map (λ (s : Stand). s.cell) (stands_within first count xs)) ≡ true)
    → (b ≡ false → rises_from least (map (λ (s : Stand). s.cell) (stands_within first count xs)) ≡ true)
    → rises_from least (map (λ (s : Stand). s.cell) (map (counted_from first) (cond b (x ∷ filter (stands_there first count) xs) (filter (stands_there first count) xs)))) ≡ true
step_true first count least true x xs e le kept away =
    let low = leb-true first x.cell (and_parts (nat_le first x.cell) (nat_lt x.cell (first + count)) e).0 in
    rw (le-leb least (x.cell - first) (omega (arith, low, le low)), kept low) refl
step_true first count least false x xs e le kept away = away refl

rise_within : (first count least : ℕ) (xs : List Stand) → AllPairs (λ (a b : Stand). a.cell < b.cell) xs → All (λ (s : Stand). first ≤ s.cell → first + least ≤ s.cell) xs
    → rises_from least (map (λ (s : Stand). s.cell) (stands_within first count xs)) ≡ true
rise_within first count least [] pairs all = refl
rise_within first count least (x ∷ xs) pairs all =
    let tail : AllPairs (λ (a b : Stand). a.cell < b.cell) xs = λ i j d lt within. pairs (suc i) (suc j) d (omega (arith, lt)) (omega (arith, within)) in
    let behind : first ≤ x.cell → All (λ (s : Stand). first ≤ s.cell → first + (x.cell - first + 1) ≤ s.cell) xs =
    λ own j d lt low. (let less = pairs 0 (suc j) d (omega arith) (omega (arith, lt)) in omega (arith, less, low, own)) in
    step_true first count least (stands_there first count x) x xs refl (All-head (λ (s : Stand). first ≤ s.cell → first + least ≤ s.cell) x xs all)
    (λ own. rise_within first count (x.cell - first + 1) xs tail (behind own))
    (λ e. rise_within first count least xs tail (All-tail (λ (s : Stand). first ≤ s.cell → first + least ≤ s.cell) x xs all))

pub cells_within : (first count : ℕ) (xs : List Stand) → All (λ (s : Stand). s.cell < count) (stands_within first count xs)
cells_within first count xs =
    All-map (λ (s : Stand). s.cell < count) (counted_from first) (filter (stands_there first count) xs)
    (All-weaker (λ (x : Stand). stands_there first count x ≡ true) (λ (x : Stand). x.cell - first < count) (λ x e.
    (let there = and_parts (nat_le first x.cell) (nat_lt x.cell (first + count)) e in
    let low = leb-true first x.cell there.0 in
    let high = ltb-true x.cell (first + count) there.1 in
    omega (arith, low, high))) (filter (stands_there first count) xs) (filter_passes (stands_there first count) xs))

-- ---- one slot

module _ (p : Program) (plan : Plan) (k i : ℕ) (stage : Stage) (slot : SlotUnit) (t : Table) (es : List Entry) (n : ℕ) (number : slot.node ≡ n) (built : IsBuiltSlot p plan k i stage slot t es)
    (are : AreTableEntries n es (terms_of p t)) (actions : slot.actions ≡ length t.actions)
    (rise : AllPairs (λ (a b : Stand). a.cell < b.cell) (slice_index_or plan.stands slot.node [])) where
  abbrev stands : List Stand
  stands = stands_of_part p plan t slot.node k

  cells : cells_of slot ≡ map (λ (s : Stand). s.cell) stands
  cells = ap (map (λ (x : CellNumber). x.cell)) built.numbers ∙ map-map (λ (x : CellNumber). x.cell) (number_at es) stands

  room : cells_in slot.memory ≡ cells_for t.kind (format_at p slot.node).per (quanta_in plan.placement.parts slot.node k)
  room = ap cells_in built.memory ∙ memory_cells t.kind (need_in p plan.placement.parts t slot.node k) (taken_upto p plan.placement.parts k slot.node)

  its_content : (s : Stand) → HoldsStand p t es (first_code stage i) stage slot s → content_is_formed 3 (first_code stage i) slot (content_of stage slot s.cell) ≡ true
  its_content s h =
      let is : IsEntry n (terms_of p t) h.entry = All-slice_get (IsEntry n (terms_of p t)) es s.entry h.entry are.each h.is in
      let params = some_and (slice_get (map (params_of p) t.actions) h.entry.action) _ is.action in
      let within = slice_get_within (map (params_of p) t.actions) h.entry.action params.0 params.1 in
      let long = length-map t.actions (params_of p) in
      rw (
        h.holds.seen,
        eq-eqb (visible_bits (content_of stage slot s.cell).head) 3 h.visible,
        le-leb (first_code stage i) (code_of (content_of stage slot s.cell).head) (omega (arith, h.holds.code)),
        lt-ltb (code_of (content_of stage slot s.cell).head) (first_code stage i + slot.actions) (omega (arith, h.holds.code, within, long, actions)),
      ) refl

  numbers_formed : numbers_are_formed 3 (first_code stage i) stage slot ≡ true
  numbers_formed =
      let first : ℕ = cells_for t.kind (format_at p slot.node).per (quanta_before plan.placement.parts slot.node k) in
      let count : ℕ = cells_for t.kind (format_at p slot.node).per (quanta_in plan.placement.parts slot.node k) in
      let whole = slice_index_or plan.stands slot.node [] in
      let fits = All-map (λ c. c < cells_in slot.memory) (λ (s : Stand). s.cell) stands (λ j d lt. subst (λ m. (get_or stands j d).cell < m) (sym room) (cells_within first count whole j d lt)) in
      let contents = All-map (λ c. content_is_formed 3 (first_code stage i) slot (content_of stage slot c) ≡ true) (λ (s : Stand). s.cell) stands (λ j d lt. its_content (get_or stands j d) (built.holds j d lt)) in
      let own = map (λ (s : Stand). s.cell) stands in
      let within : list_all (λ c. nat_lt c (cells_in slot.memory)) own ≡ true = list_all-from_AllPass (λ c. nat_lt c (cells_in slot.memory)) own (λ j d lt. lt-ltb (get_or own j d) (cells_in slot.memory) (fits j d lt)) in
      let formed : list_all (λ c. content_is_formed 3 (first_code stage i) slot (content_of stage slot c)) own ≡ true =
      list_all-from_AllPass (λ c. content_is_formed 3 (first_code stage i) slot (content_of stage slot c)) own contents in
      ap (λ cs. rises_from 0 cs && list_all (λ c. nat_lt c (cells_in slot.memory)) cs && list_all (λ c. content_is_formed 3 (first_code stage i) slot (content_of stage slot c)) cs) cells
      ∙ (rw (rise_within first count 0 whole rise (λ j d lt low. omega (arith, low)), within, formed) refl)

  pub slot_holds : SlotHolds 3 stage (first_code stage i) slot
  slot_holds = record {
    numbers = numbers_formed;
    others = λ c lt none.
        built.empty c lt (λ j d within same.
        (let listed : list_any (λ m. m == c) (cells_of slot) ≡ true =
        ap (list_any (λ m. m == c)) cells
        ∙ list_any_at (λ m. m == c) (map (λ (s : Stand). s.cell) stands) j (get_or stands j d).cell (subst (λ m. j < m) (sym (length-map stands (λ (s : Stand). s.cell))) within)
        (eq-eqb _ c (get_or_map j d within ∙ same)) in
        both_ways (list_any (λ m. m == c) (cells_of slot)) (not-true (list_any (λ m. m == c) (cells_of slot)) none) listed));
    ends = built.ends;
  }
    where
      get_or_map : (j : ℕ) (d : Stand) → j < length stands → get_or (map (λ (s : Stand). s.cell) stands) j (get_or stands j d).cell ≡ (get_or stands j d).cell
      get_or_map j d lt = get_or_from_slice_get (map (λ (s : Stand). s.cell) stands) j (get_or stands j d).cell (get_or stands j d).cell
          (slice_get-map (λ (s : Stand). s.cell) stands j ∙ ap (option_map (λ (s : Stand). s.cell)) (slice_get-get_or stands j d lt))
