-- The cells in which entries stand by a plan are those that the slots of its stages list.
use Rattle.std.proofs.Common.{◌≡◌, ◌≢◌, ℕ, suc, ◌+◌, ◌<◌, ◌==◌, ◌∙◌, Bool, true, false, cond, List, [], ◌∷◌, ◌++◌, Option, Some, None, length, map, get_or, refl, sym, ap, subst, inl, inr, arith}
use Rattle.std.specs.Prelude.{AllPairs, Contains, nat_lt, option_and_then, option_map, slice_get, slice_index_or, unwrap_or}
use Rattle.std.specs.List.{AllZip, flat_map, range_with_len}
use Rattle.std.proofs.lemmas.Bool.{cases_eq, cases_lt, eq-eqb, lt-ltb, ne_eqb}
use Rattle.std.proofs.lemmas.List.{append-nil, length-map}
use Rattle.std.proofs.lemmas.List.Elements.{All-contains, All-weaker}
use Rattle.std.proofs.lemmas.List.Kept.{AllPairs-filter}
use Rattle.std.proofs.lemmas.Option.{get_or_from_slice_get, none-some, slice_get-get_or}
use Rattle.rmt_bits.proofs.AlikeLaws.{flat_map_alike}
use Rattle.rmt_bits.proofs.AllLaws.{All-range}
use Rattle.rmt_bits.proofs.ListLaws.{flat_map-none, slice_get-alike}
use Rattle.rmt_bits.proofs.MemberLaws.{Contains-filter, Contains-split}
use Rattle.rmt_bits.proofs.PairLaws.{AllPairs-head, AllPairs-tail}
use Rattle.rmt_ast.specs.declared.entry.Entry.{Entry}
use Rattle.rmt_ast.specs.EntryLists.{AreEntries}
use Rattle.rmt_config.specs.declared.config.Unit.TheVariants.{Gate, Slot}
use Rattle.rmt_config.specs.TableForm.{node_of}
use Rattle.rmt_pack.proofs.BlockLaws.{range-apart}
use Rattle.rmt_pack.specs.Placements.{quanta_in}
use Rattle.rmt_refine.specs.declared.map.CellOf.{CellOf}
use Rattle.rmt_refine.specs.Units.{UnitCarried, applied, nodes_in, table_at}
use Rattle.rmt_refine.specs.View.{as_slot}
use Rattle.rmt_pack.proofs.FindLaws.{Contains-range}
use Rattle.rmt_build.specs.Types.{Node, Program, Stage, Table, Unit}
use Rattle.rmt_filling.specs.declared.plan.Plan.{Plan}
use Rattle.rmt_build.specs.BuiltStage.{IsBuiltStage}
use Rattle.rmt_filling.specs.EntryCells.{cells_for, counted_from}
use Rattle.rmt_filling.specs.Numbers.{number_at}
use Rattle.rmt_build.specs.Planned.{cells_planned, node_planned, part_planned}
use Rattle.rmt_filling.specs.Formats.{format_at}
use Rattle.rmt_build.specs.Plans.{quanta_before, stands_of_part}
use Rattle.rmt_build.specs.Stages.{AreStagesOf}
use Rattle.rmt_build.specs.Told.{cell_told, cells_told, stages_told, unit_told}
use Rattle.rmt_build.proofs.FormStage.{kinds}
use Rattle.rmt_build.proofs.NamesListedStands.{no_cell, no_quanta}

-- ---- lists

-- lists of two lists' items, where those of each two are alike
zip_flat : {X Y A : Type 0} (R : X → Y → Type 0) (f : X → List A) (g : Y → List A) (xs : List X) (ys : List Y) → AllZip R xs ys
    → ((i : ℕ) (x : X) (y : Y) → slice_get ys i ≡ Some y → R x y → g y ≡ f x) → flat_map g ys ≡ flat_map f xs
zip_flat R f g [] [] all same = refl
zip_flat R f g [] (y ∷ ys) all same = absurd all
zip_flat R f g (x ∷ xs) [] all same = absurd all
zip_flat R f g (x ∷ xs) (y ∷ ys) all same =
    ap (λ zs. zs ++ flat_map g ys) (same 0 x y refl all.0) ∙ ap (λ zs. f x ++ zs) (zip_flat R f g xs ys all.1 (λ i a b at. same (suc i) a b at))

-- a list at one of some numbers alone
only_at : {A : Type 0} (n : ℕ) (own : List A) (ms : List ℕ) → AllPairs ◌≢◌ ms → Contains ms n → flat_map (λ m. cond (m == n) own []) ms ≡ own
only_at n own [] apart there = absurd (let lt = there.1 in omega (arith, lt))
only_at {A} n own (m ∷ ms) apart there = elim (Contains-split m ms n there) [
  | inl same ↦
      let none : flat_map at ms ≡ [] =
      flat_map-none at ms (All-weaker (λ k. m ≢ k) (λ k. at k ≡ []) (λ k ne. ap (λ b. cond b own []) (ne_eqb k n (λ e. ne (same ∙ sym e)))) ms (AllPairs-head ◌≢◌ m ms apart)) in
      ap (λ b. cond b own [] ++ flat_map at ms) (eq-eqb m n same) ∙ ap (λ xs. own ++ xs) none ∙ append-nil own
  | inr later ↦
      ap (λ b. cond b own [] ++ flat_map at ms) (ne_eqb m n (All-contains (λ k. m ≢ k) ms n (AllPairs-head ◌≢◌ m ms apart) later))
      ∙ only_at n own ms (AllPairs-tail ◌≢◌ m ms apart) later
]
  where
    at : ℕ → List A
    at k = cond (k == n) own []

nothing_at : {A : Type 0} (b : Bool) (own : List A) → own ≡ [] → cond b own [] ≡ []
nothing_at false own none = refl
nothing_at true own none = none

-- stage by stage
by_stages : (n first : ℕ) (of : ℕ → List CellOf) (stages : List Stage)
    → ((i : ℕ) (stage : Stage) → slice_get stages i ≡ Some stage → flat_map (unit_told n (first + i)) stage.units ≡ of (first + i)) → stages_told n first stages ≡ flat_map of (range_with_len first (length stages))
by_stages n first of [] each = refl
by_stages n first of (stage ∷ stages) each =
    let none : first + 0 ≡ first = omega arith in
    let here : flat_map (unit_told n first) stage.units ≡ of first = subst (λ k. flat_map (unit_told n k) stage.units ≡ of k) none (each 0 stage refl) in
    let later = by_stages n (first + 1) of stages (λ i s at.
    let e : first + suc i ≡ first + 1 + i = omega arith in
    subst (λ k. flat_map (unit_told n k) s.units ≡ of k) e (each (suc i) s at)) in
    ap (λ xs. xs ++ stages_told n (first + 1) stages) here ∙ ap (λ xs. of first ++ xs) later

-- ---- a plan

module _ (p : Program) (lists : List (List Entry)) (plan : Plan) where
  -- a table without quanta in a stage has no cells there
  pub part_absent : (t : Table) (n k : ℕ) → quanta_in plan.placement.parts n k ≡ 0 → part_planned p lists plan t n k ≡ []
  part_absent t n k none =
      let cells = cells_for t.kind (format_at p n).per in
      let first = cells (quanta_before plan.placement.parts n k) in
      let zero : cells (quanta_in plan.placement.parts n k) ≡ 0 = ap cells none ∙ no_quanta t.kind (format_at p n).per in
      ap (λ xs. map (cell_told k) (map (number_at (slice_index_or lists n [])) (map (counted_from first) xs))) (no_cell first (cells (quanta_in plan.placement.parts n k)) (slice_index_or plan.stands n []) zero)

  -- the table of a node as it is found among the nodes
  pub table_seen : (nodes : List Node) (n : ℕ) (d : Node) → nodes ≡ p.nodes → n < length p.nodes → table_at p n ≡ applied p (get_or nodes n d).what
  table_seen nodes n d same lt =
      ap (option_and_then (λ (x : Node). applied p x.what)) (slice_get-get_or p.nodes n d lt) ∙ ap (λ xs. applied p (get_or xs n d).what) (sym same)

  pub node_of_table : (n : ℕ) (t : Table) → table_at p n ≡ Some t → node_planned p lists plan n ≡ flat_map (part_planned p lists plan t n) (range_with_len 0 (length plan.starts))
  node_of_table n t is = ap (λ (o : Option Table). unwrap_or (option_map (λ (x : Table). flat_map (part_planned p lists plan x n) (range_with_len 0 (length plan.starts))) o) []) is

  pub node_of_gate : (n : ℕ) → table_at p n ≡ None → node_planned p lists plan n ≡ []
  node_of_gate n is = ap (λ (o : Option Table). unwrap_or (option_map (λ (x : Table). flat_map (part_planned p lists plan x n) (range_with_len 0 (length plan.starts))) o) []) is

  -- those of a node in one stage
  abbrev in_stage : ℕ → ℕ → List CellOf
  in_stage n k = unwrap_or (option_map (λ (t : Table). part_planned p lists plan t n k) (table_at p n)) []

  stage_absent : (n k : ℕ) → quanta_in plan.placement.parts n k ≡ 0 → in_stage n k ≡ []
  stage_absent n k none = by (table_at p n)
    where
      by : (o : Option Table) → unwrap_or (option_map (λ (t : Table). part_planned p lists plan t n k) o) [] ≡ []
      by None = refl
      by (Some t) = part_absent t n k none

  in_stages : (n : ℕ) (ks : List ℕ) → unwrap_or (option_map (λ (t : Table). flat_map (part_planned p lists plan t n) ks) (table_at p n)) [] ≡ flat_map (in_stage n) ks
  in_stages n ks = by (table_at p n)
    where
      by : (o : Option Table) → unwrap_or (option_map (λ (t : Table). flat_map (part_planned p lists plan t n) ks) o) [] ≡ flat_map (λ k. unwrap_or (option_map (λ (t : Table). part_planned p lists plan t n k) o) []) ks
      by None = sym (flat_map-none (λ (k : ℕ). []) ks (λ i d lt. refl))
      by (Some t) = refl

  -- ---- and its stages

  module _ (entries : AreEntries p lists) where
    module _ (n k : ℕ) (stage : Stage) (built : IsBuiltStage p lists plan k stage) where
      -- a unit of the node lists what is planned
      own_unit : (place m : ℕ) (u : Unit) → slice_get stage.units place ≡ Some u → UnitCarried p plan.places plan.placement.parts k m u → m ≡ n → unit_told n k u ≡ in_stage n k
      own_unit place m (Gate g) at carried same = elim (kinds p plan.places plan.placement.parts k m (Gate g) carried) [
        | inl slot ↦ absurd (none-some slot.slot (ap as_slot slot.is))
        | inr gate ↦
            let none : table_at p n ≡ None = ap (table_at p) (sym same) ∙ ap (option_and_then (λ (x : Node). applied p x.what)) gate.node_is ∙ ap (applied p) gate.what_is in
            sym (ap (λ (o : Option Table). unwrap_or (option_map (λ (t : Table). part_planned p lists plan t n k) o) []) none)
      ]
      own_unit place m (Slot s) at carried same = elim (kinds p plan.places plan.placement.parts k m (Slot s) carried) [
        | inl slot ↦
            let t = slot.table in
            let es = slice_get-alike p.nodes lists m slot.node (entries.for_each_node ∙ length-map p.nodes _) slot.node_is in
            let node : s.node ≡ m = carried.number in
            let its = built.slots place s t es.0 (ap (option_and_then as_slot) at) (ap (table_at p) node ∙ slot.at) (ap (slice_get lists) node ∙ es.1) in
            let list : slice_index_or lists n [] ≡ es.0 = get_or_from_slice_get lists n es.0 [] (ap (slice_get lists) (sym same) ∙ es.1) in
            ap (λ b. cond b (map (cell_told k) s.numbers) []) (eq-eqb s.node n (node ∙ same))
            ∙ ap (map (cell_told k))
            (its.numbers ∙ ap (λ j. map (number_at es.0) (stands_of_part p plan t j k)) (node ∙ same) ∙ ap (λ (xs : List Entry). map (number_at xs) (stands_of_part p plan t n k)) (sym list))
            ∙ sym (ap (λ (o : Option Table). unwrap_or (option_map (λ (x : Table). part_planned p lists plan x n k) o) []) (ap (table_at p) (sym same) ∙ slot.at))
        | inr gate ↦ absurd (none-some s (sym (ap as_slot gate.is)))
      ]

      -- and one of another node nothing
      other_unit : (m : ℕ) (u : Unit) → node_of u ≡ m → m ≢ n → unit_told n k u ≡ []
      other_unit m (Gate g) is ne = refl
      other_unit m (Slot s) is ne = ap (λ b. cond b (map (cell_told k) s.numbers) []) (ne_eqb s.node n (λ e. ne (sym is ∙ e)))

      abbrev at_node : ℕ → List CellOf
      at_node m = cond (m == n) (in_stage n k) []

      each_unit : (place m : ℕ) (u : Unit) → slice_get stage.units place ≡ Some u → UnitCarried p plan.places plan.placement.parts k m u → unit_told n k u ≡ at_node m
      each_unit place m u at carried = elim (cases_eq m n) [
        | inl same ↦ own_unit place m u at carried same ∙ sym (ap (λ b. cond b (in_stage n k) []) (eq-eqb m n same))
        | inr ne ↦ other_unit m u carried.number ne ∙ sym (ap (λ b. cond b (in_stage n k) []) (ne_eqb m n ne))
      ]

      all_nodes : n < length p.nodes → flat_map at_node (nodes_in p plan.placement.parts k) ≡ in_stage n k
      all_nodes lt =
          let parts = plan.placement.parts in
          let stands : ℕ → Bool = λ m. nat_lt 0 (quanta_in parts m k) in
          let range = range_with_len 0 (length p.nodes) in
          elim (cases_lt 0 (quanta_in parts n k)) [
            | inl some ↦
                only_at n (in_stage n k) (nodes_in p parts k) (AllPairs-filter ◌≢◌ stands range (range-apart 0 (length p.nodes)))
                (Contains-filter stands range n (Contains-range (length p.nodes) n lt) (lt-ltb 0 (quanta_in parts n k) some))
            | inr le ↦
                let none = stage_absent n k (omega (arith, le)) in
                flat_map-none at_node (nodes_in p parts k) (λ i d inside. nothing_at (get_or (nodes_in p parts k) i d == n) (in_stage n k) none) ∙ sym none
          ]

      stage_told : n < length p.nodes → flat_map (unit_told n k) stage.units ≡ in_stage n k
      stage_told lt =
          zip_flat (UnitCarried p plan.places plan.placement.parts k) at_node (unit_told n k) (nodes_in p plan.placement.parts k) stage.units built.units (λ place m u at carried. each_unit place m u at carried)
          ∙ all_nodes lt

    pub planned_told : (stages : List Stage) → AreStagesOf p lists plan stages → cells_planned p lists plan ≡ cells_told (length p.nodes) stages
    planned_told stages are =
        flat_map_alike (node_planned p lists plan) (λ n. stages_told n 0 stages) (range_with_len 0 (length p.nodes))
        (All-range (λ n. node_planned p lists plan n ≡ stages_told n 0 stages) 0 (length p.nodes) (λ n lt. node_told n (omega (arith, lt))))
      where
        node_told : (n : ℕ) → n < length p.nodes → node_planned p lists plan n ≡ stages_told n 0 stages
        node_told n lt =
            in_stages n (range_with_len 0 (length plan.starts))
            ∙ ap (λ m. flat_map (in_stage n) (range_with_len 0 m)) (sym are.all_there)
            ∙ sym (by_stages n 0 (in_stage n) stages (λ i stage at.
            let none : i ≡ 0 + i = omega arith in
            subst (λ k. flat_map (unit_told n k) stage.units ≡ in_stage n k) none (stage_told n i stage (are.each i stage at) lt)))
