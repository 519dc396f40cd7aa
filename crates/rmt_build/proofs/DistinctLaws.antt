-- A map tells of each cell once.
use Rattle.std.proofs.Common.{◌≡◌, ◌≢◌, ℕ, suc, ◌+◌, ◌-◌, ◌<◌, ◌==◌, Bool, true, false, cond, List, [], ◌∷◌, Some, map, get_or, refl, sym, ap, ◌∙◌, subst, arith}
use Rattle.std.specs.Prelude.{All, AllPairs, Contains, filter, nat_le, nat_lt, option_and_then, slice_get}
use Rattle.std.specs.List.{flat_map, range_with_len}
use Rattle.std.proofs.lemmas.Bool.{and_parts, eqb-true, leb-true}
use Rattle.std.proofs.lemmas.List.Elements.{Contains-get_or}
use Rattle.std.proofs.lemmas.List.FromFn.{get_or-range_with_len, length-range_with_len}
use Rattle.std.proofs.lemmas.List.Kept.{AllPairs-filter}
use Rattle.std.proofs.lemmas.Option.{get_or_from_slice_get, slice_get_within}
use Rattle.rmt_build.specs.Types.{Program, Config, Stage, Unit, SlotUnit, CellNumber}
use Rattle.rmt_ast.specs.declared.entry.Entry.{Entry}
use Rattle.rmt_ast.specs.EntryLists.{AreEntries}
use Rattle.rmt_ast.specs.WellFormed.{AreDistinct}
use Rattle.rmt_config.specs.declared.config.Unit.TheVariants.{Gate, Slot}
use Rattle.rmt_refine.specs.declared.map.CellOf.{CellOf}
use Rattle.rmt_refine.specs.Units.{UnitsCarried}
use Rattle.rmt_refine.specs.View.{as_slot}
use Rattle.rmt_refine.proofs.NodeLaws.{one_place}
use Rattle.rmt_refine.proofs.NumberLaws.{one_list}
use Rattle.rmt_pack.proofs.PartLaws.{IsPart}
use Rattle.rmt_refine.proofs.PartLaws.{unit_of_part}
use Rattle.rmt_filling.specs.declared.plan.Plan.{Plan}
use Rattle.rmt_filling.specs.declared.stands.Stand.{Stand}
use Rattle.rmt_build.specs.BuiltStage.{IsBuiltStage}
use Rattle.rmt_filling.specs.Numbers.{number_at}
use Rattle.rmt_build.specs.Plans.{AreStands}
use Rattle.rmt_filling.specs.EntryCells.{StandOnce, counted_from, stands_there, stands_within}
use Rattle.rmt_build.specs.Told.{cell_told, cells_told, stages_told, unit_told}
use Rattle.rmt_build.proofs.SpotLaws.{listed_stands, part_stands, slot_built, table_of_part}
use Rattle.rmt_build.proofs.ToldLaws.{slot_there, stages_listed, unit_listed}
use Rattle.rmt_bits.proofs.PairLaws.{AllPairs-map, AllPairs-append, AllPairs-none}
use Rattle.rmt_bits.proofs.MemberLaws.{Contains-map, flat_from, Contains-unfilter}

-- ---- pairs of joined lists

across : {X : Type 0} (R : X → X → Type 0) (xs ys : List X) → ((a b : X) → Contains xs a → Contains ys b → R a b) → All (λ a. All (R a) ys) xs
across R xs ys all = λ k d lt. λ j e less. all (get_or xs k d) (get_or ys j e) (Contains-get_or xs k d lt) (Contains-get_or ys j e less)

pub flat_pairs : {X Y : Type 0} (R : Y → Y → Type 0) (f : X → List Y) (xs : List X) → ((i : ℕ) (x : X) → slice_get xs i ≡ Some x → AllPairs R (f x))
    → ((i j : ℕ) (x y : X) (a b : Y) → i < j → slice_get xs i ≡ Some x → slice_get xs j ≡ Some y → Contains (f x) a → Contains (f y) b → R a b) → AllPairs R (flat_map f xs)
flat_pairs R f [] each apart = AllPairs-none R
flat_pairs R f (x ∷ xs) each apart =
    AllPairs-append R (f x) (flat_map f xs) (each 0 x refl)
    (flat_pairs R f xs (λ i y at. each (suc i) y at) (λ i j y z a b lt at_y at_z in_a in_b. apart (suc i) (suc j) y z a b (omega (arith, lt)) at_y at_z in_a in_b))
    (across R (f x) (flat_map f xs) (λ a b in_a in_b.
    (let r = flat_from f xs b in_b in apart 0 (suc r.0) x r.1 a b (omega arith) refl r.2 in_a r.3)))

-- ---- the cells of a slot

-- those of the stands of a part differ
part_apart : (es : List Entry) (own : List Stand) (count first cells k : ℕ) → StandOnce count own → AllPairs ◌≢◌ (map (cell_told k) (map (number_at es) (stands_within first cells own)))
part_apart es own count first cells k once =
    AllPairs-map ◌≢◌ (cell_told k) (map (number_at es) (stands_within first cells own))
    (AllPairs-map (λ (a b : CellNumber). cell_told k a ≢ cell_told k b) (number_at es) (stands_within first cells own)
    (AllPairs-map (λ (a b : Stand). cell_told k (number_at es a) ≢ cell_told k (number_at es b)) (counted_from first) (filter (stands_there first cells) own)
    (λ i j d lt inside same.
    (let kept = filter (stands_there first cells) own in
    let less = AllPairs-filter (λ (a b : Stand). a.cell < b.cell) (stands_there first cells) own once.rise i j d lt inside in
    let there = Contains-unfilter (stands_there first cells) own (get_or kept i d) (Contains-get_or kept i d (omega (arith, lt, inside))) in
    let low = leb-true first (get_or kept i d).cell (and_parts (nat_le first (get_or kept i d).cell) (nat_lt (get_or kept i d).cell (first + cells)) there.1).0 in
    let e : (get_or kept i d).cell - first ≡ (get_or kept j d).cell - first = ap (λ (x : CellOf). x.cell) same in
    omega (arith, less, low, e)))))

module _ (p : Program) (lists : List (List Entry)) (plan : Plan) (c : Config) (entries : AreEntries p lists)
    (units : UnitsCarried p plan.places plan.placement.parts plan.starts c) (stands : AreStands p lists plan.placement.parts plan.stands)
    (built : (k : ℕ) (stage : Stage) → slice_get c.stages k ≡ Some stage → IsBuiltStage p lists plan k stage) where
  pub slot_apart : (n k place : ℕ) (stage : Stage) (slot : SlotUnit) → IsPart c n k place stage slot → AllPairs ◌≢◌ (map (cell_told k) slot.numbers)
  slot_apart n k place stage slot part =
      let has = table_of_part p lists plan c entries units stands built n k place stage slot part in
      let b = slot_built p lists plan c entries units stands built n k place stage slot part has.table has.entries has.own has.table_is has.entries_are has.own_is in
      let numbers = b.numbers ∙ ap (map (number_at has.entries)) (part_stands p lists plan c entries units stands built n k place stage slot part has.table has.entries has.own has.table_is has.entries_are has.own_is) in
      subst (λ xs. AllPairs ◌≢◌ (map (cell_told k) xs)) (sym numbers) (part_apart has.entries has.own _ _ _ k (stands.each n has.entries has.own has.entries_are has.own_is))

  unit_apart : (n k place : ℕ) (stage : Stage) (u : Unit) → slice_get c.stages k ≡ Some stage → slice_get stage.units place ≡ Some u → AllPairs ◌≢◌ (unit_told n k u)
  unit_apart n k place stage (Gate g) at unit_is = AllPairs-none ◌≢◌
  unit_apart n k place stage (Slot s) at unit_is = by (s.node == n) refl
    where
      by : (b : Bool) → (s.node == n) ≡ b → AllPairs ◌≢◌ (cond b (map (cell_told k) s.numbers) [])
      by false e = AllPairs-none ◌≢◌
      by true e = slot_apart n k place stage s (record { stage_is = at; slot_is = ap (option_and_then as_slot) unit_is; node_is = eqb-true s.node n e })

  -- in a stage one unit alone lists cells of a node
  stage_apart : (n k : ℕ) (stage : Stage) → slice_get c.stages k ≡ Some stage → AllPairs ◌≢◌ (flat_map (unit_told n k) stage.units)
  stage_apart n k stage at =
      flat_pairs ◌≢◌ (unit_told n k) stage.units (λ place u is. unit_apart n k place stage u at is)
      (λ i j u v a b lt is_u is_v in_a in_b same.
      (let one = unit_listed n k u a in_a in
      let two = unit_listed n k v b in_b in
      let place = one_place p plan.placement.parts k n i j
      (unit_of_part p plan.places plan.placement.parts plan.starts c n k i stage one.slot units (record { stage_is = at; slot_is = ap (option_and_then as_slot) is_u ∙ one.unit_is; node_is = one.node_is })).0
      (unit_of_part p plan.places plan.placement.parts plan.starts c n k j stage two.slot units (record { stage_is = at; slot_is = ap (option_and_then as_slot) is_v ∙ two.unit_is; node_is = two.node_is })).0 in
      omega (arith, place, lt)))

  stages_apart : (n first : ℕ) (stages : List Stage) → ((at : ℕ) (stage : Stage) → slice_get stages at ≡ Some stage → slice_get c.stages (first + at) ≡ Some stage) → AllPairs ◌≢◌ (stages_told n first stages)
  stages_apart n first [] known = AllPairs-none ◌≢◌
  stages_apart n first (stage ∷ stages) known =
      let none : first + 0 ≡ first = omega arith in
      AllPairs-append ◌≢◌ (flat_map (unit_told n first) stage.units) (stages_told n (first + 1) stages)
      (stage_apart n first stage (sym (ap (slice_get c.stages) none) ∙ known 0 stage refl))
      (stages_apart n (first + 1) stages (λ at s is. (let e : first + 1 + at ≡ first + suc at = omega arith in ap (slice_get c.stages) e ∙ known (suc at) s is)))
      (across ◌≢◌ (flat_map (unit_told n first) stage.units) (stages_told n (first + 1) stages) (λ a b in_a in_b same.
      (let r = flat_from (unit_told n first) stage.units a in_a in
      let two = stages_listed n (first + 1) stages b in_b in
      let stage_a : first ≡ a.stage = ap (λ (x : CellOf). x.stage) (unit_listed n first r.1 a r.3).told in
      let stage_b : first + 1 + two.at ≡ b.stage = ap (λ (x : CellOf). x.stage) two.own.told in
      omega (arith, stage_a, stage_b, ap (λ (x : CellOf). x.stage) same))))

  -- the entry of a cell that is told is one of the node's
  entry_told : (n : ℕ) (x : CellOf) → Contains (stages_told n 0 c.stages) x → (es : List Entry) × (slice_get lists n ≡ Some es) × Contains (map (λ (e : Entry). e.number) es) x.entry
  entry_told n x there =
      let q = stages_listed n 0 c.stages x there in
      let part : IsPart c n q.at q.place q.stage q.own.slot = record { stage_is = q.stage_is; slot_is = slot_there q; node_is = q.own.node_is } in
      let has = table_of_part p lists plan c entries units stands built n q.at q.place q.stage q.own.slot part in
      let its = listed_stands p lists plan c entries units stands built n q.at q.place q.stage q.own.slot part has.table has.entries has.own has.table_is has.entries_are has.own_is q.own.number q.own.there in
      let number : q.own.number.number ≡ x.entry = ap (λ (y : CellOf). y.entry) q.own.told in
      (has.entries, has.entries_are, subst (Contains (map (λ (e : Entry). e.number) has.entries)) (its.2 ∙ number) (Contains-map (λ (e : Entry). e.number) has.entries its.0 its.1))

  pub told_once : (nodes : ℕ) → AreDistinct (cells_told nodes c.stages)
  told_once nodes =
      flat_pairs ◌≢◌ (λ n. stages_told n 0 c.stages) (range_with_len 0 nodes)
      (λ i n at. stages_apart n 0 c.stages (λ k s is. (let e : 0 + k ≡ k = omega arith in ap (slice_get c.stages) e ∙ is)))
      (λ i j m n a b lt at_m at_n in_a in_b same.
      (let one = entry_told m a in_a in
      let two = entry_told n b in_b in
      let node = one_list lists m n one.0 two.0 b.entry entries.numbers_once one.1 two.1 (subst (Contains (map (λ (e : Entry). e.number) one.0)) (ap (λ (x : CellOf). x.entry) same) one.2) two.2 in
      let long = length-range_with_len 0 nodes in
      let in_i = slice_get_within (range_with_len 0 nodes) i m at_m in
      let in_j = slice_get_within (range_with_len 0 nodes) j n at_n in
      let m_is = sym (get_or_from_slice_get (range_with_len 0 nodes) i m 0 at_m) ∙ get_or-range_with_len 0 nodes i 0 (omega (arith, in_i, long)) in
      let n_is = sym (get_or_from_slice_get (range_with_len 0 nodes) j n 0 at_n) ∙ get_or-range_with_len 0 nodes j 0 (omega (arith, in_j, long)) in
      omega (arith, m_is, n_is, node, lt)))
