-- The cells of each table hold its entries, as the map tells.
use Rattle.std.proofs.lemmas.Bool.Decides.{nat_tests}
use Rattle.std.proofs.Common.{◌≡◌, ◌≢◌, ℕ, ◌*◌, ◌<◌, ◌==◌, true, false, List, Option, Some, None, length, map, get_or, refl, sym, ap, ◌∙◌, subst, ◌⊎◌, inl, inr, arith}
use Rattle.std.specs.Prelude.{All, Contains, IsSomeAnd, ⊤, find, option_and_then, option_map, slice_get, unwrap_or}
use Rattle.std.proofs.lemmas.Bool.{both_ways, eq-eqb, eqb-true, le-ltb}
use Rattle.std.proofs.Math.Bool.{and-false}
use Rattle.std.proofs.lemmas.List.{get_or_default}
use Rattle.std.proofs.lemmas.List.Elements.{Contains-get_or, All-contains}
use Rattle.std.proofs.lemmas.Option.{none-some, same_Some, slice_get_within}
use Rattle.rmt_build.specs.Types.{Program, Test, Table, Kind, Node, Config, Stage, SlotUnit, CellNumber, Memory}
use Rattle.rmt_ast.specs.declared.program.Kind.TheVariants.{Keyless, Exact, Prefix, Ternary}
use Rattle.rmt_ast.specs.declared.entry.Entry.{Entry}
use Rattle.rmt_ast.specs.EntryLists.{AreEntries}
use Rattle.rmt_ast.specs.RowOrder.{goes_first}
use Rattle.rmt_ast.specs.State.{width_of}
use Rattle.rmt_config.specs.declared.config.Memory.TheVariants as memory
use Rattle.rmt_config.specs.Cells.{Content, candidates, content_of, is_seen, number_of_cell}
use Rattle.rmt_config.specs.LaneForm.{bits_of_lanes}
use Rattle.rmt_pack.specs.Placements.{quanta_in}
use Rattle.rmt_refine.specs.declared.map.CellOf.{CellOf}
use Rattle.rmt_config.specs.Rooms.{tests_as_one}
use Rattle.rmt_config.specs.Instructions.{first_code}
use Rattle.rmt_refine.specs.Cells.{HoldsEntry, IsBefore, IsCandidate, IsSpotOf, IsTold, Spot, TableCellsCarried}
use Rattle.rmt_refine.specs.Units.{UnitsCarried, applied, nodes_in, table_at}
use Rattle.rmt_refine.specs.View.{own_content, own_number, own_view, slot_of}
use Rattle.rmt_pack.proofs.FindLaws.{Contains-range, found_passes}
use Rattle.rmt_refine.proofs.NodeLaws.{one_place}
use Rattle.rmt_pack.proofs.PartLaws.{IsPart, and_from, then_some}
use Rattle.rmt_refine.proofs.PartLaws.{part_of_spot, slot_of_part, spot_of_part, unit_of_part}
use Rattle.rmt_filling.specs.declared.memory.PartNeed.{PartNeed}
use Rattle.rmt_filling.specs.declared.memory.Taken.{Taken}
use Rattle.rmt_filling.specs.declared.plan.Plan.{Plan}
use Rattle.rmt_filling.specs.declared.stands.Stand.{Stand}
use Rattle.rmt_build.specs.BuiltStage.{HoldsStand, IsBuiltStage}
use Rattle.rmt_filling.specs.Memories.{memory_for}
use Rattle.rmt_build.specs.Plans.{AreStands, need_in, stands_of_part, taken_upto}
use Rattle.rmt_filling.specs.Formats.{format_at}
use Rattle.rmt_build.specs.Promises.{HasRows}
use Rattle.rmt_filling.specs.EntryCells.{GoesFirst, StandInOrder, StandOnce, cells_for}
use Rattle.rmt_build.specs.Told.{cells_told}
use Rattle.rmt_build.proofs.CellsLaws.{each_stands, no_cells, one_spot, part_in, stands_told, told_stands}
use Rattle.rmt_build.proofs.SpotLaws.{StandsAt, listed_stands, part_size, slot_built, stand_there, stands_listed, there_stands}
use Rattle.rmt_build.proofs.StandLaws.{behind_parts, first_cell, one_cell, part_cells}
use Rattle.rmt_bits.proofs.MemberLaws.{Contains-item}
use Rattle.rmt_refine.proofs.RankLaws.{compare}
use Rattle.rmt_config.proofs.CellLaws.{clear-head}
use Rattle.rmt_bits.proofs.FindLaws.{find-some}

-- ---- kinds and orders

-- only one kind is exact
abbrev IsExact : Kind → Type 0
IsExact Keyless = ⊥
IsExact Exact = ⊤
IsExact Prefix = ⊥
IsExact Ternary = ⊥

kinds_apart : (kind : Kind) → kind ≡ Exact → IsExact kind
kinds_apart kind e = subst IsExact (sym e) tt

-- ---- contents

-- what a cell of a slot holds
pub own_content_is : (c : Config) (n k place cell : ℕ) (stage : Stage) (slot : SlotUnit) → IsPart c n k place stage slot → own_content c k place cell ≡ content_of stage slot cell
own_content_is c n k place cell stage slot part =
    ap (λ (o : Option Stage). unwrap_or (option_and_then (λ (s : Stage). option_map (λ (x : SlotUnit). content_of s x cell) (slot_of s place)) o) (record { head = 0; key = 0; mask = 0; held = 0 })) part.stage_is
    ∙ ap (λ (o : Option SlotUnit). unwrap_or (option_map (λ (x : SlotUnit). content_of stage x cell) o) (record { head = 0; key = 0; mask = 0; held = 0 })) part.slot_is

own_number_is : (c : Config) (n k place cell : ℕ) (stage : Stage) (slot : SlotUnit) → IsPart c n k place stage slot → own_number c k place cell ≡ number_of_cell slot.numbers cell
own_number_is c n k place cell stage slot part =
    ap (λ (o : Option SlotUnit). unwrap_or (option_map (λ (x : SlotUnit). number_of_cell x.numbers cell) o) 0) (slot_of_part c n k place stage slot part)

same_spot : (a b : Spot) → a.stage ≡ b.stage → a.place ≡ b.place → a.cell ≡ b.cell → a ≡ b
same_spot a b stage place cell = λ i. record { stage = stage i; place = place i; cell = cell i }

-- a stand in a cell, or none
some_stand : (xs : List Stand) (cell : ℕ) → ((y : Stand) × Contains xs y × (y.cell ≡ cell)) ⊎ All (λ (y : Stand). y.cell ≢ cell) xs
some_stand xs cell = by (find (λ (y : Stand). y.cell == cell) xs) refl
  where
    by : (o : Option Stand) → find (λ (y : Stand). y.cell == cell) xs ≡ o → ((y : Stand) × Contains xs y × (y.cell ≡ cell)) ⊎ All (λ (y : Stand). y.cell ≢ cell) xs
    by (Some y) e = let r = found_passes (λ (z : Stand). z.cell == cell) xs y e in inl (y, r.0, eqb-true y.cell cell r.1)
    by None e =
        inr (λ k d lt same.
        (let there : Contains xs (get_or xs k d) = Contains-get_or xs k d lt in
        let z = find-some (λ (y : Stand). y.cell == cell) xs (get_or xs k d) there (eq-eqb (get_or xs k d).cell cell same) in
        none-some z.0 (sym e ∙ z.1)))

-- the first of two never goes behind
pub goes_back : (kind : Kind) (e f : Entry) → GoesFirst kind e f → goes_first kind f e ≡ false
goes_back Keyless e f goes = refl
goes_back Exact e f goes = refl
goes_back Prefix e f goes = grind (arith, nat_tests, goes)
goes_back Ternary e f goes = grind (arith, nat_tests, goes)

pub goes_itself : (kind : Kind) (e : Entry) → goes_first kind e e ≡ false
goes_itself Keyless e = refl
goes_itself Exact e = refl
goes_itself Prefix e = rw (le-ltb e.rank e.rank (omega arith), le-ltb e.number e.number (omega arith)) (and-false (e.rank == e.rank))
goes_itself Ternary e = rw (le-ltb e.rank e.rank (omega arith), le-ltb e.number e.number (omega arith)) (and-false (e.rank == e.rank))

has_rows : (kind : Kind) (e f : Entry) → goes_first kind e f ≡ true → HasRows kind
has_rows Keyless e f first = absurd (both_ways false refl first)
has_rows Exact e f first = absurd (both_ways false refl first)
has_rows Prefix e f first = tt
has_rows Ternary e f first = tt

-- where rows stand in order, the first of two entries stands in a lower one
in_front : (kind : Kind) (es : List Entry) (own : List Stand) (e f : Entry) (s r : Stand) → StandInOrder kind es own → StandOnce (length es) own → Contains own s → Contains own r
    → slice_get es s.entry ≡ Some e → slice_get es r.entry ≡ Some f → goes_first kind e f ≡ true → s.cell < r.cell
in_front kind es own e f s r order once in_s in_r at_s at_r first = elim (compare in_s.0 in_r.0) [
  | inl lt ↦
      let less = once.rise in_s.0 in_r.0 s lt in_r.1 in
      let r_is : get_or own in_r.0 s ≡ r = get_or_default own in_r.0 s r in_r.1 ∙ in_r.2 in
      subst (λ (x : Stand). x.cell < r.cell) in_s.2 (subst (λ (y : Stand). (get_or own in_s.0 s).cell < y.cell) r_is less)
  | inr (inl gt) ↦
      let s_is : get_or own in_s.0 r ≡ s = get_or_default own in_s.0 r s in_s.1 ∙ in_s.2 in
      let goes = order.order in_r.0 in_s.0 r gt in_s.1 f e (ap (λ (x : Stand). slice_get es x.entry) in_r.2 ∙ at_r) (ap (λ (x : Stand). slice_get es x.entry) s_is ∙ at_s) in
      absurd (both_ways (goes_first kind e f) (goes_back kind f e goes) first)
  | inr (inr same) ↦
      let r_is : get_or own in_r.0 s ≡ r = get_or_default own in_r.0 s r in_r.1 ∙ in_r.2 in
      let both : s ≡ r = sym in_s.2 ∙ ap (λ i. get_or own i s) same ∙ r_is in
      let entry : e ≡ f = same_Some e f (sym at_s ∙ ap (λ (x : Stand). slice_get es x.entry) both ∙ at_r) in
      absurd (both_ways (goes_first kind e e) (goes_itself kind e) (subst (λ (x : Entry). goes_first kind e x ≡ true) (sym entry) first))
]

row_candidates : (kind : Kind) (need : PartNeed) (taken : Taken) (seed bits key cell : ℕ) → (kind ≡ Exact → ⊥) → cell < cells_for kind need.format.per need.quanta
    → Contains (candidates seed bits (memory_for kind need taken) key) cell
row_candidates Keyless need taken seed bits key cell other lt = absurd (omega (arith, lt))
row_candidates Exact need taken seed bits key cell other lt = absurd (other refl)
row_candidates Prefix need taken seed bits key cell other lt = Contains-range (2048 * need.quanta) cell lt
row_candidates Ternary need taken seed bits key cell other lt = Contains-range (2048 * need.quanta) cell lt

module _ (p : Program) (lists : List (List Entry)) (plan : Plan) (c : Config) (cells : List CellOf) (entries : AreEntries p lists)
    (units : UnitsCarried p plan.places plan.placement.parts plan.starts c) (stands : AreStands p lists plan.placement.parts plan.stands)
    (built : (k : ℕ) (stage : Stage) → slice_get c.stages k ≡ Some stage → IsBuiltStage p lists plan k stage)
    (cells_are : cells ≡ cells_told (length p.nodes) c.stages) where
  -- an entry that stands in a cell of an exact part is looked for there
  abbrev pub AreLoaded : Type 0
  AreLoaded =
      (n k place cell : ℕ) (t : Table) (es : List Entry) (own : List Stand) (stage : Stage) (slot : SlotUnit) (e : Entry)
      → table_at p n ≡ Some t → t.kind ≡ Exact → slice_get lists n ≡ Some es → slice_get plan.stands n ≡ Some own → IsPart c n k place stage slot
      → StandsAt p plan n t es own e k cell
      → Contains (candidates c.seed (bits_of_lanes slot.keys) slot.memory (tests_as_one (λ (u : Test). u.value) (map (width_of p) t.key) e.tests)) cell

  -- the entries of a table with rows stand in order
  abbrev pub AreInRows : Type 0
  AreInRows =
      (n : ℕ) (t : Table) (es : List Entry) (own : List Stand) → table_at p n ≡ Some t → HasRows t.kind → slice_get lists n ≡ Some es → slice_get plan.stands n ≡ Some own
      → StandInOrder t.kind es own

  module _ (n : ℕ) (t : Table) (es : List Entry) (own : List Stand) (table_is : table_at p n ≡ Some t) (es_are : slice_get lists n ≡ Some es) (own_is : slice_get plan.stands n ≡ Some own) where
    abbrev At : Entry → ℕ → ℕ → Type 0
    At = StandsAt p plan n t es own

    -- two entries in one cell are one
    same_in_cell : (e f : Entry) (k cell : ℕ) → At e k cell → At f k cell → e ≡ f
    same_in_cell e f k cell one two =
        let stand = one_cell (length es) own (stands.each n es own es_are own_is) one.stand two.stand one.there two.there (one.cell_is ∙ sym two.cell_is) in
        same_Some e f (sym one.entry_is ∙ ap (λ (s : Stand). slice_get es s.entry) stand ∙ two.entry_is)

    spot_there : (e : Entry) → Contains es e → (at : Spot) × IsSpotOf c n at × IsTold cells e at
    spot_there e there =
        let r = each_stands p lists plan c cells entries units stands built cells_are n t es own table_is es_are own_is e there in
        let k = r.0 in
        let cell = r.1 in
        let s = r.3 in
        let some = no_cells t.kind (format_at p n).per (quanta_in plan.placement.parts n k) cell s.within in
        let node = then_some (λ (x : Node). applied p x.what) (slice_get p.nodes n) t table_is in
        let within = slice_get_within p.nodes n node.0 node.1 in
        let q = part_in p lists plan c cells entries units stands built cells_are n k t table_is within r.2 some in
        let size = part_size p lists plan c entries units stands built n k q.0 q.1 q.2 q.3 t es own table_is es_are own_is in
        let lt = s.within in (
          record { stage = k; place = q.0; cell = cell },
          spot_of_part c n k q.0 cell q.1 q.2 q.3 (omega (arith, lt, size)),
          stands_told p lists plan c cells entries units stands built cells_are n t es own table_is es_are own_is e k q.0 cell q.1 q.2 q.3 s,
        )

    -- each cell that is seen holds an entry of which the map tells
    only_told : (at : Spot) → IsSpotOf c n at → is_seen ((own_view c).content at.stage at.place at.cell).head ≡ true → (e : Entry) × Contains es e × IsTold cells e at
    only_told at is_spot seen =
        let r = part_of_spot c n at is_spot in
        let stage = r.0 in
        let slot = r.1 in
        let part = r.2 in
        let b = slot_built p lists plan c entries units stands built n at.stage at.place stage slot part t es own table_is es_are own_is in
        let content = own_content_is c n at.stage at.place at.cell stage slot part in
        elim (some_stand (stands_of_part p plan t slot.node at.stage) at.cell) [
          | inl found ↦
              let y = found.0 in
              let h = All-contains (HoldsStand p t es (first_code stage at.place) stage slot) (stands_of_part p plan t slot.node at.stage) y b.holds found.1 in
              let s = stand_there p lists plan c entries units stands built n at.stage at.place stage slot part t es own table_is es_are own_is y found.1 h.entry h.is in (
                h.entry,
                Contains-item es y.entry h.entry h.is,
                stands_told p lists plan c cells entries units stands built cells_are n t es own table_is es_are own_is h.entry at.stage at.place at.cell stage slot part
                    (subst (At h.entry at.stage) found.2 s),
              )
          | inr none ↦
              let head = clear-head slot.memory (content_of stage slot at.cell) at.cell r.3 (b.empty at.cell r.3 none) in
              absurd (both_ways (is_seen ((own_view c).content at.stage at.place at.cell).head) (ap is_seen (ap (λ (x : Content). x.head) content ∙ head)) seen)
        ]

    one_told : (e : Entry) (a b : Spot) → Contains es e → IsSpotOf c n a → IsSpotOf c n b → IsTold cells e a → IsTold cells e b → a ≡ b
    one_told e a b there spot_a spot_b told_a told_b =
        let sa = told_stands p lists plan c cells entries units stands built cells_are n t es own table_is es_are own_is e a there told_a in
        let sb = told_stands p lists plan c cells entries units stands built cells_are n t es own table_is es_are own_is e b there told_b in
        let same = one_spot p lists plan c cells entries units stands built cells_are n t es own table_is es_are own_is e a.stage b.stage a.cell b.cell sa sb in
        let ra = part_of_spot c n a spot_a in
        let rb = part_of_spot c n b spot_b in
        let ua = unit_of_part p plan.places plan.placement.parts plan.starts c n a.stage a.place ra.0 ra.1 units ra.2 in
        let ub = unit_of_part p plan.places plan.placement.parts plan.starts c n b.stage b.place rb.0 rb.1 units rb.2 in
        same_spot a b same.0
        (one_place p plan.placement.parts b.stage n a.place b.place (subst (λ k. slice_get (nodes_in p plan.placement.parts k) a.place ≡ Some n) same.0 ua.0) ub.0) same.1

    -- the number of a cell is that of the entry that stands there
    number_there : (e : Entry) (k place cell : ℕ) (stage : Stage) (slot : SlotUnit) → IsPart c n k place stage slot → At e k cell → number_of_cell slot.numbers cell ≡ e.number
    number_there e k place cell stage slot part s =
        let listed = stands_listed p lists plan c entries units stands built n k place stage slot part t es own table_is es_are own_is e cell s in
        let z = find-some (λ (x : CellNumber). x.cell == cell) slot.numbers (record { cell = cell; number = e.number }) listed (eq-eqb cell cell refl) in
        let q = found_passes (λ (x : CellNumber). x.cell == cell) slot.numbers z.0 z.1 in
        let at : z.0.cell ≡ cell = eqb-true z.0.cell cell q.1 in
        let r = listed_stands p lists plan c entries units stands built n k place stage slot part t es own table_is es_are own_is z.0 q.0 in
        let same = same_in_cell r.0 e k cell (subst (At r.0 k) at r.3) s in
        ap (λ (o : Option CellNumber). unwrap_or (option_map (λ (x : CellNumber). x.number) o) 0) z.1 ∙ sym r.2 ∙ ap (λ (x : Entry). x.number) same

    holds_told : (e : Entry) (at : Spot) (stage : Stage) → Contains es e → IsSpotOf c n at → IsTold cells e at → slice_get c.stages at.stage ≡ Some stage
        → HoldsEntry p t (map (width_of p) t.key) (first_code stage at.place) e ((own_view c).number at.stage at.place at.cell) ((own_view c).content at.stage at.place at.cell)
    holds_told e at stage there is_spot told at_stage =
        let r = part_of_spot c n at is_spot in
        let slot = r.1 in
        let same_stage : r.0 ≡ stage = same_Some r.0 stage (sym r.2.stage_is ∙ at_stage) in
        let part : IsPart c n at.stage at.place stage slot = subst (λ (x : Stage). IsPart c n at.stage at.place x slot) same_stage r.2 in
        let s = told_stands p lists plan c cells entries units stands built cells_are n t es own table_is es_are own_is e at there told in
        let b = slot_built p lists plan c entries units stands built n at.stage at.place stage slot part t es own table_is es_are own_is in
        let y : Stand = record { cell = at.cell; entry = s.stand.entry } in
        let in_part = there_stands p lists plan c entries units stands built n at.stage at.place stage slot part t es own table_is es_are own_is e at.cell s in
        let h = All-contains (HoldsStand p t es (first_code stage at.place) stage slot) (stands_of_part p plan t slot.node at.stage) y b.holds in_part in
        let same : h.entry ≡ e = same_Some h.entry e (sym h.is ∙ s.entry_is) in
        let content : content_of stage slot at.cell ≡ (own_view c).content at.stage at.place at.cell = sym (own_content_is c n at.stage at.place at.cell stage slot part) in
        let number = own_number_is c n at.stage at.place at.cell stage slot part ∙ number_there e at.stage at.place at.cell stage slot part s in
        let held = subst (λ (x : Content). HoldsEntry p t (map (width_of p) t.key) (first_code stage at.place) h.entry h.entry.number x) content h.holds in
        let its = subst (λ (x : Entry). HoldsEntry p t (map (width_of p) t.key) (first_code stage at.place) x x.number ((own_view c).content at.stage at.place at.cell)) same held in
        record { seen = its.seen; code = its.code; key = its.key; mask = its.mask; held = its.held; number_is = number }

    module _ (loaded : AreLoaded) (in_rows : AreInRows) where
      candidate_told : (e : Entry) (at : Spot) → Contains es e → IsSpotOf c n at → IsTold cells e at
          → IsCandidate c (own_view c) (tests_as_one (λ (u : Test). u.value) (map (width_of p) t.key) e.tests) at
      candidate_told e at there is_spot told =
          let r = part_of_spot c n at is_spot in
          let stage = r.0 in
          let slot = r.1 in
          let part = r.2 in
          let key = tests_as_one (λ (u : Test). u.value) (map (width_of p) t.key) e.tests in
          let s = told_stands p lists plan c cells entries units stands built cells_are n t es own table_is es_are own_is e at there told in
          and_from (slice_get c.stages at.stage) (λ (x : Stage). IsSomeAnd (slot_of x at.place) (λ (y : SlotUnit). Contains (candidates c.seed (bits_of_lanes y.keys) y.memory key) at.cell)) stage part.stage_is
          (and_from (slot_of stage at.place) (λ (y : SlotUnit). Contains (candidates c.seed (bits_of_lanes y.keys) y.memory key) at.cell) slot part.slot_is
          (elim (exact_or t.kind) [
            | inl exact ↦ loaded n at.stage at.place at.cell t es own stage slot e table_is exact es_are own_is part s
            | inr other ↦
                let b = slot_built p lists plan c entries units stands built n at.stage at.place stage slot part t es own table_is es_are own_is in
                let need = need_in p plan.placement.parts t slot.node at.stage in
                let size = part_size p lists plan c entries units stands built n at.stage at.place stage slot part t es own table_is es_are own_is in
                let all = ap (λ m. part_cells t.kind (format_at p m).per plan.placement.parts m at.stage) part.node_is in
                subst (λ (m : Memory). Contains (candidates c.seed (bits_of_lanes slot.keys) m key) at.cell) (sym b.memory)
                (row_candidates t.kind need (taken_upto p plan.placement.parts at.stage slot.node) c.seed (bits_of_lanes slot.keys) key at.cell other (omega (arith, s.within, all)))
          ]))
        where
          exact_or : (kind : Kind) → (kind ≡ Exact) ⊎ (kind ≡ Exact → ⊥)
          exact_or Keyless = inr (λ e. kinds_apart Keyless e)
          exact_or Exact = inl refl
          exact_or Prefix = inr (λ e. kinds_apart Prefix e)
          exact_or Ternary = inr (λ e. kinds_apart Ternary e)

      order_told : (e f : Entry) (a b : Spot) → Contains es e → Contains es f → IsSpotOf c n a → IsSpotOf c n b → IsTold cells e a → IsTold cells f b → goes_first t.kind e f ≡ true → IsBefore a b
      order_told e f a b in_e in_f spot_a spot_b told_a told_b first =
          let per = (format_at p n).per in
          let parts = plan.placement.parts in
          let sa = told_stands p lists plan c cells entries units stands built cells_are n t es own table_is es_are own_is e a in_e told_a in
          let sb = told_stands p lists plan c cells entries units stands built cells_are n t es own table_is es_are own_is f b in_f told_b in
          let order = in_rows n t es own table_is (has_rows t.kind e f first) es_are own_is in
          let less : sa.stand.cell < sb.stand.cell =
          in_front t.kind es own e f sa.stand sb.stand order (stands.each n es own es_are own_is) sa.there sb.there sa.entry_is sb.entry_is first in
          let lt_a = sa.within in
          elim (compare a.stage b.stage) [
            | inl lt ↦ inl lt
            | inr (inl gt) ↦ absurd (let behind = behind_parts t.kind per parts n b.stage a.stage gt in omega (arith, behind, less, sa.cell_is, sb.cell_is, sb.within))
            | inr (inr same) ↦ inr (same, (let at = ap (first_cell t.kind per parts n) same in omega (arith, less, sa.cell_is, sb.cell_is, at)))
          ]

      pub table_cells : TableCellsCarried p c (own_view c) cells n t (map (width_of p) t.key) es
      table_cells = record {
        only = only_told;
        each = λ k d lt. spot_there (get_or es k d) (Contains-get_or es k d lt);
        one = one_told;
        holds = holds_told;
        candidate = candidate_told;
        order = order_told;
      }
