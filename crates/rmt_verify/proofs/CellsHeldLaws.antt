-- Cells hold the entries of a program exactly where each listed cell holds one of them, and they are as many.
use Rattle.std.proofs.Common.{◌≡◌, ◌≢◌, ◌⊎◌, ◌↔◌, ℕ, ◌<◌, ◌≤◌, Bool, true, false, List, length, map, get_or, Some, All, Contains, refl, sym, ap, subst, ◌∙◌, inl, inr, arith}
use Rattle.std.specs.Prelude.{AllPairs, IsSomeAnd, slice_get}
use Rattle.std.proofs.lemmas.Bool.{false≢true}
use Rattle.std.proofs.lemmas.Bool.Decides.{Decides-eqb}
use Rattle.std.proofs.lemmas.List.{length-map}
use Rattle.std.proofs.lemmas.List.Elements.{All-contains, All-contains_itself, All-map, All-weaker, Contains-get_or}
use Rattle.std.proofs.lemmas.Map.Made.{AllPairs-from_IsDistinct}
use Rattle.std.proofs.lemmas.Option.{same_Some}
use Rattle.rmt_bits.proofs.MemberLaws.{Contains-flat_map, Contains-map, Contains-unmap, from_flat_map}
use Rattle.rmt_bits.proofs.PairLaws.{AllPairs-map, AllPairs-weaker}
use Rattle.rmt_ast.specs.declared.entry.Entry.{Entry}
use Rattle.rmt_ast.specs.EntryLists.{AreEntries}
use Rattle.rmt_ast.specs.RowOrder.{goes_first}
use Rattle.rmt_ast.specs.State.{width_of}
use Rattle.rmt_config.specs.Instructions.{first_code}
use Rattle.rmt_config.specs.Cells.{Content, candidates, cells_in, content_of, is_seen}
use Rattle.rmt_config.specs.Commits.{all_entries}
use Rattle.rmt_config.specs.Form.{Formed, visible_with}
use Rattle.rmt_config.specs.LaneForm.{bits_of_lanes}
use Rattle.rmt_config.specs.PartsTold.{listed_numbers}
use Rattle.rmt_config.specs.Rooms.{PartAt, parts_of}
use Rattle.rmt_config.proofs.SpelledRanks.{listed-distinct}
use Rattle.rmt_refine.specs.declared.map.Map.{Map}
use Rattle.rmt_refine.specs.Types.{CellNumber, Config, Program, SlotUnit, Stage, Table}
use Rattle.rmt_refine.specs.Cells.{CellsCarried, HoldsEntry, IsBefore, IsCandidate, IsSpotOf, IsTold, Spot, TableCellsCarried}
use Rattle.rmt_refine.specs.Listed.{ListTheirCells, ListsItsCells}
use Rattle.rmt_refine.specs.Units.{UnitsCarried, nodes_in, table_at}
use Rattle.rmt_refine.specs.View.{own_content, own_number, own_view, slot_of}
use Rattle.rmt_refine.proofs.CellNumberLaws.{all_listed, listed_number}
use Rattle.rmt_refine.proofs.EntryLaws.{IsListed, entry_listed, listed_in, numbers_apart, one_entry, two_items}
use Rattle.rmt_refine.proofs.NodeLaws.{one_place}
use Rattle.rmt_refine.proofs.NumberLaws.{one_list}
use Rattle.rmt_pack.proofs.PartLaws.{and_at, and_from}
use Rattle.rmt_refine.proofs.PartLaws.{part_of_spot, some_and, spot_of_part, unit_of_part}
use Rattle.rmt_pack.proofs.RankLaws.{goes_never}
use Rattle.rmt_pack.proofs.RoomLaws.{PartIs, part_at_place, stages_there}
use Rattle.rmt_pack.proofs.PartOrderLaws.{Rises, parts_in_order}
use Rattle.rmt_pack.proofs.RoomOrderLaws.{pairs_flat}
use Rattle.rmt_refine.proofs.RoomOrderLaws.{pairs_with}
use Rattle.rmt_refine.proofs.SpelledLaws.{cells_rise}
use Rattle.rmt_refine.proofs.TheLaw.{table_entries}
use Rattle.rmt_refine.proofs.ViewLaws.{content_is, number_is}
use Rattle.rmt_refine.proofs.ShortLaws.{at_most}
use Rattle.rmt_verify.specs.Types.{CellOf}
use Rattle.rmt_verify.specs.CellsHeld.{CellHeld, CellsHeld, HeldThere, KeepsOrder, TableHeld, key_of, told_at}
use Rattle.rmt_verify.proofs.ShortLists.{distinct_all}

-- what is told of one cell comes before what is told of another
abbrev IsSooner : CellOf → CellOf → Type 0
IsSooner k l = (k.stage < l.stage) ⊎ ((k.stage ≡ l.stage) × (k.cell < l.cell))

module _ (p : Program) (lists : List (List Entry)) (m : Map) (c : Config) (entries : AreEntries p lists) (formed : Formed c)
    (units : UnitsCarried p m.places m.placement.parts m.starts c) where
  abbrev cells : List CellOf
  cells = m.cells

  abbrev numbers : ℕ → List ℕ
  numbers n = listed_numbers (parts_of c n)

  abbrev number_of_entry : Entry → ℕ
  number_of_entry e = e.number

  abbrev entry_told : CellOf → ℕ
  entry_told x = x.entry

  -- ---- listed cells

  parts_are : (n : ℕ) → All (PartIs c n) (parts_of c n)
  parts_are n = stages_there c n 0 c.stages (λ i. ap (slice_get c.stages) (omega arith))

  listed : ListTheirCells c
  listed = all_listed (visible_with c.names) c formed.whole.memory

  slot_listed : (n : ℕ) (part : PartAt) (h : PartIs c n part) → ListsItsCells h.stage part.slot
  slot_listed n part h = listed part.stage part.place h.stage part.slot h.part.stage_is h.part.slot_is

  distinct_numbers : (n : ℕ) → AllPairs ◌≢◌ (numbers n)
  distinct_numbers n = AllPairs-from_IsDistinct Decides-eqb (numbers n) (listed-distinct c n formed.whole.numbers)

  -- a listed cell with a number
  record HasNumber (n u : ℕ) : Type 0 where
    part : PartAt
    there : Contains (parts_of c n) part
    is : PartIs c n part
    cell : CellNumber
    among : Contains part.slot.numbers cell
    number : cell.number ≡ u

  has_number : (n u : ℕ) → Contains (numbers n) u → HasNumber n u
  has_number n u there =
      let part = from_flat_map (λ (a : PartAt). map (λ (x : CellNumber). x.number) a.slot.numbers) (parts_of c n) u there in
      let x = Contains-unmap (λ (x : CellNumber). x.number) part.0.slot.numbers u part.2 in
      record { part = part.0; there = part.1; is = All-contains (PartIs c n) (parts_of c n) part.0 (parts_are n) part.1; cell = x.0; among = x.1; number = x.2 }

  number_there : (n : ℕ) (part : PartAt) (x : CellNumber) → Contains (parts_of c n) part → Contains part.slot.numbers x → Contains (numbers n) x.number
  number_there n part x in_parts in_numbers =
      Contains-flat_map (λ (a : PartAt). map (λ (y : CellNumber). y.number) a.slot.numbers) (parts_of c n) part x.number in_parts (Contains-map (λ (y : CellNumber). y.number) part.slot.numbers x in_numbers)

  abbrev spot_of : PartAt → CellNumber → Spot
  spot_of part x = record { stage = part.stage; place = part.place; cell = x.cell }

  is_spot : (n : ℕ) (part : PartAt) (h : PartIs c n part) (x : CellNumber) → Contains part.slot.numbers x → IsSpotOf c n (spot_of part x)
  is_spot n part h x there = spot_of_part c n part.stage part.place x.cell h.stage part.slot h.part ((slot_listed n part h).within x there)

  own_number_is : (n : ℕ) (part : PartAt) (h : PartIs c n part) (x : CellNumber) → Contains part.slot.numbers x → own_number c part.stage part.place x.cell ≡ x.number
  own_number_is n part h x there =
      number_is c part.stage part.place h.stage part.slot h.part.stage_is h.part.slot_is x.cell ∙ listed_number part.slot.numbers 0 x (slot_listed n part h).rises there

  is_own_seen : (n : ℕ) (part : PartAt) (h : PartIs c n part) (x : CellNumber) → Contains part.slot.numbers x → is_seen (own_content c part.stage part.place x.cell).head ≡ true
  is_own_seen n part h x there =
      ap (λ (y : Content). is_seen y.head) (content_is c part.stage part.place h.stage part.slot h.part.stage_is h.part.slot_is x.cell) ∙ (slot_listed n part h).seen x there

  -- a cell that is seen is listed
  record IsListedAt (n : ℕ) (at : Spot) : Type 0 where
    part : PartAt
    there : Contains (parts_of c n) part
    is : PartIs c n part
    cell : CellNumber
    among : Contains part.slot.numbers cell
    same : at ≡ record { stage = part.stage; place = part.place; cell = cell.cell }

  seen_listed : (n : ℕ) (at : Spot) → IsSpotOf c n at → is_seen (own_content c at.stage at.place at.cell).head ≡ true → IsListedAt n at
  seen_listed n at is seen =
      let spot = part_of_spot c n at is in
      let r = part_at_place c n at.stage at.place spot.0 spot.1 spot.2 in
      let h = All-contains (PartIs c n) (parts_of c n) r.part (parts_are n) r.there in
      let place : own_content c at.stage at.place at.cell ≡ own_content c r.part.stage r.part.place at.cell = λ i. own_content c (sym r.stage_is i) (sym r.place_is i) at.cell in
      let own : is_seen (content_of h.stage r.part.slot at.cell).head ≡ true =
      sym (ap (λ (y : Content). is_seen y.head) (place ∙ content_is c r.part.stage r.part.place h.stage r.part.slot h.part.stage_is h.part.slot_is at.cell)) ∙ seen in
      let lt : at.cell < cells_in r.part.slot.memory = subst (λ (s : SlotUnit). at.cell < cells_in s.memory) (sym r.slot_is) spot.3 in
      let x = Contains-unmap (λ (y : CellNumber). y.cell) r.part.slot.numbers at.cell ((slot_listed n r.part h).others at.cell lt own) in
      record {
        part = r.part;
        there = r.there;
        is = h;
        cell = x.0;
        among = x.1;
        same = λ i. record { stage = sym r.stage_is i; place = sym r.place_is i; cell = sym x.2 i };
      }

  -- so the number of an entry that stands there is listed
  listed_there : (n : ℕ) (e : Entry) (at : Spot) (x : IsListedAt n at) → own_number c at.stage at.place at.cell ≡ e.number → Contains (numbers n) e.number
  listed_there n e at x is =
      let number : x.cell.number ≡ e.number = sym (own_number_is n x.part x.is x.cell x.among) ∙ sym (ap (λ (s : Spot). own_number c s.stage s.place s.cell) x.same) ∙ is in
      subst (Contains (numbers n)) number (number_there n x.part x.cell x.there x.among)

  -- ---- pairs of listed cells

  parts_apart : (n : ℕ) (a b : PartAt) → PartIs c n a → PartIs c n b → Rises a b → a.stage < b.stage
  parts_apart n a b ha hb (inl lt) = lt
  parts_apart n a b ha hb (inr same) =
      let ua = (unit_of_part p m.places m.placement.parts m.starts c n a.stage a.place ha.stage a.slot units ha.part).0 in
      let ub = (unit_of_part p m.places m.placement.parts m.starts c n b.stage b.place hb.stage b.slot units hb.part).0 in
      let one = one_place p m.placement.parts a.stage n a.place b.place ua (subst (λ k. slice_get (nodes_in p m.placement.parts k) b.place ≡ Some n) (sym same.0) ub) in
      let lt = same.1 in
      absurd (omega (arith, lt, one))

  parts_rise : (n : ℕ) → AllPairs (λ (a b : PartAt). a.stage < b.stage) (parts_of c n)
  parts_rise n = pairs_with (PartIs c n) Rises (λ (a b : PartAt). a.stage < b.stage) (parts_apart n) (parts_of c n) (parts_are n) (parts_in_order c n)

  module _ (n : ℕ) (Q : ℕ → ℕ → Type 0)
      (inner : (a : PartAt) (x y : CellNumber) → Contains (parts_of c n) a → Contains a.slot.numbers x → Contains a.slot.numbers y → x.cell < y.cell → Q x.number y.number)
      (outer : (a b : PartAt) (x y : CellNumber) → Contains (parts_of c n) a → Contains (parts_of c n) b → Contains a.slot.numbers x → Contains b.slot.numbers y → a.stage < b.stage → Q x.number y.number) where
    abbrev of_part : PartAt → List ℕ
    of_part a = map (λ (x : CellNumber). x.number) a.slot.numbers

    record Two (a b : PartAt) : Type 0 where
      left : Contains (parts_of c n) a
      right : Contains (parts_of c n) b
      rises : a.stage < b.stage

    part_pairs : (a : PartAt) → Contains (parts_of c n) a → AllPairs Q (of_part a)
    part_pairs a there =
        let h = All-contains (PartIs c n) (parts_of c n) a (parts_are n) there in
        AllPairs-map Q (λ (x : CellNumber). x.number) a.slot.numbers
        (pairs_with (Contains a.slot.numbers) (λ (x y : CellNumber). x.cell < y.cell) (λ (x y : CellNumber). Q x.number y.number)
        (λ x y in_x in_y lt. inner a x y there in_x in_y lt) a.slot.numbers (All-contains_itself a.slot.numbers) (cells_rise a.slot.numbers 0 (slot_listed n a h).rises))

    across : (a b : PartAt) → Two a b → All (λ u. All (Q u) (of_part b)) (of_part a)
    across a b h =
        All-map (λ u. All (Q u) (of_part b)) (λ (x : CellNumber). x.number) a.slot.numbers
        (All-weaker (Contains a.slot.numbers) (λ (x : CellNumber). All (Q x.number) (of_part b))
        (λ x in_x. All-map (Q x.number) (λ (y : CellNumber). y.number) b.slot.numbers
        (All-weaker (Contains b.slot.numbers) (λ (y : CellNumber). Q x.number y.number) (λ y in_y. outer a b x y h.left h.right in_x in_y h.rises) b.slot.numbers (All-contains_itself b.slot.numbers)))
        a.slot.numbers (All-contains_itself a.slot.numbers))

    pairs_listed : AllPairs Q (numbers n)
    pairs_listed =
        pairs_flat Two Q of_part across (parts_of c n) (All-weaker (Contains (parts_of c n)) (λ a. AllPairs Q (of_part a)) part_pairs (parts_of c n) (All-contains_itself (parts_of c n)))
        (pairs_with (Contains (parts_of c n)) (λ (a b : PartAt). a.stage < b.stage) Two (λ a b ha hb lt. record { left = ha; right = hb; rises = lt }) (parts_of c n) (All-contains_itself (parts_of c n)) (parts_rise n))

  -- ---- what a map tells once

  module _ (once : AllPairs (λ (a b : CellOf). a.entry ≢ b.entry) cells) where
    one_told : (a b : CellOf) → Contains cells a → Contains cells b → a.entry ≡ b.entry → a ≡ b
    one_told a b in_a in_b same = elim (two_items (λ (x y : CellOf). x.entry ≢ y.entry) cells a b once in_a in_b) [
      | inl apart ↦ absurd (apart same)
      | inr more ↦ elim more [
        | inl apart ↦ absurd (apart (sym same))
        | inr is ↦ is
      ]
    ]

    -- cells are told in the order in which they are listed
    abbrev Sooner : ℕ → ℕ → Type 0
    Sooner u v = (k l : CellOf) → Contains cells k → Contains cells l → k.entry ≡ u → l.entry ≡ v → IsSooner k l

    told_in_order : (n : ℕ) → ((a : PartAt) (x : CellNumber) → Contains (parts_of c n) a → Contains a.slot.numbers x → Contains cells (told_at a x)) → AllPairs Sooner (numbers n)
    told_in_order n told =
        pairs_listed n Sooner
        (λ a x y in_parts in_x in_y lt k l in_k in_l is_k is_l.
        (let ek = one_told k (told_at a x) in_k (told a x in_parts in_x) is_k in
        let el = one_told l (told_at a y) in_l (told a y in_parts in_y) is_l in
        let sk : k.stage ≡ a.stage = ap (λ (z : CellOf). z.stage) ek in
        let sl : l.stage ≡ a.stage = ap (λ (z : CellOf). z.stage) el in
        let ck : k.cell ≡ x.cell = ap (λ (z : CellOf). z.cell) ek in
        let cl : l.cell ≡ y.cell = ap (λ (z : CellOf). z.cell) el in
        inr (sk ∙ sym sl, omega (arith, lt, ck, cl))))
        (λ a b x y in_a in_b in_x in_y lt k l in_k in_l is_k is_l.
        (let sk : k.stage ≡ a.stage = ap (λ (z : CellOf). z.stage) (one_told k (told_at a x) in_k (told a x in_a in_x) is_k) in
        let sl : l.stage ≡ b.stage = ap (λ (z : CellOf). z.stage) (one_told l (told_at b y) in_l (told b y in_b in_y) is_l) in
        inl (omega (arith, lt, sk, sl))))

  same_entry : (n : ℕ) (es : List Entry) (e f : Entry) → slice_get lists n ≡ Some es → Contains es e → Contains es f → e.number ≡ f.number → e ≡ f
  same_entry n es e f list in_e in_f same = one_entry p lists e f entries (listed_in lists n es e list in_e) (listed_in lists n es f list in_f) same

  -- ---- from cell by cell

  module _ (held : CellsHeld p c cells lists) where
    module _ (n : ℕ) (t : Table) (es : List Entry) (table : table_at p n ≡ Some t) (list : slice_get lists n ≡ Some es) where
      own : TableHeld p c cells n t es
      own = held.tables n t es table list

      cell_held : (part : PartAt) (x : CellNumber) → Contains (parts_of c n) part → Contains part.slot.numbers x → CellHeld p c cells t es part x
      cell_held part x in_parts in_numbers =
          All-contains (CellHeld p c cells t es part) part.slot.numbers x
          (All-contains (λ (a : PartAt). All (CellHeld p c cells t es a) a.slot.numbers) (parts_of c n) part own.each in_parts) in_numbers

      all_numbered : (e : Entry) → Contains es e → Contains (numbers n) e.number
      all_numbered e there =
          let own_numbers = map number_of_entry es in
          let long = length-map es number_of_entry in
          let all = own.all in
          distinct_all (numbers n) own_numbers (distinct_numbers n)
          (λ i d lt.
          (let u = get_or (numbers n) i d in
          let x = has_number n u (Contains-get_or (numbers n) i d lt) in
          let h = cell_held x.part x.cell x.there x.among in
          subst (Contains own_numbers) (sym h.held.holds.number_is ∙ x.number) (Contains-map number_of_entry es h.entry h.there)))
          (omega (arith, all, long)) e.number (Contains-map number_of_entry es e there)

      -- each entry is that of a listed cell
      record Stands (e : Entry) : Type 0 where
        at : HasNumber n e.number
        told : Contains cells (told_at at.part at.cell)
        kept : HeldThere p c t at.part at.cell e

      stands : (e : Entry) → Contains es e → Stands e
      stands e there =
          let x = has_number n e.number (all_numbered e there) in
          let h = cell_held x.part x.cell x.there x.among in
          record { at = x; told = h.told; kept = subst (HeldThere p c t x.part x.cell) (same_entry n es h.entry e list h.there there (sym h.held.holds.number_is ∙ x.number)) h.held }

      abbrev its_spot : (e : Entry) → Stands e → Spot
      its_spot e s = spot_of s.at.part s.at.cell

      its_place : (e : Entry) (s : Stands e) → IsSpotOf c n (its_spot e s)
      its_place e s = is_spot n s.at.part s.at.is s.at.cell s.at.among

      is_told : (e : Entry) (s : Stands e) → IsTold cells e (its_spot e s)
      is_told e s = subst (λ u. Contains cells (record { entry = u; stage = s.at.part.stage; cell = s.at.cell.cell })) s.at.number s.told

      one : (e : Entry) (a b : Spot) → IsSpotOf c n a → IsSpotOf c n b → IsTold cells e a → IsTold cells e b → a ≡ b
      one e a b is_a is_b told_a told_b =
          let same = one_told held.once (record { entry = e.number; stage = a.stage; cell = a.cell }) (record { entry = e.number; stage = b.stage; cell = b.cell }) told_a told_b refl in
          let stage : a.stage ≡ b.stage = ap (λ (x : CellOf). x.stage) same in
          let cell : a.cell ≡ b.cell = ap (λ (x : CellOf). x.cell) same in
          let pa = part_of_spot c n a is_a in
          let pb = part_of_spot c n b is_b in
          let ua = (unit_of_part p m.places m.placement.parts m.starts c n a.stage a.place pa.0 pa.1 units pa.2).0 in
          let ub = (unit_of_part p m.places m.placement.parts m.starts c n b.stage b.place pb.0 pb.1 units pb.2).0 in
          let place : a.place ≡ b.place = one_place p m.placement.parts a.stage n a.place b.place ua (subst (λ k. slice_get (nodes_in p m.placement.parts k) b.place ≡ Some n) (sym stage) ub) in
          λ i. record { stage = stage i; place = place i; cell = cell i }

      abbrev HoldsAt : Entry → Spot → Type 0
      HoldsAt e at = (stage : Stage) → slice_get c.stages at.stage ≡ Some stage
          → HoldsEntry p t (map (width_of p) t.key) (first_code stage at.place) e (own_number c at.stage at.place at.cell) (own_content c at.stage at.place at.cell)

      own_holds : (e : Entry) (s : Stands e) → HoldsAt e (its_spot e s)
      own_holds e s = λ stage at.
          let x = s.at in
          let content = own_content c x.part.stage x.part.place x.cell.cell in
          let same : x.is.stage ≡ stage = same_Some x.is.stage stage (sym x.is.part.stage_is ∙ at) in
          subst (λ f. HoldsEntry p t (map (width_of p) t.key) f e (own_number c x.part.stage x.part.place x.cell.cell) content)
          (x.is.first ∙ ap (λ (y : Stage). first_code y x.part.place) same)
          (subst (λ u. HoldsEntry p t (map (width_of p) t.key) x.part.first e u content) (sym (own_number_is n x.part x.is x.cell x.among)) s.kept.holds)

      own_candidate : (e : Entry) (s : Stands e) → IsCandidate c (own_view c) (key_of p t e) (its_spot e s)
      own_candidate e s =
          let x = s.at in
          and_from (slice_get c.stages x.part.stage)
          (λ (stage : Stage). IsSomeAnd (slot_of stage x.part.place) (λ (slot : SlotUnit). Contains (candidates c.seed (bits_of_lanes slot.keys) slot.memory (key_of p t e)) x.cell.cell)) x.is.stage x.is.part.stage_is
          (and_from (slot_of x.is.stage x.part.place) (λ (slot : SlotUnit). Contains (candidates c.seed (bits_of_lanes slot.keys) slot.memory (key_of p t e)) x.cell.cell) x.part.slot x.is.part.slot_is s.kept.candidate)

      own_order : (e f : Entry) (a b : Spot) → Contains es e → Contains es f → IsTold cells e a → IsTold cells f b → goes_first t.kind e f ≡ true → IsBefore a b
      own_order e f a b in_e in_f told_a told_b goes =
          let sooner = told_in_order held.once n (λ part x in_parts in_x. (cell_held part x in_parts in_x).told) in
          elim (two_items (λ u v. KeepsOrder t.kind es u v × Sooner held.once u v) (numbers n) e.number f.number (λ i j d lt within. (own.order i j d lt within, sooner i j d lt within))
          (all_numbered e in_e) (all_numbered f in_f)) [
            | inl r ↦ r.1 (record { entry = e.number; stage = a.stage; cell = a.cell }) (record { entry = f.number; stage = b.stage; cell = b.cell }) told_a told_b refl refl
            | inr more ↦ elim more [
              | inl r ↦ absurd (false≢true (sym (r.0 f e in_f in_e refl refl) ∙ goes))
              | inr same ↦ absurd (goes_never t.kind e (subst (λ x. goes_first t.kind e x ≡ true) (sym (same_entry n es e f list in_e in_f same)) goes))
            ]
          ]

      only : (at : Spot) → IsSpotOf c n at → is_seen (own_content c at.stage at.place at.cell).head ≡ true → (e : Entry) × Contains es e × IsTold cells e at
      only at is seen =
          let x = seen_listed n at is seen in
          let h = cell_held x.part x.cell x.there x.among in
          (h.entry, h.there, subst (IsTold cells h.entry) (sym x.same) (subst (λ u. Contains cells (record { entry = u; stage = x.part.stage; cell = x.cell.cell })) h.held.holds.number_is h.told))

      table_carried : TableCellsCarried p c (own_view c) cells n t (map (width_of p) t.key) es
      table_carried = record {
        only = only;
        each = λ i d lt. (let e = get_or es i d in let s = stands e (Contains-get_or es i d lt) in (its_spot e s, its_place e s, is_told e s));
        one = λ e a b there. one e a b;
        holds = λ e at stage there is told. (let s = stands e there in subst (HoldsAt e) (sym (one e at (its_spot e s) is (its_place e s) told (is_told e s))) (own_holds e s) stage);
        candidate = λ e at there is told.
            (let s = stands e there in subst (IsCandidate c (own_view c) (key_of p t e)) (sym (one e at (its_spot e s) is (its_place e s) told (is_told e s))) (own_candidate e s));
        order = λ e f a b in_e in_f is_a is_b told_a told_b goes. own_order e f a b in_e in_f told_a told_b goes;
      }

    abbrev IsOf : CellOf → Type 0
    IsOf x = (n : ℕ) × (e : Entry) × (place : ℕ) × IsSomeAnd (slice_get lists n) (λ es. Contains es e) × (e.number ≡ x.entry) × IsSpotOf c n (record { stage = x.stage; place = place; cell = x.cell })

    told_of_all : (e : Entry) → Contains (all_entries lists) e → (x : CellOf) × Contains cells x × (x.entry ≡ e.number) × ((y : CellOf) → y ≡ x → y.entry ≡ e.number → IsOf y)
    told_of_all e there =
        let l = entry_listed p lists e entries there in
        let s = stands e.table l.table l.list l.table_is l.list_is e l.there in
        let x = told_at s.at.part s.at.cell in (
          x,
          s.told,
          s.at.number,
          λ y same number. (
            e.table,
            e,
            s.at.part.place,
            and_from (slice_get lists e.table) (λ es. Contains es e) l.list l.list_is l.there,
            sym number,
            subst (λ (z : CellOf). IsSpotOf c e.table (record { stage = z.stage; place = s.at.part.place; cell = z.cell })) (sym same) (its_place e.table l.table l.list l.table_is l.list_is e s),
          ),
        )

    found_of : (e : Entry) → Contains (all_entries lists) e → (x : CellOf) → Contains cells x → e.number ≡ x.entry → IsOf x
    found_of e there x in_x same =
        let y = told_of_all e there in
        y.3 x (one_told held.once x y.0 in_x y.1 (sym same ∙ sym y.2)) (sym same)

    no_other : All IsOf cells
    no_other i d lt =
        let x = get_or cells i d in
        let in_x = Contains-get_or cells i d lt in
        let all = held.all in
        let told = map entry_told cells in
        let own_numbers = map number_of_entry (all_entries lists) in
        let few : length told ≤ length own_numbers =
        (let a = length-map cells entry_told in let b = length-map (all_entries lists) number_of_entry in omega (arith, a, b, all)) in
        let number = distinct_all own_numbers told (AllPairs-map ◌≢◌ number_of_entry (all_entries lists) (numbers_apart p lists entries))
        (All-map (Contains told) number_of_entry (all_entries lists)
        (λ j f inside.
        (let e = get_or (all_entries lists) j f in
        let y = told_of_all e (Contains-get_or (all_entries lists) j f inside) in
        subst (Contains told) y.2 (Contains-map entry_told cells y.0 y.1))))
        few x.entry (Contains-map entry_told cells x in_x) in
        let e = Contains-unmap number_of_entry (all_entries lists) x.entry number in
        found_of e.0 e.1 x in_x e.2

    from_held : CellsCarried p c (own_view c) cells lists
    from_held = record {
      tables = table_carried;
      once = AllPairs-weaker (λ (a b : CellOf). a.entry ≢ b.entry) ◌≢◌ (λ a b apart same. apart (ap entry_told same)) cells held.once;
      no_other = no_other;
    }

  -- ---- to cell by cell

  module _ (carried : CellsCarried p c (own_view c) cells lists) where
    -- what a map tells of is an entry of a table, in a cell of the table
    record IsToldOf (x : CellOf) : Type 0 where
      entry : Entry
      listed_in : IsListed p lists entry
      number : entry.number ≡ x.entry
      place : ℕ
      spot : IsSpotOf c entry.table (record { stage = x.stage; place = place; cell = x.cell })

    told_of : (x : CellOf) → Contains cells x → IsToldOf x
    told_of x there =
        let o = All-contains (λ (y : CellOf). (n : ℕ) × (e : Entry) × (place : ℕ) × IsSomeAnd (slice_get lists n) (λ es. Contains es e) × (e.number ≡ y.entry)
        × IsSpotOf c n (record { stage = y.stage; place = place; cell = y.cell })) cells x carried.no_other there in
        let es = some_and (slice_get lists o.0) (λ es. Contains es o.1) o.3 in
        let l = entry_listed p lists o.1 entries (listed_in lists o.0 es.0 o.1 es.1 es.2) in
        let same : o.0 ≡ o.1.table =
        one_list lists o.0 o.1.table es.0 l.list o.1.number entries.numbers_once es.1 l.list_is (Contains-map number_of_entry es.0 o.1 es.2) (Contains-map number_of_entry l.list o.1 l.there) in
        record { entry = o.1; listed_in = l; number = o.4; place = o.2; spot = subst (λ n. IsSpotOf c n (record { stage = x.stage; place = o.2; cell = x.cell })) same o.5 }

    told_at_spot : (x : CellOf) (place : ℕ) (e : Entry) → Contains cells x → e.number ≡ x.entry → IsTold cells e (record { stage = x.stage; place = place; cell = x.cell })
    told_at_spot x place e there same = subst (λ u. Contains cells (record { entry = u; stage = x.stage; cell = x.cell })) (sym same) there

    told_once : AllPairs (λ (a b : CellOf). a.entry ≢ b.entry) cells
    told_once i j d lt within same =
        let a = get_or cells i d in
        let b = get_or cells j d in
        let in_a = Contains-get_or cells i d (omega (arith, lt, within)) in
        let in_b = Contains-get_or cells j d within in
        let oa = told_of a in_a in
        let ob = told_of b in_b in
        let all_a = listed_in lists oa.entry.table oa.listed_in.list oa.entry oa.listed_in.list_is oa.listed_in.there in
        let all_b = listed_in lists ob.entry.table ob.listed_in.list ob.entry ob.listed_in.list_is ob.listed_in.there in
        let e : oa.entry ≡ ob.entry = one_entry p lists oa.entry ob.entry entries all_a all_b (oa.number ∙ same ∙ sym ob.number) in
        let spot_b = subst (λ (x : Entry). IsSpotOf c x.table (record { stage = b.stage; place = ob.place; cell = b.cell })) (sym e) ob.spot in
        let own = carried.tables oa.entry.table oa.listed_in.table oa.listed_in.list oa.listed_in.table_is oa.listed_in.list_is in
        let one = own.one oa.entry (record { stage = a.stage; place = oa.place; cell = a.cell }) (record { stage = b.stage; place = ob.place; cell = b.cell }) oa.listed_in.there oa.spot spot_b
        (told_at_spot a oa.place oa.entry in_a oa.number) (told_at_spot b ob.place oa.entry in_b (oa.number ∙ same)) in
        let is : a ≡ b = λ k. record { entry = same k; stage = (one k).stage; cell = (one k).cell } in
        carried.once i j d lt within is

    told_all : length cells ≡ length (all_entries lists)
    told_all =
        let told = map entry_told cells in
        let own_numbers = map number_of_entry (all_entries lists) in
        let up = at_most told own_numbers (AllPairs-map ◌≢◌ entry_told cells told_once)
        (All-map (Contains own_numbers) entry_told cells
        (λ i d lt.
        (let x = get_or cells i d in
        let o = told_of x (Contains-get_or cells i d lt) in
        subst (Contains own_numbers) o.number
        (Contains-map number_of_entry (all_entries lists) o.entry (listed_in lists o.entry.table o.listed_in.list o.entry o.listed_in.list_is o.listed_in.there))))) in
        let down = at_most own_numbers told (AllPairs-map ◌≢◌ number_of_entry (all_entries lists) (numbers_apart p lists entries))
        (All-map (Contains told) number_of_entry (all_entries lists)
        (λ j f inside.
        (let e = get_or (all_entries lists) j f in
        let l = entry_listed p lists e entries (Contains-get_or (all_entries lists) j f inside) in
        let own = carried.tables e.table l.table l.list l.table_is l.list_is in
        let at = All-contains (λ (y : Entry). (s : Spot) × IsSpotOf c e.table s × IsTold cells y s) l.list e own.each l.there in
        Contains-map entry_told cells (record { entry = e.number; stage = at.0.stage; cell = at.0.cell }) at.2))) in
        let a = length-map cells entry_told in
        let b = length-map (all_entries lists) number_of_entry in
        omega (arith, up, down, a, b)

    module _ (n : ℕ) (t : Table) (es : List Entry) (table : table_at p n ≡ Some t) (list : slice_get lists n ≡ Some es) where
      of_table : TableCellsCarried p c (own_view c) cells n t (map (width_of p) t.key) es
      of_table = carried.tables n t es table list

      cell_holds : (part : PartAt) (x : CellNumber) → Contains (parts_of c n) part → Contains part.slot.numbers x → CellHeld p c cells t es part x
      cell_holds part x in_parts in_numbers =
          let h = All-contains (PartIs c n) (parts_of c n) part (parts_are n) in_parts in
          let at = spot_of part x in
          let is = is_spot n part h x in_numbers in
          let e = of_table.only at is (is_own_seen n part h x in_numbers) in
          let holds = of_table.holds e.0 at h.stage e.1 is e.2 h.part.stage_is in
          let number : own_number c part.stage part.place x.cell ≡ x.number = own_number_is n part h x in_numbers in
          let candidate = of_table.candidate e.0 at e.1 is e.2 in
          record {
            entry = e.0;
            there = e.1;
            told = subst (λ u. Contains cells (record { entry = u; stage = part.stage; cell = x.cell })) (sym holds.number_is ∙ number) e.2;
            held = record {
              holds = subst (λ f. HoldsEntry p t (map (width_of p) t.key) f e.0 x.number (own_content c part.stage part.place x.cell)) (sym h.first)
                  (subst (λ u. HoldsEntry p t (map (width_of p) t.key) (first_code h.stage part.place) e.0 u (own_content c part.stage part.place x.cell)) number holds);
              candidate =
                  and_at (slot_of h.stage part.place) (λ (slot : SlotUnit). Contains (candidates c.seed (bits_of_lanes slot.keys) slot.memory (key_of p t e.0)) x.cell) part.slot h.part.slot_is
                  (and_at (slice_get c.stages part.stage)
                  (λ (stage : Stage). IsSomeAnd (slot_of stage part.place) (λ (slot : SlotUnit). Contains (candidates c.seed (bits_of_lanes slot.keys) slot.memory (key_of p t e.0)) x.cell)) h.stage h.part.stage_is candidate);
            };
          }

      all_there : length (numbers n) ≡ length es
      all_there =
          let own_numbers = map number_of_entry es in
          let up = at_most (numbers n) own_numbers (distinct_numbers n)
          (λ i d lt.
          (let u = get_or (numbers n) i d in
          let x = has_number n u (Contains-get_or (numbers n) i d lt) in
          let h = cell_holds x.part x.cell x.there x.among in
          subst (Contains own_numbers) (sym h.held.holds.number_is ∙ x.number) (Contains-map number_of_entry es h.entry h.there))) in
          let are = table_entries p lists n t es entries table list in
          let down = at_most own_numbers (numbers n)
          (AllPairs-map ◌≢◌ number_of_entry es (AllPairs-weaker (λ (a b : Entry). a.number < b.number) (λ (a b : Entry). a.number ≢ b.number) (λ a b lt same. omega (arith, lt, same)) es are.rising))
          (All-map (Contains (numbers n)) number_of_entry es
          (λ j f inside.
          (let e = get_or es j f in
          let there = Contains-get_or es j f inside in
          let at = All-contains (λ (y : Entry). (s : Spot) × IsSpotOf c n s × IsTold cells y s) es e of_table.each there in
          let stage = (part_of_spot c n at.0 at.1) in
          let holds = of_table.holds e at.0 stage.0 there at.1 at.2 stage.2.stage_is in
          let x = seen_listed n at.0 at.1 holds.seen in
          listed_there n e at.0 x holds.number_is))) in
          let a = length-map es number_of_entry in
          omega (arith, up, down, a)

      -- an entry whose number a listed cell has is told there
      told_listed : (part : PartAt) (x : CellNumber) (e : Entry) → Contains (parts_of c n) part → Contains part.slot.numbers x → Contains es e → e.number ≡ x.number → IsTold cells e (spot_of part x)
      told_listed part x e in_parts in_numbers in_es same = told_at_spot (told_at part x) part.place e (cell_holds part x in_parts in_numbers).told same

      abbrev listed_spot : (part : PartAt) (x : CellNumber) → Contains (parts_of c n) part → Contains part.slot.numbers x → IsSpotOf c n (spot_of part x)
      listed_spot part x in_parts in_numbers = is_spot n part (All-contains (PartIs c n) (parts_of c n) part (parts_are n) in_parts) x in_numbers

      not_true : (b : Bool) → (b ≡ true → ⊥) → b ≡ false
      not_true true never = absurd (never refl)
      not_true false never = refl

      keep_order : AllPairs (KeepsOrder t.kind es) (numbers n)
      keep_order =
          pairs_listed n (KeepsOrder t.kind es)
          (λ a x y in_parts in_x in_y lt e f in_e in_f is_e is_f.
          not_true (goes_first t.kind f e) (λ goes.
          later (spot_of a y) (spot_of a x) (of_table.order f e (spot_of a y) (spot_of a x) in_f in_e (listed_spot a y in_parts in_y) (listed_spot a x in_parts in_x) (told_listed a y f in_parts in_y in_f is_f) (told_listed a x e in_parts in_x in_e is_e) goes)
          (inr (refl, lt))))
          (λ a b x y in_a in_b in_x in_y lt e f in_e in_f is_e is_f.
          not_true (goes_first t.kind f e) (λ goes.
          later (spot_of b y) (spot_of a x) (of_table.order f e (spot_of b y) (spot_of a x) in_f in_e (listed_spot b y in_b in_y) (listed_spot a x in_a in_x) (told_listed b y f in_b in_y in_f is_f) (told_listed a x e in_a in_x in_e is_e) goes)
          (inl lt)))
        where
          later : (s r : Spot) → IsBefore s r → IsBefore r s → ⊥
          later s r (inl a) (inl b) = omega (arith, a, b)
          later s r (inl a) (inr b) = (let same = b.0 in omega (arith, a, same))
          later s r (inr a) (inl b) = (let same = a.0 in omega (arith, b, same))
          later s r (inr a) (inr b) = (let lt = a.1 in let gt = b.1 in omega (arith, lt, gt))

      table_held : TableHeld p c cells n t es
      table_held = record {
        each = λ i d lt j e inside.
            (let part = get_or (parts_of c n) i d in cell_holds part (get_or part.slot.numbers j e) (Contains-get_or (parts_of c n) i d lt) (Contains-get_or part.slot.numbers j e inside));
        all = all_there;
        order = keep_order;
      }

    to_held : CellsHeld p c cells lists
    to_held = record { once = told_once; all = told_all; tables = table_held }

  -- where each listed cell holds an entry, and they are as many, the cells hold the entries
  pub cells_held : CellsHeld p c cells lists ↔ CellsCarried p c (own_view c) cells lists
  cells_held = (from_held, to_held)
