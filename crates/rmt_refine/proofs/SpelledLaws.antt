-- A configuration that carries a program with its entries, and has their names, spells these entries.
use Rattle.std.proofs.Common.{◌≡◌, ◌≢◌, ℕ, zero, suc, ◌+◌, ◌<◌, ◌≤◌, ◌==◌, leb, Bool, true, false, cond, List, [], ◌∷◌, fold, length, map, max, get_or, Option, Some, None, All, Contains, refl, sym, ap, subst, ◌∙◌, inl, inr, arith}
use Rattle.std.specs.Prelude.{AllPairs, IfSome, IsSomeAnd, MatchOption, find, nat_lt, option_and_then, option_map, slice_get, unwrap_or, ⊤}
use Rattle.std.specs.List.{AllZip, range_with_len}
use Rattle.std.proofs.lemmas.Bool.{and_parts, false≢true, lt-ltb}
use Rattle.std.proofs.lemmas.List.{length-map}
use Rattle.std.proofs.lemmas.List.Elements.{All-append, All-contains, All-contains_itself, All-head, All-map, All-nil, All-tail, All-weaker}
use Rattle.std.proofs.lemmas.List.Kept.{AllPairs-cons}
use Rattle.std.proofs.lemmas.List.FromFn.{get_or-range_with_len, length-range_with_len}
use Rattle.std.proofs.lemmas.Option.{same_Some, slice_get-get_or, slice_get_within}
use Rattle.std.proofs.lemmas.Slice.Zip.{AllZip-left, AllZip-right}
use Rattle.rmt_bits.proofs.AllLaws.{All-between, All-slice_get}
use Rattle.rmt_bits.proofs.ListLaws.{slice_get-item}
use Rattle.rmt_bits.proofs.MemberLaws.{Contains-filter, Contains-flat_map, Contains-item, Contains-map, Contains-split, Contains-unfilter, Contains-unmap, from_flat_map}
use Rattle.rmt_bits.proofs.PairLaws.{AllPairs-map, AllPairs-none}
use Rattle.rmt_ast.specs.declared.entry.Entry.{Entry}
use Rattle.rmt_ast.specs.declared.names.Names.{Names}
use Rattle.rmt_ast.specs.declared.names.TableName.{TableName}
use Rattle.rmt_ast.specs.declared.program.Kind.TheVariants as kind
use Rattle.rmt_ast.specs.declared.program.What.TheVariants as what
use Rattle.rmt_ast.specs.EntryLists.{AreEntries, AreEntriesAt, terms_at, terms_of}
use Rattle.rmt_ast.specs.Naming.{has_key, if_keyed, named_at, names_of, table_named}
use Rattle.rmt_ast.specs.State.{width_of}
use Rattle.rmt_ast.specs.WellFormed.{HasKey, IsProgram}
use Rattle.rmt_refine.specs.Types.{CellNumber, Config, Kind, Node, Program, SlotUnit, Stage, Table, Unit, What}
use Rattle.rmt_config.specs.CellForm.{Coded, SlotHolds, StageHolds}
use Rattle.rmt_config.specs.Cells.{Content, cells_in, content_of, is_seen}
use Rattle.rmt_config.specs.NamesForm.{by_number, entries_by_cell, entries_of_node, entries_spelled, entry_in, node_count_of}
use Rattle.rmt_config.specs.Order.{rises_from}
use Rattle.rmt_config.specs.Rooms.{PartAt, parts_of}
use Rattle.rmt_config.specs.TableForm.{Placed, node_of, placed_from, placed_units}
use Rattle.rmt_config.proofs.RiseLaws.{all_above}
use Rattle.rmt_refine.specs.declared.map.CellOf.{CellOf}
use Rattle.rmt_refine.specs.declared.map.Map.{Map}
use Rattle.rmt_refine.specs.View.{own_content, own_view}
use Rattle.rmt_refine.specs.Carries.{Carries, CarriesIn}
use Rattle.rmt_refine.specs.Listed.{ListsItsCells}
use Rattle.rmt_refine.specs.Named.{NamesCarried}
use Rattle.rmt_refine.specs.Cells.{CellsCarried, IsSpotOf, IsTold, Spot, TableCellsCarried}
use Rattle.rmt_refine.specs.Units.{UnitCarried, UnitsCarried, applied, last_stage, nodes_in, table_at}
use Rattle.rmt_pack.specs.Placements.{quanta_in}
use Rattle.rmt_refine.specs.Outcomes.{entries_at}
use Rattle.rmt_refine.proofs.CellNumberLaws.{all_listed, cells_listed, coded_slot, listed_number}
use Rattle.rmt_refine.proofs.EntryLaws.{listed_in, one_entry}
use Rattle.rmt_refine.proofs.NamedLaws.{found_from, none_from}
use Rattle.rmt_refine.proofs.NodeLaws.{part_there, stands_in_last}
use Rattle.rmt_refine.proofs.OutcomeLaws.{list_at}
use Rattle.rmt_pack.proofs.PartLaws.{and_at, placed_has}
use Rattle.rmt_refine.proofs.PartLaws.{part_of_spot, some_and, spot_of_part}
use Rattle.rmt_pack.proofs.RoomLaws.{PartIs, part_at_place, stages_there}
use Rattle.rmt_pack.proofs.PartOrderLaws.{Rises, parts_in_order}
use Rattle.rmt_pack.proofs.RoomOrderLaws.{pairs_flat}
use Rattle.rmt_refine.proofs.RoomOrderLaws.{pairs_with}
use Rattle.rmt_pack.proofs.SortedLaws.{by_number_is}
use Rattle.rmt_refine.proofs.SpelledEntryLaws.{entry_spelled}
use Rattle.rmt_refine.proofs.TheLaw.{its_table, table_entries}
use Rattle.rmt_refine.proofs.ViewLaws.{content_is, number_is}

-- ---- the nodes of a configuration

range_has : (n len : ℕ) → n < len → Contains (range_with_len 0 len) n
range_has n len lt = (n, (let long = length-range_with_len 0 len in omega (arith, lt, long)), get_or-range_with_len 0 len n n lt ∙ (let e : 0 + n ≡ n = omega arith in e))

placed_all : (P : Unit → Type 0) (k : ℕ) (stages : List Stage) → All (λ (s : Stage). All P s.units) stages → All (λ (x : Placed). P x.unit) (placed_from k stages)
placed_all P k [] all = All-nil (λ (x : Placed). P x.unit)
placed_all P k (stage ∷ stages) all =
    All-append (λ (x : Placed). P x.unit) (map (λ unit. record { stage = k; unit = unit }) stage.units) (placed_from (k + 1) stages)
    (All-map (λ (x : Placed). P x.unit) (λ unit. record { stage = k; unit = unit }) stage.units (All-head (λ (s : Stage). All P s.units) stage stages all))
    (placed_all P (k + 1) stages (All-tail (λ (s : Stage). All P s.units) stage stages all))

abbrev most_node : ℕ → List Placed → ℕ
most_node acc xs = fold (λ n (placed : Placed). max n (node_of placed.unit + 1)) acc xs

node_upper : (xs : List Placed) (acc most : ℕ) → acc ≤ most → All (λ (x : Placed). node_of x.unit < most) xs → most_node acc xs ≤ most
node_upper [] acc most le all = le
node_upper (x ∷ xs) acc most le all =
    let lt = All-head (λ (y : Placed). node_of y.unit < most) x xs all in
    node_upper xs (max acc (node_of x.unit + 1)) most (omega (arith, le, lt)) (All-tail (λ (y : Placed). node_of y.unit < most) x xs all)

node_lower : (xs : List Placed) (acc : ℕ) → acc ≤ most_node acc xs
node_lower [] acc = omega arith
node_lower (x ∷ xs) acc = let le = node_lower xs (max acc (node_of x.unit + 1)) in omega (arith, le)

node_has : (xs : List Placed) (acc : ℕ) (x : Placed) → Contains xs x → node_of x.unit < most_node acc xs
node_has [] acc x there = absurd (let lt = there.1 in omega (arith, lt))
node_has (y ∷ ys) acc x there = elim (Contains-split y ys x there) [
  | inl same ↦
      let is : node_of y.unit ≡ node_of x.unit = ap (λ (z : Placed). node_of z.unit) same in
      omega (arith, node_lower ys (max acc (node_of y.unit + 1)), is)
  | inr later ↦ node_has ys (max acc (node_of y.unit + 1)) x later
]

-- the cells of listed numbers rise
pub cells_rise : (numbers : List CellNumber) (least : ℕ) → rises_from least (map (λ (x : CellNumber). x.cell) numbers) ≡ true → AllPairs (λ (x y : CellNumber). x.cell < y.cell) numbers
cells_rise [] least rises = AllPairs-none (λ (x y : CellNumber). x.cell < y.cell)
cells_rise (x ∷ xs) least rises =
    let parts = and_parts (leb least x.cell) (rises_from (x.cell + 1) (map (λ (y : CellNumber). y.cell) xs)) rises in
    AllPairs-cons (λ (y z : CellNumber). y.cell < z.cell) x xs
    (λ j d lt. let above = all_above (λ (y : CellNumber). y.cell) (x.cell + 1) xs parts.1 j d lt in omega (arith, above))
    (cells_rise xs (x.cell + 1) parts.1)

module _ (p : Program) (m : Map) (c : Config) (units : UnitsCarried p m.places m.placement.parts m.starts c) where
  stage_units : (k : ℕ) (stage : Stage) → slice_get c.stages k ≡ Some stage → AllZip (UnitCarried p m.places m.placement.parts k) (nodes_in p m.placement.parts k) stage.units
  stage_units k stage at =
      and_at (slice_get c.stages k) (λ (s : Stage). AllZip (UnitCarried p m.places m.placement.parts k) (nodes_in p m.placement.parts k) s.units) stage at (units.units k (slice_get_within c.stages k stage at))

  node_below : (k place : ℕ) (stage : Stage) (u : Unit) → slice_get c.stages k ≡ Some stage → slice_get stage.units place ≡ Some u → node_of u < length p.nodes
  node_below k place stage u at unit_is =
      let nodes = nodes_in p m.placement.parts k in
      let there = subst (λ (o : Option Unit). MatchOption o ⊤ (λ x. IsSomeAnd (slice_get nodes place) (λ n. UnitCarried p m.places m.placement.parts k n x))) unit_is
      (AllZip-right (UnitCarried p m.places m.placement.parts k) nodes stage.units (stage_units k stage at) place) in
      let n = some_and (slice_get nodes place) (λ n. UnitCarried p m.places m.placement.parts k n u) there in
      let own = Contains-unfilter (λ i. nat_lt 0 (quanta_in m.placement.parts i k)) (range_with_len 0 (length p.nodes)) n.0 (Contains-item nodes place n.0 n.1) in
      let lt : n.0 < length p.nodes = All-contains (λ i. i < length p.nodes) (range_with_len 0 (length p.nodes)) n.0 (All-between (λ i. i < length p.nodes) 0 (length p.nodes) (λ w le lt. omega (arith, lt))) own.0 in
      omega (arith, lt, n.2.number)

  all_below : All (λ (x : Placed). node_of x.unit < length p.nodes) (placed_units c)
  all_below =
      placed_all (λ u. node_of u < length p.nodes) 0 c.stages
      (λ k d lt i e inside.
      let stage = get_or c.stages k d in
      node_below k i stage (get_or stage.units i e) (slice_get-get_or c.stages k d lt) (slice_get-get_or stage.units i e inside))

  -- each node has a unit
  node_placed : (n : ℕ) → n < length p.nodes → (x : Placed) × Contains (placed_units c) x × (node_of x.unit ≡ n)
  node_placed n lt =
      let parts = m.placement.parts in
      let k = last_stage parts n in
      let stands = stands_in_last parts n (All-weaker (λ x. (x.node < length p.nodes) × (x.stage < length c.stages) × (0 < x.quanta)) (λ x. 0 < x.quanta) (λ x h. h.2) parts units.no_other) (units.each_node n lt) in
      let y = part_there parts n k stands in
      let inside = (All-contains (λ x. (x.node < length p.nodes) × (x.stage < length c.stages) × (0 < x.quanta)) parts y.0 units.no_other y.1).1 in
      let within : k < length c.stages = (let same = y.3 in omega (arith, inside, same)) in
      let stage = some_and (slice_get c.stages k) (λ (s : Stage). AllZip (UnitCarried p m.places parts k) (nodes_in p parts k) s.units) (units.units k within) in
      let there = Contains-filter (λ i. nat_lt 0 (quanta_in parts i k)) (range_with_len 0 (length p.nodes)) n (range_has n (length p.nodes) lt) (lt-ltb 0 (quanta_in parts n k) stands) in
      let at : slice_get (nodes_in p parts k) there.0 ≡ Some n = slice_get-get_or (nodes_in p parts k) there.0 n there.1 ∙ ap Some there.2 in
      let own = subst (λ (o : Option ℕ). MatchOption o ⊤ (λ i. IsSomeAnd (slice_get stage.0.units there.0) (UnitCarried p m.places parts k i))) at
      (AllZip-left (UnitCarried p m.places parts k) (nodes_in p parts k) stage.0.units stage.2 there.0) in
      let u = some_and (slice_get stage.0.units there.0) (UnitCarried p m.places parts k n) own in
      let placed = placed_has 0 c.stages k stage.0 u.0 stage.1 (Contains-item stage.0.units there.0 u.0 u.1) in
      (placed.0, placed.1, ap node_of placed.2 ∙ u.2.number)

  -- a configuration has as many nodes as the program
  pub nodes_are : node_count_of c ≡ length p.nodes
  nodes_are = by (length p.nodes) refl
    where
      upper : node_count_of c ≤ length p.nodes
      upper = node_upper (placed_units c) 0 (length p.nodes) (omega arith) all_below

      by : (l : ℕ) → length p.nodes ≡ l → node_count_of c ≡ length p.nodes
      by zero e = (let le = upper in omega (arith, le, e))
      by (suc l) e =
          let x = node_placed l (omega (arith, e)) in
          omega (arith, upper, node_has (placed_units c) 0 x.0 x.1, x.2, e)

-- ---- the entries of a table

module _ (p : Program) (lists : List (List Entry)) (m : Map) (c : Config) (visible : ℕ) (program : IsProgram p) (entries : AreEntries p lists) (units : UnitsCarried p m.places m.placement.parts m.starts c)
    (told : List CellOf) (carried : CellsCarried p c (own_view c) told lists) (memory : All (StageHolds visible) c.stages) where
  module _ (n : ℕ) (t : Table) (es : List Entry) (table : table_at p n ≡ Some t) (list : slice_get lists n ≡ Some es) where
    abbrev named : TableName
    named = table_named p n es t

    own : TableCellsCarried p c (own_view c) told n t (map (width_of p) t.key) es
    own = carried.tables n t es table list

    abbrev spot_of : PartAt → CellNumber → Spot
    spot_of part x = record { stage = part.stage; place = part.place; cell = x.cell }

    slot_listed : (part : PartAt) (h : PartIs c n part) → ListsItsCells h.stage part.slot
    slot_listed part h =
        let coded = coded_slot (λ (x : Coded). SlotHolds visible h.stage x.first x.slot) h.stage.units 0 part.place part.slot h.part.slot_is (All-slice_get (StageHolds visible) c.stages part.stage h.stage memory h.part.stage_is) in
        cells_listed visible h.stage coded.0 part.slot coded.1

    -- what a listed cell spells, where it holds an entry
    spells : (part : PartAt) (h : PartIs c n part) (x : CellNumber) (e : Entry) → Contains part.slot.numbers x → Contains es e → IsTold told e (record { stage = part.stage; place = part.place; cell = x.cell })
        → entry_in c named part x ≡ e
    spells part h x e there in_es is_told =
        let listed = slot_listed part h in
        let at : Spot = record { stage = part.stage; place = part.place; cell = x.cell } in
        let is = spot_of_part c n part.stage part.place x.cell h.stage part.slot h.part (listed.within x there) in
        let holds = own.holds e at h.stage in_es is is_told h.part.stage_is in
        let number : x.number ≡ e.number =
        sym (listed_number part.slot.numbers 0 x listed.rises there) ∙ sym (number_is c part.stage part.place h.stage part.slot h.part.stage_is h.part.slot_is x.cell) ∙ holds.number_is in
        let item : slice_get es in_es.0 ≡ Some e = slice_get-get_or es in_es.0 e in_es.1 ∙ ap Some in_es.2 in
        entry_spelled p lists program entries n t es table list in_es.0 e item _ _ _ holds c part x refl h.first number

    record Spells (part : PartAt) (x : CellNumber) : Type 0 where
      entry : Entry
      there : Contains es entry
      told_there : IsTold told entry (record { stage = part.stage; place = part.place; cell = x.cell })
      is : entry_in c named part x ≡ entry

    cell_spells : (part : PartAt) → PartIs c n part → (x : CellNumber) → Contains part.slot.numbers x → Spells part x
    cell_spells part h x there =
        let listed = slot_listed part h in
        let at : Spot = record { stage = part.stage; place = part.place; cell = x.cell } in
        let is = spot_of_part c n part.stage part.place x.cell h.stage part.slot h.part (listed.within x there) in
        let seen : is_seen (own_content c part.stage part.place x.cell).head ≡ true =
        ap (λ (y : Content). is_seen y.head) (content_is c part.stage part.place h.stage part.slot h.part.stage_is h.part.slot_is x.cell) ∙ listed.seen x there in
        let e = own.only at is seen in
        record { entry = e.0; there = e.1; told_there = e.2; is = spells part h x e.0 there e.1 e.2 }

    parts_are : All (PartIs c n) (parts_of c n)
    parts_are = stages_there c n 0 c.stages (λ i. ap (slice_get c.stages) (omega arith))

    abbrev spelled : List Entry
    spelled = entries_by_cell c named

    abbrev of_part : PartAt → List Entry
    of_part part = map (entry_in c named part) part.slot.numbers

    to_list : (e : Entry) → Contains spelled e → Contains es e
    to_list e there =
        let part = from_flat_map of_part (parts_of c n) e there in
        let x = Contains-unmap (entry_in c named part.0) part.0.slot.numbers e part.2 in
        let s = cell_spells part.0 (All-contains (PartIs c n) (parts_of c n) part.0 parts_are part.1) x.0 x.1 in
        subst (Contains es) (sym s.is ∙ x.2) s.there

    from_list : (e : Entry) → Contains es e → Contains spelled e
    from_list e there =
        let at = All-contains (λ (y : Entry). (s : Spot) × IsSpotOf c n s × IsTold told y s) es e own.each there in
        let spot = part_of_spot c n at.0 at.1 in
        let r = part_at_place c n at.0.stage at.0.place spot.0 spot.1 spot.2 in
        let h = All-contains (PartIs c n) (parts_of c n) r.part parts_are r.there in
        let slot = r.slot_is in
        let holds = own.holds e at.0 spot.0 there at.1 at.2 spot.2.stage_is in
        let place : own_content c at.0.stage at.0.place at.0.cell ≡ own_content c r.part.stage r.part.place at.0.cell = λ i. own_content c (sym r.stage_is i) (sym r.place_is i) at.0.cell in
        let seen : is_seen (content_of h.stage r.part.slot at.0.cell).head ≡ true =
        sym (ap (λ (y : Content). is_seen y.head) (place ∙ content_is c r.part.stage r.part.place h.stage r.part.slot h.part.stage_is h.part.slot_is at.0.cell)) ∙ holds.seen in
        let lt : at.0.cell < cells_in r.part.slot.memory = subst (λ (s : SlotUnit). at.0.cell < cells_in s.memory) (sym slot) spot.3 in
        let listed = (slot_listed r.part h).others at.0.cell lt seen in
        let x = Contains-unmap (λ (y : CellNumber). y.cell) r.part.slot.numbers at.0.cell listed in
        let same : at.0 ≡ record { stage = r.part.stage; place = r.part.place; cell = x.0.cell } = λ i. record { stage = sym r.stage_is i; place = sym r.place_is i; cell = sym x.2 i } in
        let is = spells r.part h x.0 e x.1 there (subst (IsTold told e) same at.2) in
        Contains-flat_map of_part (parts_of c n) r.part e r.there (subst (Contains (of_part r.part)) is (Contains-map (entry_in c named r.part) r.part.slot.numbers x.0 x.1))

    -- ---- each once

    -- two cells that spell one number are one
    one_spot : (a b : PartAt) → PartIs c n a → PartIs c n b → (x y : CellNumber) → Contains a.slot.numbers x → Contains b.slot.numbers y → (entry_in c named a x).number ≡ (entry_in c named b y).number
        → spot_of a x ≡ spot_of b y
    one_spot a b ha hb x y in_a in_b same =
        let sa = cell_spells a ha x in_a in
        let sb = cell_spells b hb y in_b in
        let numbers : sa.entry.number ≡ sb.entry.number = ap (λ (e : Entry). e.number) (sym sa.is) ∙ same ∙ ap (λ (e : Entry). e.number) sb.is in
        let one = one_entry p lists sa.entry sb.entry entries (listed_in lists n es sa.entry list sa.there) (listed_in lists n es sb.entry list sb.there) numbers in
        let spot_a = spot_of_part c n a.stage a.place x.cell ha.stage a.slot ha.part ((slot_listed a ha).within x in_a) in
        let spot_b = spot_of_part c n b.stage b.place y.cell hb.stage b.slot hb.part ((slot_listed b hb).within y in_b) in
        own.one sa.entry (record { stage = a.stage; place = a.place; cell = x.cell }) (record { stage = b.stage; place = b.place; cell = y.cell }) sa.there spot_a spot_b sa.told_there
        (subst (λ e. IsTold told e (record { stage = b.stage; place = b.place; cell = y.cell })) (sym one) sb.told_there)

    abbrev Differ : Entry → Entry → Type 0
    Differ a b = a.number ≢ b.number

    part_once : (a : PartAt) → PartIs c n a → AllPairs Differ (of_part a)
    part_once a h =
        AllPairs-map Differ (entry_in c named a) a.slot.numbers
        (pairs_with (Contains a.slot.numbers) (λ (x y : CellNumber). x.cell < y.cell) (λ x y. Differ (entry_in c named a x) (entry_in c named a y))
        (λ x y in_x in_y lt same. let one = ap (λ (s : Spot). s.cell) (one_spot a a h h x y in_x in_y same) in omega (arith, lt, one))
        a.slot.numbers (All-contains_itself a.slot.numbers) (cells_rise a.slot.numbers 0 (slot_listed a h).rises))

    record Apart (a b : PartAt) : Type 0 where
      left : PartIs c n a
      right : PartIs c n b
      rises : Rises a b

    across : (a b : PartAt) → Apart a b → All (λ x. All (Differ x) (of_part b)) (of_part a)
    across a b h =
        All-map (λ x. All (Differ x) (of_part b)) (entry_in c named a) a.slot.numbers
        (All-weaker (Contains a.slot.numbers) (λ x. All (Differ (entry_in c named a x)) (of_part b))
        (λ x in_a. All-map (Differ (entry_in c named a x)) (entry_in c named b) b.slot.numbers
        (All-weaker (Contains b.slot.numbers) (λ y. Differ (entry_in c named a x) (entry_in c named b y))
        (λ y in_b same. not_one x y h.rises (one_spot a b h.left h.right x y in_a in_b same)) b.slot.numbers (All-contains_itself b.slot.numbers)))
        a.slot.numbers (All-contains_itself a.slot.numbers))
      where
        not_one : (x y : CellNumber) → Rises a b → spot_of a x ≡ spot_of b y → ⊥
        not_one x y (inl lt) e = (let stage : a.stage ≡ b.stage = ap (λ (s : Spot). s.stage) e in omega (arith, lt, stage))
        not_one x y (inr same) e = (let place : a.place ≡ b.place = ap (λ (s : Spot). s.place) e in let lt = same.1 in omega (arith, lt, place))

    once : AllPairs Differ spelled
    once =
        pairs_flat Apart Differ of_part across (parts_of c n) (All-weaker (PartIs c n) (λ a. AllPairs Differ (of_part a)) part_once (parts_of c n) parts_are)
        (pairs_with (PartIs c n) Rises Apart (λ a b ha hb r. record { left = ha; right = hb; rises = r }) (parts_of c n) parts_are (parts_in_order c n))

    table_spelled : by_number spelled ≡ es
    table_spelled = by_number_is spelled es once (table_entries p lists n t es entries table list).rising to_list from_list

  -- ---- all tables

  no_entries : (es : List Entry) → length es ≤ 0 → es ≡ []
  no_entries [] le = refl
  no_entries (e ∷ es) le = absurd (omega (arith, le))

  keyless_none : (k : Kind) (t : Table) → HasKey p k t → has_key k ≡ false → t.size ≡ 0
  keyless_none kind.Keyless t has e = has.size
  keyless_none kind.Exact t has e = absurd (false≢true (sym e))
  keyless_none kind.Prefix t has e = absurd (false≢true (sym e))
  keyless_none kind.Ternary t has e = absurd (false≢true (sym e))

  module _ (n : ℕ) (es : List Entry) (list : slice_get lists n ≡ Some es) where
    abbrev its : Option TableName → List Entry
    its o = unwrap_or (option_map (λ (x : TableName). by_number (entries_by_cell c x)) o) []

    abbrev here : Option TableName
    here = find (λ (x : TableName). x.node == n) (names_of p lists).tables

    abbrev own_list : List Entry
    own_list = unwrap_or (slice_get lists n) []

    list_is : own_list ≡ es
    list_is = ap (λ o. unwrap_or o []) list

    -- a node that no name tells of
    none_named : (node : Node) → slice_get p.nodes n ≡ Some node → named_at p n own_list node.what ≡ None → es ≡ [] → its here ≡ es
    none_named node at none empty =
        ap its (none_from p lists n p.nodes 0 (λ i x there same.
        (let place : i ≡ n = omega (arith, same) in
        let one : x ≡ node = same_Some x node (sym there ∙ ap (slice_get p.nodes) place ∙ at) in
        ap (λ (y : Node). named_at p n own_list y.what) one ∙ none)))
        ∙ sym empty

    keyed_table : (node : Node) (t : Table) → slice_get p.nodes n ≡ Some node → applied p node.what ≡ Some t → has_key t.kind ≡ true → its here ≡ es
    keyed_table node t at does key =
        let table : table_at p n ≡ Some t = ap (option_and_then (λ (x : Node). applied p x.what)) at ∙ does in
        ap its (found_from p lists n t key p.nodes 0 n node (omega arith) at does)
        ∙ ap (λ xs. by_number (entries_by_cell c (table_named p n xs t))) list_is ∙ table_spelled n t es table list

    by_table : (node : Node) (i : ℕ) → slice_get p.nodes n ≡ Some node → node.what ≡ what.Apply i → (o : Option Table) → slice_get p.tables i ≡ o → AreEntriesAt n es (option_map (terms_of p) o) → its here ≡ es
    by_table node i at does None is are = none_named node at (ap (named_at p n own_list) does ∙ ap (option_and_then (if_keyed p n own_list)) is) are
    by_table node i at does (Some t) is are = by_key (has_key t.kind) refl
      where
        by_key : (b : Bool) → has_key t.kind ≡ b → its here ≡ es
        by_key true key = keyed_table node t at (ap (applied p) does ∙ is) key
        by_key false key =
            none_named node at (ap (named_at p n own_list) does ∙ ap (option_and_then (if_keyed p n own_list)) is ∙ ap (λ b. cond b (Some (table_named p n own_list t)) None) key)
            (no_entries es (omega (arith, are.within_size, keyless_none t.kind t (its_table p (what.Apply i) t is program.tables).key key)))

    by_what : (node : Node) (w : What) → slice_get p.nodes n ≡ Some node → node.what ≡ w → AreEntriesAt n es (terms_at p w) → its here ≡ es
    by_what node (what.Gate field test) at does are = none_named node at (ap (named_at p n own_list) does) are
    by_what node (what.Apply i) at does are = by_table node i at does (slice_get p.tables i) refl are

    pub node_spelled : (node : Node) → slice_get p.nodes n ≡ Some node → entries_of_node c (names_of p lists) n ≡ es
    node_spelled node at =
        let own = list_at p lists n node entries at in
        by_what node node.what at refl (subst (λ xs. AreEntriesAt n xs (terms_at p node.what)) (same_Some (entries_at lists n) es (sym own.0 ∙ list)) own.1)

  range_spelled : (f : ℕ → List Entry) (a : ℕ) (xs : List (List Entry)) → ((i : ℕ) (x : List Entry) → slice_get xs i ≡ Some x → f (a + i) ≡ x) → map f (range_with_len a (length xs)) ≡ xs
  range_spelled f a [] same = refl
  range_spelled f a (x ∷ xs) same =
      ap (λ y. y ∷ map f (range_with_len (a + 1) (length xs))) (ap f (let e : a ≡ a + 0 = omega arith in e) ∙ same 0 x refl)
      ∙ ap (λ ys. x ∷ ys) (range_spelled f (a + 1) xs (λ i y at. ap f (let e : a + 1 + i ≡ a + suc i = omega arith in e) ∙ same (suc i) y at))

  -- the configuration spells the entries
  pub lists_spelled : entries_spelled c (names_of p lists) ≡ lists
  lists_spelled =
      let long : length lists ≡ length p.nodes = entries.for_each_node ∙ length-map p.nodes _ in
      let f = entries_of_node c (names_of p lists) in
      ap (λ k. map f (range_with_len 0 k)) (nodes_are p m c units ∙ sym long)
      ∙ range_spelled f 0 lists
      (λ i es at.
      let node = slice_get-item p.nodes i (omega (arith, slice_get_within lists i es at, long)) in
      ap f (let e : 0 + i ≡ i = omega arith in e) ∙ node_spelled i es at node.0 node.1)

-- So where a configuration has the names of a program and its entries, it carries them with its names.
pub carries_named : (p : Program) (lists : List (List Entry)) (m : Map) (c : Config) (visible : ℕ) → IsProgram p → AreEntries p lists → CarriesIn p lists m c (own_view c) → All (StageHolds visible) c.stages
    → c.names ≡ Some (names_of p lists) → Carries p lists m c
carries_named p lists m c visible program entries own memory named = record {
  places = own.places;
  parser = own.parser;
  units = own.units;
  cells = own.cells;
  listed = all_listed visible c memory;
  code = own.code;
  edges = own.edges;
  names = subst (λ (o : Option Names). IfSome o (NamesCarried p lists c)) (sym named)
      (record { names_are = refl; entries = lists_spelled p lists m c visible program entries own.units m.cells own.cells memory });
}
