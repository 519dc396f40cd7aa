-- What the units of a stage take is what its parts demand, so the limits that the placement keeps are kept.
use Rattle.std.proofs.Common.{◌≡◌, ℕ, ◌+◌, ◌≤◌, true, ◌==◌, cond, List, [], ◌∷◌, ◌++◌, Some, length, map, reverse, get_or, refl, sym, ap, ◌∙◌, subst, ◌⊎◌, inl, inr, arith, ◌≢◌}
use Rattle.std.specs.Prelude.{All, AllPairs, Contains, count_by, filter, nat_le, nat_lt, option_and_then, option_map, slice_get, sum_by, unwrap_or}
use Rattle.std.specs.List.{AllZip, flat_map, range_with_len}
use Rattle.std.proofs.lemmas.Bool.{eq-eqb, leb-true, ltb-true}
use Rattle.std.proofs.lemmas.List.{get_or_default}
use Rattle.std.proofs.lemmas.List.Elements.{All-append, All-cons, All-contains_itself, All-head, All-map, All-nil, All-tail, All-weaker, Contains-append_cases, Contains-append_left, Contains-append_right, All-contains}
use Rattle.std.proofs.lemmas.List.Kept.{AllPairs-filter}
use Rattle.std.proofs.lemmas.List.Sums.{AllPass-from_list_all, sum_by-cons}
use Rattle.std.proofs.lemmas.Option.{get_or_from_slice_get, slice_get-map, slice_get_within}
use Rattle.rmt_bits.specs.Words.{word_size}
use Rattle.rmt_bits.specs.declared.lane.Lane.{Lane}
use Rattle.rmt_deps.specs.Edges.{words_of_fields}
use Rattle.rmt_build.specs.Types.{Program, Test, Table, Kind, Node, What, Unit, GateUnit, GateTest, SlotUnit, Memory}
use Rattle.rmt_ast.specs.declared.program.Kind.TheVariants as kind
use Rattle.rmt_ast.specs.declared.program.What.TheVariants as what
use Rattle.rmt_ast.specs.Places.{lanes_of}
use Rattle.rmt_config.specs.declared.config.Memory.TheVariants as memory
use Rattle.rmt_config.specs.declared.config.Unit.TheVariants.{Gate, Slot}
use Rattle.rmt_config.specs.Instructions.{unit_instructions}
use Rattle.rmt_config.specs.Resources.{crossbar_bits, exact_words, is_gate, is_slot, key_words_if_exact, key_words_if_ternary, ternary_words, unit_data, words_of}
use Rattle.rmt_pack.specs.declared.placement.Part.{Part}
use Rattle.rmt_pack.specs.Placements.{data_bits, quanta_in}
use Rattle.rmt_pack.proofs.BlockLaws.{range-apart}
use Rattle.rmt_place.specs.declared.demand.Demand.{Demand}
use Rattle.rmt_place.specs.Needs.{Standing, Sum, demand_at, demands_of, gate_demand, if_exact, if_ternary, keeps_limits, nothing, sums_of, table_demand, what_demands}
use Rattle.rmt_place.specs.Placing.{standing_in}
use Rattle.rmt_bits.proofs.AllLaws.{All-reverse}
use Rattle.rmt_phv.specs.Places.{high_first}
use Rattle.rmt_refine.specs.Units.{DoesAs, HasKind, TableCarried, UnitCarried, applied, nodes_in, table_at, tests_from, tests_of}
use Rattle.rmt_refine.proofs.NodeLaws.{part_there}
use Rattle.rmt_refine.proofs.PartLaws.{some_and}
use Rattle.rmt_build.proofs.FormSums.{distinct_within, sum_within, zip_sum}
use Rattle.rmt_bits.proofs.MemberLaws.{Contains-map, Contains-flat_map, Contains-filter, Contains-unfilter}

-- ---- members

-- numbers that stand in both lists or in neither
abbrev Within : List ℕ → List ℕ → Type 0
Within ns ms = (n : ℕ) → Contains ns n → Contains ms n

-- ---- the sums that the placement keeps

-- sum number i of a stage is at most its limit
kept : (xs : List Standing) (i : ℕ) (s : Sum) → keeps_limits xs ≡ true → slice_get (sums_of xs) i ≡ Some s → s.sum ≤ s.most
kept xs i s keeps at =
    let own = AllPass-from_list_all (λ (x : Sum). nat_le x.sum x.most) (sums_of xs) keeps i s (slice_get_within (sums_of xs) i s at) in
    let same : get_or (sums_of xs) i s ≡ s = get_or_from_slice_get (sums_of xs) i s s at in
    leb-true s.sum s.most (subst (λ (x : Sum). nat_le x.sum x.most ≡ true) same own)

module _ (p : Program) (places : List (List Lane)) (parts : List Part) (k : ℕ) where
  abbrev demands : List Demand
  demands = demands_of p places

  abbrev pub demand : ℕ → Demand
  demand n = demand_at demands n

  abbrev in_stage : List Part
  in_stage = filter (λ (x : Part). x.stage == k) parts

  abbrev standing : List Standing
  standing = standing_in demands parts k

  -- the nodes of the parts in the stage
  abbrev part_nodes : List ℕ
  part_nodes = map (λ (x : Part). x.node) in_stage

  nodes_apart : AllPairs ◌≢◌ (nodes_in p parts k)
  nodes_apart = AllPairs-filter ◌≢◌ (λ n. nat_lt 0 (quanta_in parts n k)) (range_with_len 0 (length p.nodes)) (range-apart 0 (length p.nodes))

  -- a part of the node stands in the stage
  its_part : (n : ℕ) → Contains (nodes_in p parts k) n → (x : Part) × Contains in_stage x × (x.node ≡ n)
  its_part n there =
      let own = Contains-unfilter (λ m. nat_lt 0 (quanta_in parts m k)) (range_with_len 0 (length p.nodes)) n there in
      let x = part_there parts n k (ltb-true 0 (quanta_in parts n k) own.1) in
      (x.0, Contains-filter (λ (y : Part). y.stage == k) parts x.0 x.1 (eq-eqb _ k x.3), x.2)

  nodes_there : All (Contains part_nodes) (nodes_in p parts k)
  nodes_there i d lt =
      let n = get_or (nodes_in p parts k) i d in
      let x = its_part n (i, lt, get_or_default (nodes_in p parts k) i n d lt) in
      subst (Contains part_nodes) x.2 (Contains-map (λ (y : Part). y.node) in_stage x.0 x.1)

  sum_map : (g : ℕ → ℕ) (h : Part → ℕ) (xs : List Part) → ((x : Part) → h x ≡ g x.node) → sum_by g (map (λ (x : Part). x.node) xs) ≡ sum_by h xs
  sum_map g h [] same = refl
  sum_map g h (x ∷ xs) same =
      sum_by-cons g x.node (map (λ (y : Part). y.node) xs) ∙ ap (λ n. n + sum_by g (map (λ (y : Part). y.node) xs)) (sym (same x)) ∙ ap (λ n. h x + n) (sum_map g h xs same)
      ∙ sym (sum_by-cons h x xs)

  sum_standing : (g : Demand → ℕ) (xs : List Part)
      → sum_by (λ (y : Standing). g y.demand) (map (λ (x : Part). record { demand = demand x.node; quanta = x.quanta }) xs) ≡ sum_by (λ (x : Part). g (demand x.node)) xs
  sum_standing g [] = refl
  sum_standing g (x ∷ xs) =
      sum_by-cons (λ (y : Standing). g y.demand) (record { demand = demand x.node; quanta = x.quanta }) (map (λ (z : Part). record { demand = demand z.node; quanta = z.quanta }) xs)
      ∙ ap (λ n. g (demand x.node) + n) (sum_standing g xs) ∙ sym (sum_by-cons (λ (z : Part). g (demand z.node)) x xs)

  -- what the nodes of a stage need together is no more than what stands there
  node_sum : (g : Demand → ℕ) → sum_by (λ n. g (demand n)) (nodes_in p parts k) ≤ sum_by (λ (y : Standing). g y.demand) standing
  node_sum g =
      let one = sum_map (λ n. g (demand n)) (λ (x : Part). g (demand x.node)) in_stage (λ x. refl) in
      let two = sum_standing g in_stage in
      omega (arith, sum_within (λ n. g (demand n)) (nodes_in p parts k) part_nodes nodes_apart nodes_there, one, two)

  -- the words that a node of the stage needs are among those of what stands there
  node_words : (g : Demand → List ℕ) (n : ℕ) → Contains (nodes_in p parts k) n → Within (g (demand n)) (flat_map (λ (y : Standing). g y.demand) standing)
  node_words g n there w is =
      let x = its_part n there in
      let own : Standing = record { demand = demand x.0.node; quanta = x.0.quanta } in
      Contains-flat_map (λ (y : Standing). g y.demand) standing own w
      (Contains-map (λ (y : Part). record { demand = demand y.node; quanta = y.quanta }) in_stage x.0 x.1) (subst (λ m. Contains (g (demand m)) w) (sym x.2) is)

  -- ---- one unit

  -- a unit is the slot of a table, or a gate, and its node needs what it takes
  pub record IsSlotOf (n : ℕ) (u : Unit) : Type 0 where
    pub slot : SlotUnit
    pub table : Table
    pub node : Node
    pub node_is : slice_get p.nodes n ≡ Some node
    pub is : u ≡ Slot slot
    pub at : table_at p n ≡ Some table
    pub needs : demand n ≡ table_demand p places table
    pub carried : TableCarried places parts n k table slot

  pub record IsGateOf (n : ℕ) (u : Unit) : Type 0 where
    pub gate : GateUnit
    pub node : Node
    pub node_is : slice_get p.nodes n ≡ Some node
    pub field : ℕ
    pub test : Test
    pub what_is : node.what ≡ what.Gate field test
    pub is : u ≡ Gate gate
    pub needs : demand n ≡ gate_demand places field
    pub tests : gate.tests ≡ tests_of places field test

  needs_as : (n : ℕ) (node : Node) (w : What) → slice_get p.nodes n ≡ Some node → node.what ≡ w → demand n ≡ what_demands p places w
  needs_as n node w at is =
      let g : Node → Demand = λ (x : Node). what_demands p places x.what in
      get_or_from_slice_get (map g p.nodes) n (g node) nothing (slice_get-map g p.nodes n ∙ ap (option_map g) at) ∙ ap (what_demands p places) is

  by_what : (n : ℕ) (u : Unit) (node : Node) (w : What) → slice_get p.nodes n ≡ Some node → node.what ≡ w → DoesAs p places parts k n w u → IsSlotOf n u ⊎ IsGateOf n u
  by_what n (Slot s) node (what.Apply i) at is does =
      let t = some_and (slice_get p.tables i) (λ (x : Table). TableCarried places parts n k x s) does in
      inl (record {
        slot = s;
        table = t.0;
        node = node;
        node_is = at;
        is = refl;
        at = ap (option_and_then (λ (x : Node). applied p x.what)) at ∙ ap (applied p) is ∙ t.1;
        needs = needs_as n node (what.Apply i) at is ∙ ap (λ o. unwrap_or (option_map (table_demand p places) o) nothing) t.1;
        carried = t.2;
      })
  by_what n (Gate g) node (what.Apply i) at is does = absurd does
  by_what n (Slot s) node (what.Gate field test) at is does = absurd does
  by_what n (Gate g) node (what.Gate field test) at is does =
      inr (record { gate = g; node = node; node_is = at; field = field; test = test; what_is = is; is = refl; needs = needs_as n node (what.Gate field test) at is; tests = does })

  pub kinds : (n : ℕ) (u : Unit) → UnitCarried p places parts k n u → IsSlotOf n u ⊎ IsGateOf n u
  kinds n u carried =
      let node = some_and (slice_get p.nodes n) (λ (x : Node). DoesAs p places parts k n x.what u) carried.does in
      by_what n u node.0 node.0.what node.1 refl node.2

  -- what a slot takes by its table, and a gate by its field, a unit takes by its node
  its_number : (f : Unit → ℕ) (g : Demand → ℕ) → ((s : SlotUnit) (x : Table) → s.actions ≡ length x.actions → f (Slot s) ≡ g (table_demand p places x))
      → ((x : GateUnit) (field : ℕ) → f (Gate x) ≡ g (gate_demand places field)) → (n : ℕ) (u : Unit) → UnitCarried p places parts k n u → f u ≡ g (demand n)
  its_number f g slot gate n u carried = elim (kinds n u carried) [
    | inl s ↦ ap f s.is ∙ slot s.slot s.table s.carried.actions ∙ sym (ap g s.needs)
    | inr x ↦ ap f x.is ∙ gate x.gate x.field ∙ sym (ap g x.needs)
  ]

  -- a slot's data are those of the table of its node
  abbrev pub HoldsData : ℕ → Unit → Type 0
  HoldsData n u = (s : SlotUnit) (t : Table) → u ≡ Slot s → table_at p n ≡ Some t → s.held ≡ data_bits p t

  its_data : (n : ℕ) (u : Unit) → UnitCarried p places parts k n u × HoldsData n u → unit_data u ≡ (demand n).held
  its_data n u both = elim (kinds n u both.0) [
    | inl s ↦ ap unit_data s.is ∙ both.1 s.slot s.table s.is s.at ∙ sym (ap (λ (d : Demand). d.held) s.needs)
    | inr g ↦ ap unit_data g.is ∙ sym (ap (λ (d : Demand). d.held) g.needs)
  ]

  -- ---- the words that a unit reads

  field_words : (fields : List ℕ) → All (λ (l : Lane). Contains (words_of_fields places fields) l.word) (high_first places fields)
  field_words [] = All-nil (λ (l : Lane). Contains [] l.word)
  field_words (f ∷ fs) =
      let own = map (λ (l : Lane). l.word) (lanes_of places f) in
      let rest = words_of_fields places fs in
      All-append (λ (l : Lane). Contains (own ++ rest) l.word) (reverse (lanes_of places f)) (high_first places fs)
      (All-reverse (λ (l : Lane). Contains (own ++ rest) l.word) (lanes_of places f)
      (All-weaker (Contains (lanes_of places f)) (λ (l : Lane). Contains (own ++ rest) l.word) (λ l there. Contains-append_left own rest l.word (Contains-map (λ (x : Lane). x.word) (lanes_of places f) l there))
      (lanes_of places f) (All-contains_itself (lanes_of places f))))
      (All-weaker (λ (l : Lane). Contains rest l.word) (λ (l : Lane). Contains (own ++ rest) l.word) (λ l there. Contains-append_right own rest l.word there) (high_first places fs) (field_words fs))

  key_words : (fields : List ℕ) (keys : List Lane) → keys ≡ high_first places fields → Within (words_of keys) (words_of_fields places fields)
  key_words fields keys is w there =
      All-contains (Contains (words_of_fields places fields)) (words_of keys) w
      (All-map (Contains (words_of_fields places fields)) (λ (l : Lane). l.word) keys
      (subst (All (λ (l : Lane). Contains (words_of_fields places fields) l.word)) (sym is) (field_words fields))) there

  none_there : (w : ℕ) {X : Type 0} → Contains [] w → X
  none_there w there = absurd (let lt = there.1 in omega (arith, lt))

  exact_key : (kd : Kind) (q : ℕ) (m : Memory) (keys : List Lane) (fields : List ℕ) → HasKind kd q m → keys ≡ high_first places fields
      → Within (key_words_if_exact keys m) (if_exact kd (words_of_fields places fields))
  exact_key kd q memory.Without keys fields has is w there = none_there w there
  exact_key kd q (memory.Ternary d ks rs cs) keys fields has is w there = none_there w there
  exact_key kind.Keyless q (memory.Exact a b d e ks rs cs) keys fields has is w there = absurd has
  exact_key kind.Exact q (memory.Exact a b d e ks rs cs) keys fields has is w there = key_words fields keys is w there
  exact_key kind.Prefix q (memory.Exact a b d e ks rs cs) keys fields has is w there = absurd has
  exact_key kind.Ternary q (memory.Exact a b d e ks rs cs) keys fields has is w there = absurd has

  ternary_key : (kd : Kind) (q : ℕ) (m : Memory) (keys : List Lane) (fields : List ℕ) → HasKind kd q m → keys ≡ high_first places fields
      → Within (key_words_if_ternary keys m) (if_ternary kd (words_of_fields places fields))
  ternary_key kd q memory.Without keys fields has is w there = none_there w there
  ternary_key kd q (memory.Exact a b d e ks rs cs) keys fields has is w there = none_there w there
  ternary_key kind.Keyless q (memory.Ternary d ks rs cs) keys fields has is w there = absurd has
  ternary_key kind.Exact q (memory.Ternary d ks rs cs) keys fields has is w there = absurd has
  ternary_key kind.Prefix q (memory.Ternary d ks rs cs) keys fields has is w there = key_words fields keys is w there
  ternary_key kind.Ternary q (memory.Ternary d ks rs cs) keys fields has is w there = key_words fields keys is w there

  test_words : (low : ℕ) (t : Test) (lanes : List Lane) (ws : List ℕ) → All (λ (l : Lane). Contains ws l.word) lanes
      → All (λ (x : GateTest). Contains ws x.lane.word) (tests_from low t lanes)
  test_words low t [] ws all = All-nil (λ (x : GateTest). Contains ws x.lane.word)
  test_words low t (l ∷ lanes) ws all =
      All-cons (λ (x : GateTest). Contains ws x.lane.word) _ (tests_from (low + l.len) t lanes) (All-head (λ (y : Lane). Contains ws y.word) l lanes all)
      (test_words (low + l.len) t lanes ws (All-tail (λ (y : Lane). Contains ws y.word) l lanes all))

  gate_words : (g : GateUnit) (field : ℕ) (t : Test) → g.tests ≡ tests_of places field t → Within (ternary_words (Gate g)) (words_of_fields places (field ∷ []))
  gate_words g field t is w there =
      let ws = words_of_fields places (field ∷ []) in
      let lanes = lanes_of places field in
      let own = All-weaker (Contains lanes) (λ (l : Lane). Contains ws l.word) (λ l in_l. Contains-append_left (map (λ (x : Lane). x.word) lanes) [] l.word (Contains-map (λ (x : Lane). x.word) lanes l in_l))
      lanes (All-contains_itself lanes) in
      let tests = subst (All (λ (x : GateTest). Contains ws x.lane.word)) (sym is)
      (All-reverse (λ (x : GateTest). Contains ws x.lane.word) (tests_from 0 t lanes) (test_words 0 t lanes ws own)) in
      All-contains (Contains ws) (map (λ (x : GateTest). x.lane.word) g.tests) w (All-map (Contains ws) (λ (x : GateTest). x.lane.word) g.tests tests) there

  its_exact_words : (n : ℕ) (u : Unit) → UnitCarried p places parts k n u → Within (exact_words u) (demand n).exact_words
  its_exact_words n u carried w there = elim (kinds n u carried) [
    | inl s ↦ subst (λ (d : Demand). Contains d.exact_words w) (sym s.needs)
        (exact_key s.table.kind (quanta_in parts n k) s.slot.memory s.slot.keys s.table.key s.carried.memory s.carried.keys w (subst (λ x. Contains (exact_words x) w) s.is there))
    | inr g ↦ none_there w (subst (λ x. Contains (exact_words x) w) g.is there)
  ]

  its_ternary_words : (n : ℕ) (u : Unit) → UnitCarried p places parts k n u → Within (ternary_words u) (demand n).ternary_words
  its_ternary_words n u carried w there = elim (kinds n u carried) [
    | inl s ↦ subst (λ (d : Demand). Contains d.ternary_words w) (sym s.needs)
        (ternary_key s.table.kind (quanta_in parts n k) s.slot.memory s.slot.keys s.table.key s.carried.memory s.carried.keys w (subst (λ x. Contains (ternary_words x) w) s.is there))
    | inr g ↦ subst (λ (d : Demand). Contains d.ternary_words w) (sym g.needs)
        (gate_words g.gate g.field g.test g.tests w (subst (λ x. Contains (ternary_words x) w) g.is there))
  ]

  -- ---- all units

  zip_words : (f : Unit → List ℕ) (g : ℕ → List ℕ) (ms : List ℕ) → ((n : ℕ) (u : Unit) → UnitCarried p places parts k n u → Within (f u) (g n))
      → (ns : List ℕ) (us : List Unit) → All (λ n. Within (g n) ms) ns → AllZip (UnitCarried p places parts k) ns us → Within (flat_map f us) ms
  zip_words f g ms own [] [] all zip w there = none_there w there
  zip_words f g ms own [] (u ∷ us) all zip w there = absurd zip
  zip_words f g ms own (n ∷ ns) [] all zip w there = absurd zip
  zip_words f g ms own (n ∷ ns) (u ∷ us) all zip w there = elim (Contains-append_cases (f u) (flat_map f us) w there) [
    | inl here ↦ All-head (λ m. Within (g m) ms) n ns all w (own n u zip.0 w here)
    | inr later ↦ zip_words f g ms own ns us (All-tail (λ m. Within (g m) ms) n ns all) zip.1 w later
  ]

  each_node : (g : Demand → List ℕ) → All (λ n. Within (g (demand n)) (flat_map (λ (y : Standing). g y.demand) standing)) (nodes_in p parts k)
  each_node g i d lt =
      let n = get_or (nodes_in p parts k) i d in
      node_words g n (i, lt, get_or_default (nodes_in p parts k) i n d lt)

  -- the words that units read are among those that their demands tell
  words_within : (words : Unit → List ℕ) (own : Demand → List ℕ) → ((n : ℕ) (u : Unit) → UnitCarried p places parts k n u → Within (words u) (own (demand n)))
      → (units : List Unit) → AllZip (UnitCarried p places parts k) (nodes_in p parts k) units → Within (flat_map words units) (flat_map (λ (y : Standing). own y.demand) standing)
  words_within words own its units zip = zip_words words (λ n. own (demand n)) (flat_map (λ (y : Standing). own y.demand) standing) its (nodes_in p parts k) units (each_node own) zip

  -- what units take together is no more than what stands there needs
  sum_needs : (f : Unit → ℕ) (g : Demand → ℕ) → ((s : SlotUnit) (x : Table) → s.actions ≡ length x.actions → f (Slot s) ≡ g (table_demand p places x))
      → ((x : GateUnit) (field : ℕ) → f (Gate x) ≡ g (gate_demand places field)) → (units : List Unit) → AllZip (UnitCarried p places parts k) (nodes_in p parts k) units
      → sum_by f units ≤ sum_by (λ (y : Standing). g y.demand) standing
  sum_needs f g slot gate units zip =
      omega (arith, zip_sum (UnitCarried p places parts k) (λ n. g (demand n)) f (its_number f g slot gate) (nodes_in p parts k) units zip, node_sum g)

  -- what the units of a stage take, where the placement keeps the limits
  pub record KeepLimits (units : List Unit) : Type 0 where
    pub exact : crossbar_bits exact_words units ≤ 640
    pub ternary : crossbar_bits ternary_words units ≤ 640
    pub slots : count_by is_slot units ≤ 16
    pub code : sum_by unit_instructions units ≤ 32
    pub held : sum_by unit_data units ≤ 1280
    pub gates : count_by is_gate units ≤ 16

  pub keep_limits : (units : List Unit) → keeps_limits standing ≡ true → AllZip (UnitCarried p places parts k) (nodes_in p parts k) units
      → AllZip (λ n u. UnitCarried p places parts k n u × HoldsData n u) (nodes_in p parts k) units → KeepLimits units
  keep_limits units keeps zip holds = record {
    exact =
        let within = distinct_within word_size (flat_map exact_words units) (flat_map (λ (y : Standing). y.demand.exact_words) standing) (words_within exact_words (λ (d : Demand). d.exact_words) its_exact_words units zip) in
        omega (arith, within, kept standing 2 _ keeps refl);
    ternary =
        let within = distinct_within word_size (flat_map ternary_words units) (flat_map (λ (y : Standing). y.demand.ternary_words) standing) (words_within ternary_words (λ (d : Demand). d.ternary_words) its_ternary_words units zip) in
        omega (arith, within, kept standing 3 _ keeps refl);
    slots = omega (arith, sum_needs (λ (u : Unit). cond (is_slot u) 1 0) (λ (d : Demand). d.slots) (λ s x e. refl) (λ x field. refl) units zip, kept standing 4 _ keeps refl);
    code = omega (arith, sum_needs unit_instructions (λ (d : Demand). d.instructions) (λ s x e. ap (λ m. m + 1) e) (λ x field. refl) units zip, kept standing 5 _ keeps refl);
    held =
        let same = zip_sum (λ n u. UnitCarried p places parts k n u × HoldsData n u) (λ n. (demand n).held) unit_data its_data (nodes_in p parts k) units holds in
        omega (arith, same, node_sum (λ (d : Demand). d.held), kept standing 6 _ keeps refl);
    gates = omega (arith, sum_needs (λ (u : Unit). cond (is_gate u) 1 0) (λ (d : Demand). d.gates) (λ s x e. refl) (λ x field. refl) units zip, kept standing 7 _ keeps refl);
  }
