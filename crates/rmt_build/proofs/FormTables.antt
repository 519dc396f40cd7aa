-- The units of built stages keep the rules of form of guards and of the parts of a table.
use Rattle.std.proofs.Common.{Bool, List, None, Option, Some, [], ap, arith, cond, false, get_or, inl, inr, length, map, nat_lt, not, refl, subst, suc, sym, true, zero, ℕ, ◌&&◌, ◌*◌, ◌++◌, ◌+◌, ◌-◌, ◌<◌, ◌==◌, ◌||◌, ◌∙◌, ◌∷◌, ◌≡◌, ◌≢◌, ◌≤◌, ◌⊎◌}
use Rattle.std.specs.Prelude.{All, Contains, count_by, filter, find, option_and_then, slice_get}
use Rattle.std.specs.List.{AllZip, range_with_len}
use Rattle.std.proofs.lemmas.Bool.Decides.{nat_tests}
use Rattle.std.proofs.lemmas.Bool.{both_ways, cases_eq, cases_lt, eq-eqb, eqb-true, lt-ltb, ltb-true, ne_eqb, or_left, or_right}
use Rattle.std.proofs.lemmas.List.Elements.{All-append, All-cons, All-head, All-nil, All-tail, All-weaker, All-contains}
use Rattle.std.proofs.lemmas.List.Folds.{list_any-append}
use Rattle.std.proofs.lemmas.List.Sums.{sum_by-cons}
use Rattle.rmt_bits.specs.declared.lane.Lane.{Lane}
use Rattle.rmt_build.specs.Types.{Program, Test, Table, Kind, Node, Guard, Config, Stage, Unit, UnitGuard}
use Rattle.rmt_ast.specs.declared.program.Kind.TheVariants as kind
use Rattle.rmt_ast.specs.declared.program.What.TheVariants as what
use Rattle.rmt_config.specs.TableForm.{Placed, tables_are_formed, follows_part, is_part_of, same_flag, same_guard, same_kind, same_lanes, unit_stands, ways_follow, guard_of, guard_stands, has_node, node_is_among, node_of, placed_from}
use Rattle.rmt_pack.specs.declared.placement.Part.{Part}
use Rattle.rmt_pack.specs.Placements.{data_bits, quanta_in}
use Rattle.rmt_refine.specs.Units.{UnitCarried, applied, table_at, guard_in, guard_of as guard_of_node, last_stage, nodes_in}
use Rattle.rmt_pack.proofs.FindLaws.{Contains-range, Contains-range_from, found_passes}
use Rattle.rmt_build.specs.Plans.{need_in, parts_before, taken_upto}
use Rattle.rmt_build.proofs.PartLaws.{parts_more}
use Rattle.rmt_config.specs.declared.config.Unit.TheVariants.{Gate, Slot}
use Rattle.rmt_ast.specs.WellFormed.{IsProgram}
use Rattle.rmt_refine.specs.Outcomes.{ChildrenFollow}
use Rattle.rmt_refine.proofs.RunLaws.{is_earlier}
use Rattle.rmt_pack.proofs.PartLaws.{and_at}
use Rattle.rmt_build.proofs.FormStage.{HoldsData, IsGateOf, IsSlotOf, kinds}
use Rattle.rmt_build.proofs.FormBlocks.{HasMemory}
use Rattle.rmt_filling.specs.declared.memory.PartNeed.{PartNeed}
use Rattle.rmt_filling.specs.declared.memory.Taken.{Taken}
use Rattle.rmt_filling.specs.Memories.{memory_for}
use Rattle.rmt_pack.specs.declared.format.Format.{Format}
use Rattle.std.proofs.lemmas.Option.{none-some, same_Some}
use Rattle.rmt_phv.specs.Places.{high_first}
use Rattle.rmt_refine.proofs.NodeLaws.{within_last}
use Rattle.rmt_config.specs.Order.{each_between}
use Rattle.std.proofs.lemmas.List.FromFn.{get_or-range_with_len, length-range_with_len}
use Rattle.rmt_bits.proofs.MemberLaws.{Contains-first, Contains-later, Contains-split, Contains-filter, Contains-unfilter}

-- ---- units of a node among others

among_first : (n : ℕ) (x : Placed) (xs : List Placed) → node_of x.unit ≡ n → node_is_among n (x ∷ xs) ≡ true
among_first n x xs e = ap (λ b. b || node_is_among n xs) (eq-eqb (node_of x.unit) n e)

among_later : (n : ℕ) (x : Placed) (xs : List Placed) → node_is_among n xs ≡ true → node_is_among n (x ∷ xs) ≡ true
among_later n x xs e = by (has_node n x)
  where
    by : (b : Bool) → (b || node_is_among n xs) ≡ true
    by true = refl
    by false = e

not_among : (n : ℕ) (xs : List Placed) → All (λ (x : Placed). node_of x.unit ≢ n) xs → node_is_among n xs ≡ false
not_among n [] all = refl
not_among n (x ∷ xs) all =
    ap (λ b. b || node_is_among n xs) (ne_eqb (node_of x.unit) n (All-head (λ (y : Placed). node_of y.unit ≢ n) x xs all))
    ∙ not_among n xs (All-tail (λ (y : Placed). node_of y.unit ≢ n) x xs all)

module _ (p : Program) (program : IsProgram p) (places : List (List Lane)) (parts : List Part) where
  -- a unit of a node in a stage, with its data and its memory
  abbrev pub Built : ℕ → ℕ → Unit → Type 0
  Built k n u = UnitCarried p places parts k n u × HoldsData p places parts k n u × HasMemory p program places parts k n u

  -- a placed unit is that of its node in its stage
  pub record IsUnit (x : Placed) : Type 0 where
    pub built : Built x.stage (node_of x.unit) x.unit
    pub stands : 0 < quanta_in parts (node_of x.unit) x.stage

  -- before the unit of node m in stage k, and from it on
  abbrev pub IsEarlier : ℕ → ℕ → ℕ → ℕ → Type 0
  IsEarlier k m j q = (j < k) ⊎ ((j ≡ k) × (q < m))

  abbrev pub IsLater : ℕ → ℕ → ℕ → ℕ → Type 0
  IsLater k m j q = (k < j) ⊎ ((j ≡ k) × (m ≤ q))

  -- what stands before
  pub record Before (k m : ℕ) (xs : List Placed) : Type 0 where
    pub units : All IsUnit xs
    pub earlier : All (λ (x : Placed). IsEarlier k m x.stage (node_of x.unit)) xs
    pub there : (j q : ℕ) → 0 < quanta_in parts q j → IsEarlier k m j q → node_is_among q xs ≡ true
    pub count : (q : ℕ) → count_by (has_node q) xs ≡ parts_before parts q k + cond (nat_lt 0 (quanta_in parts q k) && nat_lt q m) 1 0

  -- and behind
  pub record Behind (last k m : ℕ) (xs : List Placed) : Type 0 where
    pub later : All (λ (x : Placed). IsLater k m x.stage (node_of x.unit)) xs
    pub units : All IsUnit xs
    pub there : (j q : ℕ) → j < last → 0 < quanta_in parts q j → IsLater k m j q → node_is_among q xs ≡ true

  abbrev place : ℕ → Unit → Placed
  place k u = record { stage = k; unit = u }

  wider : (k m j q : ℕ) → IsEarlier k m j q → IsEarlier k (m + 1) j q
  wider k m j q (inl less) = inl less
  wider k m j q (inr both) = inr (both.0, (let lt = both.1 in omega (arith, lt)))

  narrower : (k m j q : ℕ) → q ≢ m → IsEarlier k (m + 1) j q → IsEarlier k m j q
  narrower k m j q other (inl less) = inl less
  narrower k m j q other (inr both) = inr (both.0, (let lt = both.1 in omega (arith, lt, other)))

  lt_more : (q m : ℕ) → q ≢ m → nat_lt q (m + 1) ≡ nat_lt q m
  lt_more q m other = grind (arith, nat_tests)

  -- ---- what is known of the units that come

  -- the stages from number k on
  abbrev pub StagesFrom : ℕ → List Stage → Type 0
  StagesFrom k stages = (i : ℕ) (s : Stage) → slice_get stages i ≡ Some s → AllZip (Built (k + i)) (nodes_in p parts (k + i)) s.units

  unit_of : (k n : ℕ) (u : Unit) → Built k n u → 0 < quanta_in parts n k → IsUnit (place k u)
  unit_of k n u built some =
      let e : n ≡ node_of u = sym built.0.number in
      record { built = subst (λ m. Built k m u) e built; stands = subst (λ m. 0 < quanta_in parts m k) e some }

  -- units of nodes of a list, in stage k
  units_known : (P : Placed → Type 0) (k : ℕ) (ns : List ℕ) (us : List Unit) → AllZip (Built k) ns us
      → ((n : ℕ) (u : Unit) → Contains ns n → Built k n u → P (place k u)) → All P (map (place k) us)
  units_known P k [] [] zip h = All-nil P
  units_known P k [] (u ∷ us) zip h = absurd zip
  units_known P k (n ∷ ns) [] zip h = absurd zip
  units_known P k (n ∷ ns) (u ∷ us) zip h =
      All-cons P (place k u) (map (place k) us) (h n u (Contains-first n ns) zip.0) (units_known P k ns us zip.1 (λ m v there carried. h m v (Contains-later n ns m there) carried))

  unit_among : (k q : ℕ) (ns : List ℕ) (us : List Unit) → AllZip (Built k) ns us → Contains ns q → node_is_among q (map (place k) us) ≡ true
  unit_among k q [] us zip there = absurd (let lt = there.1 in omega (arith, lt))
  unit_among k q (n ∷ ns) [] zip there = absurd zip
  unit_among k q (n ∷ ns) (u ∷ us) zip there = elim (Contains-split n ns q there) [
    | inl e ↦ among_first q (place k u) (map (place k) us) (zip.0.0.number ∙ e)
    | inr later ↦ among_later q (place k u) (map (place k) us) (unit_among k q ns us zip.1 later)
  ]

  among_left : (q : ℕ) (xs ys : List Placed) → node_is_among q xs ≡ true → node_is_among q (xs ++ ys) ≡ true
  among_left q xs ys e = list_any-append (has_node q) xs ys ∙ or_left (node_is_among q xs) (node_is_among q ys) e

  among_right : (q : ℕ) (xs ys : List Placed) → node_is_among q ys ≡ true → node_is_among q (xs ++ ys) ≡ true
  among_right q xs ys e = list_any-append (has_node q) xs ys ∙ or_right (node_is_among q xs) (node_is_among q ys) e

  in_nodes : (k n : ℕ) → n < length p.nodes → 0 < quanta_in parts n k → Contains (nodes_in p parts k) n
  in_nodes k n lt some = Contains-filter (λ m. nat_lt 0 (quanta_in parts m k)) (range_with_len 0 (length p.nodes)) n (Contains-range (length p.nodes) n lt) (lt-ltb 0 (quanta_in parts n k) some)

  of_nodes : (k n : ℕ) → Contains (nodes_in p parts k) n → 0 < quanta_in parts n k
  of_nodes k n there = ltb-true 0 (quanta_in parts n k) (Contains-unfilter (λ m. nat_lt 0 (quanta_in parts m k)) (range_with_len 0 (length p.nodes)) n there).1

  next_from : (k : ℕ) (x : Stage) (xs : List Stage) → StagesFrom k (x ∷ xs) → StagesFrom (k + 1) xs
  next_from k x xs h j y at =
      let e : k + suc j ≡ k + 1 + j = omega arith in
      subst (λ n. AllZip (Built n) (nodes_in p parts n) y.units) e (h (suc j) y at)

  -- all units from stage k on
  stages_known : (P : Placed → Type 0) (k : ℕ) (stages : List Stage) → StagesFrom k stages
      → ((j n : ℕ) (u : Unit) → k ≤ j → 0 < quanta_in parts n j → Built j n u → P (place j u)) → All P (placed_from k stages)
  stages_known P k [] from h = All-nil P
  stages_known P k (s ∷ stages) from h =
      let zero_more : k + 0 ≡ k = omega arith in
      let own = subst (λ j. AllZip (Built j) (nodes_in p parts j) s.units) zero_more (from 0 s refl) in
      All-append P (map (place k) s.units) (placed_from (k + 1) stages)
      (units_known P k (nodes_in p parts k) s.units own (λ n u there carried. h k n u (omega arith) (of_nodes k n there) carried))
      (stages_known P (k + 1) stages (next_from k s stages from) (λ j n u le some carried. h j n u (omega (arith, le)) some carried))

  stage_among : (k j q : ℕ) (stages : List Stage) → StagesFrom k stages → q < length p.nodes → k ≤ j → j < k + length stages → 0 < quanta_in parts q j → node_is_among q (placed_from k stages) ≡ true
  stage_among k j q [] from node le lt some = absurd (omega (arith, le, lt))
  stage_among k j q (s ∷ stages) from node le lt some =
      let zero_more : k + 0 ≡ k = omega arith in
      let own = subst (λ i. AllZip (Built i) (nodes_in p parts i) s.units) zero_more (from 0 s refl) in
      elim (cases_lt k j) [
        | inl less ↦ among_right q (map (place k) s.units) (placed_from (k + 1) stages) (stage_among (k + 1) j q stages (next_from k s stages from) node (omega (arith, less)) (omega (arith, lt)) some)
        | inr more ↦
            let same : j ≡ k = omega (arith, le, more) in
            among_left q (map (place k) s.units) (placed_from (k + 1) stages) (unit_among k q (nodes_in p parts k) s.units own (in_nodes k q node (subst (λ i. 0 < quanta_in parts q i) same some)))
      ]

  -- ---- what one unit adds to those before

  add_unit : (k m : ℕ) (u : Unit) (xs : List Placed) → Before k m xs → Built k m u → 0 < quanta_in parts m k → Before k (m + 1) (place k u ∷ xs)
  add_unit k m u xs before built some =
      let number : node_of u ≡ m = built.0.number in
      record {
        units = All-cons IsUnit (place k u) xs (unit_of k m u built some) before.units;
        earlier = All-cons (λ (x : Placed). IsEarlier k (m + 1) x.stage (node_of x.unit)) (place k u) xs (inr (refl, omega (arith, number)))
            (All-weaker (λ (x : Placed). IsEarlier k m x.stage (node_of x.unit)) (λ (x : Placed). IsEarlier k (m + 1) x.stage (node_of x.unit)) (λ x h. wider k m x.stage (node_of x.unit) h) xs before.earlier);
        there = λ j q stands early. elim (cases_eq q m) [
          | inl same ↦ among_at j q stands early same number
          | inr other ↦ among_later q (place k u) xs (before.there j q stands (narrower k m j q other early))
        ];
        count = λ q.
            (let old = before.count q in
            grind (arith, nat_tests, old, sum_by-cons (λ (x : Placed). cond (has_node q x) 1 0) (place k u) xs, number, some));
      }
    where
      among_at : (j q : ℕ) → 0 < quanta_in parts q j → IsEarlier k (m + 1) j q → q ≡ m → node_of u ≡ m → node_is_among q (place k u ∷ xs) ≡ true
      among_at j q stands early same number = among_first q (place k u) xs (number ∙ sym same)

  -- a node that doesn't stand in the stage adds none
  skip_node : (k m : ℕ) (xs : List Placed) → Before k m xs → nat_lt 0 (quanta_in parts m k) ≡ false → Before k (m + 1) xs
  skip_node k m xs before none = record {
    units = before.units;
    earlier = All-weaker (λ (x : Placed). IsEarlier k m x.stage (node_of x.unit)) (λ (x : Placed). IsEarlier k (m + 1) x.stage (node_of x.unit)) (λ x h. wider k m x.stage (node_of x.unit) h) xs before.earlier;
    there = λ j q stands early. elim (cases_eq q m) [
      | inl same ↦ elim early [
        | inl less ↦ before.there j q stands (inl less)
        | inr both ↦ absurd (both_ways (nat_lt 0 (quanta_in parts m k)) none (lt-ltb 0 (quanta_in parts m k) (subst (λ i. 0 < quanta_in parts m i) both.0 (subst (λ i. 0 < quanta_in parts i j) same stands))))
      ]
      | inr other ↦ before.there j q stands (narrower k m j q other early)
    ];
    count = λ q. let old = before.count q in grind (arith, nat_tests, old, none);
  }

  -- behind a stage the next one begins
  next_stage : (k : ℕ) (xs : List Placed) → Before k (length p.nodes) xs → ((n j : ℕ) → 0 < quanta_in parts n j → n < length p.nodes) → Before (k + 1) 0 xs
  next_stage k xs before nodes = record {
    units = before.units;
    earlier = All-weaker (λ (x : Placed). IsEarlier k (length p.nodes) x.stage (node_of x.unit)) (λ (x : Placed). IsEarlier (k + 1) 0 x.stage (node_of x.unit)) (λ x h. inl (elim h [
      | inl less ↦ omega (arith, less)
      | inr both ↦ (let e = both.0 in omega (arith, e))
    ])) xs before.earlier;
    there = λ j q stands early. elim early [
      | inl less ↦ elim (cases_eq j k) [
        | inl same ↦ before.there j q stands (inr (same, nodes q j stands))
        | inr other ↦ before.there j q stands (inl (omega (arith, less, other)))
      ]
      | inr both ↦ absurd (let lt = both.1 in omega (arith, lt))
    ];
    count = λ q.
        (let old = before.count q in
        let lt : 0 < quanta_in parts q k → q < length p.nodes = nodes q k in
        grind (arith, nat_tests, old, parts_more parts q k, lt));
  }

  -- ---- the rules of one unit

  -- what is known of the placement: parents stand before their children, each node stands somewhere, and one without memory in one stage alone
  pub record ArePlaced (last : ℕ) : Type 0 where
    pub follow : ChildrenFollow p parts
    pub some : (n : ℕ) → n < length p.nodes → 0 < quanta_in parts n (last_stage parts n)
    pub stage : (n j : ℕ) → 0 < quanta_in parts n j → (n < length p.nodes) × (j < last)
    pub alone : (n j k : ℕ) (node : Node) (field : ℕ) (test : Test) → slice_get p.nodes n ≡ Some node → node.what ≡ what.Gate field test
        → 0 < quanta_in parts n j → 0 < quanta_in parts n k → j ≡ k

  module _ (last : ℕ) (placed : ArePlaced last) (k m : ℕ) (u : Unit) (built : Built k m u) (stands_here : 0 < quanta_in parts m k) (before behind : List Placed) (first : Before k m before)
      (later : Behind last k (m + 1) behind) where
    own : node_of u ≡ m
    own = built.0.number

    within : m < length p.nodes
    within = (placed.stage m k stands_here).0

    -- a node that stands in no later stage, and is no later one, isn't behind
    none_behind : (q : ℕ) → ((j : ℕ) → 0 < quanta_in parts q j → j ≤ k) → q ≤ m → node_is_among q behind ≡ false
    none_behind q most le = not_among q behind (λ i d lt e.
        (let y = get_or behind i d in
        let low = most y.stage (subst (λ n. 0 < quanta_in parts n y.stage) e (later.units i d lt).stands) in
        elim (later.later i d lt) [
          | inl less ↦ omega (arith, less, low)
          | inr both ↦ (let high = both.1 in omega (arith, high, e, le))
        ]))

    none_before : ((j : ℕ) → 0 < quanta_in parts m j → k ≤ j) → node_is_among m before ≡ false
    none_before least = not_among m before (λ i d lt e.
        (let y = get_or before i d in
        let low = least y.stage (subst (λ n. 0 < quanta_in parts n y.stage) e (first.units i d lt).stands) in
        elim (first.earlier i d lt) [
          | inl less ↦ omega (arith, less, low)
          | inr both ↦ (let high = both.1 in omega (arith, high, e))
        ]))

    same_guard_of : (v : Unit) → guard_of v ≡ guard_in v
    same_guard_of (Gate g) = refl
    same_guard_of (Slot s) = refl

    parent_stands : (node : Node) (g : Guard) → slice_get p.nodes m ≡ Some node → node.guard ≡ Some g → guard_stands (node_of u) (Some (record { parent = g.parent; mask = g.mask })) before behind ≡ true
    parent_stands node g at is =
        let lt = is_earlier m node.guard g (program.nodes m node at).guard is in
        let some = placed.some g.parent (omega (arith, lt, within)) in
        let j = last_stage parts g.parent in
        let early : IsEarlier k m j g.parent = elim (cases_lt j k) [
          | inl less ↦ inl less
          | inr more ↦ inr (omega (arith, placed.follow m node g at is j k some stands_here, more), lt)
        ] in
        rw (
          ne_eqb g.parent (node_of u) (λ e. omega (arith, e, lt, own)),
          first.there j g.parent some early,
          none_behind g.parent (λ i stands. placed.follow m node g at is i k stands stands_here) (omega (arith, lt)),
        ) refl

    guard_holds : (node : Node) (o : Option Guard) → slice_get p.nodes m ≡ Some node → node.guard ≡ o → guard_stands (node_of u) (guard_of u) before behind ≡ true
    guard_holds node None at is =
        let none : guard_of u ≡ None = same_guard_of u ∙ and_at (slice_get p.nodes m) (λ (x : Node). guard_in u ≡ guard_of_node x.guard) node at built.0.guard ∙ ap guard_of_node is in
        ap (λ o. guard_stands (node_of u) o before behind) none
    guard_holds node (Some g) at is =
        let some : guard_of u ≡ Some (record { parent = g.parent; mask = g.mask }) =
        same_guard_of u ∙ and_at (slice_get p.nodes m) (λ (x : Node). guard_in u ≡ guard_of_node x.guard) node at built.0.guard ∙ ap guard_of_node is in
        ap (λ o. guard_stands (node_of u) o before behind) some ∙ parent_stands node g at is

    -- ---- a gate

    gate_stands : (g : IsGateOf p places parts k m u) → unit_stands before (place k u) behind ≡ true
    gate_stands g =
        let alone : (j : ℕ) → 0 < quanta_in parts m j → j ≡ k = λ j some. placed.alone m j k g.node g.field g.test g.node_is g.what_is some stands_here in
        let number : g.gate.node ≡ m = sym (ap node_of g.is) ∙ own in
        let guard = subst (λ v. guard_stands (node_of v) (guard_of v) before behind ≡ true) g.is (guard_holds g.node g.node.guard g.node_is refl) in
        let one : node_is_among g.gate.node before ≡ false = ap (λ n. node_is_among n before) number ∙ none_before (λ j some. (let e = alone j some in omega (arith, e))) in
        let two : node_is_among g.gate.node behind ≡ false = ap (λ n. node_is_among n behind) number ∙ none_behind m (λ j some. (let e = alone j some in omega (arith, e))) (omega arith) in
        ap (λ v. unit_stands before (place k v) behind) g.is ∙ (rw (guard, one, two) refl)

    -- ---- a part of a table

    guard_same : (o : Option UnitGuard) → same_guard o o ≡ true
    guard_same None = refl
    guard_same (Some g) = rw (eq-eqb g.parent g.parent refl, eq-eqb g.mask g.mask refl) refl

    flag_same : (b : Bool) → same_flag b b ≡ true
    flag_same true = refl
    flag_same false = refl

    lanes_same : (ls : List Lane) → same_lanes ls ls ≡ true
    lanes_same [] = refl
    lanes_same (l ∷ ls) = rw (eq-eqb l.word l.word refl, eq-eqb l.low l.low refl, eq-eqb l.len l.len refl, lanes_same ls) refl

    kind_same : (kd : Kind) (a b : PartNeed) (x y : Taken) → a.format ≡ b.format → same_kind (memory_for kd a x) (memory_for kd b y) ≡ true
    kind_same kind.Keyless a b x y e = refl
    kind_same kind.Exact a b x y e = rw (eq-eqb a.format.width b.format.width (ap (λ (f : Format). f.width) e), eq-eqb a.format.per b.format.per (ap (λ (f : Format). f.per) e)) refl
    kind_same kind.Prefix a b x y e = refl
    kind_same kind.Ternary a b x y e = refl

    ways_same : (kd : Kind) (n : PartNeed) (x : Taken) (count : ℕ) → count ≡ n.before → ways_follow count (memory_for kd n x) ≡ true
    ways_same kind.Keyless n x count e = refl
    ways_same kind.Exact n x count e = eq-eqb (4 * n.before) (4 * count) (ap (λ c. 4 * c) (sym e))
    ways_same kind.Prefix n x count e = refl
    ways_same kind.Ternary n x count e = refl

    module _ (s : IsSlotOf p places parts k m u) where
      own_slot : Built k m (Slot s.slot)
      own_slot = subst (Built k m) s.is built

      number : s.slot.node ≡ m
      number = own_slot.0.number

      its_guard : s.slot.guard ≡ guard_of_node s.node.guard
      its_guard = and_at (slice_get p.nodes m) (λ (x : Node). s.slot.guard ≡ guard_of_node x.guard) s.node s.node_is own_slot.0.guard

      no_gate : (v : Unit) (j : ℕ) → IsGateOf p places parts j m v → ⊥
      no_gate v j g =
          let none : table_at p m ≡ None = ap (option_and_then (λ (x : Node). applied p x.what)) g.node_is ∙ ap (applied p) g.what_is in
          none-some s.table (sym none ∙ s.at)

      part_same : (j : ℕ) (v : Unit) → Built j m v → is_part_of s.slot v ≡ true
      part_same j v b = elim (kinds p places parts j m v b.0) [
        | inl x ↦
            let other : Built j m (Slot x.slot) = subst (Built j m) x.is b in
            let table : x.table ≡ s.table = same_Some x.table s.table (sym x.at ∙ s.at) in
            let guard : x.slot.guard ≡ s.slot.guard =
            and_at (slice_get p.nodes m) (λ (y : Node). x.slot.guard ≡ guard_of_node y.guard) s.node s.node_is other.0.guard ∙ sym its_guard in
            let counted : x.slot.counted ≡ s.slot.counted = x.carried.counted ∙ ap (λ (t : Table). t.counted) table ∙ sym s.carried.counted in
            let actions : x.slot.actions ≡ s.slot.actions = x.carried.actions ∙ ap (λ (t : Table). length t.actions) table ∙ sym s.carried.actions in
            let held : x.slot.held ≡ s.slot.held = other.1 x.slot x.table refl x.at ∙ ap (data_bits p) table ∙ sym (own_slot.1 s.slot s.table refl s.at) in
            let keys : x.slot.keys ≡ s.slot.keys = x.carried.keys ∙ ap (λ (t : Table). high_first places t.key) table ∙ sym s.carried.keys in
            let memory : same_kind x.slot.memory s.slot.memory ≡ true =
            ap (λ a. same_kind a s.slot.memory) (other.2 x.slot s.table refl s.at) ∙ ap (same_kind (memory_for s.table.kind (need_in p parts s.table m j) (taken_upto p parts j m))) (own_slot.2 s.slot s.table refl s.at)
            ∙ kind_same s.table.kind (need_in p parts s.table m j) (need_in p parts s.table m k) (taken_upto p parts j m) (taken_upto p parts k m) refl in
            ap (is_part_of s.slot) x.is
            ∙ (rw (
              ap (λ g. same_guard g s.slot.guard) guard ∙ guard_same s.slot.guard,
              ap (λ b. same_flag b s.slot.counted) counted ∙ flag_same s.slot.counted,
              eq-eqb x.slot.actions s.slot.actions actions,
              eq-eqb x.slot.held s.slot.held held,
              ap (λ ls. same_lanes ls s.slot.keys) keys ∙ lanes_same s.slot.keys,
              memory,
            ) refl)
        | inr g ↦ absurd (no_gate v j g)
      ]

      follows : (o : Option Placed) → find (has_node m) before ≡ o → follows_part k s.slot o ≡ true
      follows None e = refl
      follows (Some b) e =
          let found = found_passes (has_node m) before b e in
          let is_m : node_of b.unit ≡ m = eqb-true (node_of b.unit) m found.1 in
          let unit = All-contains IsUnit before b first.units found.0 in
          let early = All-contains (λ (x : Placed). IsEarlier k m x.stage (node_of x.unit)) before b first.earlier found.0 in
          let less : b.stage < k = elim early [
            | inl lt ↦ lt
            | inr both ↦ (let lt = both.1 in absurd (omega (arith, lt, is_m)))
          ] in
          let other : (b.stage == k) ≡ false = ne_eqb b.stage k (λ same. omega (arith, same, less)) in
          rw (other, part_same b.stage b.unit (subst (λ n. Built b.stage n b.unit) is_m unit.built)) refl

      ways : ways_follow (count_by (has_node m) before) s.slot.memory ≡ true
      ways =
          let count : count_by (has_node m) before ≡ parts_before parts m k = grind (arith, nat_tests, first.count m) in
          ap (ways_follow (count_by (has_node m) before)) (own_slot.2 s.slot s.table refl s.at)
          ∙ ways_same s.table.kind (need_in p parts s.table m k) (taken_upto p parts k m) (count_by (has_node m) before) count

      last_said : (b : Bool) → (k == last_stage parts m) ≡ b → same_flag s.slot.last (not (node_is_among m behind)) ≡ true
      last_said true e =
          let here = eqb-true k (last_stage parts m) e in
          let none = none_behind m (λ j some. (let le = within_last parts m j some in omega (arith, le, here))) (omega arith) in
          rw (s.carried.last ∙ e, none) refl
      last_said false e =
          let le = within_last parts m k stands_here in
          let ne : k ≢ last_stage parts m = λ same. both_ways (k == last_stage parts m) e (eq-eqb k (last_stage parts m) same) in
          let some = placed.some m within in
          let there = later.there (last_stage parts m) m (placed.stage m (last_stage parts m) some).1 some (inl (omega (arith, le, ne))) in
          rw (s.carried.last ∙ e, there) refl

      slot_stands : unit_stands before (place k u) behind ≡ true
      slot_stands =
          let guard = subst (λ v. guard_stands (node_of v) (guard_of v) before behind ≡ true) s.is (guard_holds s.node s.node.guard s.node_is refl) in
          let one : follows_part k s.slot (find (has_node s.slot.node) before) ≡ true = ap (λ n. follows_part k s.slot (find (has_node n) before)) number ∙ follows (find (has_node m) before) refl in
          let two : ways_follow (count_by (has_node s.slot.node) before) s.slot.memory ≡ true = ap (λ n. ways_follow (count_by (has_node n) before) s.slot.memory) number ∙ ways in
          let three : same_flag s.slot.last (not (node_is_among s.slot.node behind)) ≡ true = ap (λ n. same_flag s.slot.last (not (node_is_among n behind))) number ∙ last_said (k == last_stage parts m) refl in
          ap (λ v. unit_stands before (place k v) behind) s.is ∙ (rw (guard, one, two, three) refl)

    pub it_stands : unit_stands before (place k u) behind ≡ true
    it_stands = elim (kinds p places parts k m u built.0) [
      | inl s ↦ slot_stands s
      | inr g ↦ gate_stands g
    ]

  -- ---- all units

  abbrev stands_in : ℕ → ℕ → Bool
  stands_in k n = nat_lt 0 (quanta_in parts n k)

  from_low : (k m count q : ℕ) → Contains (filter (stands_in k) (range_with_len m count)) q → m ≤ q
  from_low k m count q there =
      let own = (Contains-unfilter (stands_in k) (range_with_len m count) q there).0 in
      subst (λ n. m ≤ n) (sym (get_or-range_with_len m count own.0 q (subst (λ l. own.0 < l) (length-range_with_len m count) own.1)) ∙ own.2) (omega arith)

  to_low : (k m count q : ℕ) → m ≤ q → q < m + count → 0 < quanta_in parts q k → Contains (filter (stands_in k) (range_with_len m count)) q
  to_low k m count q le lt some =
      let e : m + (q - m) ≡ q = omega (arith, le) in
      Contains-filter (stands_in k) (range_with_len m count) q (subst (Contains (range_with_len m count)) e (Contains-range_from m count (q - m) (omega (arith, le, lt)))) (lt-ltb 0 (quanta_in parts q k) some)

  -- what comes behind a unit: those of its stage from node m on, and the stages behind
  behind_of : (last k m count : ℕ) (us : List Unit) (stages : List Stage) → last ≡ k + 1 + length stages → m + count ≡ length p.nodes → ArePlaced last
      → AllZip (Built k) (filter (stands_in k) (range_with_len m count)) us → StagesFrom (k + 1) stages → Behind last k m (map (place k) us ++ placed_from (k + 1) stages)
  behind_of last k m count us stages is all placed zip from =
      let here = map (place k) us in
      let rest = placed_from (k + 1) stages in
      record {
        later = All-append (λ (x : Placed). IsLater k m x.stage (node_of x.unit)) here rest
            (units_known (λ (x : Placed). IsLater k m x.stage (node_of x.unit)) k (filter (stands_in k) (range_with_len m count)) us zip
            (λ n u there built. inr (refl, (let low = from_low k m count n there in let number = built.0.number in omega (arith, low, number)))))
            (stages_known (λ (x : Placed). IsLater k m x.stage (node_of x.unit)) (k + 1) stages from (λ j n u le some built. inl (omega (arith, le))));
        units = All-append IsUnit here rest
            (units_known IsUnit k (filter (stands_in k) (range_with_len m count)) us zip (λ n u there built. unit_of k n u built (ltb-true 0 (quanta_in parts n k) (Contains-unfilter (stands_in k) (range_with_len m count) n there).1)))
            (stages_known IsUnit (k + 1) stages from (λ j n u le some built. unit_of j n u built some));
        there = λ j q lt some late. elim late [
          | inl less ↦ among_right q here rest (stage_among (k + 1) j q stages from (placed.stage q j some).0 (omega (arith, less)) (omega (arith, lt, is)) some)
          | inr both ↦
              (let node = (placed.stage q j some).0 in
              let le = both.1 in
              among_left q here rest (unit_among k q (filter (stands_in k) (range_with_len m count)) us zip (to_low k m count q le (omega (arith, node, all)) (subst (λ i. 0 < quanta_in parts q i) both.0 some))))
        ];
      }

  abbrev Stand : List Placed → List Placed → Type 0
  Stand before behind = each_between unit_stands before behind ≡ true

  one_node : (last k m count : ℕ) (us : List Unit) (stages : List Stage) (b : Bool) → stands_in k m ≡ b → last ≡ k + 1 + length stages → m + 1 + count ≡ length p.nodes → ArePlaced last
      → AllZip (Built k) (cond b (m ∷ filter (stands_in k) (range_with_len (m + 1) count)) (filter (stands_in k) (range_with_len (m + 1) count))) us → StagesFrom (k + 1) stages
      → (xs : List Placed) → Before k m xs
      → ((vs : List Unit) → AllZip (Built k) (filter (stands_in k) (range_with_len (m + 1) count)) vs → (ys : List Placed) → Before k (m + 1) ys → Stand ys (map (place k) vs ++ placed_from (k + 1) stages))
      → Stand xs (map (place k) us ++ placed_from (k + 1) stages)
  one_node last k m count us stages false e is all placed zip from xs before rest = rest us zip xs (skip_node k m xs before e)
  one_node last k m count [] stages true e is all placed zip from xs before rest = absurd zip
  one_node last k m count (u ∷ us) stages true e is all placed zip from xs before rest =
      let some = ltb-true 0 (quanta_in parts m k) e in
      let behind = behind_of last k (m + 1) count us stages is all placed zip.1 from in
      rw (
        it_stands last placed k m u zip.0 some xs (map (place k) us ++ placed_from (k + 1) stages) before behind,
        rest us zip.1 (place k u ∷ xs) (add_unit k m u xs before zip.0 some),
      ) refl

  one_stage : (last k m count : ℕ) (us : List Unit) (stages : List Stage) → last ≡ k + 1 + length stages → m + count ≡ length p.nodes → ArePlaced last
      → AllZip (Built k) (filter (stands_in k) (range_with_len m count)) us → StagesFrom (k + 1) stages → (xs : List Placed) → Before k m xs
      → ((ys : List Placed) → Before (k + 1) 0 ys → Stand ys (placed_from (k + 1) stages)) → Stand xs (map (place k) us ++ placed_from (k + 1) stages)
  one_stage last k m zero [] stages is all placed zip from xs before rest =
      let e : m ≡ length p.nodes = omega (arith, all) in
      rest xs (next_stage k xs (subst (λ n. Before k n xs) e before) (λ n j some. (placed.stage n j some).0))
  one_stage last k m zero (u ∷ us) stages is all placed zip from xs before rest = absurd zip
  one_stage last k m (suc count) us stages is all placed zip from xs before rest =
      let more : m + 1 + count ≡ length p.nodes = omega (arith, all) in
      one_node last k m count us stages (stands_in k m) refl is more placed zip from xs before
      (λ vs zipped ys next. one_stage last k (m + 1) count vs stages is more placed zipped from ys next rest)

  all_stages : (last k : ℕ) (stages : List Stage) → last ≡ k + length stages → ArePlaced last → StagesFrom k stages → (xs : List Placed) → Before k 0 xs → Stand xs (placed_from k stages)
  all_stages last k [] is placed from xs before = refl
  all_stages last k (s ∷ stages) is placed from xs before =
      let zero_more : k + 0 ≡ k = omega arith in
      let own = subst (λ j. AllZip (Built j) (nodes_in p parts j) s.units) zero_more (from 0 s refl) in
      let more : last ≡ k + 1 + length stages = omega (arith, is) in
      let all : 0 + length p.nodes ≡ length p.nodes = omega arith in
      one_stage last k 0 (length p.nodes) s.units stages more all placed own (next_from k s stages from) xs before
      (λ ys next. all_stages last (k + 1) stages more placed (next_from k s stages from) ys next)

  none_before_all : Before 0 0 []
  none_before_all = record {
    units = All-nil IsUnit;
    earlier = All-nil (λ (x : Placed). IsEarlier 0 0 x.stage (node_of x.unit));
    there = λ j q some early. elim early [
      | inl less ↦ absurd (omega (arith, less))
      | inr both ↦ absurd (let lt = both.1 in omega (arith, lt))
    ];
    count = λ q. grind (arith, nat_tests);
  }

  -- so the rules of guards and tables hold of all stages
  pub tables_formed : (c : Config) → ArePlaced (length c.stages) → StagesFrom 0 c.stages → tables_are_formed c ≡ true
  tables_formed c placed from =
      let all : length c.stages ≡ 0 + length c.stages = omega arith in
      all_stages (length c.stages) 0 c.stages all placed from [] none_before_all
