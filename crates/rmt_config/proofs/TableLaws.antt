-- How what is kept of each node decides the rules of guards and tables.
use Rattle.std.proofs.Common.{◌≡◌, ◌≢◌, ℕ, suc, ◌+◌, ◌<◌, List, [], ◌∷◌, ◌++◌, ◌^◌, length, get_or, replicate, drop, map, option_map, Bool, true, false, not, ◌&&◌, ◌||◌, cond, ltb, eqb, Option, Some, None, refl, sym, ap, subst, ◌∙◌, arith, add-one, inl, inr}
use Rattle.std.specs.List.{list_any, count_by}
use Rattle.std.proofs.lemmas.Bool.{cases_eq, ne_eqb, eq-eqb, lt-ltb}
use Rattle.std.proofs.lemmas.List.{get_or-replicate}
use Rattle.std.proofs.lemmas.List.Sums.{sum_by-cons}
use Rattle.std.proofs.Math.Seq.{drop-cons}
use Rattle.rmt_bits.specs.declared.lane.Lane.{Lane}
use Rattle.rmt_config.specs.Types.{Stage, Unit, GateUnit, UnitGuard, SlotUnit}
use Rattle.rmt_config.specs.declared.config.Unit.TheVariants.{Gate, Slot}
use Rattle.rmt_config.specs.Order.{each_between}
use Rattle.rmt_config.specs.TableForm.{Placed, node_of, guard_of, has_node, node_is_among, guard_stands, same_flag, same_lane, same_lanes, follows_part, ways_follow, unit_stands, placed_from}
use Rattle.rmt_config.specs.declared.form.tables.Part.{Part}
use Rattle.rmt_config.specs.declared.form.tables.Nodes.{Nodes}
use Rattle.rmt_config.specs.NodesKnown.{placed_of, so_far_of, left_of, last_of, Knows}

pub lane_lengths : (a b : List Lane) → length a ≢ length b → false ≡ same_lanes a b
lane_lengths [] [] ne = absurd (ne refl)
lane_lengths [] (y ∷ ys) ne = refl
lane_lengths (x ∷ xs) [] ne = refl
lane_lengths (x ∷ xs) (y ∷ ys) ne = last (same_lane x y) (lane_lengths xs ys (λ e. ne (ap suc e)))
  where
    last : (b : Bool) → false ≡ same_lanes xs ys → false ≡ (b && same_lanes xs ys)
    last true e = e
    last false e = refl

pub count_cons : {X : Type 0} (p : X → Bool) (x : X) (xs : List X) → count_by p (x ∷ xs) ≡ cond (p x) 1 0 + count_by p xs
count_cons {X} p x xs = sum_by-cons (λ y. cond (p y) 1 0) x xs

-- an item is among some exactly where one or more of them pass
pub any_count : {X : Type 0} (p : X → Bool) (xs : List X) → list_any p xs ≡ ltb 0 (count_by p xs)
any_count p [] = refl
any_count p (x ∷ xs) = by (p x) (any_count p xs) ∙ ap (ltb 0) (sym (count_cons p x xs))
  where
    by : (b : Bool) → list_any p xs ≡ ltb 0 (count_by p xs) → (b || list_any p xs) ≡ ltb 0 (cond b 1 0 + count_by p xs)
    by true e = sym (lt-ltb 0 (1 + count_by p xs) (omega arith))
    by false e = e ∙ ap (ltb 0) (omega arith)

-- the units of a stage, with those of the stages behind it
pub count_more : (n k : ℕ) (units : List Unit) (rest : List Placed)
    → count_by (has_node n) (map (λ unit. record { stage = k; unit = unit }) units ++ rest) ≡ count_by (λ unit. eqb (node_of unit) n) units + count_by (has_node n) rest
count_more n k [] rest = omega arith
count_more n k (unit ∷ units) rest =
    let more : List Placed = map (λ u. record { stage = k; unit = u }) units ++ rest in
    let here : Placed = record { stage = k; unit = unit } in
    let a = count_cons (has_node n) here more in
    let b = count_cons (λ u. eqb (node_of u) n) unit units in
    a ∙ omega (arith, b, count_more n k units rest)

-- ---- what is kept of a node, read at the next unit

-- the next unit is of another node
left_other : (nodes : Nodes) (before behind : List Placed) (x : Placed) → Knows nodes before (x ∷ behind) → (n : ℕ) → n < 256 → (n ≡ node_of x.unit → ⊥)
    → left_of nodes n ≡ count_by (has_node n) behind
left_other nodes before behind x k n lt other =
    let apart : has_node n x ≡ false = ne_eqb (node_of x.unit) n (λ e. other (sym e)) in
    let cons : count_by (has_node n) (x ∷ behind) ≡ cond (has_node n x) 1 0 + count_by (has_node n) behind = count_cons (has_node n) x behind in
    let more : cond (has_node n x) 1 0 + count_by (has_node n) behind ≡ count_by (has_node n) behind = rw apart (omega arith) in
    k.left n lt ∙ cons ∙ more

-- the next unit is of this node
left_own : (nodes : Nodes) (before behind : List Placed) (x : Placed) → Knows nodes before (x ∷ behind) → node_of x.unit < 256
    → left_of nodes (node_of x.unit) ≡ 1 + count_by (has_node (node_of x.unit)) behind
left_own nodes before behind x k lt =
    let n = node_of x.unit in
    let same : has_node n x ≡ true = eq-eqb n n refl in
    let more : cond (has_node n x) 1 0 + count_by (has_node n) behind ≡ 1 + count_by (has_node n) behind = rw same refl in
    k.left n lt ∙ count_cons (has_node n) x behind ∙ more

zero_test : (m : ℕ) → eqb m 0 ≡ not (ltb 0 m)
zero_test m = elim (cases_eq m 0) [ inl e ↦ rw e refl | inr ne ↦ rw (ne_eqb m 0 ne, lt-ltb 0 m (omega (arith, ne))) refl ]

one_test : (m : ℕ) → eqb (1 + m) 1 ≡ not (ltb 0 m)
one_test m = elim (cases_eq m 0) [ inl e ↦ rw e refl | inr ne ↦ rw (ne_eqb (1 + m) 1 (λ e. ne (omega (arith, e))), lt-ltb 0 m (omega (arith, ne))) refl ]

-- some before
among_before : (nodes : Nodes) (before rest : List Placed) → Knows nodes before rest → (n : ℕ) → n < 256 → ltb 0 (so_far_of nodes n) ≡ node_is_among n before
among_before nodes before rest k n lt = ap (ltb 0) (k.so_far n lt) ∙ sym (any_count (has_node n) before)

-- none behind
none_other : (nodes : Nodes) (before behind : List Placed) (x : Placed) → Knows nodes before (x ∷ behind) → (n : ℕ) → n < 256 → (n ≡ node_of x.unit → ⊥)
    → eqb (left_of nodes n) 0 ≡ not (node_is_among n behind)
none_other nodes before behind x k n lt other =
    ap (λ m. eqb m 0) (left_other nodes before behind x k n lt other) ∙ zero_test (count_by (has_node n) behind) ∙ ap not (sym (any_count (has_node n) behind))

none_own : (nodes : Nodes) (before behind : List Placed) (x : Placed) → Knows nodes before (x ∷ behind) → node_of x.unit < 256
    → eqb (left_of nodes (node_of x.unit)) 1 ≡ not (node_is_among (node_of x.unit) behind)
none_own nodes before behind x k lt =
    let n = node_of x.unit in
    ap (λ m. eqb m 1) (left_own nodes before behind x k lt) ∙ one_test (count_by (has_node n) behind) ∙ ap not (sym (any_count (has_node n) behind))

-- ---- guards

pub guard_passed : (nodes : Nodes) (before behind : List Placed) (x : Placed) → Knows nodes before (x ∷ behind) → (g : UnitGuard) → g.parent < 256 → (g.parent ≡ node_of x.unit → ⊥)
    → (ltb 0 (so_far_of nodes g.parent) && eqb (left_of nodes g.parent) 0) ≡ guard_stands (node_of x.unit) (Some g) before behind
guard_passed nodes before behind x k g lt other =
    rw (ne_eqb g.parent (node_of x.unit) other, among_before nodes before (x ∷ behind) k g.parent lt, none_other nodes before behind x k g.parent lt other) refl

-- ---- units

-- the answer for a unit is that of its rules, wherever the units around it are those that are known
abbrev pub Tells : Nodes → ℕ → Bool → Unit → Type 0
Tells nodes stage answer unit =
    (before behind : List Placed) → Knows nodes before (record { stage = stage; unit = unit } ∷ behind) → answer ≡ unit_stands before (record { stage = stage; unit = unit }) behind

pub guard_breaks : (before behind : List Placed) (x : Placed) → guard_stands (node_of x.unit) (guard_of x.unit) before behind ≡ false → unit_stands before x behind ≡ false
guard_breaks before behind x e = rw e refl

pub gate_stands : (nodes : Nodes) (before behind : List Placed) (stage : ℕ) (g : GateUnit) → Knows nodes before (record { stage = stage; unit = Gate g } ∷ behind) → g.node < 256
    → guard_stands g.node g.guard before behind ≡ true
    → (eqb (so_far_of nodes g.node) 0 && eqb (left_of nodes g.node) 1) ≡ unit_stands before (record { stage = stage; unit = Gate g }) behind
gate_stands nodes before behind stage g k lt guard =
    let x : Placed = record { stage = stage; unit = Gate g } in
    let none_before : eqb (so_far_of nodes g.node) 0 ≡ not (node_is_among g.node before) =
    zero_test (so_far_of nodes g.node) ∙ ap not (among_before nodes before (x ∷ behind) k g.node lt) in
    let none_behind : eqb (left_of nodes g.node) 1 ≡ not (node_is_among g.node behind) = none_own nodes before behind x k lt in
    rw (guard, none_before, none_behind) refl

pub slot_stands : (nodes : Nodes) (before behind : List Placed) (stage : ℕ) (s : SlotUnit) → Knows nodes before (record { stage = stage; unit = Slot s } ∷ behind) → s.node < 256
    → guard_stands s.node s.guard before behind ≡ true
    → (follows_part stage s (last_of nodes s.node) && ways_follow (so_far_of nodes s.node) s.memory && same_flag s.last (eqb (left_of nodes s.node) 1))
    ≡ unit_stands before (record { stage = stage; unit = Slot s }) behind
slot_stands nodes before behind stage s k lt guard =
    let x : Placed = record { stage = stage; unit = Slot s } in
    let none_behind : eqb (left_of nodes s.node) 1 ≡ not (node_is_among s.node behind) = none_own nodes before behind x k lt in
    rw (guard, k.last s.node lt, k.so_far s.node lt, none_behind) refl

-- ---- what is told of a unit whose guard was looked at

abbrev pub GuardTold : Nodes → ℕ → Unit → Bool → Type 0
GuardTold nodes stage unit b =
    (before behind : List Placed) → Knows nodes before (record { stage = stage; unit = unit } ∷ behind) → b ≡ guard_stands (node_of unit) (guard_of unit) before behind

pub unguarded-tells : (nodes : Nodes) (stage : ℕ) (unit at : Unit) (b : Bool) → at ≡ unit → GuardTold nodes stage unit b → b ≡ false → Tells nodes stage b at
unguarded-tells nodes stage unit at b is told e =
    subst (Tells nodes stage b) (sym is) (λ before behind k. e ∙ sym (guard_breaks before behind (record { stage = stage; unit = unit }) (sym (told before behind k) ∙ e)))

pub gate-tells : (nodes : Nodes) (stage : ℕ) (g : GateUnit) (at : Unit) (b alone : Bool) → at ≡ Gate g → GuardTold nodes stage (Gate g) b → b ≡ true → g.node < 256
    → alone ≡ (eqb (so_far_of nodes g.node) 0 && eqb (left_of nodes g.node) 1) → Tells nodes stage alone at
gate-tells nodes stage g at b alone is told e lt value =
    subst (Tells nodes stage alone) (sym is) (λ before behind k. value ∙ gate_stands nodes before behind stage g k lt (sym (told before behind k) ∙ e))

pub slot-tells : (nodes : Nodes) (stage : ℕ) (s : SlotUnit) (at : Unit) (b stands : Bool) → at ≡ Slot s → GuardTold nodes stage (Slot s) b → b ≡ true → s.node < 256
    → stands ≡ (follows_part stage s (last_of nodes s.node) && ways_follow (so_far_of nodes s.node) s.memory && same_flag s.last (eqb (left_of nodes s.node) 1))
    → Tells nodes stage stands at
slot-tells nodes stage s at b stands is told e lt value =
    subst (Tells nodes stage stands) (sym is) (λ before behind k. value ∙ slot_stands nodes before behind stage s k lt (sym (told before behind k) ∙ e))

-- ---- the pass over all units

-- what is known, and what the rules say of the units that come, decide what they say of all
pub record Reached (nodes : Nodes) (rest : List Placed) (whole : Bool) : Type 0 where
  pub before : List Placed
  pub known : Knows nodes before rest
  pub holds : each_between unit_stands before rest ≡ whole

pub reached_first : (nodes : Nodes) (units : List Placed) → Knows nodes [] units → Reached nodes units (each_between unit_stands [] units)
reached_first nodes units k = record { before = []; known = k; holds = refl }

pub reached_more : (nodes after : Nodes) (x : Placed) (rest : List Placed) (whole : Bool) → Reached nodes (x ∷ rest) whole
    → ((before behind : List Placed) → Knows nodes before (x ∷ behind) → true ≡ unit_stands before x behind)
    → ((before behind : List Placed) → Knows nodes before (x ∷ behind) → Knows after (x ∷ before) behind)
    → Reached after rest whole
reached_more nodes after x rest whole r stands passes =
    let here : each_between unit_stands r.before (x ∷ rest) ≡ each_between unit_stands (x ∷ r.before) rest = rw (← stands r.before rest r.known) refl in
    record { before = x ∷ r.before; known = passes r.before rest r.known; holds = sym here ∙ r.holds }

-- before the first unit
pub first_known : (left : List ℕ) (stages : List Stage) → ((n : ℕ) → n < 256 → get_or left n 0 ≡ count_by (has_node n) (placed_from 0 stages)) → ((n : ℕ) → n < 256 → get_or left n 0 < 2 ^ 128)
    → Knows (record { so_far = replicate 256 0; left = left; last = replicate 256 None }) [] (placed_from 0 stages)
first_known left stages counted small =
    let none : Option Part = None in
    record {
      whole = refl;
      so_far = λ n lt. get_or-replicate {A = ℕ} 256 n 0 0 lt;
      left = counted;
      last = λ n lt. ap (option_map placed_of) (get_or-replicate 256 n none none lt);
      room = λ n lt. rw (get_or-replicate {A = ℕ} 256 n 0 0 lt) (omega (arith, small n lt));
    }

-- ---- steps of the pass

abbrev pub place_at : ℕ → Unit → Placed
place_at k unit = record { stage = k; unit = unit }

-- at the first unit of a stage
pub reached_stage : (nodes : Nodes) (stages : List Stage) (k : ℕ) (stage : Stage) (units : List Unit) (whole : Bool) → k < length stages → stage ≡ get_or stages k stage → units ≡ stage.units
    → Reached nodes (placed_from k (drop k stages)) whole → Reached nodes (map (place_at k) (drop 0 units) ++ placed_from (k + 1) (drop (k + 1) stages)) whole
reached_stage nodes stages k stage units whole lt is same r =
    let cut : drop k stages ≡ stage ∷ drop (k + 1) stages =
    drop-cons stages k stage lt ∙ ap (λ (s : Stage). s ∷ drop (suc k) stages) (sym is) ∙ ap (λ (i : ℕ). stage ∷ drop i stages) (sym (add-one k)) in
    let there : Reached nodes (placed_from k (stage ∷ drop (k + 1) stages)) whole = subst (λ (ss : List Stage). Reached nodes (placed_from k ss) whole) cut r in
    subst (λ (us : List Unit). Reached nodes (map (place_at k) us ++ placed_from (k + 1) (drop (k + 1) stages)) whole) (sym same) there

-- at a unit of a stage
pub reached_unit : (nodes : Nodes) (units : List Unit) (i k : ℕ) (unit : Unit) (rest : List Placed) (whole : Bool) → i < length units → unit ≡ get_or units i unit
    → Reached nodes (map (place_at k) (drop i units) ++ rest) whole → Reached nodes (place_at k unit ∷ (map (place_at k) (drop (i + 1) units) ++ rest)) whole
reached_unit nodes units i k unit rest whole lt is r =
    let cut : drop i units ≡ unit ∷ drop (i + 1) units =
    drop-cons units i unit lt ∙ ap (λ (u : Unit). u ∷ drop (suc i) units) (sym is) ∙ ap (λ (j : ℕ). unit ∷ drop j units) (sym (add-one i)) in
    subst (λ (us : List Unit). Reached nodes (map (place_at k) us ++ rest) whole) cut r

one_more : (a b c m : ℕ) → b ≡ 1 + c → a + b < m → a + 1 < m
one_more a b c m e lt = omega arith

-- the next unit still comes, and there is room to count it
pub reached_room : (nodes : Nodes) (x : Placed) (rest : List Placed) (whole : Bool) → Reached nodes (x ∷ rest) whole → node_of x.unit < 256
    → (0 < left_of nodes (node_of x.unit)) × (so_far_of nodes (node_of x.unit) + 1 < 2 ^ 128)
reached_room nodes x rest whole r lt =
    let own = left_own nodes r.before rest x r.known lt in
    let room = r.known.room (node_of x.unit) lt in
    (omega (arith, own), one_more (so_far_of nodes (node_of x.unit)) (left_of nodes (node_of x.unit)) (count_by (has_node (node_of x.unit)) rest) (2 ^ 128) own room)
