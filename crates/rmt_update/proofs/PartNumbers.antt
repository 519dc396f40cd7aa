-- The ways of the exact parts of a table are numbered from part to part, four each.
use Rattle.std.proofs.Common.{◌≡◌, ℕ, ◌+◌, ◌==◌, Bool, true, false, cond, List, [], ◌∷◌, ◌++◌, map, refl, sym, ap, ◌∙◌, subst, arith}
use Rattle.std.specs.Prelude.{count_by}
use Rattle.std.specs.List.{enumerate_from, flat_map}
use Rattle.std.proofs.lemmas.Bool.{and_parts, eqb-true, not-true, or_parts}
use Rattle.std.proofs.lemmas.Grind.{flat_map-append}
use Rattle.std.proofs.lemmas.List.{map-append}
use Rattle.std.proofs.lemmas.List.Sums.{sum_by-cons}
use Rattle.rmt_config.specs.declared.config.Config.{Config}
use Rattle.rmt_config.specs.declared.config.SlotUnit.{SlotUnit}
use Rattle.rmt_config.specs.declared.config.Stage.{Stage}
use Rattle.rmt_config.specs.declared.config.Unit.{Unit as ChipUnit}
use Rattle.rmt_config.specs.declared.config.Unit.TheVariants.{Gate, Slot}
use Rattle.rmt_config.specs.MemoryRules.{MemoryIsFormed}
use Rattle.rmt_config.specs.Order.{each_between}
use Rattle.rmt_config.specs.Rooms.{PartAt, parts_among, parts_of}
use Rattle.rmt_config.specs.TableForm.{Placed, has_node, node_is_among, node_of, placed_from, placed_units, unit_stands, ways_follow}

-- the slot of a unit, where it is of a node
abbrev own_slot : ℕ → ChipUnit → List SlotUnit
own_slot node (Gate g) = []
own_slot node (Slot s) = cond (s.node == node) (s ∷ []) []

abbrev slots_of : ℕ → List Placed → List SlotUnit
slots_of node xs = flat_map (λ (x : Placed). own_slot node x.unit) xs

-- ---- the slots of a node's parts are those of its units

slots_among : (node k place first : ℕ) (units : List ChipUnit)
    → map (λ (p : PartAt). p.slot) (parts_among node k place first units) ≡ slots_of node (map (λ u. record { stage = k; unit = u }) units)
slots_among node k place first [] = refl
slots_among node k place first (Gate g ∷ units) = slots_among node k (place + 1) first units
slots_among node k place first (Slot s ∷ units) = by (s.node == node) (slots_among node k (place + 1) (first + s.actions + 1) units)
  where
    rest : List PartAt
    rest = parts_among node k (place + 1) (first + s.actions + 1) units

    more : List SlotUnit
    more = slots_of node (map (λ u. record { stage = k; unit = u }) units)

    by : (b : Bool) → map (λ (p : PartAt). p.slot) rest ≡ more
        → map (λ (p : PartAt). p.slot) (cond b (record { stage = k; place = place; first = first; slot = s } ∷ []) [] ++ rest) ≡ cond b (s ∷ []) [] ++ more
    by true e = ap (λ ss. s ∷ ss) e
    by false e = e

slots_from : (node k : ℕ) (stages : List Stage)
    → map (λ (p : PartAt). p.slot) (flat_map (λ (x : ℕ × Stage). parts_among node x.0 0 0 x.1.units) (enumerate_from k stages)) ≡ slots_of node (placed_from k stages)
slots_from node k [] = refl
slots_from node k (stage ∷ stages) =
    let here = parts_among node k 0 0 stage.units in
    let rest = flat_map (λ (x : ℕ × Stage). parts_among node x.0 0 0 x.1.units) (enumerate_from (k + 1) stages) in
    map-append (λ (p : PartAt). p.slot) here rest
    ∙ ap (λ ss. ss ++ map (λ (p : PartAt). p.slot) rest) (slots_among node k 0 0 stage.units)
    ∙ ap (λ ss. slots_of node (map (λ u. record { stage = k; unit = u }) stage.units) ++ ss) (slots_from node (k + 1) stages)
    ∙ sym (flat_map-append (λ (x : Placed). own_slot node x.unit) (map (λ u. record { stage = k; unit = u }) stage.units) (placed_from (k + 1) stages))

-- ---- their ways

-- the first of slots has so many before it, and so on
abbrev pub SlotsFrom : ℕ → List SlotUnit → Type 0
SlotsFrom n [] = Unit {0}
SlotsFrom n (s ∷ ss) = (ways_follow n s.memory ≡ true) × SlotsFrom (n + 1) ss

none-one : (node : ℕ) (u : ChipUnit) → (node_of u == node) ≡ false → own_slot node u ≡ []
none-one node (Gate g) e = refl
none-one node (Slot s) e = ap (λ b. cond b (s ∷ []) []) e

none-among : (node : ℕ) (xs : List Placed) → node_is_among node xs ≡ false → slots_of node xs ≡ []
none-among node [] e = refl
none-among node (x ∷ xs) e =
    let both = or_parts (has_node node x) (node_is_among node xs) e in
    ap (λ ss. ss ++ slots_of node xs) (none-one node x.unit both.0) ∙ none-among node xs both.1

counted : (node : ℕ) (x : Placed) (before : List Placed) (b : Bool) → has_node node x ≡ b → count_by (has_node node) (x ∷ before) ≡ cond b 1 0 + count_by (has_node node) before
counted node x before b is = sum_by-cons (λ y. cond (has_node node y) 1 0) x before ∙ ap (λ t. cond t 1 0 + count_by (has_node node) before) is

module _ (node stage : ℕ) (before xs : List Placed) where
  abbrev at : ChipUnit → Placed
  at u = record { stage = stage; unit = u }

  abbrev many : ℕ
  many = count_by (has_node node) before

  other : (u : ChipUnit) → (node_of u == node) ≡ false → SlotsFrom (count_by (has_node node) (at u ∷ before)) (slots_of node xs) → SlotsFrom many (own_slot node u ++ slots_of node xs)
  other u is more =
      let zero_more : 0 + many ≡ many = omega arith in
      subst (λ ss. SlotsFrom many (ss ++ slots_of node xs)) (sym (none-one node u is)) (subst (λ n. SlotsFrom n (slots_of node xs)) (counted node (at u) before false is ∙ zero_more) more)

  step : (u : ChipUnit) → unit_stands before (at u) xs ≡ true → SlotsFrom (count_by (has_node node) (at u ∷ before)) (slots_of node xs) → SlotsFrom many (own_slot node u ++ slots_of node xs)
  step (Gate g) stands more = by (g.node == node) refl
    where
      by : (b : Bool) → (g.node == node) ≡ b → SlotsFrom many (slots_of node xs)
      by false is = other (Gate g) is more
      by true is =
          let none = not-true (node_is_among g.node xs) (and_parts _ _ (and_parts _ _ stands).1).1 in
          subst (SlotsFrom many) (sym (none-among node xs (subst (λ n. node_is_among n xs ≡ false) (eqb-true g.node node is) none))) tt
  step (Slot s) stands more = by (s.node == node) refl
    where
      by : (b : Bool) → (s.node == node) ≡ b → SlotsFrom many (cond (s.node == node) (s ∷ []) [] ++ slots_of node xs)
      by false is = other (Slot s) is more
      by true is =
          let follow = (and_parts _ _ (and_parts _ _ (and_parts _ _ stands).1).0).1 in
          let next : 1 + many ≡ many + 1 = omega arith in
          subst (λ b. SlotsFrom many (cond b (s ∷ []) [] ++ slots_of node xs)) (sym is) (
            subst (λ n. ways_follow (count_by (has_node n) before) s.memory ≡ true) (eqb-true s.node node is) follow,
            subst (λ n. SlotsFrom n (slots_of node xs)) (counted node (at (Slot s)) before true is ∙ next) more,
          )

slots-follow : (node : ℕ) (before xs : List Placed) → each_between unit_stands before xs ≡ true → SlotsFrom (count_by (has_node node) before) (slots_of node xs)
slots-follow node before [] h = tt
slots-follow node before (x ∷ xs) h =
    let parts = and_parts (unit_stands before x xs) (each_between unit_stands (x ∷ before) xs) h in
    step node x.stage before xs x.unit parts.0 (slots-follow node (x ∷ before) xs parts.1)

pub parts-numbered : (c : Config) (node : ℕ) → MemoryIsFormed c → SlotsFrom 0 (map (λ (p : PartAt). p.slot) (parts_of c node))
parts-numbered c node memory = subst (SlotsFrom 0) (sym (slots_from node 0 c.stages)) (slots-follow node [] (placed_units c) memory.tables)
