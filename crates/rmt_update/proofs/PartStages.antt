-- The parts of a node stand in different stages, in their order.
use Rattle.std.proofs.Common.{◌≡◌, ℕ, ◌+◌, ◌<◌, ◌==◌, ◌||◌, Bool, true, false, not, cond, List, [], ◌∷◌, ◌++◌, map, Some, refl, sym, ap, ◌∙◌, subst, arith}
use Rattle.std.specs.Prelude.{All, AllPairs, find}
use Rattle.std.proofs.lemmas.Bool.{and_parts, eq-eqb, eqb-true, false≢true}
use Rattle.std.proofs.lemmas.List.Elements.{All-nil, All-weaker}
use Rattle.std.proofs.lemmas.List.Kept.{AllPairs-cons}
use Rattle.std.proofs.lemmas.Option.{none-some}
use Rattle.rmt_bits.proofs.PairLaws.{AllPairs-append, AllPairs-none}
use Rattle.rmt_config.specs.declared.config.Config.{Config}
use Rattle.rmt_config.specs.declared.config.Stage.{Stage}
use Rattle.rmt_config.specs.declared.config.Unit.{Unit}
use Rattle.rmt_config.specs.declared.config.Unit.TheVariants.{Gate, Slot}
use Rattle.rmt_config.specs.MemoryRules.{MemoryIsFormed}
use Rattle.rmt_config.specs.Order.{each_between}
use Rattle.rmt_config.specs.Rooms.{PartAt, parts_among, parts_of}
use Rattle.rmt_config.specs.TableForm.{Placed, follows_part, has_node, node_is_among, is_part_of, placed_from, unit_stands}
use Rattle.rmt_pack.proofs.PartOrderLaws.{IsBehind, IsFrom, among_from, parts_from, stages_from}

abbrev at : ℕ → Unit → Placed
at k u = record { stage = k; unit = u }

abbrev IsEarlier : PartAt → PartAt → Type 0
IsEarlier a b = a.stage < b.stage

not-both : (b : Bool) → not b ≡ true → b ≡ true → ⊥
not-both true h e = false≢true h
not-both false h e = false≢true e

found-any : (node : ℕ) (xs : List Placed) (x : Placed) → find (has_node node) xs ≡ Some x → node_is_among node xs ≡ true
found-any node [] x e = absurd (none-some x e)
found-any node (y ∷ xs) x e = by (has_node node y) e (found-any node xs x)
  where
    by : (b : Bool) → cond b (Some y) (find (has_node node) xs) ≡ Some x → (find (has_node node) xs ≡ Some x → node_is_among node xs ≡ true) → (b || node_is_among node xs) ≡ true
    by true h rest = refl
    by false h rest = rest h

-- behind a unit of a node no slot of the node stands in the same stage
split-units : (before rest : List Placed) (k : ℕ) (u : Unit) (units : List Unit) → each_between unit_stands before (map (at k) (u ∷ units) ++ rest) ≡ true
    → (unit_stands before (at k u) (map (at k) units ++ rest) ≡ true) × (each_between unit_stands (at k u ∷ before) (map (at k) units ++ rest) ≡ true)
split-units before rest k u units e = and_parts (unit_stands before (at k u) (map (at k) units ++ rest)) (each_between unit_stands (at k u ∷ before) (map (at k) units ++ rest)) e

none-more : (node k : ℕ) (units : List Unit) (place first : ℕ) (before rest : List Placed) (x : Placed) → each_between unit_stands before (map (at k) units ++ rest) ≡ true → find (has_node node) before ≡ Some x → x.stage ≡ k
    → parts_among node k place first units ≡ []
none-more node k [] place first before rest x e found stage = refl
none-more node k (Gate g ∷ units) place first before rest x e found stage =
    by (g.node == node) refl (λ own. none-more node k units (place + 1) first (at k (Gate g) ∷ before) rest x (split-units before rest k (Gate g) units e).1 own stage)
  where
    by : (b : Bool) → (g.node == node) ≡ b → (cond (g.node == node) (Some (at k (Gate g))) (find (has_node node) before) ≡ Some x → parts_among node k (place + 1) first units ≡ []) → parts_among node k (place + 1) first units ≡ []
    by true is more =
        let parts = split-units before rest k (Gate g) units e in
        let none : not (node_is_among g.node before) ≡ true = (and_parts _ _ (and_parts _ _ parts.0).1).0 in
        absurd (not-both (node_is_among g.node before) none (ap (λ n. node_is_among n before) (eqb-true g.node node is) ∙ found-any node before x found))
    by false is more = more (ap (λ b. cond b (Some (at k (Gate g))) (find (has_node node) before)) is ∙ found)
none-more node k (Slot s ∷ units) place first before rest x e found stage =
    by (s.node == node) refl (λ own. none-more node k units (place + 1) (first + s.actions + 1) (at k (Slot s) ∷ before) rest x (split-units before rest k (Slot s) units e).1 own stage)
  where
    p : PartAt
    p = record { stage = k; place = place; first = first; slot = s }

    by : (b : Bool) → (s.node == node) ≡ b → (cond (s.node == node) (Some (at k (Slot s))) (find (has_node node) before) ≡ Some x → parts_among node k (place + 1) (first + s.actions + 1) units ≡ [])
        → cond (s.node == node) (p ∷ []) [] ++ parts_among node k (place + 1) (first + s.actions + 1) units ≡ []
    by true is more =
        let parts = split-units before rest k (Slot s) units e in
        let follows : follows_part k s (find (has_node s.node) before) ≡ true = (and_parts _ _ (and_parts _ _ (and_parts _ _ parts.0).1).0).0 in
        let own : follows_part k s (Some x) ≡ true = subst (λ o. follows_part k s o ≡ true) (ap (λ n. find (has_node n) before) (eqb-true s.node node is) ∙ found) follows in
        absurd (not-both (x.stage == k) (and_parts (not (x.stage == k)) (is_part_of s x.unit) own).0 (eq-eqb x.stage k stage))
    by false is more =
        ap (λ b. cond b (p ∷ []) [] ++ parts_among node k (place + 1) (first + s.actions + 1) units) is ∙ more (ap (λ b. cond b (Some (at k (Slot s))) (find (has_node node) before)) is ∙ found)

-- so a stage has one part of a node at most
one-alone : (node k : ℕ) (units : List Unit) (place first : ℕ) (before rest : List Placed) → each_between unit_stands before (map (at k) units ++ rest) ≡ true → AllPairs IsEarlier (parts_among node k place first units)
one-alone node k [] place first before rest e = AllPairs-none IsEarlier
one-alone node k (Gate g ∷ units) place first before rest e = one-alone node k units (place + 1) first (at k (Gate g) ∷ before) rest (split-units before rest k (Gate g) units e).1
one-alone node k (Slot s ∷ units) place first before rest e =
    by (s.node == node) refl (one-alone node k units (place + 1) (first + s.actions + 1) (at k (Slot s) ∷ before) rest (split-units before rest k (Slot s) units e).1)
  where
    p : PartAt
    p = record { stage = k; place = place; first = first; slot = s }

    others : List PartAt
    others = parts_among node k (place + 1) (first + s.actions + 1) units

    by : (b : Bool) → (s.node == node) ≡ b → AllPairs IsEarlier others → AllPairs IsEarlier (cond (s.node == node) (p ∷ []) [] ++ others)
    by true is more =
        let none : others ≡ [] = none-more node k units (place + 1) (first + s.actions + 1) (at k (Slot s) ∷ before) rest (at k (Slot s)) (split-units before rest k (Slot s) units e).1
        (ap (λ b. cond b (Some (at k (Slot s))) (find (has_node node) before)) is) refl in
        subst (λ b. AllPairs IsEarlier (cond b (p ∷ []) [] ++ others)) (sym is)
        (subst (λ ps. AllPairs IsEarlier (p ∷ ps)) (sym none) (AllPairs-cons IsEarlier p [] (All-nil (IsEarlier p)) (AllPairs-none IsEarlier)))
    by false is more = subst (λ b. AllPairs IsEarlier (cond b (p ∷ []) [] ++ others)) (sym is) more

behind-all : (before xs ys : List Placed) → each_between unit_stands before (xs ++ ys) ≡ true → (earlier : List Placed) × (each_between unit_stands earlier ys ≡ true)
behind-all before [] ys e = (before, e)
behind-all before (x ∷ xs) ys e = behind-all (x ∷ before) xs ys (and_parts (unit_stands before x (xs ++ ys)) (each_between unit_stands (x ∷ before) (xs ++ ys)) e).1

stages-apart : (node k : ℕ) (stages : List Stage) (before : List Placed) → each_between unit_stands before (placed_from k stages) ≡ true → AllPairs IsEarlier (parts_from node k stages)
stages-apart node k [] before e = AllPairs-none IsEarlier
stages-apart node k (stage ∷ stages) before e =
    let later = behind-all before (map (at k) stage.units) (placed_from (k + 1) stages) e in
    let rest = parts_from node (k + 1) stages in
    AllPairs-append IsEarlier (parts_among node k 0 0 stage.units) rest (one-alone node k stage.units 0 0 before (placed_from (k + 1) stages) e) (stages-apart node (k + 1) stages later.0 later.1)
    (All-weaker (IsFrom node k 0) (λ a. All (IsEarlier a) rest)
    (λ a own. let same = own.stage in All-weaker (IsBehind node (k + 1)) (IsEarlier a) (λ b h. let le = h.stage in omega (arith, le, same)) rest (stages_from node (k + 1) stages))
    (parts_among node k 0 0 stage.units) (among_from node k stage.units 0 0))

pub parts-apart : (c : Config) (node : ℕ) → MemoryIsFormed c → AllPairs (λ (a b : PartAt). a.stage < b.stage) (parts_of c node)
parts-apart c node memory = stages-apart node 0 c.stages [] memory.tables
