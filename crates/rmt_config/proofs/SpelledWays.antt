-- The ways of the exact parts of a table have numbers of a byte.
use Rattle.std.proofs.Common.{◌≡◌, ℕ, ◌+◌, ◌*◌, ◌<◌, List, [], ◌∷◌, ◌++◌, Bool, true, false, cond, eqb, map, arith}
use Rattle.std.specs.Prelude.{All}
use Rattle.std.specs.List.{enumerate_from, flat_map}
use Rattle.std.proofs.lemmas.Bool.{and_parts, eqb-true, ltb-true}
use Rattle.std.proofs.lemmas.List.Elements.{All-nil, All-cons, All-head, All-tail, All-append}
use Rattle.rmt_bits.proofs.AllLaws.{All-left, All-right, All-unmap}
use Rattle.rmt_config.specs.Types.{Config, Stage, Unit as ChipUnit, SlotUnit, Memory}
use Rattle.rmt_config.specs.declared.config.Unit.TheVariants.{Gate, Slot}
use Rattle.rmt_config.specs.declared.config.Memory.TheVariants.{Without, Exact, Ternary}
use Rattle.rmt_config.specs.Order.{each_between}
use Rattle.rmt_config.specs.UnitForm.{memory_is_formed}
use Rattle.rmt_config.specs.TableForm.{Placed, placed_from, placed_units, ways_follow, unit_stands}
use Rattle.rmt_config.specs.MemoryRules.{MemoryIsFormed}
use Rattle.rmt_config.specs.Rooms.{PartAt, parts_among, parts_of}
use Rattle.rmt_config.specs.KeysSeen.{WaysLow}

pub record FollowsAt (m : Memory) : Type 0 where
  pub parts : ℕ
  pub follow : ways_follow parts m ≡ true

abbrev pub Follows : ChipUnit → Type 0
Follows (Gate g) = Unit {0}
Follows (Slot s) = FollowsAt s.memory

abbrev pub PartFollows : PartAt → Type 0
PartFollows p = FollowsAt p.slot.memory

pub follows-of : (before behind : List Placed) (stage : ℕ) (u : ChipUnit) → unit_stands before (record { stage = stage; unit = u }) behind ≡ true → Follows u
follows-of before behind stage (Gate g) h = tt
follows-of before behind stage (Slot s) h = record { parts = _; follow = (and_parts _ _ (and_parts _ _ (and_parts _ _ h).1).0).1 }

pub each-follows : (before xs : List Placed) → each_between unit_stands before xs ≡ true → All (λ (x : Placed). Follows x.unit) xs
each-follows before [] h = All-nil (λ (x : Placed). Follows x.unit)
each-follows before (x ∷ xs) h =
    let parts = and_parts (unit_stands before x xs) (each_between unit_stands (x ∷ before) xs) h in
    All-cons (λ (y : Placed). Follows y.unit) x xs (follows-of before xs x.stage x.unit parts.0) (each-follows (x ∷ before) xs parts.1)

slot-follows : (p : PartAt) (rest : List PartAt) (b : Bool) → PartFollows p → All PartFollows rest → All PartFollows ((cond b (p ∷ []) []) ++ rest)
slot-follows p rest true here more = All-cons PartFollows p rest here more
slot-follows p rest false here more = more

units-follow : (node k place first : ℕ) (units : List ChipUnit) → All Follows units → All PartFollows (parts_among node k place first units)
units-follow node k place first [] all = All-nil PartFollows
units-follow node k place first (Gate g ∷ units) all = units-follow node k (place + 1) first units (All-tail Follows (Gate g) units all)
units-follow node k place first (Slot s ∷ units) all =
    slot-follows (record { stage = k; place = place; first = first; slot = s }) (parts_among node k (place + 1) (first + s.actions + 1) units) (eqb s.node node)
    (All-head Follows (Slot s) units all) (units-follow node k (place + 1) (first + s.actions + 1) units (All-tail Follows (Slot s) units all))

stages-follow : (node k : ℕ) (stages : List Stage) → All (λ (x : Placed). Follows x.unit) (placed_from k stages)
    → All PartFollows (flat_map (λ (x : ℕ × Stage). parts_among node x.0 0 0 x.1.units) (enumerate_from k stages))
stages-follow node k [] all = All-nil PartFollows
stages-follow node k (stage ∷ stages) all =
    let P : Placed → Type 0 = λ x. Follows x.unit in
    let here = map (λ u. record { stage = k; unit = u }) stage.units in
    let rest = placed_from (k + 1) stages in
    All-append PartFollows (parts_among node k 0 0 stage.units) (flat_map (λ (x : ℕ × Stage). parts_among node x.0 0 0 x.1.units) (enumerate_from (k + 1) stages))
    (units-follow node k 0 0 stage.units (All-unmap P (λ u. record { stage = k; unit = u }) stage.units (All-left P here rest all)))
    (stages-follow node (k + 1) stages (All-right P here rest all))

pub parts-follow : (c : Config) (node : ℕ) → MemoryIsFormed c → All PartFollows (parts_of c node)
parts-follow c node memory = stages-follow node 0 c.stages (each-follows [] (placed_units c) memory.tables)

pub ways-low : (s : SlotUnit) (m : Memory) → FollowsAt m → memory_is_formed s m ≡ true → WaysLow m
ways-low s Without at h = tt
ways-low s (Exact k p d w ks rs cs) at h =
    let p7 = and_parts _ _ (and_parts _ _ (and_parts _ _ (and_parts _ _ h).0).0).0 in
    let p5 = and_parts _ _ (and_parts _ _ p7.0).0 in
    let byte : w < 256 = ltb-true w 256 p5.1 in
    let four : w ≡ 4 * at.parts = eqb-true w (4 * at.parts) at.follow in
    omega (arith, byte, four)
ways-low s (Ternary d ks rs cs) at h = tt
