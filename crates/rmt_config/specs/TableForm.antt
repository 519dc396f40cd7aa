-- The rules of form of guards, and of the units that one node has: a gate alone, or the parts of a table.
use Rattle.std.specs.Prelude.{ℕ, ◌+◌, ◌*◌, List, [], ◌∷◌, map, ◌++◌, Bool, true, false, not, ◌&&◌, ◌==◌, count_by, Option, Some, None, find}
use Rattle.std.specs.List.{list_any}
use Rattle.rmt_bits.specs.declared.lane.Lane.{Lane}
use Rattle.rmt_config.specs.Types.{Config, Stage, Unit, UnitGuard, SlotUnit, Memory}
use Rattle.rmt_config.specs.declared.config.Unit.TheVariants.{Gate, Slot}
use Rattle.rmt_config.specs.declared.config.Memory.TheVariants.{Without, Exact, Ternary}
use Rattle.rmt_config.specs.Life.{has_memory}
use Rattle.rmt_config.specs.Order.{each_between}

abbrev pub node_of : Unit → ℕ
node_of (Gate g) = g.node
node_of (Slot s) = s.node

abbrev pub guard_of : Unit → Option UnitGuard
guard_of (Gate g) = g.guard
guard_of (Slot s) = s.guard

-- a unit and the number of its stage
pub record Placed : Type 0 where
  pub stage : ℕ
  pub unit : Unit

-- the units of the stages in order, where the first stage has this number
abbrev pub placed_from : ℕ → List Stage → List Placed
placed_from k [] = []
placed_from k (stage ∷ stages) = map (λ unit. record { stage = k; unit = unit }) stage.units ++ placed_from (k + 1) stages

abbrev pub placed_units : Config → List Placed
placed_units c = placed_from 0 c.stages

abbrev pub has_node : ℕ → Placed → Bool
has_node node p = node_of p.unit == node

-- some unit of a node is among these
abbrev pub node_is_among : ℕ → List Placed → Bool
node_is_among node units = list_any (has_node node) units

-- a guard's parent is another node, all of whose units stand before
abbrev pub guard_stands : ℕ → Option UnitGuard → List Placed → List Placed → Bool
guard_stands node None before behind = true
guard_stands node (Some g) before behind = not (g.parent == node) && node_is_among g.parent before && not (node_is_among g.parent behind)

-- ---- the parts of a table

abbrev pub same_guard : Option UnitGuard → Option UnitGuard → Bool
same_guard None None = true
same_guard None (Some h) = false
same_guard (Some g) None = false
same_guard (Some g) (Some h) = (g.parent == h.parent) && (g.mask == h.mask)

abbrev pub same_flag : Bool → Bool → Bool
same_flag true b = b
same_flag false b = not b

abbrev pub same_lane : Lane → Lane → Bool
same_lane a b = (a.word == b.word) && (a.low == b.low) && (a.len == b.len)

abbrev pub same_lanes : List Lane → List Lane → Bool
same_lanes [] [] = true
same_lanes [] (other ∷ others) = false
same_lanes (lane ∷ lanes) [] = false
same_lanes (lane ∷ lanes) (other ∷ others) = same_lane lane other && same_lanes lanes others

-- an exact memory of this format
abbrev pub is_exact_as : ℕ → ℕ → Memory → Bool
is_exact_as k p Without = false
is_exact_as k p (Exact k' p' d w ks rs cs) = (k == k') && (p == p')
is_exact_as k p (Ternary d ks rs cs) = false

abbrev pub is_ternary : Memory → Bool
is_ternary Without = false
is_ternary (Exact k p d w ks rs cs) = false
is_ternary (Ternary d ks rs cs) = true

-- memories of one kind, and exact ones of one format
abbrev pub same_kind : Memory → Memory → Bool
same_kind Without m = not (has_memory m)
same_kind (Exact k p d w ks rs cs) m = is_exact_as k p m
same_kind (Ternary d ks rs cs) m = is_ternary m

-- two slots are parts of one table
abbrev pub same_table : SlotUnit → SlotUnit → Bool
same_table a b =
    same_guard a.guard b.guard && same_flag a.counted b.counted && (a.actions == b.actions) && (a.held == b.held)
    && same_lanes a.keys b.keys && same_kind a.memory b.memory

-- a part agrees with the part before it, which stands in another stage; no unit of its node is a gate
abbrev pub is_part_of : SlotUnit → Unit → Bool
is_part_of s (Gate g) = false
is_part_of s (Slot before) = same_table before s

abbrev pub follows_part : ℕ → SlotUnit → Option Placed → Bool
follows_part stage s None = true
follows_part stage s (Some before) = not (before.stage == stage) && is_part_of s before.unit

-- the ways of a part are numbered behind those of the parts before it, four each
abbrev pub ways_follow : ℕ → Memory → Bool
ways_follow parts Without = true
ways_follow parts (Exact k p d first_way ks rs cs) = first_way == 4 * parts
ways_follow parts (Ternary d ks rs cs) = true

-- a gate's node has no other unit; exactly the last part of a table says so
abbrev pub unit_stands : List Placed → Placed → List Placed → Bool
unit_stands before placed behind =
    guard_stands (node_of placed.unit) (guard_of placed.unit) before behind && stands placed.unit
  where
    stands : Unit → Bool
    stands (Gate g) = not (node_is_among g.node before) && not (node_is_among g.node behind)
    stands (Slot s) =
        follows_part placed.stage s (find (has_node s.node) before)
        && ways_follow (count_by (has_node s.node) before) s.memory
        && same_flag s.last (not (node_is_among s.node behind))

abbrev pub tables_are_formed : Config → Bool
tables_are_formed c = each_between unit_stands [] (placed_units c)
