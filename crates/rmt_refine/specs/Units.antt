-- Third part of a configuration's carrying a program: its units are those of the nodes, stage by stage as they are placed.
use Rattle.std.specs.Prelude.{◌≡◌, ◌<◌, ℕ, ◌+◌, List, [], ◌∷◌, ⊤, ◌==◌, nat_lt, Option, None, All, IsSomeAnd, map, filter, reverse, length, slice_get, option_map, option_and_then}
use Rattle.std.specs.List.{AllZip, range_with_len}
use Rattle.rmt_bits.specs.Bits.{slice}
use Rattle.rmt_bits.specs.declared.lane.Lane.{Lane}
use Rattle.rmt_refine.specs.Types.{Program, Test, Table, Kind, Node, Guard, What, Config, Stage, Unit, GateTest, UnitGuard, SlotUnit, Memory}
use Rattle.rmt_ast.specs.declared.program.Kind.TheVariants as kind
use Rattle.rmt_ast.specs.declared.program.What.TheVariants as what
use Rattle.rmt_ast.specs.Places.{lanes_of}
use Rattle.rmt_config.specs.declared.config.Unit.TheVariants as unit
use Rattle.rmt_config.specs.declared.config.Memory.TheVariants as memory
use Rattle.rmt_config.specs.Resources.{greatest_by}
use Rattle.rmt_pack.specs.declared.placement.Part.{Part}
use Rattle.rmt_pack.specs.Placements.{quanta_in, quanta_of}
use Rattle.rmt_pack.specs.Starts.{stages_of}
use Rattle.rmt_phv.specs.Places.{high_first}
use Rattle.rmt_config.specs.TableForm.{node_of}

-- ---- which node stands where

-- the nodes that have quanta in a stage, by number
abbrev pub nodes_in : Program → List Part → ℕ → List ℕ
nodes_in p parts k = filter (λ n. nat_lt 0 (quanta_in parts n k)) (range_with_len 0 (length p.nodes))

-- the table that a node applies
abbrev pub applied : Program → What → Option Table
applied p (what.Apply t) = slice_get p.tables t
applied p (what.Gate field test) = None

abbrev pub table_at : Program → ℕ → Option Table
table_at p n = option_and_then (λ (node : Node). applied p node.what) (slice_get p.nodes n)

-- the last stage in which a node stands
abbrev pub last_stage : List Part → ℕ → ℕ
last_stage parts n = greatest_by (λ k. k) (stages_of parts n)

-- ---- the unit of a node

-- the guard of a node
abbrev pub guard_of : Option Guard → Option UnitGuard
guard_of g = option_map (λ (x : Guard). record { parent = x.parent; mask = x.mask }) g

-- the tests of a field, each over one lane, from bit `low` of the field on, low piece first
abbrev pub tests_from : ℕ → Test → List Lane → List GateTest
tests_from low t [] = []
tests_from low t (lane ∷ lanes) =
    record { lane = lane; value = slice t.value low lane.len; mask = slice t.mask low lane.len } ∷ tests_from (low + lane.len) t lanes

-- those of a gate, highest bits first
abbrev pub tests_of : List (List Lane) → ℕ → Test → List GateTest
tests_of places field t = reverse (tests_from 0 t (lanes_of places field))

-- a memory of the kind of a table, with so many quanta
abbrev pub HasKind : Kind → ℕ → Memory → Type 0
HasKind kind.Keyless quanta memory.Without = ⊤
HasKind kind.Keyless quanta (memory.Exact k p d w ks rs cs) = ⊥
HasKind kind.Keyless quanta (memory.Ternary d ks rs cs) = ⊥
HasKind kind.Exact quanta memory.Without = ⊥
HasKind kind.Exact quanta (memory.Exact k p d w ks rs cs) = d ≡ quanta
HasKind kind.Exact quanta (memory.Ternary d ks rs cs) = ⊥
HasKind kind.Prefix quanta memory.Without = ⊥
HasKind kind.Prefix quanta (memory.Exact k p d w ks rs cs) = ⊥
HasKind kind.Prefix quanta (memory.Ternary d ks rs cs) = d ≡ quanta
HasKind kind.Ternary quanta memory.Without = ⊥
HasKind kind.Ternary quanta (memory.Exact k p d w ks rs cs) = ⊥
HasKind kind.Ternary quanta (memory.Ternary d ks rs cs) = d ≡ quanta

-- the slot of a table's part
pub record TableCarried (places : List (List Lane)) (parts : List Part) (n k : ℕ) (t : Table) (s : SlotUnit) : Type 0 where
  pub counted : s.counted ≡ t.counted
  pub actions : s.actions ≡ length t.actions
  pub keys : s.keys ≡ high_first places t.key
  pub memory : HasKind t.kind (quanta_in parts n k) s.memory
  pub last : s.last ≡ (k == last_stage parts n)

-- the unit of what a node does in stage k
abbrev pub DoesAs : Program → List (List Lane) → List Part → ℕ → ℕ → What → Unit → Type 0
DoesAs p places parts k n (what.Apply t) (unit.Slot s) = IsSomeAnd (slice_get p.tables t) (λ (table : Table). TableCarried places parts n k table s)
DoesAs p places parts k n (what.Apply t) (unit.Gate g) = ⊥
DoesAs p places parts k n (what.Gate field test) (unit.Slot s) = ⊥
DoesAs p places parts k n (what.Gate field test) (unit.Gate g) = g.tests ≡ tests_of places field test

abbrev pub guard_in : Unit → Option UnitGuard
guard_in (unit.Gate g) = g.guard
guard_in (unit.Slot s) = s.guard

-- a unit is that of node n in stage k
pub record UnitCarried (p : Program) (places : List (List Lane)) (parts : List Part) (k n : ℕ) (u : Unit) : Type 0 where
  pub number : node_of u ≡ n
  pub guard : IsSomeAnd (slice_get p.nodes n) (λ (node : Node). guard_in u ≡ guard_of node.guard)
  pub does : IsSomeAnd (slice_get p.nodes n) (λ (node : Node). DoesAs p places parts k n node.what u)

-- ---- all units

-- Each node has quanta somewhere, no part is of another node or past the last stage, and a stage has one unit for each node that stands in it, by number.
pub record UnitsCarried (p : Program) (places : List (List Lane)) (parts : List Part) (starts : List ℕ) (c : Config) : Type 0 where
  pub each_node : (n : ℕ) → n < length p.nodes → 0 < quanta_of parts n
  pub no_other : All (λ (x : Part). (x.node < length p.nodes) × (x.stage < length c.stages) × (0 < x.quanta)) parts
  pub starts_are : map (λ (s : Stage). s.start) c.stages ≡ starts
  pub units : (k : ℕ) → k < length c.stages
      → IsSomeAnd (slice_get c.stages k) (λ (s : Stage). AllZip (UnitCarried p places parts k) (nodes_in p parts k) s.units)
