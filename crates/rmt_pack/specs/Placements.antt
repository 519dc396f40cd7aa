-- Placements of a program's nodes in stages, and which of them are legal.
use Rattle.std.specs.Prelude.{◌≡◌, ℕ, ◌+◌, ◌*◌, ◌<◌, ◌≤◌, List, Bool, true, false, ◌==◌, ◌&&◌, nat_lt, if◌then◌else◌, option_map, unwrap_or, IfSome, All, map, fold, max, sum, sum_by, count_by, slice_get, length, MatchBool}
use Rattle.std.specs.List.{range_with_len}
use Rattle.rmt_ast.specs.declared.deps.Edge.{Edge}
use Rattle.rmt_ast.specs.declared.deps.EdgeKind.{EdgeKind}
use Rattle.rmt_ast.specs.declared.deps.EdgeKind.TheVariants as edge
use Rattle.rmt_ast.specs.declared.program.Program.{Program}
use Rattle.rmt_ast.specs.declared.program.Action.{Action}
use Rattle.rmt_ast.specs.declared.program.Table.{Table}
use Rattle.rmt_ast.specs.declared.program.Node.{Node}
use Rattle.rmt_ast.specs.declared.program.What.{What}
use Rattle.rmt_ast.specs.declared.program.What.TheVariants.{Apply, Gate}
use Rattle.rmt_ast.specs.WellFormed.{AllNumbered, bits_of}
use Rattle.rmt_pack.specs.declared.format.Format.{Format}
use Rattle.rmt_pack.specs.declared.format.Need.{Need}
use Rattle.rmt_pack.specs.declared.placement.Part.{Part}
use Rattle.rmt_pack.specs.declared.placement.Placement.{Placement}
use Rattle.rmt_pack.specs.Formats.{no_memory, need_of, IsFormat, memory_format}

-- ---- what a program's tables need

-- the bits of a table's key
abbrev pub key_bits : Program → Table → ℕ
key_bits p t = bits_of p t.key

-- the bits of an action's parameters
abbrev pub param_bits : Program → ℕ → ℕ
param_bits p a = unwrap_or (option_map (λ (x : Action). sum x.params) (slice_get p.actions a)) 0

-- the bits of data that an entry of a table holds: those of the listed action with most
abbrev pub data_bits : Program → Table → ℕ
data_bits p t = fold max 0 (map (param_bits p) t.actions)

abbrev pub table_need : Program → Table → Need
table_need p t = need_of t (key_bits p t) (data_bits p t)

-- a format of a node; a gate has no memory
abbrev pub IsNodeFormat : Program → What → Format → Type 0
IsNodeFormat p (Apply t) f = IfSome (slice_get p.tables t) (λ (table : Table). IsFormat table.kind (table_need p table) f)
IsNodeFormat p (Gate field test) f = f ≡ no_memory

-- ---- what stands where

-- the quanta of a node in a stage
abbrev pub quanta_in : List Part → ℕ → ℕ → ℕ
quanta_in parts node stage = sum_by (λ (x : Part). if (x.node == node) && (x.stage == stage) then x.quanta else 0) parts

-- all quanta of a node
abbrev pub quanta_of : List Part → ℕ → ℕ
quanta_of parts node = sum_by (λ (x : Part). if x.node == node then x.quanta else 0) parts

-- a node is a table, with a key or without
abbrev pub is_table : What → Bool
is_table (Apply t) = true
is_table (Gate field test) = false

abbrev pub nodes_numbered : Program → List ℕ
nodes_numbered p = range_with_len 0 (length p.nodes)

-- the node of that number is a table
abbrev pub is_table_at : Program → ℕ → Bool
is_table_at p node = unwrap_or (option_map (λ (x : Node). is_table x.what) (slice_get p.nodes node)) false

-- what the nodes in a stage take together, where a quantum of each takes that much
abbrev pub taken_in : Program → List Part → (ℕ → ℕ) → ℕ → ℕ
taken_in p parts blocks stage = sum_by (λ node. quanta_in parts node stage * blocks node) (nodes_numbered p)

-- how many tables stand in a stage
abbrev pub tables_in : Program → List Part → ℕ → ℕ
tables_in p parts stage = count_by (λ node. is_table_at p node && nat_lt 0 (quanta_in parts node stage)) (nodes_numbered p)

-- ---- legal placements

-- Whether an edge asks for a later stage, as all but two kinds do. A word edge asks for one too; but a legal placement is asked for field edges alone.
abbrev pub is_strict : EdgeKind → Bool
is_strict edge.Successor = false
is_strict edge.Reverse = false
is_strict _ = true

-- two parts keep an edge: the part of the later node stands behind that of the earlier one, or at least not before it
abbrev pub Keeps : Edge → Part → Part → Type 0
Keeps e a b = a.node ≡ e.from → b.node ≡ e.to → 0 < a.quanta → 0 < b.quanta → MatchBool (is_strict e.kind) (a.stage < b.stage) (a.stage ≤ b.stage)

-- A placement where the memory of node n has the format `formats n`. Stages past the last that a chip has are allowed.
pub record IsLegalWith (p : Program) (edges : List Edge) (formats : ℕ → Format) (parts : List Part) : Type 0 where
  -- each has a format of its own
  pub node_formats : AllNumbered (λ n (x : Node). IsNodeFormat p x.what (formats n)) p.nodes
  -- each has all its quanta
  pub whole : (n : ℕ) → n < length p.nodes → (formats n).quanta ≤ quanta_of parts n
  -- no part of a node stands before, or beside, one of a node that it waits for
  pub order : All (λ e. All (λ a. All (Keeps e a) parts) parts) edges
  -- the blocks and slots of a stage
  pub sram : (stage : ℕ) → taken_in p parts (λ n. (formats n).sram) stage ≤ 106
  pub tcam : (stage : ℕ) → taken_in p parts (λ n. (formats n).tcam) stage ≤ 16
  pub slots : (stage : ℕ) → tables_in p parts stage ≤ 16

-- A legal placement, whatever the format of each table.
abbrev pub IsLegal : Program → List Edge → Placement → Type 0
IsLegal p edges placement = (formats : ℕ → Format) × IsLegalWith p edges formats placement.parts

-- how many stages a placement has: the greatest of its stages and 1 more, or none
abbrev pub stage_count : Placement → ℕ
stage_count placement = fold max 0 (map (λ (x : Part). x.stage + 1) placement.parts)

-- the memory format of a node, by the rule; a gate has no memory
abbrev pub what_format : Program → What → Format
what_format p (Apply t) = unwrap_or (option_map (λ (table : Table). memory_format table.kind (table_need p table)) (slice_get p.tables t)) no_memory
what_format p (Gate field test) = no_memory
