-- In which stage the outcome of each node is set.
use Rattle.std.specs.Prelude.{◌≡◌, ◌<◌, ◌≤◌, ℕ, ◌+◌, List, [], Option, Some, None, IsSomeAnd, if◌then◌else◌, length, option_map, replicate, slice_get, slice_index, take, unwrap_or}
use Rattle.rmt_refine.specs.Types.{Program, Table, Node, Guard, What, Config}
use Rattle.rmt_ast.specs.declared.program.What.TheVariants.{Apply, Gate}
use Rattle.rmt_ast.specs.declared.entry.Entry.{Entry}
use Rattle.rmt_ast.specs.Control.{Run, run_from}
use Rattle.rmt_ast.specs.Lookup.{hit_of}
use Rattle.rmt_ast.specs.State.{joined, passes}
use Rattle.rmt_pack.specs.declared.placement.Part.{Part}
use Rattle.rmt_pack.specs.Placements.{quanta_in}
use Rattle.rmt_refine.specs.View.{View}
use Rattle.rmt_refine.specs.Units.{last_stage}
use Rattle.rmt_refine.specs.LookUps.{FindsEntry}

-- the outcome of a hit, or of a miss
abbrev pub hit_outcome : Option Entry → ℕ
hit_outcome None = 1
hit_outcome (Some e) = 2 + e.action

-- the outcome of a node that runs in a state, where its table has these entries
abbrev pub node_outcome : Program → List Entry → List ℕ → What → ℕ
node_outcome p es s (Apply i) = unwrap_or (option_map (λ (t : Table). hit_outcome (hit_of t.kind t.key es s)) (slice_get p.tables i)) 0
node_outcome p es s (Gate field test) = if passes test (slice_index s field) then 2 else 1

-- a miss is told by the last part, a hit by the part that finds the entry
abbrev pub TableSetIn : Program → List Part → Config → View → ℕ → Table → ℕ → ℕ → Option Entry → Type 0
TableSetIn p parts c v n t key k None = k ≡ last_stage parts n
TableSetIn p parts c v n t key k (Some e) = (f : FindsEntry p c v n t key e) × (f.k ≡ k)

-- The stage in which the outcome of node n is set, where it runs in a state: a gate's first one, else that of its table.
abbrev pub IsSetIn : Program → List Part → Config → View → List Entry → List ℕ → ℕ → What → ℕ → Type 0
IsSetIn p parts c v es s n (Apply i) k =
    IsSomeAnd (slice_get p.tables i) (λ (t : Table). TableSetIn p parts c v n t (joined p t.key s) k (hit_of t.kind t.key es s))
IsSetIn p parts c v es s n (Gate field test) k = (0 < quanta_in parts n k) × ((j : ℕ) → j < k → quanta_in parts n j ≡ 0)

-- the run of a program over a state, up to node n
abbrev pub run_before : Program → List (List Entry) → List ℕ → ℕ → Run
run_before p lists s n = run_from p lists 0 (take n p.nodes) (record { state = s; outcomes = replicate (length p.nodes) 0; hits = [] })

-- the entries of a node
abbrev pub entries_at : List (List Entry) → ℕ → List Entry
entries_at lists n = unwrap_or (slice_get lists n) []

-- no part of a node stands before a part of its parent
abbrev pub ChildrenFollow : Program → List Part → Type 0
ChildrenFollow p parts =
    (n : ℕ) (node : Node) (g : Guard) → slice_get p.nodes n ≡ Some node → node.guard ≡ Some g
    → (j k : ℕ) → 0 < quanta_in parts g.parent j → 0 < quanta_in parts n k → j ≤ k
