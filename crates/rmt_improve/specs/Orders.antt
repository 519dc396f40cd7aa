-- Orders in which the nodes of a program may be placed.
use Rattle.std.specs.Prelude.{ℕ, zero, suc, ◌+◌, ◌-◌, ◌*◌, List, [], ◌∷◌, ◌++◌, Bool, not, ◌&&◌, ◌==◌, nat_lt, if◌then◌else◌, filter, map, length, slice_index, reverse, ◌≡◌, ⊤, Contains}
use Rattle.std.specs.List.{best_of, list_any, range_with_len, swap}
use Rattle.rmt_bits.specs.Members.{is_among}
use Rattle.rmt_ast.specs.declared.deps.Edge.{Edge}
use Rattle.rmt_ast.specs.declared.deps.Deps.{Deps}
use Rattle.rmt_deps.specs.Levels.{levels_of, all_edges}
use Rattle.rmt_place.specs.declared.demand.Demand.{Demand}

-- ---- the heaviest first

-- an edge goes to a node from one that isn't taken
abbrev pub is_blocked : List Edge → List ℕ → ℕ → Bool
is_blocked edges taken n = list_any (λ (e : Edge). (e.to == n) && not (is_among taken e.from)) edges

-- a node may be taken next where the first nodes of all its edges are taken
abbrev pub may_be_next : List Edge → List ℕ → ℕ → Bool
may_be_next edges taken n = not (is_among taken n) && not (is_blocked edges taken n)

-- node a is heavier than node b
abbrev pub is_heavier : List ℕ → ℕ → ℕ → Bool
is_heavier weights a b = nat_lt (slice_index weights b) (slice_index weights a)

-- the first of the heaviest of some nodes, as a list; none where there are no nodes
abbrev pub heaviest : List ℕ → List ℕ → List ℕ
heaviest weights [] = []
heaviest weights (n ∷ ns) = best_of (is_heavier weights) n ns ∷ []

-- the nodes that may be taken next
abbrev pub next_nodes : List Edge → List ℕ → ℕ → List ℕ
next_nodes edges taken nodes = filter (may_be_next edges taken) (range_with_len 0 nodes)

-- so many nodes, each time the heaviest of those that may be taken next, and of them the one with the least number
abbrev pub by_weight : List Edge → List ℕ → ℕ → List ℕ
by_weight edges weights zero = []
by_weight edges weights (suc k) =
    let taken = by_weight edges weights k in taken ++ heaviest weights (next_nodes edges taken (length weights))

-- ---- how heavy a node is

-- an edge the other way round, where the nodes are numbered from the last one on
abbrev pub turned : ℕ → Edge → Edge
turned nodes e = record { from = nodes - 1 - e.to; to = nodes - 1 - e.from; kind = e.kind }

abbrev pub turned_deps : ℕ → Deps → Deps
turned_deps nodes deps = record { field = map (turned nodes) deps.field; word = map (turned nodes) deps.word }

-- of each node the most strict edges on a path that begins in it: its level where all edges are turned
abbrev pub heights_of : Deps → ℕ → List ℕ
heights_of deps nodes = reverse (levels_of (turned_deps nodes deps) nodes)

-- The edges of a path that begins in node n, the first one first: each ends where the one behind it begins. No path has
-- more strict edges than the height of the node in which it begins, and some path has as many (proofs/HeightLaws).
abbrev pub IsPathFrom : Deps → ℕ → List Edge → Type 0
IsPathFrom deps n [] = ⊤
IsPathFrom deps n (e ∷ path) = Contains (all_edges deps) e × (e.from ≡ n) × IsPathFrom deps e.to path

-- of each node its quanta times the blocks of a quantum
abbrev pub blocks_of : List Demand → List ℕ
blocks_of demands = map (λ (d : Demand). d.quanta * (d.sram + d.tcam)) demands

-- ---- neighbours exchanged

-- some edge goes from node a to node b
abbrev pub joins : List Edge → ℕ → ℕ → Bool
joins edges a b = list_any (λ (e : Edge). (e.from == a) && (e.to == b)) edges

-- the nodes at places i and i + 1 exchanged, where no edge goes from the first of them to the second
abbrev pub exchanged : List Edge → List ℕ → ℕ → List ℕ
exchanged edges order i =
    if joins edges (slice_index order i) (slice_index order (i + 1)) then order else swap order i (i + 1)
