-- The level of a node: how many strict edges a path to it has at most.
use Rattle.std.specs.Prelude.{◌≡◌, ℕ, zero, suc, ◌+◌, List, [], ◌∷◌, ◌++◌, Bool, true, false, ◌==◌, if◌then◌else◌, max, fold, filter, count_by, slice_index, Contains, ⊤}
use Rattle.rmt_ast.specs.declared.deps.Edge.{Edge}
use Rattle.rmt_ast.specs.declared.deps.EdgeKind.{EdgeKind}
use Rattle.rmt_ast.specs.declared.deps.EdgeKind.TheVariants as kind
use Rattle.rmt_ast.specs.declared.deps.Deps.{Deps}

-- the later node stands in a later stage, and not in the same one
abbrev pub is_strict : EdgeKind → Bool
is_strict kind.Match = true
is_strict kind.Action = true
is_strict kind.Successor = false
is_strict kind.Reverse = false
is_strict kind.Word = true

abbrev pub all_edges : Deps → List Edge
all_edges deps = deps.field ++ deps.word

-- The edges of a path that ends in node n, the last one first: each ends where the one behind it begins.
abbrev pub IsPathTo : Deps → ℕ → List Edge → Type 0
IsPathTo deps n [] = ⊤
IsPathTo deps n (e ∷ path) = Contains (all_edges deps) e × (e.to ≡ n) × IsPathTo deps e.from path

-- how many strict edges a path has
abbrev pub strict_edges : List Edge → ℕ
strict_edges path = count_by (λ (e : Edge). is_strict e.kind) path

-- a level behind an edge from a node of these levels
abbrev pub level_behind : List ℕ → Edge → ℕ
level_behind levels e = slice_index levels e.from + (if is_strict e.kind then 1 else 0)

-- the greatest level behind these edges
abbrev pub greatest_behind : List ℕ → List Edge → ℕ
greatest_behind levels edges = fold (λ level e. max level (level_behind levels e)) 0 edges

-- the levels of some first nodes, and that of the next one, by the edges that end in it
abbrev pub with_next : Deps → ℕ → List ℕ → List ℕ
with_next deps n levels = levels ++ greatest_behind levels (filter (λ (e : Edge). e.to == n) (all_edges deps)) ∷ []

-- the levels of the first n nodes
abbrev pub levels_of : Deps → ℕ → List ℕ
levels_of deps zero = []
levels_of deps (suc n) = with_next deps n (levels_of deps n)
