-- Which nodes of a program depend on which earlier ones (after the dependencies of Jose et al. 2015, with operands of actions and words of the header vector among them).
use Rattle.std.specs.Prelude.{ℕ, zero, suc, ◌+◌, ◌-◌, List, [], ◌∷◌, ◌++◌, Bool, false, not, ◌&&◌, ◌||◌, ◌==◌, ◌<◌, if◌then◌else◌, Option, Some, None, option_map, unwrap_or, slice_get, map, filter, length, bit_and, All}
use Rattle.std.specs.List.{list_any, flat_map, range_with_len}
use Rattle.rmt_bits.specs.declared.lane.Lane.{Lane}
use Rattle.rmt_bits.specs.Members.{is_among}
use Rattle.rmt_ast.specs.declared.program.Program.{Program}
use Rattle.rmt_ast.specs.declared.program.Action.{Action}
use Rattle.rmt_ast.specs.declared.program.Assign.{Assign}
use Rattle.rmt_ast.specs.declared.program.Expr.{Expr}
use Rattle.rmt_ast.specs.declared.program.Leaf.{Leaf}
use Rattle.rmt_ast.specs.declared.program.Table.{Table}
use Rattle.rmt_ast.specs.declared.program.Node.{Node}
use Rattle.rmt_ast.specs.declared.program.Guard.{Guard}
use Rattle.rmt_ast.specs.declared.program.What.{What}
use Rattle.rmt_ast.specs.declared.program.Expr.TheVariants.{One, Two}
use Rattle.rmt_ast.specs.declared.program.Leaf.TheVariants as leaf
use Rattle.rmt_ast.specs.declared.program.What.TheVariants.{Apply, Gate}
use Rattle.rmt_ast.specs.declared.deps.Edge.{Edge}
use Rattle.rmt_ast.specs.declared.deps.EdgeKind.{EdgeKind}
use Rattle.rmt_ast.specs.declared.deps.EdgeKind.TheVariants as kind
use Rattle.rmt_ast.specs.declared.deps.Deps.{Deps}
use Rattle.rmt_ast.specs.Places.{lanes_of}
use Rattle.rmt_phv.specs.Places.{written_by}

-- ---- what a node looks at, reads and writes

-- the fields of an operand, and of an expression
abbrev pub leaf_fields : Leaf → List ℕ
leaf_fields (leaf.Field f) = f ∷ []
leaf_fields (leaf.Param i) = []
leaf_fields (leaf.Number n) = []

abbrev pub expr_fields : Expr → List ℕ
expr_fields (One x) = leaf_fields x
expr_fields (Two op x y) = leaf_fields x ++ leaf_fields y

-- the fields that an action's operands are, as it is written
abbrev pub read_by : Action → List ℕ
read_by a = flat_map (λ (x : Assign). expr_fields x.expr) a.assigns

-- what an action of the program touches
abbrev pub of_action : Program → (Action → List ℕ) → ℕ → List ℕ
of_action p fields a = unwrap_or (option_map fields (slice_get p.actions a)) []

-- what the listed actions of a table and its default touch
abbrev pub of_table : Program → (Action → List ℕ) → Table → List ℕ
of_table p fields t = flat_map (of_action p fields) (t.default ∷ t.actions)

-- what a node touches: f of its table, or g of the field that it tests
abbrev pub of_what : Program → (Table → List ℕ) → (ℕ → List ℕ) → What → List ℕ
of_what p f g (Apply t) = unwrap_or (option_map f (slice_get p.tables t)) []
of_what p f g (Gate field test) = g field

abbrev pub of_node : Program → (Table → List ℕ) → (ℕ → List ℕ) → ℕ → List ℕ
of_node p f g n = unwrap_or (option_map (λ (node : Node). of_what p f g node.what) (slice_get p.nodes n)) []

-- the fields of a node's key, or the one that it tests
abbrev pub keys_of : Program → ℕ → List ℕ
keys_of p n = of_node p (λ (t : Table). t.key) (λ field. field ∷ []) n

-- the fields that its actions read
abbrev pub reads_of : Program → ℕ → List ℕ
reads_of p n = of_node p (of_table p read_by) (λ field. []) n

-- the fields that its actions assign
abbrev pub writes_of : Program → ℕ → List ℕ
writes_of p n = of_node p (of_table p written_by) (λ field. []) n

-- the words in which some fields have pieces
abbrev pub words_of_fields : List (List Lane) → List ℕ → List ℕ
words_of_fields places fields = flat_map (λ f. map (λ (l : Lane). l.word) (lanes_of places f)) fields

-- some number stands in both lists
abbrev pub meet : List ℕ → List ℕ → Bool
meet xs ys = list_any (is_among ys) xs

-- ---- arms

-- the guard of a node
abbrev pub guard_if : Option Node → Option Guard
guard_if None = None
guard_if (Some node) = node.guard

abbrev pub guard_of : Program → ℕ → Option Guard
guard_of p n = guard_if (slice_get p.nodes n)

-- the guards on the way up from a node, in at most so many steps
abbrev pub guard_then : Option Guard → (Guard → List Guard) → List Guard
guard_then None rest = []
guard_then (Some g) rest = g ∷ rest g

abbrev pub guards_up : Program → ℕ → ℕ → List Guard
guards_up p zero n = []
guards_up p (suc steps) n = guard_then (guard_of p n) (λ g. guards_up p steps g.parent)

-- all of them, for parents stand before their children
abbrev pub guards_of : Program → ℕ → List Guard
guards_of p n = guards_up p n n

-- the guards choose different arms of one node: masks that differ and share no outcome
abbrev pub are_other_arms : Guard → Guard → Bool
are_other_arms g h = (g.parent == h.parent) && not (g.mask == h.mask) && (bit_and g.mask h.mask == 0)

-- two nodes stand on different arms of one node
abbrev pub on_different_arms : Program → ℕ → ℕ → Bool
on_different_arms p a b = list_any (λ g. list_any (are_other_arms g) (guards_of p b)) (guards_of p a)

-- ---- edges

-- the node of this number is the parent of another
abbrev pub is_parent : ℕ → Option Guard → Bool
is_parent a None = false
is_parent a (Some g) = g.parent == a

-- node b depends on an earlier node a in this way
abbrev pub depends : Program → List (List Lane) → EdgeKind → ℕ → ℕ → Bool
depends p places kind.Match a b = meet (writes_of p a) (keys_of p b)
depends p places kind.Action a b = meet (writes_of p a) (reads_of p b) || meet (writes_of p a) (writes_of p b)
depends p places kind.Successor a b = is_parent a (guard_of p b)
depends p places kind.Reverse a b = meet (writes_of p b) (keys_of p a) || meet (writes_of p b) (reads_of p a)
depends p places kind.Word a b = meet (words_of_fields places (writes_of p a)) (words_of_fields places (writes_of p b))

abbrev pub edge : ℕ → ℕ → EdgeKind → Edge
edge a b k = record { from = a; to = b; kind = k }

-- the edges of these kinds, in this order, from node a to node b; none where they stand on different arms
abbrev pub edges_between : Program → List (List Lane) → List EdgeKind → ℕ → ℕ → List Edge
edges_between p places kinds a b =
    if on_different_arms p a b then [] else map (edge a b) (filter (λ k. depends p places k a b) kinds)

-- those from node a to all later ones
abbrev pub edges_from : Program → List (List Lane) → List EdgeKind → ℕ → List Edge
edges_from p places kinds a = flat_map (edges_between p places kinds a) (range_with_len (a + 1) (length p.nodes - (a + 1)))

-- all edges of these kinds, by the earlier node, then the later one, then the kind
abbrev pub edges_among : Program → List (List Lane) → List EdgeKind → List Edge
edges_among p places kinds = flat_map (edges_from p places kinds) (range_with_len 0 (length p.nodes))

abbrev pub field_edges : Program → List (List Lane) → List Edge
field_edges p places = edges_among p places (kind.Match ∷ kind.Action ∷ kind.Successor ∷ kind.Reverse ∷ [])

abbrev pub word_edges : Program → List (List Lane) → List Edge
word_edges p places = edges_among p places (kind.Word ∷ [])

-- the dependencies of a program whose fields have these places
abbrev pub dependencies_of : Program → List (List Lane) → Deps
dependencies_of p places = record { field = field_edges p places; word = word_edges p places }

-- an edge from a node to a later one, of so many nodes
pub record GoesForward (nodes : ℕ) (e : Edge) : Type 0 where
  pub later : e.from < e.to
  pub is_node : e.to < nodes

-- all edges do
pub record GoForward (nodes : ℕ) (deps : Deps) : Type 0 where
  pub field : All (GoesForward nodes) deps.field
  pub word : All (GoesForward nodes) deps.word
