-- How many stages a program takes at least.
use Rattle.std.specs.Prelude.{◌<◌, ℕ, zero, suc, ◌+◌, ◌-◌, ◌*◌, ◌/◌, List, [], ◌∷◌, ◌++◌, ◌==◌, if◌then◌else◌, Option, Some, None, option_map, unwrap_or, map, filter, fold, max, min, sum_by, count_by, slice_get, slice_index, length, position, All}
use Rattle.rmt_ast.specs.declared.deps.Edge.{Edge}
use Rattle.rmt_ast.specs.declared.program.Program.{Program}
use Rattle.rmt_ast.specs.declared.program.Table.{Table}
use Rattle.rmt_ast.specs.declared.program.Kind.{Kind}
use Rattle.rmt_ast.specs.declared.program.Node.{Node}
use Rattle.rmt_ast.specs.declared.program.What.{What}
use Rattle.rmt_ast.specs.declared.program.Kind.TheVariants.{Keyless, Exact, Prefix, Ternary}
use Rattle.rmt_ast.specs.declared.program.What.TheVariants.{Apply, Gate}
use Rattle.rmt_pack.specs.declared.format.Format.{Format}
use Rattle.rmt_pack.specs.declared.format.Need.{Need}
use Rattle.rmt_pack.specs.Formats.{divided_up, ternary_format, exact_formats, whole}
use Rattle.rmt_pack.specs.Placements.{table_need, is_table, is_strict, what_format}
use Rattle.rmt_bounds.specs.declared.bound.Bound.{Bound}
use Rattle.rmt_bounds.specs.declared.bound.Proof.{Proof}
use Rattle.rmt_bounds.specs.declared.bound.Proof.TheVariants.{Chain, Sram, Tcam, Slots}

-- ---- the least stage count of a node

-- how many quanta of a format stand alone in a stage of 106 SRAM and 16 TCAM blocks
abbrev pub fit_alone : Format → ℕ
fit_alone f = if f.tcam == 0 then 106 / f.sram else min (106 / f.sram) (16 / f.tcam)

-- in how many stages a table of that format stands at least
abbrev pub stages_for : Format → ℕ
stages_for f = divided_up f.quanta (fit_alone f)

-- the least of some numbers
abbrev pub least_of : List ℕ → Option ℕ
least_of [] = None
least_of (x ∷ xs) = Some (fold min x xs)

abbrev pub least : List ℕ → ℕ
least xs = unwrap_or (least_of xs) 1

-- in how many stages a table of that kind stands at least, whatever its format
abbrev pub least_stages : Kind → Need → ℕ
least_stages Keyless n = 1
least_stages Exact n = least (map stages_for (exact_formats n))
least_stages Prefix n = stages_for (ternary_format n)
least_stages Ternary n = stages_for (ternary_format n)

abbrev pub stages_of_what : Program → What → ℕ
stages_of_what p (Apply t) = unwrap_or (option_map (λ (table : Table). least_stages table.kind (table_need p table)) (slice_get p.tables t)) 1
stages_of_what p (Gate field test) = 1

-- the least stage count of the node of that number
abbrev pub node_stages : Program → ℕ → ℕ
node_stages p n = unwrap_or (option_map (λ (x : Node). stages_of_what p x.what) (slice_get p.nodes n)) 1

-- ---- along the edges

-- each edge goes from a node of a program to a later one
abbrev pub EdgesRise : Program → List Edge → Type 0
EdgesRise p edges = All (λ (e : Edge). (e.from < e.to) × (e.to < length p.nodes)) edges

-- where a weak edge joins two nodes, the last stage of the one may be the first of the other
abbrev pub shared : Edge → ℕ
shared e = if is_strict e.kind then 0 else 1

-- the stages up to the last of the later node of an edge, where those up to the last of the earlier one are known
abbrev pub through : Program → List ℕ → Edge → ℕ
through p bests e = slice_index bests e.from + node_stages p e.to - shared e

-- the edges into a node
abbrev pub edges_into : List Edge → ℕ → List Edge
edges_into edges n = filter (λ (e : Edge). e.to == n) edges

-- how many stages there are at least up to the last of node n: its own, or those through an edge into it
abbrev pub best_of_node : Program → List Edge → List ℕ → ℕ → ℕ
best_of_node p edges bests n = fold max (node_stages p n) (map (through p bests) (edges_into edges n))

-- that number for each of the first nodes; an edge goes from a smaller number to a greater
abbrev pub bests : Program → List Edge → ℕ → List ℕ
bests p edges zero = []
bests p edges (suc n) = let front = bests p edges n in front ++ best_of_node p edges front n ∷ []

abbrev pub all_bests : Program → List Edge → List ℕ
all_bests p edges = bests p edges (length p.nodes)

-- the greatest of some numbers
abbrev pub greatest : List ℕ → ℕ
greatest xs = fold max 0 xs

-- the least node from which an edge gives the best of node n
abbrev pub node_before : Program → List Edge → List ℕ → ℕ → ℕ
node_before p edges bests n =
    least (map (λ (e : Edge). e.from) (filter (λ (e : Edge). through p bests e == slice_index bests n) (edges_into edges n)))

-- the chain that ends in node n, of at most so many nodes: it begins where a node's own stages are its best
abbrev pub chain_to : Program → List Edge → List ℕ → ℕ → ℕ → List ℕ
chain_to p edges bests zero n = []
chain_to p edges bests (suc nodes) n =
    (if slice_index bests n == node_stages p n then [] else chain_to p edges bests nodes (node_before p edges bests n)) ++ n ∷ []

-- the chain that ends in the first node of greatest best
abbrev pub longest_chain : Program → List Edge → List ℕ
longest_chain p edges =
    let all = all_bests p edges in
    unwrap_or (option_map (chain_to p edges all (length all)) (position (λ b. b == greatest all) all)) []

-- ---- what the stages hold together

-- the SRAM blocks that all nodes take at least
abbrev pub sram_sum : Program → ℕ
sram_sum p = sum_by (λ (x : Node). whole (what_format p x.what)) p.nodes

-- the TCAM blocks that all nodes take
abbrev pub tcam_sum : Program → ℕ
tcam_sum p = sum_by (λ (x : Node). let f = what_format p x.what in f.quanta * f.tcam) p.nodes

-- how many tables there are
abbrev pub table_count : Program → ℕ
table_count p = count_by (λ (x : Node). is_table x.what) p.nodes

-- ---- the bound

-- the numbers that chains, SRAM, TCAM and slots give, in this order
abbrev pub four_bounds : Program → List Edge → List ℕ
four_bounds p edges = greatest (all_bests p edges) ∷ divided_up (sram_sum p) 106 ∷ divided_up (tcam_sum p) 16 ∷ divided_up (table_count p) 16 ∷ []

-- the first of the four that is that number tells its proof
abbrev pub proof_of : Program → List Edge → List ℕ → ℕ → Proof
proof_of p edges four n =
    if slice_index four 0 == n then Chain (longest_chain p edges)
    else if slice_index four 1 == n then Sram (sram_sum p)
    else if slice_index four 2 == n then Tcam (tcam_sum p)
    else Slots (table_count p)

-- The stage bound of a program: the greatest of the four.
abbrev pub stage_bound : Program → List Edge → Bound
stage_bound p edges =
    let four = four_bounds p edges in
    record { stages = greatest four; proof = proof_of p edges four (greatest four) }
