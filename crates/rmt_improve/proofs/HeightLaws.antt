-- A node's height is the greatest number of strict edges on a path that begins in it.
use Rattle.std.proofs.Common.{◌≡◌, ℕ, ◌+◌, ◌-◌, ◌<◌, ◌≤◌, List, [], ◌∷◌, get_or, map, cond, refl, sym, subst, ap, ◌∙◌, arith}
use Rattle.std.specs.Prelude.{Contains}
use Rattle.std.proofs.lemmas.List.{get_or-reverse, map-append}
use Rattle.std.proofs.lemmas.List.Elements.{All-contains}
use Rattle.std.proofs.lemmas.List.Sums.{sum_by-cons}
use Rattle.rmt_bits.proofs.MemberLaws.{Contains-map, Contains-unmap}
use Rattle.rmt_ast.specs.declared.deps.Edge.{Edge}
use Rattle.rmt_ast.specs.declared.deps.Deps.{Deps}
use Rattle.rmt_deps.specs.Edges.{GoesForward, GoForward}
use Rattle.rmt_deps.specs.Levels.{IsPathTo, all_edges, is_strict, levels_of, strict_edges}
use Rattle.rmt_deps.proofs.LevelLaws.{edges_forward, length-levels_of, path-le, path_there}
use Rattle.rmt_improve.specs.Orders.{IsPathFrom, heights_of, turned, turned_deps}
use Rattle.rmt_improve.proofs.TryLaws.{turned_deps_forward}

-- an edge counts 1 where it is strict
abbrev weight : Edge → ℕ
weight e = cond (is_strict e.kind) 1 0

-- ---- paths of turned edges

-- all edges that are turned
all_turned : (nodes : ℕ) (deps : Deps) → all_edges (turned_deps nodes deps) ≡ map (turned nodes) (all_edges deps)
all_turned nodes deps = sym (map-append (turned nodes) deps.field deps.word)

strict-turned : (nodes : ℕ) (path : List Edge) → strict_edges (map (turned nodes) path) ≡ strict_edges path
strict-turned nodes [] = refl
strict-turned nodes (e ∷ path) =
    omega (arith, sum_by-cons weight (turned nodes e) (map (turned nodes) path), sum_by-cons weight e path, strict-turned nodes path)

path-turned : (nodes : ℕ) (deps : Deps) (n : ℕ) (path : List Edge) → IsPathFrom deps n path → IsPathTo (turned_deps nodes deps) (nodes - 1 - n) (map (turned nodes) path)
path-turned nodes deps n [] is = tt
path-turned nodes deps n (e ∷ path) is = (
  subst (λ (es : List Edge). Contains es (turned nodes e)) (sym (all_turned nodes deps)) (Contains-map (turned nodes) (all_edges deps) e is.0),
  ap (λ m. nodes - 1 - m) is.1,
  path-turned nodes deps e.to path is.2,
)

path-back : (nodes : ℕ) (deps : Deps) → GoForward nodes deps → (n : ℕ) (path : List Edge) → n < nodes → IsPathTo (turned_deps nodes deps) (nodes - 1 - n) path
    → (own : List Edge) × IsPathFrom deps n own × (strict_edges own ≡ strict_edges path)
path-back nodes deps forward n [] lt is = ([], tt, refl)
path-back nodes deps forward n (t ∷ path) lt is =
    let there = Contains-unmap (turned nodes) (all_edges deps) t (subst (λ (es : List Edge). Contains es t) (all_turned nodes deps) is.0) in
    let e = there.0 in
    let goes = All-contains (GoesForward nodes) (all_edges deps) e (edges_forward deps nodes forward) there.1 in
    let ends : (turned nodes e).to ≡ nodes - 1 - n = ap (λ (x : Edge). x.to) there.2 ∙ is.1 in
    let begins : e.from ≡ n = (let later = goes.later in let below = goes.is_node in omega (arith, ends)) in
    let from : t.from ≡ nodes - 1 - e.to = ap (λ (x : Edge). x.from) (sym there.2) in
    let rest = path-back nodes deps forward e.to path goes.is_node (subst (λ m. IsPathTo (turned_deps nodes deps) m path) from is.2) in
    let kind = ap weight there.2 in (
      e ∷ rest.0,
      (there.1, begins, rest.1),
      omega (arith, sum_by-cons weight e rest.0, sum_by-cons weight t path, rest.2, kind),
    )

-- ---- heights

height_is : (deps : Deps) (nodes n : ℕ) → n < nodes → get_or (heights_of deps nodes) n 0 ≡ get_or (levels_of (turned_deps nodes deps) nodes) (nodes - 1 - n) 0
height_is deps nodes n lt =
    let levels = levels_of (turned_deps nodes deps) nodes in
    let size = length-levels_of (turned_deps nodes deps) nodes in
    get_or-reverse levels n 0 (omega (arith, size, lt)) ∙ ap (λ m. get_or levels (m - 1 - n) 0) size

-- no path that begins in a node has more strict edges than its height
pub height-most : (deps : Deps) (nodes n : ℕ) (path : List Edge) → GoForward nodes deps → n < nodes → IsPathFrom deps n path → strict_edges path ≤ get_or (heights_of deps nodes) n 0
height-most deps nodes n path forward lt is =
    let turned_path = map (turned nodes) path in
    let le = path-le (turned_deps nodes deps) nodes (turned_deps_forward nodes deps forward) (nodes - 1 - n) turned_path (path-turned nodes deps n path is) in
    omega (arith, le, strict-turned nodes path, height_is deps nodes n lt)

-- and some path has as many
pub height-reached : (deps : Deps) (nodes n : ℕ) → GoForward nodes deps → n < nodes
    → (path : List Edge) × IsPathFrom deps n path × (strict_edges path ≡ get_or (heights_of deps nodes) n 0)
height-reached deps nodes n forward lt =
    let far = path_there (turned_deps nodes deps) nodes (turned_deps_forward nodes deps forward) (nodes - 1 - n + 1) (nodes - 1 - n) (omega arith) (omega arith) in
    let own = path-back nodes deps forward n far.0 lt far.1 in
    (own.0, own.1, own.2 ∙ (far.2 ∙ sym (height_is deps nodes n lt)))
