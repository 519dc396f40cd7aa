-- A level is the greatest number of strict edges on a path.
use Rattle.std.proofs.Common.{◌≡◌, ℕ, zero, suc, ◌+◌, ◌<◌, ◌≤◌, List, [], ◌∷◌, ◌++◌, length, get_or, Bool, true, false, cond, eqb, max, refl, sym, ap, subst, ◌∙◌, inl, inr, arith}
use Rattle.std.specs.Prelude.{All, Contains, filter}
use Rattle.std.proofs.lemmas.Bool.{eq-eqb, eqb-true, cases_eq}
use Rattle.std.proofs.lemmas.List.{length-append, get_or_append_left, get_or-append-add}
use Rattle.std.proofs.lemmas.List.Elements.{All-contains, All-append, Contains-get_or}
use Rattle.std.proofs.lemmas.List.Sums.{sum_by-cons}
use Rattle.rmt_bits.proofs.MemberLaws.{Contains-filter, Contains-unfilter}
use Rattle.rmt_bits.proofs.MostLaws.{greatest-le, items-le, max-either, picked}
use Rattle.rmt_ast.specs.declared.deps.Edge.{Edge}
use Rattle.rmt_ast.specs.declared.deps.Deps.{Deps}
use Rattle.rmt_deps.specs.Edges.{GoesForward, GoForward}
use Rattle.rmt_deps.specs.Levels.{is_strict, all_edges, IsPathTo, strict_edges, level_behind, greatest_behind, levels_of}

-- an edge counts 1 where it is strict
abbrev weight : Edge → ℕ
weight e = cond (is_strict e.kind) 1 0

weight_small : (e : Edge) → weight e ≤ 1
weight_small e = by (is_strict e.kind)
  where
    by : (b : Bool) → cond b 1 0 ≤ 1
    by true = omega arith
    by false = omega arith

-- ---- the levels of the first nodes

pub length-levels_of : (deps : Deps) (n : ℕ) → length (levels_of deps n) ≡ n
length-levels_of deps zero = refl
length-levels_of deps (suc n) =
    let before = levels_of deps n in
    let next : List ℕ = greatest_behind before (filter (λ (e : Edge). eqb e.to n) (all_edges deps)) ∷ [] in
    omega (arith, length-append before next, length-levels_of deps n)

-- the level of a node, by those before it
abbrev own_level : Deps → ℕ → ℕ
own_level deps n = greatest_behind (levels_of deps n) (filter (λ (e : Edge). eqb e.to n) (all_edges deps))

pub level_is : (deps : Deps) (nodes n : ℕ) → n < nodes → get_or (levels_of deps nodes) n 0 ≡ own_level deps n
level_is deps zero n lt = absurd (omega (arith, lt))
level_is deps (suc m) n lt =
    let before = levels_of deps m in
    let long = length-levels_of deps m in
    elim (cases_eq n m) [
      | inl same ↦
          let last : get_or (before ++ own_level deps m ∷ []) (length before + 0) 0 ≡ own_level deps m = get_or-append-add before (own_level deps m ∷ []) 0 0 in
          let place : length before + 0 ≡ n = omega arith in
          sym (ap (λ k. get_or (before ++ own_level deps m ∷ []) k 0) place) ∙ last ∙ ap (own_level deps) (sym same)
      | inr other ↦ get_or_append_left before (own_level deps m ∷ []) 0 n (omega arith) ∙ level_is deps m n (omega arith)
    ]

-- the level behind an edge from an earlier node
behind_is : (deps : Deps) (nodes n : ℕ) (e : Edge) → e.from < n → n < nodes → level_behind (levels_of deps n) e ≡ level_behind (levels_of deps nodes) e
behind_is deps nodes n e lt below =
    ap (λ k. k + weight e) (level_is deps n e.from lt ∙ sym (level_is deps nodes e.from (omega arith)))

-- ---- paths

-- every edge goes forward
pub edges_forward : (deps : Deps) (nodes : ℕ) → GoForward nodes deps → All (GoesForward nodes) (all_edges deps)
edges_forward deps nodes h = All-append (GoesForward nodes) deps.field deps.word h.field h.word

edge-le : (deps : Deps) (nodes : ℕ) → GoForward nodes deps → (e : Edge) → Contains (all_edges deps) e → level_behind (levels_of deps nodes) e ≤ get_or (levels_of deps nodes) e.to 0
edge-le deps nodes h e inside =
    let goes = All-contains (GoesForward nodes) (all_edges deps) e (edges_forward deps nodes h) inside in
    let edges : List Edge = filter (λ (x : Edge). eqb x.to e.to) (all_edges deps) in
    let kept = Contains-filter (λ (x : Edge). eqb x.to e.to) (all_edges deps) e inside (eq-eqb e.to e.to refl) in
    let le = items-le (level_behind (levels_of deps e.to)) 0 edges kept.0 e kept.1 in
    let le_e : level_behind (levels_of deps e.to) e ≤ own_level deps e.to = subst (λ (x : Edge). level_behind (levels_of deps e.to) x ≤ own_level deps e.to) kept.2 le in
    omega (arith, le_e, behind_is deps nodes e.to e goes.later goes.is_node, level_is deps nodes e.to goes.is_node)

strict_edges-cons : (e : Edge) (path : List Edge) → strict_edges (e ∷ path) ≡ weight e + strict_edges path
strict_edges-cons e path = sum_by-cons (λ (x : Edge). cond (is_strict x.kind) 1 0) e path

-- no path to a node has more strict edges than its level
pub path-le : (deps : Deps) (nodes : ℕ) → GoForward nodes deps → (n : ℕ) (path : List Edge) → IsPathTo deps n path → strict_edges path ≤ get_or (levels_of deps nodes) n 0
path-le deps nodes h n [] is = omega arith
path-le deps nodes h n (e ∷ path) is =
    let rest = path-le deps nodes h e.from path is.2 in
    let le = edge-le deps nodes h e is.0 in
    let le_n : level_behind (levels_of deps nodes) e ≤ get_or (levels_of deps nodes) n 0 = subst (λ k. level_behind (levels_of deps nodes) e ≤ get_or (levels_of deps nodes) k 0) is.1 le in
    omega (arith, rest, le_n, strict_edges-cons e path)

-- and some path has as many
pub path_there : (deps : Deps) (nodes : ℕ) → GoForward nodes deps → (steps n : ℕ) → n < steps → n < nodes
    → (path : List Edge) × (IsPathTo deps n path) × (strict_edges path ≡ get_or (levels_of deps nodes) n 0)
path_there deps nodes h zero n lt below = absurd (omega (arith, lt))
path_there deps nodes h (suc steps) n lt below =
    elim (picked max max-either (level_behind (levels_of deps n)) 0 (filter (λ (x : Edge). eqb x.to n) (all_edges deps))) [
      | inl none ↦ ([], tt, sym (level_is deps nodes n below ∙ none))
      | inr some ↦ longer (λ m m_lt m_below. path_there deps nodes h steps m m_lt m_below) some.0 some.1 some.2
    ]
  where
    longer : ((m : ℕ) → m < steps → m < nodes → (path : List Edge) × (IsPathTo deps m path) × (strict_edges path ≡ get_or (levels_of deps nodes) m 0))
        → (e : Edge) → Contains (filter (λ (x : Edge). eqb x.to n) (all_edges deps)) e → own_level deps n ≡ level_behind (levels_of deps n) e
        → (path : List Edge) × (IsPathTo deps n path) × (strict_edges path ≡ get_or (levels_of deps nodes) n 0)
    longer earlier e inside is =
        let there = Contains-unfilter (λ (x : Edge). eqb x.to n) (all_edges deps) e inside in
        let ends : e.to ≡ n = eqb-true e.to n there.1 in
        let goes = All-contains (GoesForward nodes) (all_edges deps) e (edges_forward deps nodes h) there.0 in
        let rest = earlier e.from (omega (arith, goes.later, ends)) (omega (arith, goes.later, ends)) in
        (e ∷ rest.0, (there.0, ends, rest.1), omega (arith, strict_edges-cons e rest.0, rest.2, is, level_is deps nodes n below, behind_is deps nodes n e (omega (arith, goes.later, ends)) below))

-- ---- a list of levels while it is made

-- the edges that end in a node begin before it
pub starts_before : (deps : Deps) (nodes n : ℕ) → GoForward nodes deps → All (λ (e : Edge). e.from < n) (filter (λ (e : Edge). eqb e.to n) (all_edges deps))
starts_before deps nodes n h k d lt = of_edge (get_or (filter (λ (e : Edge). eqb e.to n) (all_edges deps)) k d) (Contains-get_or (filter (λ (e : Edge). eqb e.to n) (all_edges deps)) k d lt)
  where
    of_edge : (e : Edge) → Contains (filter (λ (x : Edge). eqb x.to n) (all_edges deps)) e → e.from < n
    of_edge e inside =
        let there = Contains-unfilter (λ (x : Edge). eqb x.to n) (all_edges deps) e inside in
        let goes = All-contains (GoesForward nodes) (all_edges deps) e (edges_forward deps nodes h) there.0 in
        omega (arith, goes.later, eqb-true e.to n there.1)

-- a level is at most the node's number
pub IsSmall-levels_of : (deps : Deps) (nodes : ℕ) → GoForward nodes deps → (n : ℕ) → n ≤ nodes → (k : ℕ) → k < n → get_or (levels_of deps n) k 0 ≤ k
IsSmall-levels_of deps nodes h zero le k lt = absurd (omega (arith, lt))
IsSmall-levels_of deps nodes h (suc n) le k lt =
    elim (cases_eq k n) [
      | inl same ↦
          let small = greatest-le (level_behind (levels_of deps n)) 0 n (filter (λ (e : Edge). eqb e.to n) (all_edges deps)) (omega arith) (each (λ m m_lt. IsSmall-levels_of deps nodes h n (omega arith) m m_lt)) in
          omega (arith, level_is deps (suc n) k lt, ap (own_level deps) same, small)
      | inr other ↦
          let small = IsSmall-levels_of deps nodes h n (omega arith) k (omega arith) in
          omega (arith, level_is deps (suc n) k lt, level_is deps n k (omega arith), small)
    ]
  where
    each : ((m : ℕ) → m < n → get_or (levels_of deps n) m 0 ≤ m) → All (λ e. level_behind (levels_of deps n) e ≤ n) (filter (λ (e : Edge). eqb e.to n) (all_edges deps))
    each earlier i d lt = of_edge (get_or (filter (λ (e : Edge). eqb e.to n) (all_edges deps)) i d) (Contains-get_or (filter (λ (e : Edge). eqb e.to n) (all_edges deps)) i d lt)
      where
        of_edge : (e : Edge) → Contains (filter (λ (x : Edge). eqb x.to n) (all_edges deps)) e → level_behind (levels_of deps n) e ≤ n
        of_edge e inside =
            let there = Contains-unfilter (λ (x : Edge). eqb x.to n) (all_edges deps) e inside in
            let ends : e.to ≡ n = eqb-true e.to n there.1 in
            let goes = All-contains (GoesForward nodes) (all_edges deps) e (edges_forward deps nodes h) there.0 in
            let small = earlier e.from (omega (arith, goes.later, ends)) in
            let one = weight_small e in
            omega (arith, small, one, goes.later, ends)
