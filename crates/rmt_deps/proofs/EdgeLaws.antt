-- Edges, one after another.
use Rattle.std.proofs.Common.{◌≡◌, ◌↔◌, ℕ, zero, suc, ◌+◌, ◌-◌, ◌<◌, ◌≤◌, List, [], ◌∷◌, ◌++◌, length, get_or, take, map, Bool, true, false, cond, eqb, Option, Some, sym, ap, subst, ◌∙◌, inl, inr, arith}
use Rattle.std.specs.Prelude.{All, IsTrue, filter}
use Rattle.std.specs.List.{list_any, flat_map, range_with_len}
use Rattle.std.proofs.lemmas.Bool.{false≢true, cases_Bool, eqb-true, eq-eqb, cases_lt, false_from_ne_true}
use Rattle.std.proofs.lemmas.List.{map-append}
use Rattle.std.proofs.lemmas.List.Elements.{All-nil, All-cons, All-map, filter_more}
use Rattle.std.proofs.lemmas.List.Folds.{list_any_at, Any-from_list_any}
use Rattle.std.proofs.lemmas.Grind.{flat_map-append}
use Rattle.std.proofs.lemmas.List.{append-nil, length-append, get_or_append_left, get_or-append-add}
use Rattle.rmt_bits.proofs.AllLaws.{All-flat_map}
use Rattle.rmt_bits.proofs.ListLaws.{range_more}
use Rattle.rmt_bits.specs.declared.lane.Lane.{Lane}
use Rattle.rmt_bits.specs.Members.{is_among}
use Rattle.rmt_ast.specs.declared.program.Program.{Program}
use Rattle.rmt_ast.specs.declared.program.Guard.{Guard}
use Rattle.rmt_ast.specs.declared.deps.Edge.{Edge}
use Rattle.rmt_ast.specs.declared.deps.EdgeKind.{EdgeKind}
use Rattle.rmt_ast.specs.declared.deps.EdgeKind.TheVariants.{Match, Action, Successor, Reverse, Word}
use Rattle.rmt_phv.specs.Sets.{Meet}
use Rattle.rmt_deps.specs.Edges.{meet, depends, edge, edges_between, edges_from, edges_among, dependencies_of, on_different_arms, are_other_arms, guards_of, guard_of, guard_then, guards_up, GoesForward, GoForward}
use Rattle.rmt_deps.specs.NumberSets.{IsSet}

-- two sets meet where the lists of their numbers do
pub meet_is : (a b xs ys : List ℕ) (m : Bool) → IsSet a xs → IsSet b ys → (IsTrue m ↔ Meet a b) → m ≡ meet xs ys
meet_is a b xs ys m in_a in_b iff =
    elim (cases_Bool (meet xs ys)) [
      | inl some ↦ by_lists (Any-from_list_any (is_among ys) xs some) ∙ sym some
      | inr none ↦ false_from_ne_true m (λ is. by_sets none (iff.0 is)) ∙ sym none
    ]
  where
    by_lists : (k : ℕ) × (n : ℕ) × (k < length xs) × (get_or xs k n ≡ n) × (is_among ys n ≡ true) → m ≡ true
    by_lists (k, n, lt, is, other) =
        let here : is_among xs n ≡ true = list_any_at (λ x. eqb x n) xs k n lt (eq-eqb (get_or xs k n) n is) in
        iff.1 (n, (in_a n ∙ here, in_b n ∙ other))

    by_sets : meet xs ys ≡ false → Meet a b → ⊥
    by_sets none (n, both) =
        let first = Any-from_list_any (λ x. eqb x n) xs (sym (in_a n) ∙ both.0) in
        let is : first.1 ≡ n = eqb-true first.1 n first.4 in
        let pass : is_among ys (get_or xs first.0 first.1) ≡ true = ap (is_among ys) (first.3 ∙ is) ∙ sym (in_b n) ∙ both.1 in
        false≢true (sym none ∙ list_any_at (is_among ys) xs first.0 first.1 first.2 pass)

-- one kind more
pub kinds_more : (t : EdgeKind → Bool) (f : EdgeKind → Edge) (kinds : List EdgeKind) (i : ℕ) (d : EdgeKind) → i < length kinds
    → map f (filter t (take (i + 1) kinds)) ≡ map f (filter t (take i kinds)) ++ map f (filter t (get_or kinds i d ∷ []))
kinds_more t f kinds i d lt = ap (map f) (filter_more t kinds i d lt) ∙ map-append f (filter t (take i kinds)) (filter t (get_or kinds i d ∷ []))

-- the guards of two nodes, as they are kept, tell whether the nodes stand on different arms
pub arms_are : (p : Program) (a b : ℕ) (first second : List Guard) (m : Bool) → first ≡ guards_of p a → second ≡ guards_of p b
    → m ≡ list_any (λ g. list_any (are_other_arms g) second) first → on_different_arms p a b ≡ m
arms_are p a b first second m of_a of_b is =
    sym (is ∙ ap (λ (gs : List Guard). list_any (λ g. list_any (are_other_arms g) second) gs) of_a ∙ ap (λ (hs : List Guard). list_any (λ g. list_any (are_other_arms g) hs) (guards_of p a)) of_b)

-- what holds of each item and its place, after one more
pub each_more : {X : Type 0} (P : ℕ → X → Type 0) (xs : List X) (x : X) → ((n : ℕ) (d : X) → n < length xs → P n (get_or xs n d)) → P (length xs) x
    → (n : ℕ) (d : X) → n < length (xs ++ x ∷ []) → P n (get_or (xs ++ x ∷ []) n d)
each_more P xs x each here n d lt =
    elim (cases_lt n (length xs)) [
      | inl below ↦ subst (P n) (sym (get_or_append_left xs (x ∷ []) d n below)) (each n d below)
      | inr past ↦
          let last : length xs + 0 ≡ n = omega (arith, length-append xs (x ∷ []), lt) in
          let place : length xs ≡ n = omega arith in
          let is : x ≡ get_or (xs ++ x ∷ []) n d = sym (get_or-append-add xs (x ∷ []) 0 d) ∙ ap (λ k. get_or (xs ++ x ∷ []) k d) last in
          subst (λ k. P k (get_or (xs ++ x ∷ []) n d)) place (subst (P (length xs)) is here)
    ]

-- one number more
pub numbers_more : {X : Type 0} (f : ℕ → List X) (a n : ℕ) → flat_map f (range_with_len a (n + 1)) ≡ flat_map f (range_with_len a n) ++ f (a + n)
numbers_more f a n = ap (flat_map f) (range_more a n) ∙ flat_map-append f (range_with_len a n) ((a + n) ∷ []) ∙ ap (λ last. flat_map f (range_with_len a n) ++ last) (append-nil (f (a + n)))

-- the way up goes on at a parent, and ends at a node without one
pub up_more : (p : Program) (steps at : ℕ) (g : Guard) → 0 < steps → Some g ≡ guard_of p at → guards_up p steps at ≡ g ∷ guards_up p (steps - 1) g.parent
up_more p steps at g pos is =
    let some : steps ≡ suc (steps - 1) = omega arith in
    ap (λ k. guards_up p k at) some ∙ ap (λ (o : Option Guard). guard_then o (λ h. guards_up p (steps - 1) h.parent)) (sym is)

-- edges go from a node to a later one
range_forward : (p : Program) (places : List (List Lane)) (kinds : List EdgeKind) (a : ℕ) (first n : ℕ) → a < first → first + n ≤ length p.nodes
    → All (GoesForward (length p.nodes)) (flat_map (edges_between p places kinds a) (range_with_len first n))
range_forward p places kinds a first n lt le =
    All-flat_map (GoesForward (length p.nodes)) (edges_between p places kinds a) (range_with_len first n) (each first n lt le)
  where
    between : (b : ℕ) → a < b → b < length p.nodes → All (GoesForward (length p.nodes)) (edges_between p places kinds a b)
    between b later below = by (on_different_arms p a b)
      where
        by : (o : Bool) → All (GoesForward (length p.nodes)) (cond o [] (map (edge a b) (filter (λ k. depends p places k a b) kinds)))
        by true = All-nil (GoesForward (length p.nodes))
        by false = All-map (GoesForward (length p.nodes)) (edge a b) (filter (λ k. depends p places k a b) kinds) (λ k d in_range. record { later = later; is_node = below })

    each : (first n : ℕ) → a < first → first + n ≤ length p.nodes → All (λ b. All (GoesForward (length p.nodes)) (edges_between p places kinds a b)) (range_with_len first n)
    each first zero lt le = All-nil (λ b. All (GoesForward (length p.nodes)) (edges_between p places kinds a b))
    each first (suc n) lt le =
        All-cons (λ b. All (GoesForward (length p.nodes)) (edges_between p places kinds a b)) first (range_with_len (first + 1) n) (between first lt (omega arith)) (each (first + 1) n (omega arith) (omega arith))

among_forward : (p : Program) (places : List (List Lane)) (kinds : List EdgeKind) → All (GoesForward (length p.nodes)) (edges_among p places kinds)
among_forward p places kinds =
    All-flat_map (GoesForward (length p.nodes)) (edges_from p places kinds) (range_with_len 0 (length p.nodes)) (each 0 (length p.nodes) (omega arith))
  where
    each : (first n : ℕ) → first + n ≤ length p.nodes → All (λ a. All (GoesForward (length p.nodes)) (edges_from p places kinds a)) (range_with_len first n)
    each first zero le = All-nil (λ a. All (GoesForward (length p.nodes)) (edges_from p places kinds a))
    each first (suc n) le =
        All-cons (λ a. All (GoesForward (length p.nodes)) (edges_from p places kinds a)) first (range_with_len (first + 1) n)
        (range_forward p places kinds first (first + 1) (length p.nodes - (first + 1)) (omega arith) (omega arith)) (each (first + 1) n (omega arith))

-- the dependencies of a program go from nodes to later ones
pub go_forward : (p : Program) (places : List (List Lane)) → GoForward (length p.nodes) (dependencies_of p places)
go_forward p places = record { field = among_forward p places (Match ∷ Action ∷ Successor ∷ Reverse ∷ []); word = among_forward p places (Word ∷ []) }
