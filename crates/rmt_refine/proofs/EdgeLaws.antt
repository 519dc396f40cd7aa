-- No part of a node stands before a part of its parent, where the parts keep every edge.
use Rattle.std.proofs.Common.{◌≡◌, ℕ, zero, suc, ◌+◌, ◌-◌, ◌<◌, ◌≤◌, Bool, true, false, not, ◌&&◌, ◌||◌, ◌==◌, cond, List, [], ◌∷◌, ◌/◌, ◌%◌, ◌^◌, Option, Some, None, length, map, refl, sym, ap, ◌∙◌, subst, inl, inr, arith}
use Rattle.std.specs.Prelude.{All, Contains, MatchBool, bit_and, filter, slice_get, slice_index, ⊤}
use Rattle.std.specs.List.{list_any, range_with_len}
use Rattle.std.proofs.lemmas.Bool.{cases_eq, eq-eqb, eqb-true, false_from_ne_true, true_from_ne_false}
use Rattle.std.proofs.Math.Nat.{div-one, zero-div}
use Rattle.std.proofs.lemmas.Nat.{and_mod, and_shr}
use Rattle.std.proofs.lemmas.List.Elements.{All-contains_itself, All-contains}
use Rattle.std.proofs.lemmas.Option.{none-some, same_Some, slice_get_within}
use Rattle.rmt_bits.proofs.AllLaws.{All-left, All-parts, All-right, All-unmap}
use Rattle.rmt_bits.specs.declared.lane.Lane.{Lane}
use Rattle.rmt_ast.specs.declared.deps.Edge.{Edge}
use Rattle.rmt_ast.specs.declared.deps.EdgeKind.{EdgeKind}
use Rattle.rmt_ast.specs.declared.deps.EdgeKind.TheVariants as kind
use Rattle.rmt_refine.specs.Types.{Program, Node, Guard, Config}
use Rattle.rmt_ast.specs.declared.entry.Entry.{Entry}
use Rattle.rmt_ast.specs.Control.{run, runs}
use Rattle.rmt_ast.specs.WellFormed.{IsGuard, IsProgram}
use Rattle.rmt_deps.specs.Edges.{are_other_arms, depends, edge, edges_among, edges_between, edges_from, field_edges, guard_if, guard_of, guard_then, guards_of, guards_up, is_parent, on_different_arms, word_edges}
use Rattle.rmt_pack.specs.declared.placement.Part.{Part}
use Rattle.rmt_pack.specs.Placements.{Keeps, is_strict, quanta_in}
use Rattle.rmt_refine.specs.Carries.{EdgesKept, all_edges}
use Rattle.rmt_refine.specs.Outcomes.{ChildrenFollow, entries_at, node_outcome, run_before}
use Rattle.rmt_refine.specs.Units.{UnitsCarried}
use Rattle.rmt_pack.proofs.FindLaws.{Contains-range, Contains-range_from}
use Rattle.rmt_refine.proofs.NodeLaws.{part_there}
use Rattle.rmt_refine.proofs.FieldLaws.{Goes}
use Rattle.rmt_refine.proofs.RunLaws.{is_earlier, outcome_at}
use Rattle.rmt_bits.proofs.MemberLaws.{Contains-first, Contains-later, Contains-split, Contains-filter}
use Rattle.std.proofs.Math.Bool.{and-false}

-- ---- a node and its parent are not on different arms

-- parents fall
abbrev Fall : ℕ → List Guard → Type 0
Fall most [] = ⊤
Fall most (g ∷ gs) = (g.parent < most) × Fall g.parent gs

falls_then : (most : ℕ) (o : Option Guard) (rest : Guard → List Guard) → ((g : Guard) → o ≡ Some g → (g.parent < most) × Fall g.parent (rest g))
    → Fall most (guard_then o rest)
falls_then most None rest h = tt
falls_then most (Some g) rest h = h g refl

guard_there : (p : Program) (n : ℕ) (g : Guard) → guard_of p n ≡ Some g → (node : Node) × (slice_get p.nodes n ≡ Some node) × (node.guard ≡ Some g)
guard_there p n g e = by_node (slice_get p.nodes n) refl e
  where
    by_node : (o : Option Node) → slice_get p.nodes n ≡ o → guard_if o ≡ Some g → (node : Node) × (slice_get p.nodes n ≡ Some node) × (node.guard ≡ Some g)
    by_node None at h = absurd (none-some g h)
    by_node (Some x) at h = (x, at, h)

parent_less : (p : Program) (n : ℕ) (g : Guard) → IsProgram p → guard_of p n ≡ Some g → g.parent < n
parent_less p n g program e = let r = guard_there p n g e in is_earlier n r.0.guard g (program.nodes n r.0 r.1).guard r.2

guards_fall : (p : Program) (steps n : ℕ) → IsProgram p → Fall n (guards_up p steps n)
guards_fall p zero n program = tt
guards_fall p (suc steps) n program =
    falls_then n (guard_of p n) (λ g. guards_up p steps g.parent) (λ g e. (parent_less p n g program e, guards_fall p steps g.parent program))

same_then : (o : Option Guard) (f h : Guard → List Guard) → ((g : Guard) → o ≡ Some g → f g ≡ h g) → guard_then o f ≡ guard_then o h
same_then None f h same = refl
same_then (Some g) f h same = ap (λ gs. g ∷ gs) (same g refl)

none_up : (p : Program) (steps : ℕ) → IsProgram p → guards_up p steps 0 ≡ []
none_up p zero program = refl
none_up p (suc steps) program = no_guard (guard_of p 0) refl
  where
    no_guard : (o : Option Guard) → guard_of p 0 ≡ o → guard_then o (λ g. guards_up p steps g.parent) ≡ []
    no_guard None e = refl
    no_guard (Some g) e = let lt = parent_less p 0 g program e in absurd (omega (arith, lt))

-- more steps than there are nodes below lead no further
enough : (p : Program) (a b n : ℕ) → IsProgram p → n ≤ a → n ≤ b → guards_up p a n ≡ guards_up p b n
enough p zero b n program la lb =
    let e : n ≡ 0 = omega (arith, la) in
    ap (guards_up p 0) e ∙ sym (none_up p b program) ∙ ap (guards_up p b) (sym e)
enough p (suc a) zero n program la lb =
    let e : n ≡ 0 = omega (arith, lb) in
    ap (guards_up p (suc a)) e ∙ none_up p (suc a) program ∙ ap (guards_up p 0) (sym e)
enough p (suc a) (suc b) n program la lb =
    same_then (guard_of p n) (λ g. guards_up p a g.parent) (λ g. guards_up p b g.parent)
    (λ g e. let lt = parent_less p n g program e in enough p a b g.parent program (omega (arith, lt, la)) (omega (arith, lt, lb)))

all_less : (most : ℕ) (gs : List Guard) (x : Guard) → Fall most gs → Contains gs x → x.parent < most
all_less most [] x fall there = absurd (let lt = there.1 in omega (arith, lt))
all_less most (g ∷ gs) x fall there =
    elim (Contains-split g gs x there) [
      | inl e ↦ subst (λ (y : Guard). y.parent < most) e fall.0
      | inr later ↦ let lt = all_less g.parent gs x fall.1 later in let less = fall.0 in omega (arith, lt, less)
    ]

-- guards with one parent on the way up are the same
one_parent : (most : ℕ) (gs : List Guard) (x y : Guard) → Fall most gs → Contains gs x → Contains gs y → x.parent ≡ y.parent → x ≡ y
one_parent most [] x y fall cx cy same = absurd (let lt = cx.1 in omega (arith, lt))
one_parent most (g ∷ gs) x y fall cx cy same =
    elim (Contains-split g gs x cx) [
      | inl ex ↦ elim (Contains-split g gs y cy) [
        | inl ey ↦ sym ex ∙ ey
        | inr later ↦
            let e : g.parent ≡ y.parent = ap (λ (z : Guard). z.parent) ex ∙ same in
            absurd (omega (arith, all_less g.parent gs y fall.1 later, e))
      ]
      | inr more ↦ elim (Contains-split g gs y cy) [
        | inl ey ↦
            let e : x.parent ≡ g.parent = same ∙ sym (ap (λ (z : Guard). z.parent) ey) in
            absurd (omega (arith, all_less g.parent gs x fall.1 more, e))
        | inr later ↦ one_parent g.parent gs x y fall.1 more later same
      ]
    ]

any_none : {X : Type 0} (test : X → Bool) (xs : List X) → ((x : X) → Contains xs x → test x ≡ false) → list_any test xs ≡ false
any_none test [] h = refl
any_none test (x ∷ xs) h =
    ap (λ b. b || list_any test xs) (h x (Contains-first x xs)) ∙ any_none test xs (λ y there. h y (Contains-later x xs y there))

other_parent : (x y : Guard) → (x.parent ≡ y.parent → ⊥) → are_other_arms x y ≡ false
other_parent x y ne =
    let e : (x.parent == y.parent) ≡ false = false_from_ne_true (x.parent == y.parent) (λ h. ne (eqb-true x.parent y.parent h)) in
    ap (λ b. b && not (x.mask == y.mask) && (bit_and x.mask y.mask == 0)) e

same_arm : (x y : Guard) → x ≡ y → are_other_arms x y ≡ false
same_arm x y e =
    let mask : (x.mask == y.mask) ≡ true = eq-eqb x.mask y.mask (ap (λ (z : Guard). z.mask) e) in
    ap (λ b. (x.parent == y.parent) && not b && (bit_and x.mask y.mask == 0)) mask ∙ never_both (x.parent == y.parent) (bit_and x.mask y.mask == 0)
  where
    never_both : (a b : Bool) → (a && false && b) ≡ false
    never_both true b = refl
    never_both false b = refl

-- the guards of a node with a guard are that and its parent's
own_guards : (p : Program) (n : ℕ) (g : Guard) → IsProgram p → guard_of p n ≡ Some g → guards_of p n ≡ g ∷ guards_of p g.parent
own_guards p zero g program e = let lt = parent_less p 0 g program e in absurd (omega (arith, lt))
own_guards p (suc n) g program e =
    ap (λ o. guard_then o (λ h. guards_up p n h.parent)) e
    ∙ ap (λ gs. g ∷ gs) (enough p n g.parent g.parent program (omega (arith, parent_less p (suc n) g program e)) (omega arith))

parent_beside : (p : Program) (n : ℕ) (g : Guard) → IsProgram p → guard_of p n ≡ Some g → on_different_arms p g.parent n ≡ false
parent_beside p n g program e =
    let q = g.parent in
    let up = guards_of p q in
    let fall = guards_fall p q q program in
    ap (λ gs. list_any (λ x. list_any (are_other_arms x) gs) up) (own_guards p n g program e)
    ∙ any_none (λ x. list_any (are_other_arms x) (g ∷ up)) up (λ x cx.
    any_none (are_other_arms x) (g ∷ up) (λ y cy.
    elim (Contains-split g up y cy) [
      | inl ey ↦
          let lt = all_less q up x fall cx in
          other_parent x y (λ same. let eq : x.parent ≡ q = same ∙ sym (ap (λ (z : Guard). z.parent) ey) in omega (arith, lt, eq))
      | inr later ↦ elim (cases_eq x.parent y.parent) [
        | inl same ↦ same_arm x y (one_parent q up x y fall cx later same)
        | inr ne ↦ other_parent x y ne
      ]
    ]))

-- ---- the edge of a parent

edge_among : (p : Program) (places : List (List Lane)) (P : Edge → Type 0) (kinds : List EdgeKind) (a b : ℕ) (k : EdgeKind) → a < b → b < length p.nodes → on_different_arms p a b ≡ false
    → Contains kinds k → depends p places k a b ≡ true → All P (edges_among p places kinds) → P (edge a b k)
edge_among p places P kinds a b k lt within beside there is all =
    let from = All-contains (λ x. All P (edges_from p places kinds x)) (range_with_len 0 (length p.nodes)) a
    (All-parts P (edges_from p places kinds) (range_with_len 0 (length p.nodes)) all) (Contains-range (length p.nodes) a (omega (arith, lt, within))) in
    let place : a + 1 + (b - (a + 1)) ≡ b = omega (arith, lt) in
    let later = range_with_len (a + 1) (length p.nodes - (a + 1)) in
    let one = subst (Contains later) place (Contains-range_from (a + 1) (length p.nodes - (a + 1)) (b - (a + 1)) (omega (arith, lt, within))) in
    let between = All-contains (λ y. All P (edges_between p places kinds a y)) later b (All-parts P (edges_between p places kinds a) later from) one in
    let edges = filter (λ x. depends p places x a b) kinds in
    let own = subst (λ c. All P (cond c [] (map (edge a b) edges))) beside between in
    All-contains (λ x. P (edge a b x)) edges k (All-unmap P (edge a b) edges own) (Contains-filter (λ x. depends p places x a b) kinds k there is)

-- a field edge between two nodes, and a word edge
pub field_edge : (p : Program) (places : List (List Lane)) (P : Edge → Type 0) (a b : ℕ) (k : EdgeKind) → a < b → b < length p.nodes → on_different_arms p a b ≡ false
    → Contains (kind.Match ∷ kind.Action ∷ kind.Successor ∷ kind.Reverse ∷ []) k → depends p places k a b ≡ true → All P (all_edges p places) → P (edge a b k)
field_edge p places P a b k lt within beside there is all =
    edge_among p places P (kind.Match ∷ kind.Action ∷ kind.Successor ∷ kind.Reverse ∷ []) a b k lt within beside there is (All-left P (field_edges p places) (word_edges p places) all)

pub word_edge : (p : Program) (places : List (List Lane)) (P : Edge → Type 0) (a b : ℕ) → a < b → b < length p.nodes → on_different_arms p a b ≡ false
    → depends p places kind.Word a b ≡ true → All P (all_edges p places) → P (edge a b kind.Word)
word_edge p places P a b lt within beside is all =
    edge_among p places P (kind.Word ∷ []) a b kind.Word lt within beside (0, omega arith, refl) is (All-right P (field_edges p places) (word_edges p places) all)

parent_edge : (p : Program) (places : List (List Lane)) (P : Edge → Type 0) (n : ℕ) (g : Guard) → IsProgram p → n < length p.nodes → guard_of p n ≡ Some g
    → All P (all_edges p places) → P (edge g.parent n kind.Successor)
parent_edge p places P n g program within e all =
    field_edge p places P g.parent n kind.Successor (parent_less p n g program e) within (parent_beside p n g program e) (2, omega arith, refl)
    (ap (is_parent g.parent) e ∙ eq-eqb g.parent g.parent refl) all

-- stages of two nodes that an edge joins are in its order
pub in_order : (p : Program) (places : List (List Lane)) (parts : List Part) (starts : List ℕ) (c : Config) → UnitsCarried p places parts starts c
    → EdgesKept (all_edges p places) parts starts → (e : Edge) (j k : ℕ) → Contains (all_edges p places) e → 0 < quanta_in parts e.from j → 0 < quanta_in parts e.to k
    → MatchBool (is_strict e.kind) (j < k) (j ≤ k)
in_order p places parts starts c units kept e j k there some_j some_k =
    let a = part_there parts e.from j some_j in
    let b = part_there parts e.to k some_k in
    let Own : Part → Type 0 = λ x. (x.node < length p.nodes) × (x.stage < length c.stages) × (0 < x.quanta) in
    let own_a = All-contains Own parts a.0 units.no_other a.1 in
    let own_b = All-contains Own parts b.0 units.no_other b.1 in
    let all = All-contains (λ (x : Edge). All (λ (y : Part). All (Keeps x y) parts) parts) (all_edges p places) e kept.order there in
    let one = All-contains (λ (y : Part). All (Keeps e y) parts) parts a.0 all a.1 in
    let kept_there = All-contains (Keeps e a.0) parts b.0 one b.1 a.2 b.2 own_a.2 own_b.2 in
    subst (λ i. MatchBool (is_strict e.kind) (i < k) (i ≤ k)) a.3 (subst (λ i. MatchBool (is_strict e.kind) (a.0.stage < i) (a.0.stage ≤ i)) b.3 kept_there)

pub children_follow : (p : Program) (places : List (List Lane)) (parts : List Part) (starts : List ℕ) (c : Config) → IsProgram p → UnitsCarried p places parts starts c
    → EdgesKept (all_edges p places) parts starts → ChildrenFollow p parts
children_follow p places parts starts c program units kept n node g at is j k some_j some_k =
    let e : guard_of p n ≡ Some g = ap guard_if at ∙ is in
    let there = parent_edge p places (Contains (all_edges p places)) n g program (slice_get_within p.nodes n node at) e (All-contains_itself (all_edges p places)) in
    in_order p places parts starts c units kept (edge g.parent n kind.Successor) j k there some_j some_k

-- ---- two nodes that both run

masks_meet : (x y i : ℕ) → x / 2 ^ i % 2 ≡ 1 → y / 2 ^ i % 2 ≡ 1 → bit_and x y ≡ 0 → ⊥
masks_meet x y i hx hy none =
    let one : bit_and x y / 2 ^ i % 2 ^ 1 ≡ bit_and (x / 2 ^ i % 2 ^ 1) (y / 2 ^ i % 2 ^ 1) =
    ap (λ n. n % 2 ^ 1) (and_shr x y i) ∙ and_mod (x / 2 ^ i) (y / 2 ^ i) 1 in
    let both : bit_and (x / 2 ^ i % 2 ^ 1) (y / 2 ^ i % 2 ^ 1) ≡ 1 = ap (λ n. bit_and n (y / 2 ^ i % 2)) hx ∙ ap (bit_and 1) hy in
    let zero_is : bit_and x y / 2 ^ i % 2 ^ 1 ≡ 0 = ap (λ n. n / 2 ^ i % 2) none ∙ ap (λ n. n % 2) (zero-div (2 ^ i)) in
    let clash : 1 ≡ 0 = sym both ∙ sym one ∙ zero_is in
    omega (arith, clash)

other_arm : (o : List ℕ) (g h : Guard) → g.mask / 2 ^ slice_index o g.parent % 2 ≡ 1 → h.mask / 2 ^ slice_index o h.parent % 2 ≡ 1 → are_other_arms g h ≡ false
other_arm o g h pass_g pass_h = elim (cases_eq g.parent h.parent) [
  | inl same ↦
      let there : h.mask / 2 ^ slice_index o g.parent % 2 ≡ 1 = ap (λ q. h.mask / 2 ^ slice_index o q % 2) same ∙ pass_h in
      let none : (bit_and g.mask h.mask == 0) ≡ false =
      false_from_ne_true (bit_and g.mask h.mask == 0) (λ e. masks_meet g.mask h.mask (slice_index o g.parent) pass_g there (eqb-true (bit_and g.mask h.mask) 0 e)) in
      ap (λ b. (g.parent == h.parent) && not (g.mask == h.mask) && b) none ∙ and-false ((g.parent == h.parent) && not (g.mask == h.mask))
  | inr ne ↦ other_parent g h ne
]

even_mask : (mask o : ℕ) → mask % 2 ≡ 0 → o ≡ 0 → mask / 2 ^ o % 2 ≡ 1 → ⊥
even_mask mask o even none pass =
    let e : mask / 2 ^ o ≡ mask = ap (λ x. mask / 2 ^ x) none ∙ div-one mask in
    let clash : 1 ≡ 0 = sym pass ∙ ap (λ x. x % 2) e ∙ even in
    omega (arith, clash)

guard_even : (n : ℕ) (g : Option Guard) (h : Guard) → IsGuard n g → g ≡ Some h → h.mask % 2 ≡ 0
guard_even n None h is e = absurd (none-some h e)
guard_even n (Some x) h is e = subst (λ (y : Guard). y.mask % 2 ≡ 0) (same_Some x h e) is.1

-- the parent of a node that runs has run
parent_goes : (p : Program) (lists : List (List Entry)) (s : List ℕ) → IsProgram p → (n : ℕ) (node : Node) (g : Guard) → slice_get p.nodes n ≡ Some node → node.guard ≡ Some g
    → g.mask / 2 ^ slice_index (run p lists s).outcomes g.parent % 2 ≡ 1 → Goes p lists s g.parent
parent_goes p lists s program n node g at is pass x at_x =
    let out = (run p lists s).outcomes in
    true_from_ne_false (runs x.guard out) (λ off.
    even_mask g.mask (slice_index out g.parent) (guard_even n node.guard g (program.nodes n node at).guard is)
    (outcome_at p lists s g.parent x program at_x
    ∙ ap (λ b. cond b (node_outcome p (entries_at lists g.parent) (run_before p lists s g.parent).state x.what) 0) off) pass)

passes_then : (p : Program) (lists : List (List Entry)) (s : List ℕ) → IsProgram p → (steps n : ℕ) → Goes p lists s n → (o : Option Guard) → guard_of p n ≡ o
    → (g : Guard) → Contains (guard_then o (λ h. guards_up p steps h.parent)) g
    → ((q : ℕ) → Goes p lists s q → (h : Guard) → Contains (guards_up p steps q) h → h.mask / 2 ^ slice_index (run p lists s).outcomes h.parent % 2 ≡ 1)
    → g.mask / 2 ^ slice_index (run p lists s).outcomes g.parent % 2 ≡ 1
passes_then p lists s program steps n goes None e g there rest = absurd (let lt = there.1 in omega (arith, lt))
passes_then p lists s program steps n goes (Some h) e g there rest =
    let out = (run p lists s).outcomes in
    let r = guard_there p n h e in
    let pass : runs (Some h) out ≡ true = subst (λ o. runs o out ≡ true) r.2 (goes r.0 r.1) in
    let own : h.mask / 2 ^ slice_index out h.parent % 2 ≡ 1 = eqb-true (h.mask / 2 ^ slice_index out h.parent % 2) 1 pass in
    elim (Contains-split h (guards_up p steps h.parent) g there) [
      | inl same ↦ subst (λ (x : Guard). x.mask / 2 ^ slice_index out x.parent % 2 ≡ 1) same own
      | inr later ↦ rest h.parent (parent_goes p lists s program n r.0 h r.1 r.2 own) g later
    ]

passes_up : (p : Program) (lists : List (List Entry)) (s : List ℕ) → IsProgram p → (steps n : ℕ) → Goes p lists s n → (g : Guard) → Contains (guards_up p steps n) g
    → g.mask / 2 ^ slice_index (run p lists s).outcomes g.parent % 2 ≡ 1
passes_up p lists s program zero n goes g there = absurd (let lt = there.1 in omega (arith, lt))
passes_up p lists s program (suc steps) n goes g there =
    passes_then p lists s program steps n goes (guard_of p n) refl g there (λ q goes_q h in_q. passes_up p lists s program steps q goes_q h in_q)

-- two nodes that both run don't stand on different arms
pub run_beside : (p : Program) (lists : List (List Entry)) (s : List ℕ) (a b : ℕ) → IsProgram p → Goes p lists s a → Goes p lists s b → on_different_arms p a b ≡ false
run_beside p lists s a b program goes_a goes_b =
    any_none (λ g. list_any (are_other_arms g) (guards_of p b)) (guards_of p a) (λ g in_a.
    any_none (are_other_arms g) (guards_of p b) (λ h in_b.
    other_arm (run p lists s).outcomes g h (passes_up p lists s program a a goes_a g in_a) (passes_up p lists s program b b goes_b h in_b)))
