-- Orders by weight are good, and so is a good one with two neighbours exchanged that no edge joins.
use Rattle.std.proofs.Common.{◌≡◌, ◌≢◌, ℕ, zero, suc, ◌+◌, ◌<◌, ◌≤◌, ◌⊎◌, inl, inr, List, [], ◌∷◌, ◌++◌, length, get_or, Bool, true, false, not, cond, eqb, ◌&&◌, ◌||◌, length-append, sym, refl, subst, ap, ◌∙◌, arith}
use Rattle.std.specs.List.{All, AllPairs, Contains, best_of, list_any, range_with_len, swap}
use Rattle.std.proofs.lemmas.Bool.{and_parts, cases_Bool, cases_eq, eq-eqb, eqb-true, false≢true, not-true, or_cases}
use Rattle.std.proofs.lemmas.Bool.Decides.{Decides-eqb}
use Rattle.std.proofs.lemmas.List.{get_or_default}
use Rattle.std.proofs.lemmas.List.Edits.{length-swap, swapped_from_swap}
use Rattle.std.proofs.lemmas.List.Elements.{All-nil, All-cons, All-append, All-contains, All-contains_itself, Contains-get_or}
use Rattle.std.proofs.lemmas.List.Folds.{Any-from_list_any, list_any-append}
use Rattle.std.proofs.lemmas.List.Kept.{AllPairs-cons}
use Rattle.std.proofs.lemmas.List.Sorted.{All-permutation, Contains-permutation, IsPermutation-swap}
use Rattle.std.proofs.lemmas.Map.Made.{IsDistinct-from_AllPairs}
use Rattle.std.proofs.lemmas.Map.Steps.{le-length_from_below, length-le_from_distinct_below}
use Rattle.rmt_bits.proofs.MemberLaws.{Contains-filter, Contains-first, Contains-later, Contains-unfilter, list_any-Contains, Contains-from_any, among-Contains}
use Rattle.rmt_bits.proofs.PairLaws.{AllPairs-append, AllPairs-none}
use Rattle.rmt_ast.specs.declared.deps.Edge.{Edge}
use Rattle.rmt_ast.specs.declared.deps.Deps.{Deps}
use Rattle.rmt_deps.specs.Edges.{GoesForward, GoForward}
use Rattle.rmt_deps.specs.Levels.{all_edges}
use Rattle.rmt_deps.proofs.LevelLaws.{edges_forward}
use Rattle.rmt_pack.proofs.FormatLaws.{of_range}
use Rattle.rmt_place.specs.Placing.{InOrder, IsGoodOrder}
use Rattle.rmt_improve.specs.Orders.{by_weight, exchanged, heaviest, is_blocked, is_heavier, joins, may_be_next, next_nodes}
use Rattle.rmt_improve.proofs.BestLaws.{best-holds}
use Rattle.rmt_bits.proofs.AllLaws.{All-between}
use Rattle.rmt_bits.specs.Members.{is_among}

-- ---- one more node behind others

All-more : {X : Type 0} (P : X → Type 0) (xs : List X) (x : X) → All P xs → P x → All P (xs ++ x ∷ [])
All-more P xs x all here = All-append P xs (x ∷ []) all (All-cons P x [] here (All-nil P))

AllPairs-more : {X : Type 0} (R : X → X → Type 0) (xs : List X) (x : X) → AllPairs R xs → All (λ y. R y x) xs → AllPairs R (xs ++ x ∷ [])
AllPairs-more R xs x pairs all =
    AllPairs-append R xs (x ∷ []) pairs (AllPairs-cons R x [] (All-nil (R x)) (AllPairs-none R))
    (λ i d lt. All-cons (R (get_or xs i d)) x [] (all i d lt) (All-nil (R (get_or xs i d))))

is_in-split : (ns : List ℕ) (m q : ℕ) → is_among (ns ++ m ∷ []) q ≡ true → (is_among ns q ≡ true) ⊎ (m ≡ q)
is_in-split ns m q is = elim (or_cases (is_among ns q) (is_among (m ∷ []) q) (sym (list_any-append (λ k. eqb k q) ns (m ∷ [])) ∙ is)) [
  | inl there ↦ inl there
  | inr last ↦ elim (or_cases (eqb m q) false last) [ inl same ↦ inr (eqb-true m q same) | inr none ↦ absurd (false≢true none) ]
]

is_in-front : (ns ms : List ℕ) (q : ℕ) → is_among ns q ≡ true → is_among (ns ++ ms) q ≡ true
is_in-front ns ms q is = list_any-append (λ k. eqb k q) ns ms ∙ ap (λ b. b || is_among ms q) is

not_among : (ns : List ℕ) (m : ℕ) → is_among ns m ≡ false → All (λ n. n ≢ m) ns
not_among ns m none i d lt same = false≢true (sym none ∙ among-Contains ns m (i, lt, get_or_default ns i m d lt ∙ same))

-- ---- the nodes that are taken

-- the front of a good order: where a node is taken, the first nodes of its edges are
record IsFront (edges : List Edge) (nodes : ℕ) (taken : List ℕ) : Type 0 where
  numbers : All (λ n. n < nodes) taken
  once : AllPairs ◌≢◌ taken
  closed : (e : Edge) → Contains edges e → is_among taken e.to ≡ true → is_among taken e.from ≡ true
  forward : All (λ e. InOrder e taken) edges

-- the first node of an edge to a node that isn't blocked is taken
first_taken : (edges : List Edge) (taken : List ℕ) (n : ℕ) (e : Edge) → is_blocked edges taken n ≡ false → Contains edges e → e.to ≡ n → is_among taken e.from ≡ true
first_taken edges taken n e free there ends = elim (cases_Bool (is_among taken e.from)) [
  | inl is ↦ is
  | inr out ↦
      let passes : (eqb e.to n && not (is_among taken e.from)) ≡ true = ap (λ b. b && not (is_among taken e.from)) (eq-eqb e.to n ends) ∙ ap not out in
      absurd (false≢true (sym free ∙ list_any-Contains (λ (x : Edge). eqb x.to n && not (is_among taken x.from)) edges e there passes))
]

front_more : (edges : List Edge) (nodes : ℕ) (taken : List ℕ) (m : ℕ) → IsFront edges nodes taken → m < nodes → may_be_next edges taken m ≡ true → IsFront edges nodes (taken ++ m ∷ [])
front_more edges nodes taken m front lt next =
    let parts = and_parts (not (is_among taken m)) (not (is_blocked edges taken m)) next in
    let out : is_among taken m ≡ false = not-true (is_among taken m) parts.0 in
    let free : is_blocked edges taken m ≡ false = not-true (is_blocked edges taken m) parts.1 in
    record {
      numbers = All-more (λ n. n < nodes) taken m front.numbers lt;
      once = AllPairs-more ◌≢◌ taken m front.once (not_among taken m out);
      closed = λ e there is. elim (is_in-split taken m e.to is) [
        | inl before ↦ is_in-front taken (m ∷ []) e.from (front.closed e there before)
        | inr now ↦ is_in-front taken (m ∷ []) e.from (first_taken edges taken m e free there (sym now))
      ];
      forward = λ i d inside. AllPairs-more (λ x y. x ≡ (get_or edges i d).to → y ≢ (get_or edges i d).from) taken m (front.forward i d inside)
          (λ j f within to from.
          (let e = get_or edges i d in
          let taken_to = among-Contains taken e.to (j, within, get_or_default taken j e.to f within ∙ to) in
          false≢true (sym out ∙ (ap (is_among taken) from ∙ (front.closed e (Contains-get_or edges i d inside) taken_to)))));
    }

-- all numbers below k are taken, or there is a least one that isn't
first_out : (taken : List ℕ) (k : ℕ)
    → ((j : ℕ) → j < k → is_among taken j ≡ true) ⊎ ((q : ℕ) × (q < k) × (is_among taken q ≡ false) × ((j : ℕ) → j < q → is_among taken j ≡ true))
first_out taken zero = inl (λ j lt. absurd (omega (arith, lt)))
first_out taken (suc k) = elim (first_out taken k) [
  | inr found ↦ inr (found.0, (let lt = found.1 in omega (arith, lt)), found.2, found.3)
  | inl all ↦ elim (cases_Bool (is_among taken k)) [
    | inl there ↦ inl (λ j lt. elim (cases_eq j k) [ inl same ↦ ap (is_among taken) same ∙ there | inr other ↦ all j (omega arith) ])
    | inr out ↦ inr (k, omega arith, out, all)
  ]
]

-- the least node that isn't taken may be next, for edges go forward
least_next : (edges : List Edge) (nodes : ℕ) (taken : List ℕ) (q : ℕ) → All (GoesForward nodes) edges → is_among taken q ≡ false → ((j : ℕ) → j < q → is_among taken j ≡ true)
    → may_be_next edges taken q ≡ true
least_next edges nodes taken q forward out before =
    let free : is_blocked edges taken q ≡ false = elim (cases_Bool (is_blocked edges taken q)) [ inl held ↦ absurd (never held) | inr none ↦ none ] in
    ap (λ b. not b && not (is_blocked edges taken q)) out ∙ ap not free
  where
    never : is_blocked edges taken q ≡ true → ⊥
    never held =
        let some = Any-from_list_any (λ (e : Edge). eqb e.to q && not (is_among taken e.from)) edges held in
        let e = some.1 in
        let parts = and_parts (eqb e.to q) (not (is_among taken e.from)) some.4 in
        let ends : e.to ≡ q = eqb-true e.to q parts.0 in
        let goes = All-contains (GoesForward nodes) edges e forward (some.0, some.2, some.3) in
        false≢true (sym (not-true (is_among taken e.from) parts.1) ∙ before e.from (omega (arith, goes.later, ends)))

some_next : (edges : List Edge) (nodes : ℕ) (taken : List ℕ) → All (GoesForward nodes) edges → length taken < nodes → (q : ℕ) × Contains (next_nodes edges taken nodes) q
some_next edges nodes taken forward few = elim (first_out taken nodes) [
  | inl all ↦
      let le = le-length_from_below taken nodes (λ q lt. list_any-Contains (eqb q) taken q (Contains-from_any taken q (all q lt)) (eq-eqb q q refl)) in
      absurd (omega (arith, le, few))
  | inr found ↦
      let q = found.0 in
      let there : Contains (range_with_len 0 nodes) q =
      of_range (Contains (range_with_len 0 nodes)) 0 nodes q (omega arith) (let lt = found.1 in omega (arith, lt)) (All-contains_itself (range_with_len 0 nodes)) in
      (q, Contains-filter (may_be_next edges taken) (range_with_len 0 nodes) q there (least_next edges nodes taken q forward found.2 found.3))
]

heaviest_there : (weights ns : List ℕ) (q : ℕ) → Contains ns q → (m : ℕ) × (heaviest weights ns ≡ m ∷ []) × Contains ns m
heaviest_there weights [] q there = absurd (let lt = there.1 in omega (arith, lt))
heaviest_there weights (n ∷ ns) q there = (
  best_of (is_heavier weights) n ns,
  refl,
  best-holds (Contains (n ∷ ns)) (is_heavier weights) n ns (Contains-first n ns) (λ i d lt. Contains-later n ns (get_or ns i d) (Contains-get_or ns i d lt)),
)

-- ---- orders by weight

front_of : (edges : List Edge) (weights : List ℕ) (k : ℕ) → All (GoesForward (length weights)) edges → k ≤ length weights
    → IsFront edges (length weights) (by_weight edges weights k) × (length (by_weight edges weights k) ≡ k)
front_of edges weights zero forward le = (
  record {
    numbers = All-nil (λ n. n < length weights);
    once = AllPairs-none ◌≢◌;
    closed = λ e there is. absurd (false≢true is);
    forward = λ i d lt. AllPairs-none (λ x y. x ≡ (get_or edges i d).to → y ≢ (get_or edges i d).from);
  },
  refl,
)
front_of edges weights (suc k) forward le =
    let nodes = length weights in
    let taken = by_weight edges weights k in
    let before = front_of edges weights k forward (omega arith) in
    let size : length taken ≡ k = before.1 in
    let some = some_next edges nodes taken forward (omega (arith, size, le)) in
    let heavy = heaviest_there weights (next_nodes edges taken nodes) some.0 some.1 in
    let m = heavy.0 in
    let is : by_weight edges weights (suc k) ≡ taken ++ m ∷ [] = ap (λ (l : List ℕ). taken ++ l) heavy.1 in
    let next = Contains-unfilter (may_be_next edges taken) (range_with_len 0 nodes) m heavy.2 in
    let below : m < nodes = All-contains (λ j. j < nodes) (range_with_len 0 nodes) m (All-between (λ j. j < nodes) 0 nodes (λ j low high. omega arith)) next.0 in (
      subst (IsFront edges nodes) (sym is) (front_more edges nodes taken m before.0 below next.1),
      (let long : length (by_weight edges weights (suc k)) ≡ length (taken ++ m ∷ []) = ap length is in omega (arith, long, length-append taken (m ∷ []), size)),
    )

-- numbers below as many as there are of them, each once: every one is there
all_there : (nodes : ℕ) (order : List ℕ) → All (λ n. n < nodes) order → AllPairs ◌≢◌ order → length order ≡ nodes → (q : ℕ) → q < nodes → Contains order q
all_there nodes order numbers once size q lt = elim (cases_Bool (is_among order q)) [
  | inl there ↦ Contains-from_any order q there
  | inr out ↦
      let pairs : AllPairs (λ x y. x ≢ y) (q ∷ order) = AllPairs-cons (λ x y. x ≢ y) q order (λ i d inside same. not_among order q out i d inside (sym same)) once in
      let le = length-le_from_distinct_below (q ∷ order) nodes (IsDistinct-from_AllPairs Decides-eqb (q ∷ order) pairs) (below q order lt numbers) in
      absurd (omega (arith, le, size))
]
  where
    below : (m : ℕ) (ns : List ℕ) → m < nodes → All (λ n. n < nodes) ns → (x : ℕ) → list_any (eqb x) (m ∷ ns) ≡ true → x < nodes
    below m ns first rest x is =
        let some = Any-from_list_any (eqb x) (m ∷ ns) is in
        let y = some.1 in
        let small : y < nodes = All-contains (λ n. n < nodes) (m ∷ ns) y (All-cons (λ n. n < nodes) m ns first rest) (some.0, some.2, some.3) in
        omega (arith, small, eqb-true x y some.4)

pub by_weight_good : (deps : Deps) (weights : List ℕ) → GoForward (length weights) deps
    → IsGoodOrder (length weights) (all_edges deps) (by_weight (all_edges deps) weights (length weights))
by_weight_good deps weights forward =
    let front = front_of (all_edges deps) weights (length weights) (edges_forward deps (length weights) forward) (omega arith) in
    let f = front.0 in
    record {
      numbers = f.numbers;
      all_there = all_there (length weights) (by_weight (all_edges deps) weights (length weights)) f.numbers f.once front.1;
      once = f.once;
      forward = f.forward;
    }

pub good_length : (nodes : ℕ) (edges : List Edge) (order : List ℕ) → IsGoodOrder nodes edges order → length order ≡ nodes
good_length nodes edges order good =
    let least = le-length_from_below order nodes (λ q lt. list_any-Contains (eqb q) order q (good.all_there q lt) (eq-eqb q q refl)) in
    omega (arith, least, length-le_from_distinct_below order nodes (IsDistinct-from_AllPairs Decides-eqb order good.once) below)
  where
    below : (x : ℕ) → list_any (eqb x) order ≡ true → x < nodes
    below x is =
        let some = Any-from_list_any (eqb x) order is in
        let y = some.1 in
        let small : y < nodes = All-contains (λ n. n < nodes) order y good.numbers (some.0, some.2, some.3) in
        omega (arith, small, eqb-true x y some.4)

-- ---- neighbours exchanged

alike : {X : Type 0} (R : X → X → Type 0) (u v x y : X) → x ≡ u → y ≡ v → R u v → R x y
alike R u v x y first second holds = subst (λ a. R a y) (sym first) (subst (λ b. R u b) (sym second) holds)

exchange-pairs : {X : Type 0} (R : X → X → Type 0) (xs : List X) (i : ℕ) → i + 1 < length xs → AllPairs R xs → ((d : X) → R (get_or xs (i + 1) d) (get_or xs i d))
    → AllPairs R (swap xs i (i + 1))
exchange-pairs R xs i lt pairs turned a b d less inside =
    let size = length-swap xs i (i + 1) in
    let places = swapped_from_swap xs (swap xs i (i + 1)) i (i + 1) d (omega arith) lt refl in
    let x = get_or (swap xs i (i + 1)) a d in
    let y = get_or (swap xs i (i + 1)) b d in
    let at : (j : ℕ) → ℕ = λ j. j in
    elim (cases_eq a i) [
      | inl a_first ↦ elim (cases_eq b (i + 1)) [
        | inl b_second ↦ alike R (get_or xs (i + 1) d) (get_or xs i d) x y (same a i a_first ∙ places.0) (same b (i + 1) b_second ∙ places.1) (turned d)
        | inr b_other ↦ alike R (get_or xs (i + 1) d) (get_or xs b d) x y (same a i a_first ∙ places.0) (places.2 b (λ e. omega arith) b_other) (pairs (i + 1) b d (omega arith) (omega arith))
      ]
      | inr a_later ↦ elim (cases_eq a (i + 1)) [
        | inl a_second ↦ alike R (get_or xs i d) (get_or xs b d) x y (same a (i + 1) a_second ∙ places.1) (places.2 b (λ e. omega arith) (λ e. omega arith)) (pairs i b d (omega arith) (omega arith))
        | inr a_other ↦ elim (cases_eq b i) [
          | inl b_first ↦ alike R (get_or xs a d) (get_or xs (i + 1) d) x y (places.2 a a_later a_other) (same b i b_first ∙ places.0) (pairs a (i + 1) d (omega arith) lt)
          | inr b_later ↦ elim (cases_eq b (i + 1)) [
            | inl b_second ↦ alike R (get_or xs a d) (get_or xs i d) x y (places.2 a a_later a_other) (same b (i + 1) b_second ∙ places.1) (pairs a i d (omega arith) (omega arith))
            | inr b_other ↦ alike R (get_or xs a d) (get_or xs b d) x y (places.2 a a_later a_other) (places.2 b b_later b_other) (pairs a b d less (omega arith))
          ]
        ]
      ]
    ]
  where
    same : (j k : ℕ) → j ≡ k → get_or (swap xs i (i + 1)) j d ≡ get_or (swap xs i (i + 1)) k d
    same j k e = ap (λ m. get_or (swap xs i (i + 1)) m d) e

-- the edge e goes from the node at place i to the one behind it
joined_by : (edges : List Edge) (order : List ℕ) (i : ℕ) (e : Edge) → Contains edges e → get_or order i 0 ≡ e.from → get_or order (i + 1) 0 ≡ e.to
    → joins edges (get_or order i 0) (get_or order (i + 1) 0) ≡ true
joined_by edges order i e there from to =
    let a = get_or order i 0 in
    let b = get_or order (i + 1) 0 in
    let passes : (eqb e.from a && eqb e.to b) ≡ true = ap (λ t. t && eqb e.to b) (eq-eqb e.from a (sym from)) ∙ eq-eqb e.to b (sym to) in
    list_any-Contains (λ (x : Edge). eqb x.from a && eqb x.to b) edges e there passes

-- a good order with two neighbours exchanged is good where no edge goes from the first to the second
pub swap_good : (nodes : ℕ) (edges : List Edge) (order : List ℕ) (i : ℕ) → IsGoodOrder nodes edges order → i + 1 < length order
    → joins edges (get_or order i 0) (get_or order (i + 1) 0) ≡ false → IsGoodOrder nodes edges (swap order i (i + 1))
swap_good nodes edges order i good lt apart =
    let moved = IsPermutation-swap order (swap order i (i + 1)) i (i + 1) (omega arith) lt refl in
    record {
      numbers = All-permutation (λ n. n < nodes) order (swap order i (i + 1)) moved good.numbers;
      all_there = λ n below. Contains-permutation order (swap order i (i + 1)) n moved (good.all_there n below);
      once = exchange-pairs ◌≢◌ order i lt good.once (λ d same. good.once i (i + 1) d (omega arith) lt (sym same));
      forward = λ k d inside. exchange-pairs (λ x y. x ≡ (get_or edges k d).to → y ≢ (get_or edges k d).from) order i lt (good.forward k d inside)
          (λ f to from.
          (let e = get_or edges k d in
          let joined = joined_by edges order i e (Contains-get_or edges k d inside) (get_or_default order i 0 f (omega arith) ∙ from) (get_or_default order (i + 1) 0 f lt ∙ to) in
          false≢true (sym apart ∙ joined)));
    }

pub exchanged_good : (nodes : ℕ) (edges : List Edge) (order : List ℕ) (i : ℕ) → IsGoodOrder nodes edges order → i + 1 < length order → IsGoodOrder nodes edges (exchanged edges order i)
exchanged_good nodes edges order i good lt = by (joins edges (get_or order i 0) (get_or order (i + 1) 0)) refl
  where
    by : (b : Bool) → joins edges (get_or order i 0) (get_or order (i + 1) 0) ≡ b → IsGoodOrder nodes edges (cond b order (swap order i (i + 1)))
    by true joined = good
    by false apart = swap_good nodes edges order i good lt apart
