-- Edges are kept between all parts of two nodes exactly where they are between the last part of the one and the first part of the other.
use Rattle.std.proofs.Common.{◌≡◌, ℕ, ◌+◌, ◌<◌, ◌≤◌, ◌==◌, ◌&&◌, ◌↔◌, Bool, true, false, cond, List, [], ◌∷◌, ◌++◌, length, get_or, fold, Option, Some, None, refl, sym, subst, ◌∙◌, append_assoc, arith, inl, inr}
use Rattle.std.specs.Prelude.{All, Contains, MatchBool, IsTrue, min, max, filter, nat_lt, nat_le, slice_index}
use Rattle.std.specs.List.{list_all}
use Rattle.std.proofs.lemmas.Bool.{ltb-true, leb-true, lt-ltb, le-leb, and_parts, and_from, eqb-true, eq-eqb, cases_lt}
use Rattle.std.proofs.lemmas.List.{append-nil}
use Rattle.std.proofs.lemmas.List.Elements.{All-nil, All-cons, All-head, All-tail, All-contains, All-contains_itself, All-weaker, Contains-append_left, Contains-append_right}
use Rattle.std.proofs.lemmas.List.Folds.{list_all-append}
use Rattle.rmt_bits.proofs.MemberLaws.{Contains-first, Contains-map, Contains-unmap, Contains-filter, Contains-unfilter}
use Rattle.rmt_ast.specs.declared.deps.Edge.{Edge}
use Rattle.rmt_ast.specs.declared.deps.EdgeKind.{EdgeKind}
use Rattle.rmt_ast.specs.declared.deps.EdgeKind.TheVariants as edge
use Rattle.rmt_pack.specs.Placements.{Keeps, is_strict}
use Rattle.rmt_pack.specs.Starts.{distance, stages_of}
use Rattle.rmt_refine.specs.Carries.{EdgesKept}
use Rattle.rmt_verify.specs.Types.{Part}
use Rattle.rmt_verify.specs.declared.edges.spans.Span.{Span}
use Rattle.rmt_verify.specs.EdgeSpans.{IsPartOf, Rise, is_kept, no_span, span_keeps, span_of, widened}

-- ---- the span of some stages

-- its ends are among them, and none is outside
pub record Between (stages : List ℕ) (s : Span) : Type 0 where
  pub first : Contains stages s.first
  pub last : Contains stages s.last
  pub within : All (λ k. (s.first ≤ k) × (k ≤ s.last)) stages

abbrev pub IsSpan : List ℕ → Option Span → Type 0
IsSpan stages None = stages ≡ []
IsSpan stages (Some s) = Between stages s

one_stage : (k : ℕ) → Between (k ∷ []) (record { first = k; last = k })
one_stage k = record { first = Contains-first k []; last = Contains-first k []; within = All-cons (λ j. (k ≤ j) × (j ≤ k)) k [] (omega arith, omega arith) (All-nil (λ j. (k ≤ j) × (j ≤ k))) }

all_more : (P : ℕ → Type 0) (stages : List ℕ) (k : ℕ) → All P stages → P k → All P (stages ++ k ∷ [])
all_more P [] k all one = All-cons P k [] one (All-nil P)
all_more P (x ∷ xs) k all one = All-cons P x (xs ++ k ∷ []) (All-head P x xs all) (all_more P xs k (All-tail P x xs all) one)

at_least_of : (stages : List ℕ) (a k : ℕ) → Contains stages a → Contains (stages ++ k ∷ []) (min a k)
at_least_of stages a k there = elim (cases_lt a k) [
  | inl lt ↦ subst (Contains (stages ++ k ∷ [])) (let e : a ≡ min a k = omega (arith, lt) in e) (Contains-append_left stages (k ∷ []) a there)
  | inr le ↦ subst (Contains (stages ++ k ∷ [])) (let e : k ≡ min a k = omega (arith, le) in e) (Contains-append_right stages (k ∷ []) k (Contains-first k []))
]

at_most_of : (stages : List ℕ) (a k : ℕ) → Contains stages a → Contains (stages ++ k ∷ []) (max a k)
at_most_of stages a k there = elim (cases_lt a k) [
  | inl lt ↦ subst (Contains (stages ++ k ∷ [])) (let e : k ≡ max a k = omega (arith, lt) in e) (Contains-append_right stages (k ∷ []) k (Contains-first k []))
  | inr le ↦ subst (Contains (stages ++ k ∷ [])) (let e : a ≡ max a k = omega (arith, le) in e) (Contains-append_left stages (k ∷ []) a there)
]

span_more : (stages : List ℕ) (o : Option Span) (k : ℕ) → IsSpan stages o → IsSpan (stages ++ k ∷ []) (widened o k)
span_more stages None k none = subst (λ (s : List ℕ). Between (s ++ k ∷ []) (record { first = k; last = k })) (sym none) (one_stage k)
span_more stages (Some s) k is = record {
  first = at_least_of stages s.first k is.first;
  last = at_most_of stages s.last k is.last;
  within = all_more (λ j. (min s.first k ≤ j) × (j ≤ max s.last k)) stages k
      (All-weaker (λ j. (s.first ≤ j) × (j ≤ s.last)) (λ j. (min s.first k ≤ j) × (j ≤ max s.last k)) (λ j p. (omega (arith, p.0), omega (arith, p.1))) stages is.within)
      (omega arith, omega arith);
}

span_all : (seen rest : List ℕ) (o : Option Span) → IsSpan seen o → IsSpan (seen ++ rest) (fold widened o rest)
span_all seen [] o is = subst (λ (s : List ℕ). IsSpan s o) (sym (append-nil seen)) is
span_all seen (k ∷ rest) o is = subst (λ (s : List ℕ). IsSpan s (fold widened (widened o k) rest)) (append_assoc seen (k ∷ []) rest) (span_all (seen ++ k ∷ []) rest (widened o k) (span_more seen o k is))

pub is_span : (stages : List ℕ) → IsSpan stages (span_of stages)
is_span stages = span_all [] stages None refl

-- ---- starts that rise

up_to : (starts : List ℕ) → Rise starts → (j k : ℕ) → j ≤ k → k < length starts → slice_index starts j ≤ slice_index starts k
up_to starts rise j k le within = elim (cases_lt j k) [
  | inl lt ↦ (let up : slice_index starts j < slice_index starts k = rise.rise j k lt within in omega (arith, up))
  | inr same ↦ (let e : j ≡ k = omega (arith, le, same) in subst (λ i. slice_index starts j ≤ slice_index starts i) e (omega arith))
]

weak_distance : (kind : EdgeKind) → is_strict kind ≡ false → distance kind ≡ 1
weak_distance edge.Match e = absurd cc
weak_distance edge.Action e = absurd cc
weak_distance edge.Word e = absurd cc
weak_distance edge.Successor e = refl
weak_distance edge.Reverse e = refl

-- ---- two nodes

-- stages of two nodes, with the span of each
module _ (starts : List ℕ) (rise : Rise starts) (kind : EdgeKind) where
  abbrev StageOrder : Bool → ℕ → ℕ → Type 0
  StageOrder strict j k = MatchBool strict (j < k) (j ≤ k)

  -- what is asked of all pairs of their stages
  record Apart (from to : List ℕ) : Type 0 where
    pub order : (j k : ℕ) → Contains from j → Contains to k → StageOrder (is_strict kind) j k
    pub distant : (j k : ℕ) → Contains from j → Contains to k → j < k → slice_index starts j + distance kind ≤ slice_index starts k

  abbrev test_of : Bool → Span → Span → Bool
  test_of strict a b = cond strict (nat_lt a.last b.first && nat_le (slice_index starts a.last + distance kind) (slice_index starts b.first)) (nat_le a.last b.first)

  -- a stage of the first span is not behind its last one, nor a stage of the second before its first
  ends : (from to : List ℕ) (a b : Span) → Between from a → Between to b → (j k : ℕ) → Contains from j → Contains to k → (j ≤ a.last) × (b.first ≤ k)
  ends from to a b between_a between_b j k at_j at_k =
      ((All-contains (λ k. (a.first ≤ k) × (k ≤ a.last)) from j between_a.within at_j).1, (All-contains (λ k. (b.first ≤ k) × (k ≤ b.last)) to k between_b.within at_k).0)

  spans_apart : (from to : List ℕ) (a b : Span) → Between from a → Between to b → All (λ k. k < length starts) from → All (λ k. k < length starts) to
      → (strict : Bool) → is_strict kind ≡ strict → test_of strict a b ≡ true → Apart from to
  spans_apart from to a b between_a between_b stages_a stages_b true is passed =
      let p = and_parts (nat_lt a.last b.first) (nat_le (slice_index starts a.last + distance kind) (slice_index starts b.first)) passed in
      let before : a.last < b.first = ltb-true _ _ p.0 in
      let far : slice_index starts a.last + distance kind ≤ slice_index starts b.first = leb-true _ _ p.1 in
      record {
        order = λ j k at_j at_k. let e = ends from to a b between_a between_b j k at_j at_k in subst (λ strict. StageOrder strict j k) (sym is) (omega (arith, before, e.0, e.1));
        distant = λ j k at_j at_k lt.
            let e = ends from to a b between_a between_b j k at_j at_k in
            let up_a : slice_index starts j ≤ slice_index starts a.last = up_to starts rise j a.last e.0 (All-contains (λ k. k < length starts) from a.last stages_a between_a.last) in
            let up_b : slice_index starts b.first ≤ slice_index starts k = up_to starts rise b.first k e.1 (All-contains (λ k. k < length starts) to k stages_b at_k) in
            omega (arith, up_a, up_b, far);
      }
  spans_apart from to a b between_a between_b stages_a stages_b false is passed =
      let before : a.last ≤ b.first = leb-true _ _ passed in
      record {
        order = λ j k at_j at_k. let e = ends from to a b between_a between_b j k at_j at_k in subst (λ strict. StageOrder strict j k) (sym is) (omega (arith, before, e.0, e.1));
        distant = λ j k at_j at_k lt.
            let up : slice_index starts j < slice_index starts k = rise.rise j k lt (All-contains (λ k. k < length starts) to k stages_b at_k) in
            omega (arith, up, weak_distance kind is);
      }

  spans_pass : (from to : List ℕ) (a b : Span) → Between from a → Between to b → Apart from to → (strict : Bool) → is_strict kind ≡ strict → test_of strict a b ≡ true
  spans_pass from to a b between_a between_b apart true is =
      let before : a.last < b.first = subst (λ strict. StageOrder strict a.last b.first) is (apart.order a.last b.first between_a.last between_b.first) in
      and_from (nat_lt a.last b.first) (nat_le (slice_index starts a.last + distance kind) (slice_index starts b.first)) (lt-ltb _ _ before)
      (le-leb _ _ (apart.distant a.last b.first between_a.last between_b.first before))
  spans_pass from to a b between_a between_b apart false is =
      le-leb _ _ (subst (λ strict. StageOrder strict a.last b.first) is (apart.order a.last b.first between_a.last between_b.first))

  none_there : {T : Type 0} (k : ℕ) → Contains [] k → T
  none_there k there = absurd (let none = there.1 in omega (arith, none))

  apart_from : (from to : List ℕ) (a b : Option Span) → IsSpan from a → IsSpan to b → All (λ k. k < length starts) from → All (λ k. k < length starts) to
      → span_keeps starts kind a b ≡ true → Apart from to
  apart_from from to None b is_a is_b stages_a stages_b passed = record {
    order = λ j k at_j at_k. none_there j (subst (λ (s : List ℕ). Contains s j) is_a at_j);
    distant = λ j k at_j at_k lt. none_there j (subst (λ (s : List ℕ). Contains s j) is_a at_j);
  }
  apart_from from to (Some a) None is_a is_b stages_a stages_b passed = record {
    order = λ j k at_j at_k. none_there k (subst (λ (s : List ℕ). Contains s k) is_b at_k);
    distant = λ j k at_j at_k lt. none_there k (subst (λ (s : List ℕ). Contains s k) is_b at_k);
  }
  apart_from from to (Some a) (Some b) is_a is_b stages_a stages_b passed = spans_apart from to a b is_a is_b stages_a stages_b (is_strict kind) refl passed

  apart_to : (from to : List ℕ) (a b : Option Span) → IsSpan from a → IsSpan to b → Apart from to → span_keeps starts kind a b ≡ true
  apart_to from to None b is_a is_b apart = refl
  apart_to from to (Some a) None is_a is_b apart = refl
  apart_to from to (Some a) (Some b) is_a is_b apart = spans_pass from to a b is_a is_b apart (is_strict kind) refl

-- ---- all edges

abbrev is_of : ℕ → Part → Bool
is_of n x = x.node == n

abbrev stage_in : Part → ℕ
stage_in x = x.stage

part_at : (parts : List Part) (n k : ℕ) → Contains (stages_of parts n) k → (x : Part) × Contains parts x × (x.node ≡ n) × (x.stage ≡ k)
part_at parts n k there =
    let m = Contains-unmap stage_in (filter (is_of n) parts) k there in
    let f = Contains-unfilter (is_of n) parts m.0 m.1 in
    (m.0, f.0, eqb-true _ _ f.1, m.2)

stage_at : (parts : List Part) (x : Part) (n : ℕ) → Contains parts x → x.node ≡ n → Contains (stages_of parts n) x.stage
stage_at parts x n there is = Contains-map stage_in (filter (is_of n) parts) x (Contains-filter (is_of n) parts x there (eq-eqb _ _ is))

module _ (nodes : ℕ) (parts : List Part) (starts : List ℕ) (stand : All (IsPartOf nodes (length starts)) parts) (spans : List (Option Span)) (are : (n : ℕ) → get_or spans n no_span ≡ span_of (stages_of parts n)) where
  span_is : (n : ℕ) → IsSpan (stages_of parts n) (get_or spans n no_span)
  span_is n = subst (IsSpan (stages_of parts n)) (sym (are n)) (is_span (stages_of parts n))

  stages_few : (n : ℕ) → All (λ k. k < length starts) (stages_of parts n)
  stages_few n =
      All-weaker (Contains (stages_of parts n)) (λ k. k < length starts)
      (λ k there. let x = part_at parts n k there in subst (λ i. i < length starts) x.3 (All-contains (IsPartOf nodes (length starts)) parts x.0 stand x.1).stage)
      (stages_of parts n) (All-contains_itself (stages_of parts n))

  abbrev KeptAll : Edge → Type 0
  KeptAll e = All (λ (a : Part). All (Keeps e a) parts) parts

  -- one edge
  edge_apart : (rise : Rise starts) (e : Edge) → is_kept spans starts e ≡ true → Apart starts rise e.kind (stages_of parts e.from) (stages_of parts e.to)
  edge_apart rise e passed =
      apart_from starts rise e.kind (stages_of parts e.from) (stages_of parts e.to) (get_or spans e.from no_span) (get_or spans e.to no_span)
      (span_is e.from) (span_is e.to) (stages_few e.from) (stages_few e.to) passed

  edge_order : (rise : Rise starts) (e : Edge) → is_kept spans starts e ≡ true → KeptAll e
  edge_order rise e passed =
      let apart = edge_apart rise e passed in
      All-weaker (Contains parts) (λ (a : Part). All (Keeps e a) parts)
      (λ a at_a. All-weaker (Contains parts) (Keeps e a) (λ b at_b from to some_a some_b. apart.order a.stage b.stage (stage_at parts a e.from at_a from) (stage_at parts b e.to at_b to)) parts (All-contains_itself parts))
      parts (All-contains_itself parts)

  edge_passes : (rise : Rise starts) (edges : List Edge) → EdgesKept edges parts starts → (e : Edge) → Contains edges e → is_kept spans starts e ≡ true
  edge_passes rise edges kept e there =
      apart_to starts rise e.kind (stages_of parts e.from) (stages_of parts e.to) (get_or spans e.from no_span) (get_or spans e.to no_span) (span_is e.from) (span_is e.to)
      (record {
        order = λ j k at_j at_k.
            let a = part_at parts e.from j at_j in
            let b = part_at parts e.to k at_k in
            let own_a = All-contains (IsPartOf nodes (length starts)) parts a.0 stand a.1 in
            let own_b = All-contains (IsPartOf nodes (length starts)) parts b.0 stand b.1 in
            let all = All-contains KeptAll edges e kept.order there in
            let one = All-contains (λ (y : Part). All (Keeps e y) parts) parts a.0 all a.1 in
            let here : MatchBool (is_strict e.kind) (a.0.stage < b.0.stage) (a.0.stage ≤ b.0.stage) = All-contains (Keeps e a.0) parts b.0 one b.1 a.2 b.2 own_a.some own_b.some in
            subst (λ i. MatchBool (is_strict e.kind) (i < k) (i ≤ k)) a.3 (subst (λ i. MatchBool (is_strict e.kind) (a.0.stage < i) (a.0.stage ≤ i)) b.3 here);
        distant = λ j k at_j at_k lt. kept.distances.apart e j k there at_j at_k lt;
      })

  all_pass : (edges : List Edge) → ((e : Edge) → Contains edges e → is_kept spans starts e ≡ true) → (rest : List Edge) → All (Contains edges) rest → list_all (is_kept spans starts) rest ≡ true
  all_pass edges each [] within = refl
  all_pass edges each (e ∷ rest) within =
      and_from (is_kept spans starts e) (list_all (is_kept spans starts) rest) (each e (All-head (Contains edges) e rest within)) (all_pass edges each rest (All-tail (Contains edges) e rest within))

  each_passes : (edges : List Edge) → list_all (is_kept spans starts) edges ≡ true → All (λ (e : Edge). is_kept spans starts e ≡ true) edges
  each_passes [] e = All-nil (λ (e : Edge). is_kept spans starts e ≡ true)
  each_passes (x ∷ xs) e =
      let p = and_parts (is_kept spans starts x) (list_all (is_kept spans starts) xs) e in
      All-cons (λ (e : Edge). is_kept spans starts e ≡ true) x xs p.0 (each_passes xs p.1)

  pub kept_from : Rise starts → (edges : List Edge) → list_all (is_kept spans starts) edges ≡ true → EdgesKept edges parts starts
  kept_from rise edges passed =
      let each = each_passes edges passed in
      record {
        order = All-weaker (λ (e : Edge). is_kept spans starts e ≡ true) KeptAll (edge_order rise) edges each;
        distances = record {
          first = rise.first;
          rise = rise.rise;
          apart = λ e j k there at_j at_k lt. (edge_apart rise e (All-contains (λ (e : Edge). is_kept spans starts e ≡ true) edges e each there)).distant j k at_j at_k lt;
        };
      }

  pub kept_to : Rise starts → (edges : List Edge) → EdgesKept edges parts starts → list_all (is_kept spans starts) edges ≡ true
  kept_to rise edges kept = all_pass edges (edge_passes rise edges kept) edges (All-contains_itself edges)

-- what is answered for edges in two lists
pub answered : (nodes : ℕ) (parts : List Part) (starts : List ℕ) → All (IsPartOf nodes (length starts)) parts → (spans : List (Option Span))
    → ((n : ℕ) → get_or spans n no_span ≡ span_of (stages_of parts n)) → Rise starts → (field word : List Edge) (r : Bool)
    → r ≡ (list_all (is_kept spans starts) field && list_all (is_kept spans starts) word) → (IsTrue r ↔ EdgesKept (field ++ word) parts starts)
answered nodes parts starts stand spans are rise field word r is =
    let whole : r ≡ list_all (is_kept spans starts) (field ++ word) = is ∙ sym (list_all-append (is_kept spans starts) field word) in
    (λ yes. kept_from nodes parts starts stand spans are rise (field ++ word) (sym whole ∙ yes), λ kept. whole ∙ kept_to nodes parts starts stand spans are rise (field ++ word) kept)
