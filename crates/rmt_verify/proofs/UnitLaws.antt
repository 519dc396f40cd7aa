-- The nodes of a stage, the quanta that they have there, and the tests of a gate.
use Rattle.std.proofs.Common.{◌≡◌, ◌≢◌, ℕ, zero, suc, ◌+◌, ◌-◌, ◌<◌, ◌≤◌, ◌==◌, ◌&&◌, ◌↔◌, Bool, true, false, cond, List, [], ◌∷◌, ◌++◌, length, take, drop, get_or, map, min, set, filter, reverse, Option, Some, None, refl, sym, ap, subst, ◌∙◌, append_assoc, inl, inr, arith}
use Rattle.std.specs.Prelude.{All, IsSomeAnd, nat_lt, slice_get}
use Rattle.std.specs.List.{AllZip, range_with_len}
use Rattle.std.proofs.lemmas.Bool.{cases_lt, eq-eqb, eqb-true}
use Rattle.std.proofs.lemmas.List.{append-nil, append_cancel_left, at_drop_more, drop_all, get_or-reverse, get_or-set_other, get_or-set_same, length-reverse, map-append, reverse-reverse, take-append-drop, take_all, take_more}
use Rattle.std.proofs.lemmas.List.Elements.{All-contains, All-head, All-tail, All-weaker, filter-append}
use Rattle.std.proofs.lemmas.List.Sums.{fold-append, sum_by-cons, sum_by_more}
use Rattle.std.proofs.Math.Seq.{drop-cons}
use Rattle.rmt_bits.proofs.AlikeLaws.{filter_alike}
use Rattle.rmt_bits.proofs.MostLaws.{greatest-le, items-le}
use Rattle.rmt_bits.specs.Bits.{slice}
use Rattle.rmt_bits.specs.declared.lane.Lane.{Lane}
use Rattle.rmt_config.specs.LaneForm.{bits_of_lanes}
use Rattle.rmt_config.specs.Limits.{told}
use Rattle.rmt_config.proofs.HeldLaws.{bits_of_lanes-cons}
use Rattle.rmt_config.specs.Resources.{greatest_by}
use Rattle.rmt_pack.specs.Placements.{quanta_in, quanta_of}
use Rattle.rmt_pack.specs.Starts.{stages_of}
use Rattle.rmt_refine.specs.Types.{Program, Config, Stage, Test, GateTest}
use Rattle.rmt_refine.specs.Units.{UnitCarried, UnitsCarried, last_stage, nodes_in, tests_from}
use Rattle.rmt_verify.specs.Types.{Part}
use Rattle.rmt_verify.specs.EdgeSpans.{IsPartOf, no_span, span_of, widened}
use Rattle.rmt_verify.specs.declared.edges.spans.Span.{Span}
use Rattle.rmt_verify.proofs.EdgeLaws.{IsSpan, is_span}

-- ---- starts

pub starts_zip : (stages : List Stage) (starts : List ℕ) → AllZip (λ (s : Stage) (start : ℕ). s.start ≡ start) stages starts ↔ (map (λ (s : Stage). s.start) stages ≡ starts)
starts_zip [] [] = (λ all. refl, λ e. tt)
starts_zip [] (x ∷ starts) = (λ all. absurd all, λ e. absurd cc)
starts_zip (s ∷ stages) [] = (λ all. absurd all, λ e. absurd cc)
starts_zip (s ∷ stages) (x ∷ starts) =
    let rest = starts_zip stages starts in
    let firsts = map (λ (y : Stage). y.start) stages in
    (λ all. both s.start x firsts starts all.0 (rest.0 all.1), λ e. (let p = apart s.start x firsts starts e in (p.0, rest.1 p.1)))
  where
    both : (a b : ℕ) (xs ys : List ℕ) → a ≡ b → xs ≡ ys → a ∷ xs ≡ b ∷ ys
    both a b xs ys e g = cc

    apart : (a b : ℕ) (xs ys : List ℕ) → a ∷ xs ≡ b ∷ ys → (a ≡ b) × (xs ≡ ys)
    apart a b xs ys e = (cc, cc)

-- ---- quanta in a stage

abbrev quanta_for : ℕ → ℕ → Part → ℕ
quanta_for n k x = cond ((x.node == n) && (x.stage == k)) x.quanta 0

-- one part more
pub quanta_more : (parts : List Part) (i : ℕ) (d : Part) (k : ℕ) (quanta : List ℕ) (more v : ℕ) → i < length parts → (get_or parts i d).node < length quanta
    → more ≡ cond ((get_or parts i d).stage == k) (get_or parts i d).quanta 0 → v ≡ min (get_or quanta (get_or parts i d).node 0 + more) 4294967295
    → ((n : ℕ) → get_or quanta n 0 ≡ told (quanta_in (take i parts) n k))
    → (n : ℕ) → get_or (set quanta (get_or parts i d).node v) n 0 ≡ told (quanta_in (take (i + 1) parts) n k)
quanta_more parts i d k quanta more v lt within is_more is_v so_far n = by ((get_or parts i d).node == n) refl
  where
    x : Part
    x = get_or parts i d

    step : quanta_in (take (i + 1) parts) n k ≡ quanta_in (take i parts) n k + quanta_for n k x
    step = sum_by_more (quanta_for n k) parts i d lt

    by : (b : Bool) → (x.node == n) ≡ b → get_or (set quanta x.node v) n 0 ≡ told (quanta_in (take (i + 1) parts) n k)
    by true e =
        let same : x.node ≡ n = eqb-true x.node n e in
        let own : quanta_for n k x ≡ more = ap (λ y. cond (y && (x.stage == k)) x.quanta 0) e ∙ sym is_more in
        let before = so_far n in
        let here : get_or (set quanta x.node v) n 0 ≡ v = subst (λ m. get_or (set quanta x.node v) m 0 ≡ v) same (get_or-set_same quanta x.node v 0 within) in
        let value : v ≡ min (get_or quanta n 0 + more) 4294967295 = subst (λ m. v ≡ min (get_or quanta m 0 + more) 4294967295) same is_v in
        let sums : v ≡ told (quanta_in (take (i + 1) parts) n k) = omega (arith, value, before, step, own) in
        here ∙ sums
    by false e =
        let other : n ≢ x.node = λ (same : n ≡ x.node). absurd (let yes = eq-eqb x.node n (sym same) in cc) in
        let none : quanta_for n k x ≡ 0 = ap (λ y. cond (y && (x.stage == k)) x.quanta 0) e in
        let before = so_far n in
        let sums : get_or quanta n 0 ≡ told (quanta_in (take (i + 1) parts) n k) = omega (arith, before, step, none) in
        get_or-set_other quanta x.node n v 0 other ∙ sums

-- the same of the stages in which a node stands
pub spans_more : (parts : List Part) (i : ℕ) (d : Part) (spans : List (Option Span)) (v : Option Span) → i < length parts → (get_or parts i d).node < length spans
    → v ≡ widened (get_or spans (get_or parts i d).node no_span) (get_or parts i d).stage
    → ((n : ℕ) → get_or spans n no_span ≡ span_of (stages_of (take i parts) n))
    → (n : ℕ) → get_or (set spans (get_or parts i d).node v) n no_span ≡ span_of (stages_of (take (i + 1) parts) n)
spans_more parts i d spans v lt within is_v so_far n = by ((get_or parts i d).node == n) refl
  where
    x : Part
    x = get_or parts i d

    own : Part → Bool
    own y = y.node == n

    stage : Part → ℕ
    stage y = y.stage

    step : stages_of (take (i + 1) parts) n ≡ stages_of (take i parts) n ++ map stage (filter own (x ∷ []))
    step =
        ap (λ (ps : List Part). stages_of ps n) (take_more parts i d lt) ∙ ap (map stage) (filter-append own (take i parts) (x ∷ []))
        ∙ map-append stage (filter own (take i parts)) (filter own (x ∷ []))

    by : (b : Bool) → (x.node == n) ≡ b → get_or (set spans x.node v) n no_span ≡ span_of (stages_of (take (i + 1) parts) n)
    by true e =
        let same : x.node ≡ n = eqb-true x.node n e in
        let here : get_or (set spans x.node v) n no_span ≡ v = subst (λ m. get_or (set spans x.node v) m no_span ≡ v) same (get_or-set_same spans x.node v no_span within) in
        let value : v ≡ widened (span_of (stages_of (take i parts) n)) x.stage = is_v ∙ ap (λ m. widened (get_or spans m no_span) x.stage) same ∙ ap (λ o. widened o x.stage) (so_far n) in
        let grown : stages_of (take (i + 1) parts) n ≡ stages_of (take i parts) n ++ x.stage ∷ [] = step ∙ ap (λ (c : Bool). stages_of (take i parts) n ++ map stage (cond c (x ∷ []) [])) e in
        here ∙ value ∙ sym (ap span_of grown ∙ fold-append widened None (stages_of (take i parts) n) (x.stage ∷ []))
    by false e =
        let other : n ≢ x.node = λ (same : n ≡ x.node). absurd (let yes = eq-eqb x.node n (sym same) in cc) in
        let grown : stages_of (take (i + 1) parts) n ≡ stages_of (take i parts) n =
        step ∙ ap (λ (c : Bool). stages_of (take i parts) n ++ map stage (cond c (x ∷ []) [])) e ∙ append-nil (stages_of (take i parts) n) in
        get_or-set_other spans x.node n v no_span other ∙ so_far n ∙ sym (ap span_of grown)

-- the nodes that have quanta there, rising, are those that stand in the stage
pub nodes_are : (p : Program) (parts : List Part) (k : ℕ) (quanta : List ℕ) → length quanta ≡ length p.nodes → ((n : ℕ) → get_or quanta n 0 ≡ told (quanta_in parts n k))
    → filter (λ n. nat_lt 0 (get_or quanta n 0)) (range_with_len 0 (length quanta)) ≡ nodes_in p parts k
nodes_are p parts k quanta long each =
    filter_alike (λ n. nat_lt 0 (get_or quanta n 0)) (λ n. nat_lt 0 (quanta_in parts n k)) (range_with_len 0 (length quanta))
    (λ i d lt. (let n = get_or (range_with_len 0 (length quanta)) i d in ap (nat_lt 0) (each n) ∙ some_told (quanta_in parts n k)))
    ∙ ap (λ len. filter (λ n. nat_lt 0 (quanta_in parts n k)) (range_with_len 0 len)) long
  where
    some_told : (q : ℕ) → nat_lt 0 (told q) ≡ nat_lt 0 q
    some_told zero = refl
    some_told (suc q) = grind arith

-- ---- the stages of a node

abbrev pub last_of : Option Span → ℕ
last_of None = 0
last_of (Some s) = s.last

pub last_is : (parts : List Part) (n : ℕ) (o : Option Span) → o ≡ span_of (stages_of parts n) → last_of o ≡ last_stage parts n
last_is parts n o same = by o (subst (IsSpan (stages_of parts n)) (sym same) (is_span (stages_of parts n)))
  where
    stages : List ℕ
    stages = stages_of parts n

    by : (s : Option Span) → IsSpan stages s → last_of s ≡ greatest_by (λ k. k) stages
    by None none = ap (greatest_by (λ k. k)) (sym none)
    by (Some s) is =
        let up = All-contains (λ k. k ≤ greatest_by (λ j. j) stages) stages s.last (items-le (λ k. k) 0 stages) is.last in
        let down : greatest_by (λ k. k) stages ≤ s.last = greatest-le (λ k. k) 0 s.last stages (omega arith) (All-weaker (λ k. (s.first ≤ k) × (k ≤ s.last)) (λ k. k ≤ s.last) (λ k h. h.1) stages is.within) in
        omega (arith, up, down)

abbrev quanta_with : ℕ → Part → ℕ
quanta_with n x = cond (x.node == n) x.quanta 0

none_zero : (n : ℕ) (parts : List Part) → stages_of parts n ≡ [] → quanta_of parts n ≡ 0
none_zero n [] none = refl
none_zero n (x ∷ xs) none = by (x.node == n) refl (none_zero n xs)
  where
    by : (b : Bool) → (x.node == n) ≡ b → (stages_of xs n ≡ [] → quanta_of xs n ≡ 0) → quanta_of (x ∷ xs) n ≡ 0
    by true e later =
        let there : x.stage ∷ stages_of xs n ≡ [] = sym (ap (λ b. map (λ (y : Part). y.stage) (cond b (x ∷ filter (λ (y : Part). y.node == n) xs) (filter (λ (y : Part). y.node == n) xs))) e) ∙ none in
        absurd cc
    by false e later =
        let rest : stages_of xs n ≡ [] = sym (ap (λ b. map (λ (y : Part). y.stage) (cond b (x ∷ filter (λ (y : Part). y.node == n) xs) (filter (λ (y : Part). y.node == n) xs))) e) ∙ none in
        let own : quanta_with n x ≡ 0 = ap (λ b. cond b x.quanta 0) e in
        omega (arith, sum_by-cons (quanta_with n) x xs, own, later rest)

zero_none : (n : ℕ) (parts : List Part) → All (λ (x : Part). 0 < x.quanta) parts → quanta_of parts n ≡ 0 → stages_of parts n ≡ []
zero_none n [] some none = refl
zero_none n (x ∷ xs) some none = by (x.node == n) refl (zero_none n xs (All-tail (λ (y : Part). 0 < y.quanta) x xs some))
  where
    own_some : 0 < x.quanta
    own_some = All-head (λ (y : Part). 0 < y.quanta) x xs some

    sums : quanta_of (x ∷ xs) n ≡ quanta_with n x + quanta_of xs n
    sums = sum_by-cons (quanta_with n) x xs

    by : (b : Bool) → (x.node == n) ≡ b → (quanta_of xs n ≡ 0 → stages_of xs n ≡ []) → stages_of (x ∷ xs) n ≡ []
    by true e later =
        let own : quanta_with n x ≡ x.quanta = ap (λ b. cond b x.quanta 0) e in
        absurd (omega (arith, none, sums, own, own_some))
    by false e later =
        ap (λ b. map (λ (y : Part). y.stage) (cond b (x ∷ filter (λ (y : Part). y.node == n) xs) (filter (λ (y : Part). y.node == n) xs))) e
        ∙ later (omega (arith, none, sums))

-- a node stands somewhere exactly where it has quanta
pub stands_where : (parts : List Part) (n : ℕ) → All (λ (x : Part). 0 < x.quanta) parts → (span_of (stages_of parts n) ≢ no_span) ↔ (0 < quanta_of parts n)
stands_where parts n some = (to, from)
  where
    to : span_of (stages_of parts n) ≢ no_span → 0 < quanta_of parts n
    to there = elim (cases_lt 0 (quanta_of parts n)) [
      | inl lt ↦ lt
      | inr le ↦ absurd (there (ap span_of (zero_none n parts some (let e : quanta_of parts n ≡ 0 = omega (arith, le) in e))))
    ]

    from : 0 < quanta_of parts n → span_of (stages_of parts n) ≢ no_span
    from has none =
        let empty : stages_of parts n ≡ [] = subst (IsSpan (stages_of parts n)) none (is_span (stages_of parts n)) in
        absurd (omega (arith, has, none_zero n parts empty))

-- ---- the tests of a gate

abbrev pub made : Test → ℕ → Lane → GateTest
made t low lane = record { lane = lane; value = slice t.value low lane.len; mask = slice t.mask low lane.len }

head_same : {A : Type 0} (a b : A) (xs ys : List A) → a ∷ xs ≡ b ∷ ys → a ≡ b
head_same a b xs ys e = cc

pub tests_long : (t : Test) (low : ℕ) (lanes : List Lane) → length (tests_from low t lanes) ≡ length lanes
tests_long t low [] = refl
tests_long t low (lane ∷ lanes) = ap suc (tests_long t (low + lane.len) lanes)

module _ (t : Test) (lanes : List Lane) (tests : List GateTest) (i low : ℕ) (d : Lane) (e : GateTest) (long : length tests ≡ length lanes)
    (so_far : tests_from 0 t lanes ≡ take i (reverse tests) ++ tests_from low t (drop i lanes)) where
  abbrev back : List GateTest
  back = reverse tests

  abbrev rest : List GateTest
  rest = tests_from (low + (get_or lanes i d).len) t (drop (suc i) lanes)

  module _ (lt : i < length lanes) where
    within : i < length tests
    within = omega (arith, lt, long)

    step : tests_from low t (drop i lanes) ≡ made t low (get_or lanes i d) ∷ rest
    step = ap (tests_from low t) (drop-cons lanes i d lt)

    -- one test more agrees
    pub tests_more : get_or tests (length tests - 1 - i) e ≡ made t low (get_or lanes i d)
        → tests_from 0 t lanes ≡ take (i + 1) (reverse tests) ++ tests_from (low + (get_or lanes i d).len) t (drop (i + 1) lanes)
    tests_more is =
        let item : get_or back i e ≡ made t low (get_or lanes i d) = get_or-reverse tests i e within ∙ is in
        so_far ∙ ap (λ (r : List GateTest). take i back ++ r) step
        ∙ ap (λ (y : GateTest). take i back ++ y ∷ rest) (sym item)
        ∙ sym (append_assoc (take i back) (get_or back i e ∷ []) rest)
        ∙ ap (λ (f : List GateTest). f ++ rest) (sym (take_more back i e (omega (arith, within, length-reverse tests))))
        ∙ ap (λ j. take (i + 1) back ++ tests_from (low + (get_or lanes i d).len) t (drop j lanes)) (let one : suc i ≡ i + 1 = omega arith in one)

    -- where all agree, the next one does
    pub tests_next : tests ≡ reverse (tests_from 0 t lanes) → get_or tests (length tests - 1 - i) e ≡ made t low (get_or lanes i d)
    tests_next all =
        let whole : back ≡ tests_from 0 t lanes = ap (λ (xs : List GateTest). reverse xs) all ∙ reverse-reverse (tests_from 0 t lanes) in
        let left : drop i back ≡ tests_from low t (drop i lanes) = append_cancel_left (take i back) _ _ (take-append-drop i back ∙ whole ∙ so_far) in
        let there : get_or back i e ∷ drop (suc i) back ≡ made t low (get_or lanes i d) ∷ rest =
        sym (drop-cons back i e (omega (arith, within, length-reverse tests))) ∙ left ∙ step in
        sym (get_or-reverse tests i e within) ∙ head_same _ _ _ _ there

  -- all agree
  pub tests_end : length lanes ≤ i → tests ≡ reverse (tests_from 0 t lanes)
  tests_end le =
      let none : drop i lanes ≡ [] = drop_all i lanes le in
      let whole : tests_from 0 t lanes ≡ back =
      so_far ∙ ap (λ (ls : List Lane). take i back ++ tests_from low t ls) none ∙ append-nil (take i back) ∙ take_all i back (omega (arith, le, long, length-reverse tests)) in
      sym (reverse-reverse tests) ∙ ap (λ (xs : List GateTest). reverse xs) (sym whole)

pub bits_more : (lanes : List Lane) (i low : ℕ) (d : Lane) → i < length lanes → low + bits_of_lanes (drop i lanes) ≡ bits_of_lanes lanes
    → low + (get_or lanes i d).len + bits_of_lanes (drop (i + 1) lanes) ≡ bits_of_lanes lanes
bits_more lanes i low d lt left =
    let here = at_drop_more bits_of_lanes lanes i d lt in
    let cut = bits_of_lanes-cons (get_or lanes i d) (drop (i + 1) lanes) in
    omega (arith, left, here, cut)

-- ---- all units

pub some_quanta : (nodes stages : ℕ) (parts : List Part) → All (IsPartOf nodes stages) parts → All (λ (x : Part). 0 < x.quanta) parts
some_quanta nodes stages parts stand = All-weaker (IsPartOf nodes stages) (λ (x : Part). 0 < x.quanta) (λ x is. is.some) parts stand

pub own_nodes : (nodes stages : ℕ) (parts : List Part) → All (IsPartOf nodes stages) parts → All (λ (x : Part). x.node < nodes) parts
own_nodes nodes stages parts stand = All-weaker (IsPartOf nodes stages) (λ (x : Part). x.node < nodes) (λ x is. is.node) parts stand

pub parts_stand_there : (p : Program) (places : List (List Lane)) (parts : List Part) (starts : List ℕ) (c : Config) → UnitsCarried p places parts starts c → All (IsPartOf (length p.nodes) (length c.stages)) parts
parts_stand_there p places parts starts c units =
    All-weaker (λ (x : Part). (x.node < length p.nodes) × (x.stage < length c.stages) × (0 < x.quanta)) (IsPartOf (length p.nodes) (length c.stages))
    (λ x is. record { node = is.0; stage = is.1; some = is.2 }) parts units.no_other

abbrev pub StagesStand : Program → List (List Lane) → List Part → List Stage → Type 0
StagesStand p places parts stages =
    (k : ℕ) → k < length stages → IsSomeAnd (slice_get stages k) (λ (s : Stage). AllZip (UnitCarried p places parts k) (nodes_in p parts k) s.units)

pub units_carried : (p : Program) (places : List (List Lane)) (parts : List Part) (starts : List ℕ) (c : Config) → map (λ (s : Stage). s.start) c.stages ≡ starts
    → All (IsPartOf (length p.nodes) (length c.stages)) parts → ((n : ℕ) → n < length p.nodes → span_of (stages_of parts n) ≢ no_span) → StagesStand p places parts c.stages
    → UnitsCarried p places parts starts c
units_carried p places parts starts c start stand there units = record {
  each_node = λ n lt. (stands_where parts n (some_quanta (length p.nodes) (length c.stages) parts stand)).0 (there n lt);
  no_other = All-weaker (IsPartOf (length p.nodes) (length c.stages)) (λ (x : Part). (x.node < length p.nodes) × (x.stage < length c.stages) × (0 < x.quanta))
      (λ x is. (is.node, is.stage, is.some)) parts stand;
  starts_are = start;
  units = units;
}
