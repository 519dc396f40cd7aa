-- Steps of the loops that look at the limits.
use Rattle.std.proofs.Common.{◌≡◌, ℕ, zero, suc, ◌+◌, ◌<◌, ◌≤◌, min, max, List, [], ◌∷◌, ◌++◌, length, get_or, take, set, replicate, Bool, true, false, ◌||◌, cond, eqb, ltb, map, append_assoc, sym, refl, subst, ap, ◌∙◌, arith, ◌⊎◌, inl, inr}
use Rattle.std.proofs.Math.Bool.{or-false, or-true}
use Rattle.std.specs.List.{list_all, flat_map, sum_by, fold, range_with_len}
use Rattle.std.proofs.lemmas.Bool.{cases_eq, ne_eqb, eq-eqb, lt-ltb, le-ltb, ltb-true, and_parts, and_from}
use Rattle.std.proofs.lemmas.List.{map_more, take_more, take_all, flat_map_more, get_or-set_other, get_or-set_same, length-set, get_or-replicate}
use Rattle.std.proofs.lemmas.List.Folds.{list_any-append, list_all-append}
use Rattle.std.proofs.lemmas.List.Sums.{sum_by-append, sum_by-cons, position_or_len_is}
use Rattle.std.proofs.lemmas.List.FromFn.{length-range_with_len, get_or-range_with_len}
use Rattle.rmt_config.specs.Types.{Stage, Unit}
use Rattle.rmt_config.specs.TableForm.{node_of}
use Rattle.rmt_config.specs.Resources.{distinct, times_in, most_listed, node_numbers, node_count}
use Rattle.rmt_config.specs.Limits.{told, crowded_stage}
use Rattle.rmt_config.specs.LimitSteps.{marked_sum, Marks, Counts}
use Rattle.rmt_bits.proofs.MostLaws.{start-le}
use Rattle.rmt_bits.specs.Members.{is_among}

-- ---- numbers in lists

in_more : (ns : List ℕ) (x n : ℕ) → is_among (ns ++ x ∷ []) n ≡ (is_among ns n || eqb x n)
in_more ns x n = list_any-append (λ m. eqb m n) ns (x ∷ []) ∙ ap (λ b. is_among ns n || b) (or-false (eqb x n))

times_more : (ns : List ℕ) (x n : ℕ) → times_in (ns ++ x ∷ []) n ≡ times_in ns n + cond (eqb x n) 1 0
times_more ns x n =
    let one : times_in (x ∷ []) n ≡ cond (eqb x n) 1 0 = omega arith in
    sum_by-append (λ m. cond (eqb m n) 1 0) ns (x ∷ []) ∙ ap (λ k. times_in ns n + k) one

-- what is measured of the distinct numbers, with one number more in front
distinct_cons : (measure : ℕ → ℕ) (n : ℕ) (ns : List ℕ) → sum_by measure (distinct (n ∷ ns)) ≡ cond (is_among ns n) 0 (measure n) + sum_by measure (distinct ns)
distinct_cons measure n ns = by_cases (is_among ns n)
  where
    by_cases : (stands : Bool) → sum_by measure (cond stands (distinct ns) (n ∷ distinct ns)) ≡ cond stands 0 (measure n) + sum_by measure (distinct ns)
    by_cases true = let e : sum_by measure (distinct ns) ≡ 0 + sum_by measure (distinct ns) = omega arith in e
    by_cases false = sum_by-cons measure n (distinct ns)

-- and with one more behind them, which stands there already or is new
pub distinct_more : (measure : ℕ → ℕ) (ns : List ℕ) (x : ℕ) → sum_by measure (distinct (ns ++ x ∷ [])) ≡ sum_by measure (distinct ns) + cond (is_among ns x) 0 (measure x)
distinct_more measure [] x = sum_by-cons measure x [] ∙ (let e : measure x + 0 ≡ 0 + measure x = omega arith in e)
distinct_more measure (n ∷ ns) x =
    let rest = distinct_more measure ns x in
    let left : sum_by measure (distinct (n ∷ (ns ++ x ∷ []))) ≡ cond (is_among (ns ++ x ∷ []) n) 0 (measure n) + sum_by measure (distinct (ns ++ x ∷ [])) = distinct_cons measure n (ns ++ x ∷ []) in
    let right = distinct_cons measure n ns in
    let stands : is_among (ns ++ x ∷ []) n ≡ (is_among ns n || eqb x n) = in_more ns x n in
    elim (cases_eq n x) [
      | inl same ↦
          let before : is_among (ns ++ x ∷ []) n ≡ true = stands ∙ ap (λ b. is_among ns n || b) (eq-eqb x n (sym same)) ∙ or-true (is_among ns n) in
          let l : cond (is_among (ns ++ x ∷ []) n) 0 (measure n) ≡ 0 = ap (λ b. cond b 0 (measure n)) before in
          let r : cond (is_among (n ∷ ns) x) 0 (measure x) ≡ 0 = ap (λ b. cond (b || is_among ns x) 0 (measure x)) (eq-eqb n x same) in
          let alike : cond (is_among ns n) 0 (measure n) ≡ cond (is_among ns x) 0 (measure x) = ap (λ k. cond (is_among ns k) 0 (measure k)) same in
          omega (arith, left, right, rest, l, r, alike)
      | inr other ↦
          let before : is_among (ns ++ x ∷ []) n ≡ is_among ns n = stands ∙ ap (λ b. is_among ns n || b) (ne_eqb x n (λ s. other (sym s))) ∙ or-false (is_among ns n) in
          let l : cond (is_among (ns ++ x ∷ []) n) 0 (measure n) ≡ cond (is_among ns n) 0 (measure n) = ap (λ b. cond b 0 (measure n)) before in
          let r : cond (is_among (n ∷ ns) x) 0 (measure x) ≡ cond (is_among ns x) 0 (measure x) = ap (λ b. cond (b || is_among ns x) 0 (measure x)) (ne_eqb n x other) in
          omega (arith, left, right, rest, l, r)
    ]

-- ---- marks

-- one mark is set: what it measures is new, unless it was set before
sum_set : (measure : ℕ → ℕ) (n : ℕ) (marks : List Bool) (x : ℕ) → x < length marks
    → marked_sum measure n (set marks x true) ≡ marked_sum measure n marks + cond (get_or marks x false) 0 (measure (n + x))
sum_set measure n [] x lt = absurd (omega (arith, lt))
sum_set measure n (true ∷ marks) zero lt = let e : 0 + marked_sum measure n (true ∷ marks) ≡ marked_sum measure n (true ∷ marks) + 0 = omega arith in omega (arith, e)
sum_set measure n (false ∷ marks) zero lt = let at : n + 0 ≡ n = omega arith in rw at (omega arith)
sum_set measure n (mark ∷ marks) (suc x) lt =
    let rest = sum_set measure (n + 1) marks x (omega (arith, lt)) in
    let at : n + 1 + x ≡ n + suc x = omega arith in
    let same : measure (n + 1 + x) ≡ measure (n + suc x) = ap measure at in
    let moved : cond (get_or marks x false) 0 (measure (n + 1 + x)) ≡ cond (get_or marks x false) 0 (measure (n + suc x)) = ap (cond (get_or marks x false) 0) same in
    omega (arith, rest, moved)

no_sum : (measure : ℕ → ℕ) (n k : ℕ) → marked_sum measure n (replicate k false) ≡ 0
no_sum measure n zero = refl
no_sum measure n (suc k) = let rest = no_sum measure (n + 1) k in omega (arith, rest)

pub none_marked : Marks [] (replicate 256 false)
none_marked = record { size = refl; each = λ n lt. get_or-replicate 256 n false false lt; sums = λ measure. no_sum measure 0 256 }

pub one_marked : (ns : List ℕ) (marks : List Bool) (x : ℕ) → x < 256 → Marks ns marks → Marks (ns ++ x ∷ []) (set marks x true)
one_marked ns marks x lt m =
    let inside : x < length marks = omega (arith, m.size) in
    record {
      size = length-set marks x true ∙ m.size;
      each = λ n byte.
          elim (cases_eq n x) [
            | inl same ↦
                let now : get_or (set marks x true) x false ≡ true = get_or-set_same marks x true false inside in
                let stands : is_among (ns ++ x ∷ []) x ≡ true = in_more ns x x ∙ ap (λ b. is_among ns x || b) (eq-eqb x x refl) ∙ or-true (is_among ns x) in
                ap (λ k. get_or (set marks x true) k false) same ∙ now ∙ sym stands ∙ ap (is_among (ns ++ x ∷ [])) (sym same)
            | inr other ↦
                let now : get_or (set marks x true) n false ≡ get_or marks n false = get_or-set_other marks x n true false other in
                let stands : is_among (ns ++ x ∷ []) n ≡ is_among ns n = in_more ns x n ∙ ap (λ b. is_among ns n || b) (ne_eqb x n (λ s. other (sym s))) ∙ or-false (is_among ns n) in
                now ∙ m.each n byte ∙ sym stands
          ];
      sums = λ measure.
          let before = m.sums measure in
          let set_one = sum_set measure 0 marks x inside in
          let more = distinct_more measure ns x in
          let at : cond (get_or marks x false) 0 (measure (0 + x)) ≡ cond (is_among ns x) 0 (measure x) =
          ap (λ b. cond b 0 (measure (0 + x))) (m.each x lt) ∙ ap (λ k. cond (is_among ns x) 0 (measure k)) (let z : 0 + x ≡ x = omega arith in z) in
          omega (arith, before, set_one, more, at);
    }

-- ---- counts

pub none_counted : Counts [] (replicate 256 0)
none_counted = record { size = refl; each = λ n lt. get_or-replicate 256 n 0 0 lt; bytes = refl }

pub one_counted : (ns counts : List ℕ) (x : ℕ) → x < 256 → Counts ns counts → Counts (ns ++ x ∷ []) (set counts x (min (get_or counts x 0 + 1) 4294967295))
one_counted ns counts x lt m =
    let inside : x < length counts = omega (arith, m.size) in
    record {
      size = length-set counts x (min (get_or counts x 0 + 1) 4294967295) ∙ m.size;
      each = λ n byte.
          let times = times_more ns x n in
          let old = m.each n byte in
          elim (cases_eq n x) [
            | inl same ↦
                let now : get_or (set counts x (min (get_or counts x 0 + 1) 4294967295)) x 0 ≡ min (get_or counts x 0 + 1) 4294967295 = get_or-set_same counts x (min (get_or counts x 0 + 1) 4294967295) 0 inside in
                let one : ◌≡◌ {A = ℕ} (cond (eqb x n) 1 0) 1 = ap (λ b. cond b 1 0) (eq-eqb x n (sym same)) in
                let at : get_or counts x 0 ≡ get_or counts n 0 = ap (λ k. get_or counts k 0) (sym same) in
                ap (λ k. get_or (set counts x (min (get_or counts x 0 + 1) 4294967295)) k 0) same ∙ now ∙ (let e : min (get_or counts x 0 + 1) 4294967295 ≡ told (times_in (ns ++ x ∷ []) n) = omega (arith, times, old, one, at) in e)
            | inr other ↦
                let now = get_or-set_other counts x n (min (get_or counts x 0 + 1) 4294967295) 0 other in
                let none : ◌≡◌ {A = ℕ} (cond (eqb x n) 1 0) 0 = ap (λ b. cond b 1 0) (ne_eqb x n (λ s. other (sym s))) in
                now ∙ old ∙ ap told (let e : times_in ns n ≡ times_in (ns ++ x ∷ []) n = omega (arith, times, none) in e)
          ];
      bytes = list_all-append (λ n. ltb n 256) ns (x ∷ []) ∙ and_from (list_all (λ n. ltb n 256) ns) (list_all (λ n. ltb n 256) (x ∷ [])) m.bytes (and_from (ltb x 256) true (lt-ltb x 256 lt) refl);
    }

-- ---- the greatest of some

item_le_fold : (a : ℕ) (xs : List ℕ) (k : ℕ) → k < length xs → get_or xs k 0 ≤ fold (λ most x. max most x) a xs
item_le_fold a [] k lt = absurd (omega (arith, lt))
item_le_fold a (x ∷ xs) zero lt = let rest = start-le (λ n. n) (max a x) xs in omega (arith, rest)
item_le_fold a (x ∷ xs) (suc k) lt = item_le_fold (max a x) xs k (omega (arith, lt))

fold_le : (a most : ℕ) (xs : List ℕ) → a ≤ most → ((k : ℕ) → k < length xs → get_or xs k 0 ≤ most) → fold (λ m x. max m x) a xs ≤ most
fold_le a most [] start each = start
fold_le a most (x ∷ xs) start each =
    let head = each 0 (omega arith) in
    fold_le (max a x) most xs (omega (arith, start, head)) (λ k lt. each (suc k) (omega (arith, lt)))

-- a number that stands in a list is measured there
listed_le : (measure : ℕ → ℕ) (a : ℕ) (ns : List ℕ) (n : ℕ) → (times_in ns n ≡ 0) ⊎ (measure n ≤ fold (λ most x. max most (measure x)) a ns)
listed_le measure a [] n = inl refl
listed_le measure a (m ∷ ns) n =
    elim (cases_eq m n) [
      | inl same ↦
          let rest = start-le measure (max a (measure m)) ns in
          let alike : measure m ≡ measure n = ap measure same in
          inr (omega (arith, rest, alike))
      | inr other ↦
          elim (listed_le measure (max a (measure m)) ns n) [
            | inl none ↦
                let more = sum_by-cons (λ x. cond (eqb x n) 1 0) m ns in
                let not_it : ◌≡◌ {A = ℕ} (cond (eqb m n) 1 0) 0 = ap (λ b. cond b 1 0) (ne_eqb m n other) in
                inl (omega (arith, none, more, not_it))
            | inr le ↦ inr le
          ]
    ]

told_fold_le : (measure : ℕ → ℕ) (a most : ℕ) (ns : List ℕ) → told a ≤ most → ((n : ℕ) → n < 256 → told (measure n) ≤ most) → list_all (λ n. ltb n 256) ns ≡ true
    → told (fold (λ m x. max m (measure x)) a ns) ≤ most
told_fold_le measure a most [] start each bytes = start
told_fold_le measure a most (n ∷ ns) start each bytes =
    let parts = and_parts (ltb n 256) (list_all (λ n. ltb n 256) ns) bytes in
    let head = each n (ltb-true n 256 parts.0) in
    told_fold_le measure (max a (measure n)) most ns (omega (arith, start, head)) each parts.1

-- the greatest count is that of the block that is listed most
pub greatest_count : (ns counts : List ℕ) → Counts ns counts → fold (λ most x. max most x) 0 counts ≡ told (most_listed ns)
greatest_count ns counts m =
    let above : fold (λ most x. max most x) 0 counts ≤ told (most_listed ns) =
    fold_le 0 (told (most_listed ns)) counts (omega arith) (λ k lt.
    let at = m.each k (omega (arith, lt, m.size)) in
    elim (listed_le (times_in ns) 0 ns k) [
      | inl none ↦ omega (arith, at, none)
      | inr le ↦ omega (arith, at, le)
    ]) in
    let below : told (most_listed ns) ≤ fold (λ most x. max most x) 0 counts =
    told_fold_le (times_in ns) 0 (fold (λ most x. max most x) 0 counts) ns (omega arith)
    (λ n lt. let at = m.each n lt in let le = item_le_fold 0 counts n (omega (arith, lt, m.size)) in omega (arith, at, le)) m.bytes in
    omega (arith, above, below)

-- ---- loops

-- a loop over items that each have a number
pub front_more : {X : Type 0} (f : X → ℕ) (ns : List ℕ) (xs : List X) (i : ℕ) (d : X) → i < length xs
    → (ns ++ map f (take i xs)) ++ (f (get_or xs i d) ∷ []) ≡ ns ++ map f (take (i + 1) xs)
front_more f ns xs i d lt = append_assoc ns (map f (take i xs)) (f (get_or xs i d) ∷ []) ∙ ap (λ ys. ns ++ ys) (sym (map_more f xs i d lt))

-- a loop over items that each have a list
pub flat_more : {X : Type 0} (f : X → List ℕ) (xs : List X) (i : ℕ) (d : X) → i < length xs
    → flat_map f (take i xs) ++ f (get_or xs i d) ≡ flat_map f (take (i + 1) xs)
flat_more f xs i d lt = flat_map_more f [] (take i xs) (get_or xs i d) ∙ ap (flat_map f) (sym (take_more xs i d lt))

pub sum_of_ones : (ns : List ℕ) → sum_by (λ (n : ℕ). 1) ns ≡ length ns
sum_of_ones [] = refl
sum_of_ones (n ∷ ns) = let more = sum_by-cons (λ (m : ℕ). 1) n ns in let rest = sum_of_ones ns in omega (arith, more, rest)

-- a loop whose body marks what one item has
pub marks_of_items : {X : Type 0} (f : X → List ℕ) (xs : List X) (i : ℕ) (x : X) (marks : List Bool) → i < length xs → x ≡ get_or xs i x
    → Marks (flat_map f (take i xs) ++ f x) marks → Marks (flat_map f (take (i + 1) xs)) marks
marks_of_items f xs i x marks lt is m =
    subst (λ (ns : List ℕ). Marks ns marks) (ap (λ y. flat_map f (take i xs) ++ f y) is ∙ flat_more f xs i x lt) m

-- the end of such a loop
pub marks_of_all : {X : Type 0} (f : X → ℕ) (ns : List ℕ) (xs : List X) (i : ℕ) (marks : List Bool) → length xs ≤ i → Marks (ns ++ map f (take i xs)) marks → Marks (ns ++ map f xs) marks
marks_of_all f ns xs i marks done m = subst (λ ys. Marks (ns ++ map f ys) marks) (take_all i xs done) m

-- the same for the nodes of stages
pub marks_of_stage : (stages : List Stage) (i : ℕ) (stage : Stage) (units : List Unit) (marks : List Bool) → i < length stages → stage ≡ get_or stages i stage
    → units ≡ stage.units → Marks (node_numbers (take i stages) ++ map node_of units) marks → Marks (node_numbers (take (i + 1) stages)) marks
marks_of_stage stages i stage units marks lt is same m =
    marks_of_items (λ (s : Stage). map node_of s.units) stages i stage marks lt is
    (subst (λ (us : List Unit). Marks (node_numbers (take i stages) ++ map node_of us) marks) same m)

-- the first stage with too many nodes
pub crowded_at : (stages : List Stage) (i : ℕ) → i ≤ length stages → ((k : ℕ) → k < i → node_count (take (k + 1) stages) ≤ 128)
    → (i < length stages → 128 < node_count (take (i + 1) stages)) → crowded_stage stages ≡ i
crowded_at stages i end not_yet now =
    let size = length-range_with_len 0 (length stages) in
    position_or_len_is (λ k. ltb 128 (node_count (take (k + 1) stages))) (range_with_len 0 (length stages)) i 0 (omega (arith, size))
    (λ k lt.
    let at : get_or (range_with_len 0 (length stages)) k 0 ≡ k = get_or-range_with_len 0 (length stages) k 0 (omega (arith, lt, end)) ∙ (let z : 0 + k ≡ k = omega arith in z) in
    ap (λ n. ltb 128 (node_count (take (n + 1) stages))) at ∙ le-ltb 128 (node_count (take (k + 1) stages)) (not_yet k lt))
    (λ lt.
    let inside : i < length stages = omega (arith, lt, size) in
    let at : get_or (range_with_len 0 (length stages)) i 0 ≡ i = get_or-range_with_len 0 (length stages) i 0 inside ∙ (let z : 0 + i ≡ i = omega arith in z) in
    ap (λ n. ltb 128 (node_count (take (n + 1) stages))) at ∙ lt-ltb 128 (node_count (take (i + 1) stages)) (now inside))
