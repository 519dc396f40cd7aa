-- Numbers in order, each once, and counters of them.
use Rattle.std.proofs.Common.{◌≡◌, ◌≢◌, ℕ, ◌%◌, ◌^◌, ◌<◌, ◌++◌, ◌⊎◌, ◌||◌, Bool, true, false, ◌==◌, cond, List, [], ◌∷◌, length, map, get_or, inl, inr, true≢false, refl, sym, ap, subst, ◌∙◌, tests, arith}
use Rattle.std.specs.Prelude.{All, AllPairs, Contains, nat_lt}
use Rattle.std.specs.List.{list_any}
use Rattle.std.proofs.lemmas.Bool.{cases_order, ltb-true, eqb-true}
use Rattle.std.proofs.lemmas.List.{get_or-map, length-map}
use Rattle.std.proofs.lemmas.List.Elements.{All-head, All-tail, All-nil, All-cons, All-weaker, All-contains}
use Rattle.std.proofs.lemmas.List.Kept.{AllPairs-cons}
use Rattle.rmt_bits.specs.declared.answer.Count.{Count}
use Rattle.rmt_bits.specs.Counts.{Hit, count_for, counts, in_order, with_number}
use Rattle.rmt_bits.specs.Counting.{AreRising, counted, zero_count, with_count, hits_among}
use Rattle.rmt_bits.proofs.CountLaws.{hit_of_bytes, counted_once, with_count-there}
use Rattle.rmt_bits.proofs.AlikeLaws.{map_alike}
use Rattle.rmt_bits.proofs.ListLaws.{sum_by-filter, sum_by-filter_none}
use Rattle.rmt_bits.proofs.MemberLaws.{Contains-first, Contains-later, Contains-split}
use Rattle.rmt_bits.proofs.PairLaws.{AllPairs-head, AllPairs-tail}
use Rattle.rmt_bits.specs.Members.{is_among}

-- each number is below the later ones
abbrev Rise : List ℕ → Type 0
Rise ns = AllPairs (λ a b. a < b) ns

Rise-head : (n : ℕ) (ns : List ℕ) → Rise (n ∷ ns) → All (λ m. n < m) ns
Rise-head n ns h = AllPairs-head (λ a b. a < b) n ns h

Rise-tail : (n : ℕ) (ns : List ℕ) → Rise (n ∷ ns) → Rise ns
Rise-tail n ns h = AllPairs-tail (λ a b. a < b) n ns h

None-rise : Rise []
None-rise i j d lt inside = absurd (omega arith)

-- a number that is put among later ones
with_number-above : (l n : ℕ) (ms : List ℕ) → l < n → All (λ m. l < m) ms → All (λ m. l < m) (with_number n ms)
with_number-above l n [] lt all = All-cons (λ m. l < m) n [] lt all
with_number-above l n (m ∷ ms) lt all = by (nat_lt n m) (n == m) (with_number-above l n ms lt (All-tail (λ k. l < k) m ms all))
  where
    by : (b e : Bool) → All (λ k. l < k) (with_number n ms) → All (λ k. l < k) (cond b (n ∷ m ∷ ms) (cond e (m ∷ ms) (m ∷ with_number n ms)))
    by true e rest = All-cons (λ k. l < k) n (m ∷ ms) lt all
    by false true rest = all
    by false false rest = All-cons (λ k. l < k) m (with_number n ms) (All-head (λ k. l < k) m ms all) rest

with_number-rises : (n : ℕ) (ms : List ℕ) → Rise ms → Rise (with_number n ms)
with_number-rises n [] h = AllPairs-cons (λ a b. a < b) n [] (λ k d lt. absurd (omega arith)) h
with_number-rises n (m ∷ ms) h = by (with_number-rises n ms (Rise-tail m ms h)) (nat_lt n m) refl (n == m) refl
  where
    later : n < m → All (λ k. n < k) (m ∷ ms)
    later lt = All-cons (λ k. n < k) m ms lt (λ k d inside. let up = Rise-head m ms h k d inside in omega arith)

    greater : nat_lt n m ≡ false → (n == m) ≡ false → m < n
    greater a b = grind (arith, tests)

    by : Rise (with_number n ms) → (b : Bool) → nat_lt n m ≡ b → (e : Bool) → (n == m) ≡ e → Rise (cond b (n ∷ m ∷ ms) (cond e (m ∷ ms) (m ∷ with_number n ms)))
    by rest true lt e same = AllPairs-cons (λ a b. a < b) n (m ∷ ms) (later (ltb-true n m lt)) h
    by rest false lt true same = h
    by rest false lt false same = AllPairs-cons (λ a b. a < b) m (with_number n ms) (with_number-above m n ms (greater lt same) (Rise-head m ms h)) rest

in_order-rises : (ns : List ℕ) → Rise (in_order ns)
in_order-rises [] = None-rise
in_order-rises (n ∷ ns) = with_number-rises n (in_order ns) (in_order-rises ns)

-- so counters rise too
pub counts-rise : (hits : List Hit) (ns : List ℕ) → AreRising (map (count_for hits) (in_order ns))
counts-rise hits ns i j d lt inside =
    let ms = in_order ns in
    let within : j < length ms = subst (λ m. j < m) (length-map ms (count_for hits)) inside in
    let at_i : (get_or (map (count_for hits) ms) i d).entry ≡ get_or ms i 0 = ap (λ (c : Count). c.entry) (get_or-map (count_for hits) ms i 0 d (omega arith)) in
    let at_j : (get_or (map (count_for hits) ms) j d).entry ≡ get_or ms j 0 = ap (λ (c : Count). c.entry) (get_or-map (count_for hits) ms j 0 d within) in
    let up = in_order-rises ns i j 0 lt within in
    omega arith

-- counters take a hit
pub counts-hit : (numbers : List ℕ) (hits : List Hit) (n b : ℕ) (old new : List Count) → old ≡ counts numbers hits → (AreRising old → new ≡ counted b old n)
    → new ≡ counts numbers (hits ++ hit_of_bytes b n ∷ [])
counts-hit numbers hits n b old new were grown =
    grown (subst AreRising (sym were) (counts-rise hits numbers)) ∙ ap (λ (cs : List Count). counted b cs n) were ∙ counted_once hits n b (in_order numbers)

-- counters take a number that has none, or of which nothing was hit
pub with_count-with_number : (hits : List Hit) (n : ℕ) (ms : List ℕ) → zero_count n ≡ count_for hits n
    → with_count n (map (count_for hits) ms) ≡ map (count_for hits) (with_number n ms)
with_count-with_number hits n [] new = ap (λ (c : Count). c ∷ []) new
with_count-with_number hits n (m ∷ ms) new = by (nat_lt n m) (n == m) (with_count-with_number hits n ms new)
  where
    by : (b e : Bool) → with_count n (map (count_for hits) ms) ≡ map (count_for hits) (with_number n ms)
        → cond b (zero_count n ∷ count_for hits m ∷ map (count_for hits) ms) (cond e (count_for hits m ∷ map (count_for hits) ms) (count_for hits m ∷ with_count n (map (count_for hits) ms)))
        ≡ map (count_for hits) (cond b (n ∷ m ∷ ms) (cond e (m ∷ ms) (m ∷ with_number n ms)))
    by true e h = ap (λ (c : Count). c ∷ count_for hits m ∷ map (count_for hits) ms) new
    by false true h = refl
    by false false h = ap (λ (cs : List Count). count_for hits m ∷ cs) h

-- a count with the same sums
pub count_parts : (m : ℕ) {x y z w : ℕ} → x ≡ z → y ≡ w → ◌≡◌ {A = Count} (record { entry = m; packets = x % 2 ^ 48; bytes = y % 2 ^ 64 }) (record { entry = m; packets = z % 2 ^ 48; bytes = w % 2 ^ 64 })
count_parts m {x} {y} {z} {w} e f = ap (λ (v : ℕ). record { entry = m; packets = v % 2 ^ 48; bytes = y % 2 ^ 64 }) e ∙ ap (λ (v : ℕ). record { entry = m; packets = z % 2 ^ 48; bytes = v % 2 ^ 64 }) f

other_number : (numbers : List ℕ) (h : Hit) (m : ℕ) → is_among numbers m ≢ is_among numbers h.number → (x : ℕ) → cond (h.number == m) x 0 ≡ 0
other_number numbers h m apart x = by (h.number == m) refl
  where
    by : (b : Bool) → (h.number == m) ≡ b → cond b x 0 ≡ 0
    by true e = absurd (apart (ap (is_among numbers) (sym (eqb-true h.number m e))))
    by false e = refl

among-kept : (numbers : List ℕ) (hits : List Hit) (m : ℕ) → list_any (λ k. k == m) numbers ≡ true → count_for (hits_among numbers hits) m ≡ count_for hits m
among-kept numbers hits m there =
    let off = λ (h : Hit) (out : is_among numbers h.number ≡ false). other_number numbers h m (λ same. true≢false (sym there ∙ same ∙ out)) in
    let test = λ (h : Hit). is_among numbers h.number in
    count_parts m (sum_by-filter (λ h. cond (h.number == m) 1 0) test hits (λ h out. off h out 1)) (sum_by-filter (λ h. cond (h.number == m) h.bytes 0) test hits (λ h out. off h out h.bytes))

among-none : (numbers : List ℕ) (hits : List Hit) (m : ℕ) → list_any (λ k. k == m) numbers ≡ false → zero_count m ≡ count_for (hits_among numbers hits) m
among-none numbers hits m out =
    let off = λ (h : Hit) (there : is_among numbers h.number ≡ true). other_number numbers h m (λ same. true≢false (sym there ∙ sym same ∙ out)) in
    let test = λ (h : Hit). is_among numbers h.number in
    sym (count_parts m (sum_by-filter_none (λ h. cond (h.number == m) 1 0) test hits (λ h there. off h there 1))
    (sum_by-filter_none (λ h. cond (h.number == m) h.bytes 0) test hits (λ h there. off h there h.bytes)))

-- what is in order is of the list, and all of the list is in order
pub All-with_number : (P : ℕ → Type 0) (n : ℕ) (ms : List ℕ) → P n → All P ms → All P (with_number n ms)
All-with_number P n [] one all = All-cons P n [] one all
All-with_number P n (m ∷ ms) one all = by (nat_lt n m) (n == m) (All-with_number P n ms one (All-tail P m ms all))
  where
    by : (b e : Bool) → All P (with_number n ms) → All P (cond b (n ∷ m ∷ ms) (cond e (m ∷ ms) (m ∷ with_number n ms)))
    by true e h = All-cons P n (m ∷ ms) one all
    by false true h = all
    by false false h = All-cons P m (with_number n ms) (All-head P m ms all) h

in_order-of : (ns : List ℕ) → All (λ m. list_any (λ k. k == m) ns ≡ true) (in_order ns)
in_order-of [] = All-nil (λ m. list_any (λ k. k == m) [] ≡ true)
in_order-of (n ∷ ns) =
    All-with_number (λ m. list_any (λ k. k == m) (n ∷ ns) ≡ true) n (in_order ns) (own n)
    (All-weaker (λ m. list_any (λ k. k == m) ns ≡ true) (λ m. list_any (λ k. k == m) (n ∷ ns) ≡ true) more (in_order ns) (in_order-of ns))
  where
    own : (m : ℕ) → list_any (λ k. k == m) (m ∷ ns) ≡ true
    own m = let same : (m == m) ≡ true = grind (arith, tests) in ap (λ b. b || list_any (λ k. k == m) ns) same

    more : (m : ℕ) → list_any (λ k. k == m) ns ≡ true → list_any (λ k. k == m) (n ∷ ns) ≡ true
    more m h = by (n == m)
      where
        by : (b : Bool) → (b || list_any (λ k. k == m) ns) ≡ true
        by true = refl
        by false = h

with_number-own : (n : ℕ) (ms : List ℕ) → Contains (with_number n ms) n
with_number-own n [] = Contains-first n []
with_number-own n (m ∷ ms) = by (nat_lt n m) (n == m) refl (with_number-own n ms)
  where
    by : (b e : Bool) → (n == m) ≡ e → Contains (with_number n ms) n → Contains (cond b (n ∷ m ∷ ms) (cond e (m ∷ ms) (m ∷ with_number n ms))) n
    by true e same h = Contains-first n (m ∷ ms)
    by false true same h = subst (λ (k : ℕ). Contains (m ∷ ms) k) (sym (eqb-true n m same)) (Contains-first m ms)
    by false false same h = Contains-later m (with_number n ms) n h

with_number-others : (n : ℕ) (ms : List ℕ) (k : ℕ) → Contains ms k → Contains (with_number n ms) k
with_number-others n [] k there = absurd (let lt = there.1 in omega (arith, lt))
with_number-others n (m ∷ ms) k there = by (nat_lt n m) (n == m) (with_number-others n ms k)
  where
    by : (b e : Bool) → (Contains ms k → Contains (with_number n ms) k) → Contains (cond b (n ∷ m ∷ ms) (cond e (m ∷ ms) (m ∷ with_number n ms))) k
    by true e h = Contains-later n (m ∷ ms) k there
    by false true h = there
    by false false h = elim (Contains-split m ms k there) [
      | inl e ↦ subst (λ (x : ℕ). Contains (m ∷ with_number n ms) x) e (Contains-first m (with_number n ms))
      | inr later ↦ Contains-later m (with_number n ms) k (h later)
    ]

in_order-has : (ns : List ℕ) (m : ℕ) → list_any (λ k. k == m) ns ≡ true → Contains (in_order ns) m
in_order-has [] m h = absurd (true≢false (sym h))
in_order-has (n ∷ ns) m h = by (in_order-has ns m) (n == m) refl h
  where
    by : (list_any (λ k. k == m) ns ≡ true → Contains (in_order ns) m) → (b : Bool) → (n == m) ≡ b → (b || list_any (λ k. k == m) ns) ≡ true → Contains (with_number n (in_order ns)) m
    by rest true e h = subst (λ (k : ℕ). Contains (with_number n (in_order ns)) k) (eqb-true n m e) (with_number-own n (in_order ns))
    by rest false e h = with_number-others n (in_order ns) m (rest h)

with_number-there : (n : ℕ) (ms : List ℕ) → Rise ms → Contains ms n → with_number n ms ≡ ms
with_number-there n [] rise there = absurd (let lt = there.1 in omega (arith, lt))
with_number-there n (m ∷ ms) rise there = elim (Contains-split m ms n there) [
  | inl e ↦ let not_less : nat_lt n m ≡ false = grind (arith, tests) in
      let same : (n == m) ≡ true = grind (arith, tests) in
      ap (λ b. cond b (n ∷ m ∷ ms) (cond (n == m) (m ∷ ms) (m ∷ with_number n ms))) not_less ∙ ap (λ b. cond b (m ∷ ms) (m ∷ with_number n ms)) same
  | inr later ↦ let up : m < n = All-contains (λ k. m < k) ms n (Rise-head m ms rise) later in
      let not_less : nat_lt n m ≡ false = grind (arith, tests) in
      let apart : (n == m) ≡ false = grind (arith, tests) in
      ap (λ b. cond b (n ∷ m ∷ ms) (cond (n == m) (m ∷ ms) (m ∷ with_number n ms))) not_less
      ∙ ap (λ b. cond b (m ∷ ms) (m ∷ with_number n ms)) apart
      ∙ ap (λ (ks : List ℕ). m ∷ ks) (with_number-there n ms (Rise-tail m ms rise) later)
]

-- counters take a number: hits of it from before it was there don't count
pub counts-with_count : (numbers : List ℕ) (hits : List Hit) (n : ℕ) → with_count n (counts numbers hits) ≡ counts (n ∷ numbers) (hits_among numbers hits)
counts-with_count numbers hits n = by (list_any (λ k. k == n) numbers) refl
  where
    others : counts numbers hits ≡ counts numbers (hits_among numbers hits)
    others = sym (map_alike (count_for (hits_among numbers hits)) (count_for hits) (in_order numbers)
        (All-weaker (λ m. list_any (λ k. k == m) numbers ≡ true) (λ m. count_for (hits_among numbers hits) m ≡ count_for hits m) (among-kept numbers hits) (in_order numbers) (in_order-of numbers)))

    by : (b : Bool) → list_any (λ k. k == n) numbers ≡ b → with_count n (counts numbers hits) ≡ counts (n ∷ numbers) (hits_among numbers hits)
    by true there =
        let at = in_order-has numbers n there in
        let lt = at.1 in
        let own : (get_or (counts numbers hits) at.0 (zero_count 0)).entry ≡ n =
        ap (λ (c : Count). c.entry) (get_or-map (count_for hits) (in_order numbers) at.0 n (zero_count 0) lt) ∙ at.2 in
        sym (with_count-there (counts numbers hits) n at.0 (zero_count 0) (counts-rise hits numbers) (subst (λ m. at.0 < m) (sym (length-map (in_order numbers) (count_for hits))) lt) own)
        ∙ others
        ∙ ap (λ (ms : List ℕ). map (count_for (hits_among numbers hits)) ms) (sym (with_number-there n (in_order numbers) (in_order-rises numbers) at))
    by false none =
        ap (with_count n) others ∙ with_count-with_number (hits_among numbers hits) n (in_order numbers) (among-none numbers hits n none)

-- the order in which numbers come is nothing to their order
with_number-higher : (n m : ℕ) (ms : List ℕ) → n < m → with_number n (m ∷ ms) ≡ n ∷ m ∷ ms
with_number-higher n m ms lt =
    let is_less : nat_lt n m ≡ true = grind (arith, tests) in
    ap (λ b. cond b (n ∷ m ∷ ms) (cond (n == m) (m ∷ ms) (m ∷ with_number n ms))) is_less

with_number-lower : (n m : ℕ) (ms : List ℕ) → m < n → with_number n (m ∷ ms) ≡ m ∷ with_number n ms
with_number-lower n m ms lt =
    let not_less : nat_lt n m ≡ false = grind (arith, tests) in
    let apart : (n == m) ≡ false = grind (arith, tests) in
    ap (λ b. cond b (n ∷ m ∷ ms) (cond (n == m) (m ∷ ms) (m ∷ with_number n ms))) not_less ∙ ap (λ b. cond b (m ∷ ms) (m ∷ with_number n ms)) apart

with_number-same : (n m : ℕ) (ms : List ℕ) → n ≡ m → with_number n (m ∷ ms) ≡ m ∷ ms
with_number-same n m ms e =
    let not_less : nat_lt n m ≡ false = grind (arith, tests) in
    let same : (n == m) ≡ true = grind (arith, tests) in
    ap (λ b. cond b (n ∷ m ∷ ms) (cond (n == m) (m ∷ ms) (m ∷ with_number n ms))) not_less ∙ ap (λ b. cond b (m ∷ ms) (m ∷ with_number n ms)) same

lower_first : (a b m : ℕ) (ms : List ℕ) → a < b → a < m → with_number a (with_number b (m ∷ ms)) ≡ a ∷ with_number b (m ∷ ms)
lower_first a b m ms ab am = elim (cases_order b m) [
  | inl e ↦ let is = with_number-same b m ms e in ap (with_number a) is ∙ with_number-higher a m ms am ∙ ap (λ (ns : List ℕ). a ∷ ns) (sym is)
  | inr o ↦ elim o [
    | inl lt ↦ let is = with_number-higher b m ms lt in ap (with_number a) is ∙ with_number-higher a b (m ∷ ms) ab ∙ ap (λ (ns : List ℕ). a ∷ ns) (sym is)
    | inr gt ↦ let is = with_number-lower b m ms gt in ap (with_number a) is ∙ with_number-higher a m (with_number b ms) am ∙ ap (λ (ns : List ℕ). a ∷ ns) (sym is)
  ]
]

with_number-apart : (a b : ℕ) (ms : List ℕ) → a < b → with_number a (with_number b ms) ≡ with_number b (with_number a ms)
with_number-apart a b [] lt = with_number-higher a b [] lt ∙ sym (with_number-lower b a [] lt)
with_number-apart a b (m ∷ ms) lt = by (with_number-apart a b ms lt) (cases_order a m)
  where
    by : with_number a (with_number b ms) ≡ with_number b (with_number a ms) → (a ≡ m) ⊎ ((a < m) ⊎ (m < a)) → with_number a (with_number b (m ∷ ms)) ≡ with_number b (with_number a (m ∷ ms))
    by rest (inl e) =
        let low : m < b = omega (arith, e, lt) in
        ap (with_number a) (with_number-lower b m ms low) ∙ with_number-same a m (with_number b ms) e ∙ sym (ap (with_number b) (with_number-same a m ms e) ∙ with_number-lower b m ms low)
    by rest (inr (inl am)) = lower_first a b m ms lt am ∙ sym (ap (with_number b) (with_number-higher a m ms am) ∙ with_number-lower b a (m ∷ ms) lt)
    by rest (inr (inr ma)) =
        let low : m < b = omega (arith, ma, lt) in
        ap (with_number a) (with_number-lower b m ms low) ∙ with_number-lower a m (with_number b ms) ma ∙ ap (λ (ns : List ℕ). m ∷ ns) rest
        ∙ sym (ap (with_number b) (with_number-lower a m ms ma) ∙ with_number-lower b m (with_number a ms) low)

with_number-swap : (a b : ℕ) (ms : List ℕ) → with_number a (with_number b ms) ≡ with_number b (with_number a ms)
with_number-swap a b ms = elim (cases_order a b) [
  | inl e ↦ ap (λ n. with_number n (with_number b ms)) e ∙ ap (λ n. with_number b (with_number n ms)) (sym e)
  | inr o ↦ elim o [
    | inl lt ↦ with_number-apart a b ms lt
    | inr gt ↦ sym (with_number-apart b a ms gt)
  ]
]

pub in_order_push : (ns : List ℕ) (n : ℕ) → in_order (ns ++ n ∷ []) ≡ with_number n (in_order ns)
in_order_push [] n = refl
in_order_push (m ∷ ns) n = ap (with_number m) (in_order_push ns n) ∙ with_number-swap m n (in_order ns)

-- counters that are all 0 take one number more
pub zeros_push : (ns : List ℕ) (n : ℕ) → with_count n (counts ns []) ≡ counts (ns ++ n ∷ []) []
zeros_push ns n = with_count-with_number [] n (in_order ns) refl ∙ ap (λ (ms : List ℕ). map (count_for []) ms) (sym (in_order_push ns n))
