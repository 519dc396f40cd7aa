-- Counters, a hit and a number at a time.
use Rattle.std.proofs.Common.{◌≡◌, ◌≢◌, ℕ, zero, suc, ◌+◌, ◌%◌, ◌^◌, ◌<◌, ◌≤◌, ◌++◌, Bool, true, false, ◌==◌, nat_lt, cond, List, [], ◌∷◌, length, map, take, drop, get_or, Err, ◌⊎◌, inl, inr, ⊎_elim, zero-add, refl, sym, ap, subst, ◌∙◌, tests, arith}
use Rattle.std.specs.Prelude.{All, count_by, sum_by, insert, slice_set}
use Rattle.std.specs.Ordering.{nat_cmp}
use Rattle.std.specs.List.Sorted.{IsBinarySearchResult}
use Rattle.std.proofs.lemmas.Bool.{cases_eq, cases_order, ltb-true, eq-eqb}
use Rattle.std.proofs.lemmas.List.{same_lists, length-map, length-set, map-append, take-append-drop, get_or-map, get_or-set_same, get_or-set_other, get_or_default}
use Rattle.std.proofs.lemmas.List.Elements.{All-cons, All-head, All-nil, All-tail}
use Rattle.std.proofs.lemmas.List.Kept.{AllPairs-cons}
use Rattle.std.proofs.lemmas.List.Sums.{sum_by-append}
use Rattle.std.proofs.Math.Nat.{mod-add-mod}
use Rattle.rmt_bits.specs.declared.answer.Count.{Count}
use Rattle.rmt_bits.specs.Counts.{Hit, count_for}
use Rattle.rmt_bits.specs.Counting.{BeginsWith, with_packet, with_hit, counted, AreRising, zero_count, with_count}
use Rattle.rmt_bits.proofs.PairLaws.{AllPairs-head, AllPairs-tail}
use Rattle.rmt_bits.proofs.SearchLaws.{parted}

is_other : (n m : ℕ) → n ≢ m → (n == m) ≡ false
is_other n m h = grind (arith, tests)

hit_own : (n b : ℕ) (c : Count) → c.entry ≡ n → with_hit n b c ≡ with_packet b c
hit_own n b c h = ap (λ t. cond t (with_packet b c) c) (eq-eqb n c.entry (sym h))

hit_other : (n b : ℕ) (c : Count) → c.entry ≢ n → with_hit n b c ≡ c
hit_other n b c h = ap (λ t. cond t (with_packet b c) c) (is_other n c.entry (λ e. h (sym e)))

-- where no counter is of the entry nothing changes
pub counted_absent : (cs : List Count) (n b : ℕ) → ((k : ℕ) (d : Count) → k < length cs → (get_or cs k d).entry ≢ n) → cs ≡ counted b cs n
counted_absent [] n b h = refl
counted_absent (c ∷ cs) n b h =
    ap (λ (x : Count). x ∷ cs) (sym (hit_other n b c (h 0 c (omega arith)))) ∙ ap (λ (xs : List Count). with_hit n b c ∷ xs) (counted_absent cs n b (λ k d lt. h (suc k) d (omega arith)))

-- counters begin with the same number where one is set that has the number that stood there
pub begins_set : (cs : List Count) (i n : ℕ) (x d : Count) → i < length cs → x.entry ≡ (get_or cs i d).entry → BeginsWith n cs → BeginsWith n (slice_set cs i x)
begins_set [] i n x d inside own begins = begins
begins_set (c ∷ cs) zero n x d inside own begins = All-cons (λ (first : Count). n ≡ first.entry) x [] (All-head (λ (first : Count). n ≡ first.entry) c [] begins ∙ sym own) (All-tail (λ (first : Count). n ≡ first.entry) c [] begins)
begins_set (c ∷ cs) (suc i) n x d inside own begins = begins

-- and where one is put in behind the first, or is the first and has the number
pub begins_here : (cs : List Count) (x : Count) → BeginsWith x.entry (insert cs 0 x)
begins_here cs x = All-cons (λ (first : Count). x.entry ≡ first.entry) x [] refl (All-nil (λ (first : Count). x.entry ≡ first.entry))

-- the counter of the entry alone changes
pub counted_found : (cs : List Count) (i n b : ℕ) (d : Count) → AreRising cs → i < length cs → (get_or cs i d).entry ≡ n → slice_set cs i (with_packet b (get_or cs i d)) ≡ counted b cs n
counted_found cs i n b d rising inside own =
    same_lists _ _ (length-set cs i _ ∙ sym (length-map cs (with_hit n b)))
    (λ k e lt. let within : k < length cs = subst (λ m. k < m) (length-set cs i _) lt in at k e within (cases_eq k i) ∙ sym (get_or-map (with_hit n b) cs k d e within))
  where
    at : (k : ℕ) (e : Count) → k < length cs → (k ≡ i) ⊎ (k ≢ i) → get_or (slice_set cs i (with_packet b (get_or cs i d))) k e ≡ with_hit n b (get_or cs k d)
    at k e within (inl same) =
        ap (λ j. get_or (slice_set cs i (with_packet b (get_or cs i d))) j e) same ∙ get_or-set_same cs i _ e inside ∙ sym (hit_own n b (get_or cs i d) own) ∙ ap (λ j. with_hit n b (get_or cs j d)) (sym same)
    at k e within (inr apart) =
        get_or-set_other cs i k _ e apart ∙ get_or_default cs k e d within ∙ sym (hit_other n b (get_or cs k d) (λ h. apart (other k within h)))
      where
        other : (j : ℕ) → j < length cs → (get_or cs j d).entry ≡ n → j ≡ i
        other j lt h =
            ⊎_elim (λ (e : j ≡ i). e)
            (λ (o : (j < i) ⊎ (i < j)). ⊎_elim
            (λ (low : j < i). absurd (let up = rising j i d low inside in omega (arith, h, own)))
            (λ (high : i < j). absurd (let up = rising i j d high lt in omega (arith, h, own))) o)
            (cases_order j i)

-- a hit of an entry by a packet of so many bytes
abbrev pub hit_of_bytes : ℕ → ℕ → Hit
hit_of_bytes bytes n = record { number = n; bytes = bytes }

hit_counted : (hs : List Hit) (n b m : ℕ) → with_hit n b (count_for hs m) ≡ count_for (hs ++ hit_of_bytes b n ∷ []) m
hit_counted hs n b m = by (n == m) refl
  where
    number_is : Hit → Bool
    number_is h = h.number == m

    bytes_if : Hit → ℕ
    bytes_if h = cond (h.number == m) h.bytes 0

    parts : (x y z w : ℕ) → x ≡ z → y ≡ w → ◌≡◌ {A = Count} (record { entry = m; packets = x; bytes = y }) (record { entry = m; packets = z; bytes = w })
    parts x y z w e f = ap (λ (v : ℕ). record { entry = m; packets = v; bytes = y }) e ∙ ap (λ (v : ℕ). record { entry = m; packets = z; bytes = v }) f

    packets_more : (t : Bool) → (n == m) ≡ t → count_by number_is (hs ++ hit_of_bytes b n ∷ []) ≡ count_by number_is hs + cond t 1 0
    packets_more t e = sum_by-append (λ (h : Hit). cond (number_is h) 1 0) hs (hit_of_bytes b n ∷ []) ∙ ap (λ k. count_by number_is hs + k) (ap (λ u. 0 + cond u 1 0) e ∙ zero-add (cond t 1 0))

    bytes_more : (t : Bool) → (n == m) ≡ t → sum_by bytes_if (hs ++ hit_of_bytes b n ∷ []) ≡ sum_by bytes_if hs + cond t b 0
    bytes_more t e = sum_by-append bytes_if hs (hit_of_bytes b n ∷ []) ∙ ap (λ k. sum_by bytes_if hs + k) (ap (λ u. 0 + cond u b 0) e ∙ zero-add (cond t b 0))

    by : (t : Bool) → (n == m) ≡ t → with_hit n b (count_for hs m) ≡ count_for (hs ++ hit_of_bytes b n ∷ []) m
    by true e =
        ap (λ t. cond t (with_packet b (count_for hs m)) (count_for hs m)) e
        ∙ parts _ _ _ _
        (mod-add-mod (count_by number_is hs) (2 ^ 48) 1 ∙ ap (λ x. x % 2 ^ 48) (sym (packets_more true e)))
        (mod-add-mod (sum_by bytes_if hs) (2 ^ 64) b ∙ ap (λ x. x % 2 ^ 64) (sym (bytes_more true e)))
    by false e =
        ap (λ t. cond t (with_packet b (count_for hs m)) (count_for hs m)) e
        ∙ parts _ _ _ _
        (ap (λ x. x % 2 ^ 48) (sym (packets_more false e ∙ (let zero : count_by number_is hs + 0 ≡ count_by number_is hs = omega arith in zero))))
        (ap (λ x. x % 2 ^ 64) (sym (bytes_more false e ∙ (let zero : sum_by bytes_if hs + 0 ≡ sum_by bytes_if hs = omega arith in zero))))

pub counted_once : (hs : List Hit) (n b : ℕ) (ms : List ℕ) → counted b (map (count_for hs) ms) n ≡ map (count_for (hs ++ hit_of_bytes b n ∷ [])) ms
counted_once hs n b [] = refl
counted_once hs n b (m ∷ ms) =
    ap (λ (c : Count). c ∷ counted b (map (count_for hs) ms) n) (hit_counted hs n b m) ∙ ap (λ (cs : List Count). count_for (hs ++ hit_of_bytes b n ∷ []) m ∷ cs) (counted_once hs n b ms)

-- among counters of lower and of higher entries only the others change
pub counted-among : (low cs high : List Count) (n b : ℕ) → All (λ (c : Count). c.entry < n) low → All (λ (c : Count). n < c.entry) high
    → low ++ (counted b cs n ++ high) ≡ counted b (low ++ (cs ++ high)) n
counted-among low cs high n b below above =
    ap (λ (xs : List Count). xs ++ (counted b cs n ++ high)) (counted_absent low n b (λ k d lt e. absurd (let up = below k d lt in omega (arith, e))))
    ∙ ap (λ (xs : List Count). counted b low n ++ (counted b cs n ++ xs)) (counted_absent high n b (λ k d lt e. absurd (let up = above k d lt in omega (arith, e))))
    ∙ ap (λ (xs : List Count). counted b low n ++ xs) (sym (map-append (with_hit n b) cs high))
    ∙ sym (map-append (with_hit n b) low (cs ++ high))

-- a number among counters: behind lower ones, and before higher ones
with_count-later : (n : ℕ) (c : Count) (cs : List Count) → c.entry < n → with_count n (c ∷ cs) ≡ c ∷ with_count n cs
with_count-later n c cs lt =
    let not_less : nat_lt n c.entry ≡ false = grind (arith, tests) in
    ap (λ t. cond t (zero_count n ∷ c ∷ cs) (cond (n == c.entry) (c ∷ cs) (c ∷ with_count n cs))) not_less
    ∙ ap (λ t. cond t (c ∷ cs) (c ∷ with_count n cs)) (is_other n c.entry (λ e. absurd (omega (arith, e, lt))))

pub with_count-above : (n : ℕ) (low cs : List Count) → All (λ (c : Count). c.entry < n) low → with_count n (low ++ cs) ≡ low ++ with_count n cs
with_count-above n [] cs below = refl
with_count-above n (c ∷ low) cs below =
    with_count-later n c (low ++ cs) (All-head (λ (c : Count). c.entry < n) c low below)
    ∙ ap (λ (xs : List Count). c ∷ xs) (with_count-above n low cs (All-tail (λ (c : Count). c.entry < n) c low below))

with_count-first : (n : ℕ) (high : List Count) → All (λ (c : Count). n < c.entry) high → with_count n high ≡ zero_count n ∷ high
with_count-first n [] above = refl
with_count-first n (c ∷ high) above =
    let up : n < c.entry = All-head (λ (c : Count). n < c.entry) c high above in
    let is_less : nat_lt n c.entry ≡ true = grind (arith, tests) in
    ap (λ t. cond t (zero_count n ∷ c ∷ high) (cond (n == c.entry) (c ∷ high) (c ∷ with_count n high))) is_less

pub with_count-below : (n : ℕ) (cs high : List Count) → All (λ (c : Count). n < c.entry) high → with_count n (cs ++ high) ≡ with_count n cs ++ high
with_count-below n [] high above = with_count-first n high above
with_count-below n (c ∷ cs) high above = by (nat_lt n c.entry) (n == c.entry) (with_count-below n cs high above)
  where
    by : (b e : Bool) → with_count n (cs ++ high) ≡ with_count n cs ++ high
        → cond b (zero_count n ∷ c ∷ (cs ++ high)) (cond e (c ∷ (cs ++ high)) (c ∷ with_count n (cs ++ high))) ≡ cond b (zero_count n ∷ c ∷ cs) (cond e (c ∷ cs) (c ∷ with_count n cs)) ++ high
    by true e h = refl
    by false true h = refl
    by false false h = ap (λ (xs : List Count). c ∷ xs) h

pub with_count-among : (low cs high : List Count) (n : ℕ) → All (λ (c : Count). c.entry < n) low → All (λ (c : Count). n < c.entry) high
    → low ++ (with_count n cs ++ high) ≡ with_count n (low ++ (cs ++ high))
with_count-among low cs high n below above =
    ap (λ (xs : List Count). low ++ xs) (sym (with_count-below n cs high above)) ∙ sym (with_count-above n low (cs ++ high) below)

-- at its place where it has none, and nowhere where it has one
pub with_count-here : (cs : List Count) (n i : ℕ) → AreRising cs → IsBinarySearchResult (λ (c : Count). nat_cmp c.entry n) cs (Err i)
    → take i cs ++ zero_count n ∷ drop i cs ≡ with_count n cs
with_count-here cs n i rising h =
    let parts = parted (λ (c : Count). c.entry) cs n i rising h in
    ap (λ (xs : List Count). take i cs ++ xs) (sym (with_count-first n (drop i cs) parts.1))
    ∙ sym (with_count-above n (take i cs) (drop i cs) parts.0)
    ∙ ap (with_count n) (take-append-drop i cs)

pub with_count-there : (cs : List Count) (n i : ℕ) (d : Count) → AreRising cs → i < length cs → (get_or cs i d).entry ≡ n → cs ≡ with_count n cs
with_count-there [] n i d rising inside own = absurd (omega (arith, inside))
with_count-there (c ∷ cs) n zero d rising inside own =
    let not_less : nat_lt n c.entry ≡ false = grind (arith, tests) in
    sym (ap (λ t. cond t (zero_count n ∷ c ∷ cs) (cond (n == c.entry) (c ∷ cs) (c ∷ with_count n cs))) not_less
    ∙ ap (λ t. cond t (c ∷ cs) (c ∷ with_count n cs)) (eq-eqb n c.entry (sym own)))
with_count-there (c ∷ cs) n (suc i) d rising inside own =
    let up = rising 0 (suc i) d (omega arith) inside in
    let lower : c.entry < n = omega (arith, up, own) in
    ap (λ (xs : List Count). c ∷ xs) (with_count-there cs n i d (λ a b e lt within. rising (suc a) (suc b) e (omega (arith, lt)) (omega (arith, within))) (omega (arith, inside)) own)
    ∙ sym (with_count-later n c cs lower)

-- it is one more, or none
pub with_count-length : (n : ℕ) (cs : List Count) → (length cs ≤ length (with_count n cs)) × (length (with_count n cs) ≤ length cs + 1)
with_count-length n [] = (omega arith, omega arith)
with_count-length n (c ∷ cs) = by (nat_lt n c.entry) (n == c.entry) (with_count-length n cs)
  where
    by : (b e : Bool) → (length cs ≤ length (with_count n cs)) × (length (with_count n cs) ≤ length cs + 1)
        → (length (c ∷ cs) ≤ length (cond b (zero_count n ∷ c ∷ cs) (cond e (c ∷ cs) (c ∷ with_count n cs)))) × (length (cond b (zero_count n ∷ c ∷ cs) (cond e (c ∷ cs) (c ∷ with_count n cs))) ≤ length (c ∷ cs) + 1)
    by true e h = (omega arith, omega arith)
    by false true h = (omega arith, omega arith)
    by false false h = (omega arith, omega arith)

-- and it is there
pub with_count-some : (n : ℕ) (cs : List Count) → 0 < length (with_count n cs)
with_count-some n [] = omega arith
with_count-some n (c ∷ cs) = by (nat_lt n c.entry) (n == c.entry)
  where
    by : (b e : Bool) → 0 < length (cond b (zero_count n ∷ c ∷ cs) (cond e (c ∷ cs) (c ∷ with_count n cs)))
    by true e = omega arith
    by false true = omega arith
    by false false = omega arith

-- counters keep their order
entry_kept : (n b : ℕ) (c : Count) → (with_hit n b c).entry ≡ c.entry
entry_kept n b c = by (n == c.entry)
  where
    by : (t : Bool) → (cond t (with_packet b c) c).entry ≡ c.entry
    by true = refl
    by false = refl

pub counted-rises : (b n : ℕ) (cs : List Count) → AreRising cs → AreRising (counted b cs n)
counted-rises b n cs rising i j d lt inside =
    let within : j < length cs = subst (λ m. j < m) (length-map cs (with_hit n b)) inside in
    let at_i : (get_or (counted b cs n) i d).entry ≡ (get_or cs i d).entry = ap (λ (c : Count). c.entry) (get_or-map (with_hit n b) cs i d d (omega arith)) ∙ entry_kept n b (get_or cs i d) in
    let at_j : (get_or (counted b cs n) j d).entry ≡ (get_or cs j d).entry = ap (λ (c : Count). c.entry) (get_or-map (with_hit n b) cs j d d within) ∙ entry_kept n b (get_or cs j d) in
    let up = rising i j d lt within in
    omega arith

with_count-over : (l n : ℕ) (cs : List Count) → l < n → All (λ (c : Count). l < c.entry) cs → All (λ (c : Count). l < c.entry) (with_count n cs)
with_count-over l n [] lt all = All-cons (λ (c : Count). l < c.entry) (zero_count n) [] lt all
with_count-over l n (c ∷ cs) lt all = by (nat_lt n c.entry) (n == c.entry) (with_count-over l n cs lt (All-tail (λ (c : Count). l < c.entry) c cs all))
  where
    by : (b e : Bool) → All (λ (c : Count). l < c.entry) (with_count n cs) → All (λ (c : Count). l < c.entry) (cond b (zero_count n ∷ c ∷ cs) (cond e (c ∷ cs) (c ∷ with_count n cs)))
    by true e rest = All-cons (λ (c : Count). l < c.entry) (zero_count n) (c ∷ cs) lt all
    by false true rest = all
    by false false rest = All-cons (λ (c : Count). l < c.entry) c (with_count n cs) (All-head (λ (c : Count). l < c.entry) c cs all) rest

pub with_count-rises : (n : ℕ) (cs : List Count) → AreRising cs → AreRising (with_count n cs)
with_count-rises n [] h = AllPairs-cons (λ (a b : Count). a.entry < b.entry) (zero_count n) [] (λ k d lt. absurd (omega (arith, lt))) h
with_count-rises n (c ∷ cs) h = by (with_count-rises n cs (AllPairs-tail (λ (a b : Count). a.entry < b.entry) c cs h)) (nat_lt n c.entry) refl (n == c.entry) refl
  where
    later : n < c.entry → All (λ (x : Count). n < x.entry) (c ∷ cs)
    later lt = All-cons (λ (x : Count). n < x.entry) c cs lt (λ k d inside. let up = AllPairs-head (λ (a b : Count). a.entry < b.entry) c cs h k d inside in omega (arith, up))

    greater_of : nat_lt n c.entry ≡ false → (n == c.entry) ≡ false → c.entry < n
    greater_of a b = grind (arith, tests)

    by : AreRising (with_count n cs) → (b : Bool) → nat_lt n c.entry ≡ b → (e : Bool) → (n == c.entry) ≡ e → AreRising (cond b (zero_count n ∷ c ∷ cs) (cond e (c ∷ cs) (c ∷ with_count n cs)))
    by rest true lt e same = AllPairs-cons (λ (a b : Count). a.entry < b.entry) (zero_count n) (c ∷ cs) (later (ltb-true n c.entry lt)) h
    by rest false lt true same = h
    by rest false lt false same =
        AllPairs-cons (λ (a b : Count). a.entry < b.entry) c (with_count n cs) (with_count-over c.entry n cs (greater_of lt same) (AllPairs-head (λ (a b : Count). a.entry < b.entry) c cs h)) rest
