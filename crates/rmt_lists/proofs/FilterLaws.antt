-- What filters keep of entries, by their numbers.
use Rattle.std.proofs.Common.{◌≡◌, ◌≢◌, ℕ, zero, suc, ◌<◌, ◌≤◌, ◌==◌, ◌&&◌, ◌||◌, Bool, true, false, not, cond, List, [], ◌∷◌, ◌++◌, Some, length, map, slice_get, slice_set, get_or, nat_lt, refl, sym, ap, subst, ◌∙◌, arith}
use Rattle.std.specs.Prelude.{All, AllPairs, filter, unwrap_or}
use Rattle.std.specs.List.{flat_map}
use Rattle.std.specs.BTreeSet.{insert_key}
use Rattle.std.specs.Ordering.{match_ordering, nat_cmp}
use Rattle.std.specs.declared.cmp.Ordering.{Ordering}
use Rattle.std.specs.declared.cmp.Ordering.TheVariants.{Less, Equal, Greater}
use Rattle.std.proofs.lemmas.Bool.{eq-eqb, eqb-true, false≢true, or_right}
use Rattle.std.proofs.lemmas.List.Elements.{All-cons, All-filter, All-head, All-nil, All-tail, All-weaker}
use Rattle.rmt_bits.proofs.AlikeLaws.{filter_alike, filter_all}
use Rattle.rmt_bits.proofs.AllLaws.{All-left, All-right, All-unmap}
use Rattle.rmt_bits.proofs.PairLaws.{AllPairs-head, AllPairs-tail}
use Rattle.rmt_bits.specs.Members.{is_among}
use Rattle.rmt_ast.specs.declared.entry.Entry.{Entry}
use Rattle.rmt_ast.specs.Answers.{entry_numbers}
use Rattle.rmt_ast.specs.Changes.{EntryKey, is_keyed_by, list_of, without}
use Rattle.rmt_lists.specs.Holding.{keyed_numbers}

-- ---- lists at nodes

pub list_of-set : (lists : List (List Entry)) (node : ℕ) (es : List Entry) → node < length lists → list_of (slice_set lists node es) node ≡ es
list_of-set [] node es lt = absurd (omega (arith, lt))
list_of-set (x ∷ xs) zero es lt = refl
list_of-set (x ∷ xs) (suc node) es lt = list_of-set xs node es (omega (arith, lt))

pub list_of-other : (lists : List (List Entry)) (node m : ℕ) (es : List Entry) → m ≢ node → list_of (slice_set lists node es) m ≡ list_of lists m
list_of-other [] node m es apart = refl
list_of-other (x ∷ xs) zero zero es apart = absurd (apart refl)
list_of-other (x ∷ xs) zero (suc m) es apart = refl
list_of-other (x ∷ xs) (suc node) zero es apart = refl
list_of-other (x ∷ xs) (suc node) (suc m) es apart = list_of-other xs node m es (λ same. apart (ap suc same))

pub list_of-past : (lists : List (List Entry)) (node : ℕ) → length lists ≤ node → list_of lists node ≡ []
list_of-past [] node past = refl
list_of-past (x ∷ xs) zero past = absurd (omega (arith, past))
list_of-past (x ∷ xs) (suc node) past = list_of-past xs node (omega (arith, past))

-- what holds of all numbers holds of those of a list
pub numbers_of : (P : ℕ → Type 0) (lists : List (List Entry)) (node : ℕ) → All P (flat_map entry_numbers lists) → All (λ (e : Entry). P e.number) (list_of lists node)
numbers_of P [] node h = All-nil (λ (e : Entry). P e.number)
numbers_of P (x ∷ xs) zero h = All-unmap P (λ (e : Entry). e.number) x (All-left P (entry_numbers x) (flat_map entry_numbers xs) h)
numbers_of P (x ∷ xs) (suc node) h = numbers_of P xs node (All-right P (entry_numbers x) (flat_map entry_numbers xs) h)

-- ---- numbers among others

pub among_append : (xs ys : List ℕ) (n : ℕ) → is_among (xs ++ ys) n ≡ (is_among xs n || is_among ys n)
among_append [] ys n = refl
among_append (x ∷ xs) ys n = by (x == n) (among_append xs ys n)
  where
    by : (b : Bool) → is_among (xs ++ ys) n ≡ (is_among xs n || is_among ys n) → (b || is_among (xs ++ ys) n) ≡ ((b || is_among xs n) || is_among ys n)
    by true rest = refl
    by false rest = rest

pub among_lists : (lists : List (List Entry)) (node n : ℕ) → is_among (entry_numbers (list_of lists node)) n ≡ true → is_among (flat_map entry_numbers lists) n ≡ true
among_lists [] node n h = h
among_lists (x ∷ xs) zero n h = among_append (entry_numbers x) (flat_map entry_numbers xs) n ∙ rw h refl
among_lists (x ∷ xs) (suc node) n h = among_append (entry_numbers x) (flat_map entry_numbers xs) n ∙ or_right (is_among (entry_numbers x) n) (is_among (flat_map entry_numbers xs) n) (among_lists xs node n h)

pub among_insert : (ks : List ℕ) (n x : ℕ) → is_among (insert_key nat_cmp ks n) x ≡ (is_among ks x || (n == x))
among_insert [] n x = by (n == x)
  where
    by : (b : Bool) → (b || false) ≡ (false || b)
    by true = refl
    by false = refl
among_insert (k ∷ ks) n x = by (nat_cmp n k) refl (among_insert ks n x)
  where
    three : (a b c : Bool) → (a || (b || c)) ≡ ((b || c) || a)
    three true true c = refl
    three true false true = refl
    three true false false = refl
    three false true c = refl
    three false false true = refl
    three false false false = refl

    same : (a b c : Bool) → a ≡ c → (a || b) ≡ ((a || b) || c)
    same true b c e = refl
    same false true c e = refl
    same false false c e = e

    rest_by : (a b c d : Bool) → d ≡ (b || c) → (a || d) ≡ ((a || b) || c)
    rest_by true b c d e = refl
    rest_by false b c d e = e

    equal : nat_cmp n k ≡ Equal → k ≡ n
    equal e = by_test (nat_lt n k) (n == k) refl e
      where
        by_test : (a b : Bool) → (n == k) ≡ b → cond a Less (cond b Equal Greater) ≡ Equal → k ≡ n
        by_test true b s f = cc
        by_test false true s f = sym (eqb-true n k s)
        by_test false false s f = cc

    by : (o : Ordering) → nat_cmp n k ≡ o → is_among (insert_key nat_cmp ks n) x ≡ (is_among ks x || (n == x))
        → is_among (match_ordering o (n ∷ k ∷ ks) (k ∷ ks) (k ∷ insert_key nat_cmp ks n)) x ≡ (is_among (k ∷ ks) x || (n == x))
    by Less e rest = three (n == x) (k == x) (is_among ks x)
    by Equal e rest = same (k == x) (is_among ks x) (n == x) (ap (λ m. m == x) (equal e))
    by Greater e rest = rest_by (k == x) (is_among ks x) (n == x) (is_among (insert_key nat_cmp ks n) x) rest

pub All-insert : (P : ℕ → Type 0) (ks : List ℕ) (n : ℕ) → All P ks → P n → All P (insert_key nat_cmp ks n)
All-insert P [] n h p = All-cons P n [] p (All-nil P)
All-insert P (k ∷ ks) n h p = by (nat_cmp n k) (All-insert P ks n (All-tail P k ks h) p)
  where
    by : (o : Ordering) → All P (insert_key nat_cmp ks n) → All P (match_ordering o (n ∷ k ∷ ks) (k ∷ ks) (k ∷ insert_key nat_cmp ks n))
    by Less rest = All-cons P n (k ∷ ks) p h
    by Equal rest = h
    by Greater rest = All-cons P k (insert_key nat_cmp ks n) (All-head P k ks h) rest

-- ---- filters

pub filter_twice : {X : Type 0} (p q : X → Bool) (xs : List X) → filter p (filter q xs) ≡ filter (λ x. q x && p x) xs
filter_twice p q [] = refl
filter_twice p q (x ∷ xs) = by (q x) (p x) refl (filter_twice p q xs)
  where
    by : (a b : Bool) → p x ≡ b → filter p (filter q xs) ≡ filter (λ y. q y && p y) xs → filter p (cond a (x ∷ filter q xs) (filter q xs)) ≡ cond (a && b) (x ∷ filter (λ y. q y && p y) xs) (filter (λ y. q y && p y) xs)
    by true true e rest = rw e (ap (λ ys. x ∷ ys) rest)
    by true false e rest = rw e rest
    by false b e rest = rest

pub filter_swap : {X : Type 0} (p q : X → Bool) (xs : List X) → filter p (filter q xs) ≡ filter q (filter p xs)
filter_swap p q xs = filter_twice p q xs ∙ filter_alike (λ x. q x && p x) (λ x. p x && q x) xs (λ k d lt. turn (q (get_or xs k d)) (p (get_or xs k d))) ∙ sym (filter_twice q p xs)
  where
    turn : (a b : Bool) → (a && b) ≡ (b && a)
    turn true true = refl
    turn true false = refl
    turn false true = refl
    turn false false = refl

-- an entry has another number
abbrev pub not_number : ℕ → Entry → Bool
not_number n e = not (e.number == n)

abbrev pub Rise : List Entry → Type 0
Rise es = AllPairs (λ (a b : Entry). a.number < b.number) es

pub other_number : (n : ℕ) (e : Entry) → e.number ≢ n → not_number n e ≡ true
other_number n e apart = by (e.number == n) refl
  where
    by : (b : Bool) → (e.number == n) ≡ b → not b ≡ true
    by true s = absurd (apart (eqb-true e.number n s))
    by false s = refl

pub others_stay : (n : ℕ) (es : List Entry) → All (λ (e : Entry). e.number ≢ n) es → filter (not_number n) es ≡ es
others_stay n es h = filter_all (not_number n) es (All-weaker (λ (e : Entry). e.number ≢ n) (λ (e : Entry). not_number n e ≡ true) (other_number n) es h)

pub above_stay : (n : ℕ) (es : List Entry) → All (λ (e : Entry). n < e.number) es → filter (not_number n) es ≡ es
above_stay n es h = others_stay n es (All-weaker (λ (e : Entry). n < e.number) (λ (e : Entry). e.number ≢ n) (λ e lt same. absurd (omega (arith, lt, same))) es h)

-- no number above another is that
pub not_among_above : (n : ℕ) (es : List Entry) → All (λ (e : Entry). n < e.number) es → is_among (entry_numbers es) n ≡ false
not_among_above n [] h = refl
not_among_above n (x ∷ xs) h =
    by (x.number == n) refl (not_among_above n xs (All-tail (λ (e : Entry). n < e.number) x xs h))
  where
    lt : n < x.number
    lt = All-head (λ (e : Entry). n < e.number) x xs h

    by : (b : Bool) → (x.number == n) ≡ b → is_among (entry_numbers xs) n ≡ false → (b || is_among (entry_numbers xs) n) ≡ false
    by true s rest = absurd (omega (arith, lt, eqb-true x.number n s))
    by false s rest = rest

-- the first number at a key is among those of the entries
pub first_among : (key : EntryKey) (es : List Entry) (n : ℕ) → slice_get (keyed_numbers key es) 0 ≡ Some n → is_among (entry_numbers es) n ≡ true
first_among key [] n e = cc
first_among key (x ∷ xs) n e = by (is_keyed_by key x) e (first_among key xs n)
  where
    by : (b : Bool) → slice_get (map (λ (y : Entry). y.number) (cond b (x ∷ filter (is_keyed_by key) xs) (filter (is_keyed_by key) xs))) 0 ≡ Some n
        → (slice_get (keyed_numbers key xs) 0 ≡ Some n → is_among (entry_numbers xs) n ≡ true) → ((x.number == n) || is_among (entry_numbers xs) n) ≡ true
    by true s rest = let same : x.number ≡ n = ap (λ o. unwrap_or o n) s in rw (eq-eqb x.number n same) refl
    by false s rest = or_right (x.number == n) (is_among (entry_numbers xs) n) (rest s)

-- without a key: without the first number at it
pub without_number : (key : EntryKey) (es : List Entry) (n : ℕ) → Rise es → slice_get (keyed_numbers key es) 0 ≡ Some n → without key es ≡ filter (not_number n) es
without_number key [] n rise e = cc
without_number key (x ∷ xs) n rise e =
    by (is_keyed_by key x) e (without_number key xs n (AllPairs-tail (λ (a b : Entry). a.number < b.number) x xs rise))
  where
    above : All (λ (y : Entry). x.number < y.number) xs
    above = AllPairs-head (λ (a b : Entry). a.number < b.number) x xs rise

    other : slice_get (keyed_numbers key xs) 0 ≡ Some n → (x.number == n) ≡ false
    other s = apart (x.number == n) refl
      where
        apart : (b : Bool) → (x.number == n) ≡ b → b ≡ false
        apart true t =
            let here : All (λ (y : Entry). n < y.number) xs = subst (λ (m : ℕ). All (λ (y : Entry). m < y.number) xs) (eqb-true x.number n t) above in
            absurd (false≢true (sym (not_among_above n xs here) ∙ first_among key xs n s))
        apart false t = refl

    by : (b : Bool) → slice_get (map (λ (y : Entry). y.number) (cond b (x ∷ filter (is_keyed_by key) xs) (filter (is_keyed_by key) xs))) 0 ≡ Some n
        → (slice_get (keyed_numbers key xs) 0 ≡ Some n → without key xs ≡ filter (not_number n) xs)
        → cond b xs (x ∷ without key xs) ≡ cond (not (x.number == n)) (x ∷ filter (not_number n) xs) (filter (not_number n) xs)
    by true s rest =
        let same : x.number ≡ n = ap (λ o. unwrap_or o n) s in
        rw (eq-eqb x.number n same) (sym (above_stay n xs (subst (λ (m : ℕ). All (λ (y : Entry). m < y.number) xs) same above)))
    by false s rest = rw (other s) (ap (λ ys. x ∷ ys) (rest s))

-- of rising entries one that is of another table is of no other
pub other_table : (es : List Entry) (node m n : ℕ) → Rise es → m ≢ node → is_among (entry_numbers (filter (λ (e : Entry). node == e.table) es)) n ≡ true
    → filter (λ (e : Entry). m == e.table) (filter (not_number n) es) ≡ filter (λ (e : Entry). m == e.table) es
other_table [] node m n rise apart h = refl
other_table (x ∷ xs) node m n rise apart h =
    by (x.number == n) refl (node == x.table) refl h (other_table xs node m n (AllPairs-tail (λ (a b : Entry). a.number < b.number) x xs rise) apart)
  where
    above : All (λ (y : Entry). x.number < y.number) xs
    above = AllPairs-head (λ (a b : Entry). a.number < b.number) x xs rise

    elsewhere : (node == x.table) ≡ true → (m == x.table) ≡ false
    elsewhere t = no (m == x.table) refl
      where
        no : (b : Bool) → (m == x.table) ≡ b → b ≡ false
        no true s = absurd (apart (eqb-true m x.table s ∙ sym (eqb-true node x.table t)))
        no false s = refl

    by : (b : Bool) → (x.number == n) ≡ b → (t : Bool) → (node == x.table) ≡ t → is_among (entry_numbers (cond t (x ∷ filter (λ (e : Entry). node == e.table) xs) (filter (λ (e : Entry). node == e.table) xs))) n ≡ true
        → (is_among (entry_numbers (filter (λ (e : Entry). node == e.table) xs)) n ≡ true → filter (λ (e : Entry). m == e.table) (filter (not_number n) xs) ≡ filter (λ (e : Entry). m == e.table) xs)
        → filter (λ (e : Entry). m == e.table) (cond (not b) (x ∷ filter (not_number n) xs) (filter (not_number n) xs)) ≡ cond (m == x.table) (x ∷ filter (λ (e : Entry). m == e.table) xs) (filter (λ (e : Entry). m == e.table) xs)
    by true s true t i rest =
        let here : All (λ (y : Entry). n < y.number) xs = subst (λ (k : ℕ). All (λ (y : Entry). k < y.number) xs) (eqb-true x.number n s) above in
        rw (elsewhere t) (ap (filter (λ (e : Entry). m == e.table)) (above_stay n xs here))
    by true s false t i rest =
        let here : All (λ (y : Entry). n < y.number) xs = subst (λ (k : ℕ). All (λ (y : Entry). k < y.number) xs) (eqb-true x.number n s) above in
        let none = not_among_above n (filter (λ (e : Entry). node == e.table) xs) (All-filter (λ (e : Entry). node == e.table) (λ (y : Entry). n < y.number) xs here) in
        absurd (false≢true (sym none ∙ i))
    by false s true t i rest = own_by (m == x.table) (rest (drop_first i))
      where
        drop_first : ((x.number == n) || is_among (entry_numbers (filter (λ (e : Entry). node == e.table) xs)) n) ≡ true → is_among (entry_numbers (filter (λ (e : Entry). node == e.table) xs)) n ≡ true
        drop_first j = rw s at j

        own_by : (c : Bool) → filter (λ (e : Entry). m == e.table) (filter (not_number n) xs) ≡ filter (λ (e : Entry). m == e.table) xs → cond c (x ∷ filter (λ (e : Entry). m == e.table) (filter (not_number n) xs)) (filter (λ (e : Entry). m == e.table) (filter (not_number n) xs)) ≡ cond c (x ∷ filter (λ (e : Entry). m == e.table) xs) (filter (λ (e : Entry). m == e.table) xs)
        own_by true r = ap (λ ys. x ∷ ys) r
        own_by false r = r
    by false s false t i rest = own_by (m == x.table) (rest i)
      where
        own_by : (c : Bool) → filter (λ (e : Entry). m == e.table) (filter (not_number n) xs) ≡ filter (λ (e : Entry). m == e.table) xs → cond c (x ∷ filter (λ (e : Entry). m == e.table) (filter (not_number n) xs)) (filter (λ (e : Entry). m == e.table) (filter (not_number n) xs)) ≡ cond c (x ∷ filter (λ (e : Entry). m == e.table) xs) (filter (λ (e : Entry). m == e.table) xs)
        own_by true r = ap (λ ys. x ∷ ys) r
        own_by false r = r

pub not_among : (n : ℕ) (es : List Entry) → All (λ (e : Entry). e.number ≢ n) es → is_among (entry_numbers es) n ≡ false
not_among n [] h = refl
not_among n (x ∷ xs) h =
    by (x.number == n) refl (All-head (λ (e : Entry). e.number ≢ n) x xs h) (not_among n xs (All-tail (λ (e : Entry). e.number ≢ n) x xs h))
  where
    by : (b : Bool) → (x.number == n) ≡ b → x.number ≢ n → is_among (entry_numbers xs) n ≡ false → (b || is_among (entry_numbers xs) n) ≡ false
    by true s apart rest = absurd (apart (eqb-true x.number n s))
    by false s apart rest = rest

pub all_apart : (n : ℕ) (es : List Entry) → is_among (entry_numbers es) n ≡ false → All (λ (e : Entry). e.number ≢ n) es
all_apart n [] h = All-nil (λ (e : Entry). e.number ≢ n)
all_apart n (x ∷ xs) h = by (x.number == n) refl h (all_apart n xs)
  where
    by : (b : Bool) → (x.number == n) ≡ b → (b || is_among (entry_numbers xs) n) ≡ false → (is_among (entry_numbers xs) n ≡ false → All (λ (e : Entry). e.number ≢ n) xs) → All (λ (e : Entry). e.number ≢ n) (x ∷ xs)
    by true s f rest = absurd (false≢true (sym f))
    by false s f rest = All-cons (λ (e : Entry). e.number ≢ n) x xs (λ same. false≢true (sym s ∙ eq-eqb x.number n same)) (rest f)

pub among_filter : (p : Entry → Bool) (es : List Entry) (n : ℕ) → is_among (entry_numbers (filter p es)) n ≡ true → is_among (entry_numbers es) n ≡ true
among_filter p [] n h = h
among_filter p (x ∷ xs) n h = by (p x) (x.number == n) refl h (among_filter p xs n)
  where
    by : (b c : Bool) → (x.number == n) ≡ c → is_among (entry_numbers (cond b (x ∷ filter p xs) (filter p xs))) n ≡ true → (is_among (entry_numbers (filter p xs)) n ≡ true → is_among (entry_numbers xs) n ≡ true)
        → (c || is_among (entry_numbers xs) n) ≡ true
    by b true s i rest = refl
    by true false s i rest = rest (rw s at i)
    by false false s i rest = rest i

pub eqb_turned : (a b : ℕ) → (a == b) ≡ (b == a)
eqb_turned a b = by (a == b) (b == a) refl refl
  where
    by : (x y : Bool) → (a == b) ≡ x → (b == a) ≡ y → x ≡ y
    by true true s t = refl
    by false false s t = refl
    by true false s t = absurd (false≢true (sym t ∙ eq-eqb b a (sym (eqb-true a b s))))
    by false true s t = absurd (false≢true (sym s ∙ eq-eqb a b (sym (eqb-true b a t))))
