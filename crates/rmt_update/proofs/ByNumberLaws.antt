-- Entries by number: what is among them, and those of them that pass a test.
use Rattle.std.proofs.Common.{◌≡◌, ◌⊎◌, ℕ, ◌<◌, ◌≤◌, Bool, true, false, cond, List, [], ◌∷◌, ◌++◌, refl, sym, ap, ◌∙◌, inl, inr, arith}
use Rattle.std.specs.Prelude.{All, AllPairs, Contains, filter, fold, nat_lt}
use Rattle.std.proofs.lemmas.Bool.{le-ltb, lt-ltb, ltb-true}
use Rattle.std.proofs.lemmas.Bool.Decides.{nat_tests}
use Rattle.std.proofs.lemmas.List.{append-nil}
use Rattle.std.proofs.lemmas.List.Elements.{All-cons, All-filter, All-head, All-nil, All-tail, All-weaker}
use Rattle.std.proofs.lemmas.List.Kept.{AllPairs-cons}
use Rattle.rmt_bits.proofs.MemberLaws.{Contains-first, Contains-later, Contains-split}
use Rattle.rmt_bits.proofs.PairLaws.{AllPairs-head, AllPairs-none, AllPairs-tail}
use Rattle.rmt_ast.specs.declared.entry.Entry.{Entry}
use Rattle.rmt_config.specs.NamesForm.{by_number, with_entry}
use Rattle.rmt_lists.proofs.FilterLaws.{Rise}

-- ---- what is among entries by number

abbrev sort : List Entry → List Entry → List Entry
sort acc es = fold (λ sorted e. with_entry e sorted) acc es

with-to : (e x : Entry) (os : List Entry) → (e ≡ x) ⊎ Contains os x → Contains (with_entry e os) x
with-to e x [] (inl same) = rw (sym same) (Contains-first e [])
with-to e x [] (inr there) = absurd (let lt = there.1 in omega (arith, lt))
with-to e x (o ∷ os) h = by (nat_lt o.number e.number) h (with-to e x os)
  where
    front : (e ≡ x) ⊎ Contains (o ∷ os) x → Contains (e ∷ o ∷ os) x
    front (inl same) = rw (sym same) (Contains-first e (o ∷ os))
    front (inr there) = Contains-later e (o ∷ os) x there

    later : (e ≡ x) ⊎ Contains (o ∷ os) x → ((e ≡ x) ⊎ Contains os x → Contains (with_entry e os) x) → Contains (o ∷ with_entry e os) x
    later (inl same) rest = Contains-later o (with_entry e os) x (rest (inl same))
    later (inr there) rest = elim (Contains-split o os x there) [
      | inl same ↦ rw (sym same) (Contains-first o (with_entry e os))
      | inr more ↦ Contains-later o (with_entry e os) x (rest (inr more))
    ]

    by : (b : Bool) → (e ≡ x) ⊎ Contains (o ∷ os) x → ((e ≡ x) ⊎ Contains os x → Contains (with_entry e os) x) → Contains (cond b (o ∷ with_entry e os) (e ∷ o ∷ os)) x
    by true h rest = later h rest
    by false h rest = front h

with-from : (e x : Entry) (os : List Entry) → Contains (with_entry e os) x → (e ≡ x) ⊎ Contains os x
with-from e x [] h = Contains-split e [] x h
with-from e x (o ∷ os) h = by (nat_lt o.number e.number) h (with-from e x os)
  where
    by : (b : Bool) → Contains (cond b (o ∷ with_entry e os) (e ∷ o ∷ os)) x → (Contains (with_entry e os) x → (e ≡ x) ⊎ Contains os x) → (e ≡ x) ⊎ Contains (o ∷ os) x
    by false h rest = Contains-split e (o ∷ os) x h
    by true h rest = elim (Contains-split o (with_entry e os) x h) [
      | inl same ↦ inr (rw (sym same) (Contains-first o os))
      | inr more ↦ elim (rest more) [
        | inl same ↦ inl same
        | inr there ↦ inr (Contains-later o os x there)
      ]
    ]

sort-to : (acc es : List Entry) (x : Entry) → Contains acc x ⊎ Contains es x → Contains (sort acc es) x
sort-to acc [] x (inl h) = h
sort-to acc [] x (inr h) = absurd (let lt = h.1 in omega (arith, lt))
sort-to acc (e ∷ es) x (inl h) = sort-to (with_entry e acc) es x (inl (with-to e x acc (inr h)))
sort-to acc (e ∷ es) x (inr h) = elim (Contains-split e es x h) [
  | inl same ↦ sort-to (with_entry e acc) es x (inl (with-to e x acc (inl same)))
  | inr more ↦ sort-to (with_entry e acc) es x (inr more)
]

sort-from : (acc es : List Entry) (x : Entry) → Contains (sort acc es) x → Contains acc x ⊎ Contains es x
sort-from acc [] x h = inl h
sort-from acc (e ∷ es) x h = elim (sort-from (with_entry e acc) es x h) [
  | inl own ↦ elim (with-from e x acc own) [
    | inl same ↦ inr (rw (sym same) (Contains-first e es))
    | inr there ↦ inl there
  ]
  | inr more ↦ inr (Contains-later e es x more)
]

pub to-by_number : (es : List Entry) (x : Entry) → Contains es x → Contains (by_number es) x
to-by_number es x h = sort-to [] es x (inr h)

pub from-by_number : (es : List Entry) (x : Entry) → Contains (by_number es) x → Contains es x
from-by_number es x h = elim (sort-from [] es x h) [
  | inl none ↦ absurd (let lt = none.1 in omega (arith, lt))
  | inr there ↦ there
]

-- ---- those that pass a test

-- none stands before one of a smaller number
abbrev Sorted : List Entry → Type 0
Sorted es = AllPairs (λ (a b : Entry). a.number ≤ b.number) es

abbrev above : ℕ → List Entry → Type 0
above n es = All (λ (b : Entry). n ≤ b.number) es

with-above : (n : ℕ) (e : Entry) (os : List Entry) → n ≤ e.number → above n os → above n (with_entry e os)
with-above n e [] le all = All-cons (λ (b : Entry). n ≤ b.number) e [] le all
with-above n e (o ∷ os) le all = by (nat_lt o.number e.number) (with-above n e os le (All-tail (λ (b : Entry). n ≤ b.number) o os all))
  where
    by : (b : Bool) → above n (with_entry e os) → above n (cond b (o ∷ with_entry e os) (e ∷ o ∷ os))
    by true rest = All-cons (λ (b : Entry). n ≤ b.number) o (with_entry e os) (All-head (λ (b : Entry). n ≤ b.number) o os all) rest
    by false rest = All-cons (λ (b : Entry). n ≤ b.number) e (o ∷ os) le all

with-sorted : (e : Entry) (os : List Entry) → Sorted os → Sorted (with_entry e os)
with-sorted e [] h = AllPairs-cons (λ (a b : Entry). a.number ≤ b.number) e [] (All-nil (λ (b : Entry). e.number ≤ b.number)) h
with-sorted e (o ∷ os) h = by (nat_lt o.number e.number) refl (with-sorted e os (AllPairs-tail (λ (a b : Entry). a.number ≤ b.number) o os h))
  where
    low : above o.number os
    low = AllPairs-head (λ (a b : Entry). a.number ≤ b.number) o os h

    by : (b : Bool) → nat_lt o.number e.number ≡ b → Sorted (with_entry e os) → Sorted (cond b (o ∷ with_entry e os) (e ∷ o ∷ os))
    by true is rest =
        let lt = ltb-true o.number e.number is in
        AllPairs-cons (λ (a b : Entry). a.number ≤ b.number) o (with_entry e os) (with-above o.number e os (omega (arith, lt)) low) rest
    by false is rest =
        let le : e.number ≤ o.number = grind (arith, nat_tests, is) in
        AllPairs-cons (λ (a b : Entry). a.number ≤ b.number) e (o ∷ os)
        (All-cons (λ (b : Entry). e.number ≤ b.number) o os le (All-weaker (λ (b : Entry). o.number ≤ b.number) (λ (b : Entry). e.number ≤ b.number) (λ b l. omega (arith, l, le)) os low)) h

-- an entry goes before those that aren't below it
with-first : (e : Entry) (os : List Entry) → above e.number os → with_entry e os ≡ e ∷ os
with-first e [] h = refl
with-first e (o ∷ os) h =
    let le = All-head (λ (b : Entry). e.number ≤ b.number) o os h in
    ap (λ b. cond b (o ∷ with_entry e os) (e ∷ o ∷ os)) (le-ltb o.number e.number le)

with-filter : (test : Entry → Bool) (e : Entry) (os : List Entry) → Sorted os → filter test (with_entry e os) ≡ cond (test e) (with_entry e (filter test os)) (filter test os)
with-filter test e [] h = refl
with-filter test e (o ∷ os) h = by (nat_lt o.number e.number) refl (test o) refl (with-filter test e os (AllPairs-tail (λ (a b : Entry). a.number ≤ b.number) o os h))
  where
    low : above o.number os
    low = AllPairs-head (λ (a b : Entry). a.number ≤ b.number) o os h

    both : (a b : Bool) (xs ys zs ws : List Entry) → xs ≡ cond a ys zs → ws ≡ ys → xs ≡ cond a ws zs
    both true b xs ys zs ws p q = p ∙ sym q
    both false b xs ys zs ws p q = p

    front : (a : Bool) (xs ys : List Entry) → filter test os ≡ xs → cond a (o ∷ cond (test e) (with_entry e xs) xs) (cond (test e) (with_entry e xs) xs) ≡ cond (test e) (cond a (o ∷ with_entry e xs) (with_entry e xs)) (cond a (o ∷ xs) xs)
    front a xs ys s = by2 a (test e)
      where
        by2 : (a b : Bool) → cond a (o ∷ cond b (with_entry e xs) xs) (cond b (with_entry e xs) xs) ≡ cond b (cond a (o ∷ with_entry e xs) (with_entry e xs)) (cond a (o ∷ xs) xs)
        by2 true true = refl
        by2 true false = refl
        by2 false true = refl
        by2 false false = refl

    by : (b : Bool) → nat_lt o.number e.number ≡ b → (a : Bool) → test o ≡ a → filter test (with_entry e os) ≡ cond (test e) (with_entry e (filter test os)) (filter test os)
        → filter test (cond b (o ∷ with_entry e os) (e ∷ o ∷ os)) ≡ cond (test e) (with_entry e (cond (test o) (o ∷ filter test os) (filter test os))) (cond (test o) (o ∷ filter test os) (filter test os))
    by true is true t rest =
        ap (λ a. cond a (o ∷ filter test (with_entry e os)) (filter test (with_entry e os))) t ∙ ap (λ xs. o ∷ xs) rest ∙ front true (filter test os) [] refl
        ∙ ap (λ b. cond (test e) (cond b (o ∷ with_entry e (filter test os)) (e ∷ o ∷ filter test os)) (o ∷ filter test os)) (sym is)
        ∙ ap (λ a. cond (test e) (with_entry e (cond a (o ∷ filter test os) (filter test os))) (cond a (o ∷ filter test os) (filter test os))) (sym t)
    by true is false t rest =
        ap (λ a. cond a (o ∷ filter test (with_entry e os)) (filter test (with_entry e os))) t ∙ rest
        ∙ ap (λ a. cond (test e) (with_entry e (cond a (o ∷ filter test os) (filter test os))) (cond a (o ∷ filter test os) (filter test os))) (sym t)
    by false is a t rest =
        let le : e.number ≤ o.number = grind (arith, nat_tests, is) in
        let all : above e.number (o ∷ os) = All-cons (λ (b : Entry). e.number ≤ b.number) o os le (All-weaker (λ (b : Entry). o.number ≤ b.number) (λ (b : Entry). e.number ≤ b.number) (λ b l. omega (arith, l, le)) os low) in
        ap (λ xs. cond (test e) xs (filter test (o ∷ os))) (sym (with-first e (filter test (o ∷ os)) (All-filter test (λ (b : Entry). e.number ≤ b.number) (o ∷ os) all)))

sort-filter : (test : Entry → Bool) (acc es : List Entry) → Sorted acc → filter test (sort acc es) ≡ sort (filter test acc) (filter test es)
sort-filter test acc [] h = refl
sort-filter test acc (e ∷ es) h =
    sort-filter test (with_entry e acc) es (with-sorted e acc h) ∙ ap (λ xs. sort xs (filter test es)) (with-filter test e acc h) ∙ by (test e)
  where
    by : (b : Bool) → sort (cond b (with_entry e (filter test acc)) (filter test acc)) (filter test es) ≡ sort (filter test acc) (cond b (e ∷ filter test es) (filter test es))
    by true = refl
    by false = refl

-- those that pass a test are by number too
pub by_number-filter : (test : Entry → Bool) (es : List Entry) → filter test (by_number es) ≡ by_number (filter test es)
by_number-filter test es = sort-filter test [] es (AllPairs-none (λ (a b : Entry). a.number ≤ b.number))

-- ---- entries that are by number already

abbrev below : ℕ → List Entry → Type 0
below n es = All (λ (b : Entry). b.number < n) es

with-last : (e : Entry) (os : List Entry) → below e.number os → with_entry e os ≡ os ++ e ∷ []
with-last e [] h = refl
with-last e (o ∷ os) h =
    ap (λ b. cond b (o ∷ with_entry e os) (e ∷ o ∷ os)) (lt-ltb o.number e.number (All-head (λ (b : Entry). b.number < e.number) o os h))
    ∙ ap (λ xs. o ∷ xs) (with-last e os (All-tail (λ (b : Entry). b.number < e.number) o os h))

sort-rising : (acc es : List Entry) → All (λ (e : Entry). below e.number acc) es → Rise es → sort acc es ≡ acc ++ es
sort-rising acc [] low rise = sym (append-nil acc)
sort-rising acc (e ∷ es) low rise =
    ap (λ xs. sort xs es) (with-last e acc (All-head (λ (x : Entry). below x.number acc) e es low))
    ∙ sort-rising (acc ++ e ∷ []) es (later es (AllPairs-head (λ (a b : Entry). a.number < b.number) e es rise) (All-tail (λ (x : Entry). below x.number acc) e es low)) (AllPairs-tail (λ (a b : Entry). a.number < b.number) e es rise)
    ∙ joined acc
  where
    joined : (xs : List Entry) → (xs ++ e ∷ []) ++ es ≡ xs ++ e ∷ es
    joined [] = refl
    joined (x ∷ xs) = ap (λ ys. x ∷ ys) (joined xs)

    more : (n : ℕ) (xs : List Entry) → e.number < n → below n xs → below n (xs ++ e ∷ [])
    more n [] lt h = All-cons (λ (b : Entry). b.number < n) e [] lt h
    more n (x ∷ xs) lt h = All-cons (λ (b : Entry). b.number < n) x (xs ++ e ∷ []) (All-head (λ (b : Entry). b.number < n) x xs h) (more n xs lt (All-tail (λ (b : Entry). b.number < n) x xs h))

    later : (xs : List Entry) → All (λ (b : Entry). e.number < b.number) xs → All (λ (x : Entry). below x.number acc) xs → All (λ (x : Entry). below x.number (acc ++ e ∷ [])) xs
    later [] h low = All-nil (λ (x : Entry). below x.number (acc ++ e ∷ []))
    later (x ∷ xs) h low =
        All-cons (λ (y : Entry). below y.number (acc ++ e ∷ [])) x xs (more x.number acc (All-head (λ (b : Entry). e.number < b.number) x xs h) (All-head (λ (y : Entry). below y.number acc) x xs low))
        (later xs (All-tail (λ (b : Entry). e.number < b.number) x xs h) (All-tail (λ (y : Entry). below y.number acc) x xs low))

pub by_number-rising : (es : List Entry) → Rise es → by_number es ≡ es
by_number-rising es rise = sort-rising [] es (none es) rise
  where
    none : (xs : List Entry) → All (λ (e : Entry). below e.number []) xs
    none [] = All-nil (λ (e : Entry). below e.number [])
    none (x ∷ xs) = All-cons (λ (e : Entry). below e.number []) x xs (All-nil (λ (b : Entry). b.number < x.number)) (none xs)
