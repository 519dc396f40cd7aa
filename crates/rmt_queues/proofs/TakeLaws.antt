-- What stands after a copy is taken.
use Rattle.std.proofs.Common.{◌≡◌, ℕ, zero, suc, ◌+◌, ◌-◌, ◌<◌, List, [], ◌∷◌, ◌++◌, Bool, cond, eqb, Some, None, map, length, drop, refl, ap, sym, ◌∙◌, arith}
use Rattle.std.specs.Prelude.{nat_lt, slice_get, All, count_by, filter}
use Rattle.std.specs.List.{range_with_len}
use Rattle.std.proofs.lemmas.Bool.{ne_eqb, eq-eqb, lt-ltb, le-ltb}
use Rattle.std.proofs.lemmas.List.{get_or-set_other, get_or-set_same}
use Rattle.std.proofs.lemmas.List.Elements.{All-cons, All-head, All-nil, All-same, filter-append}
use Rattle.std.proofs.lemmas.List.Sums.{sum_by-cons, sum_by-set}
use Rattle.rmt_bits.proofs.AllLaws.{All-range}
use Rattle.rmt_queues.specs.Lists.{Lists, copies_of, queue_of, standing, taken}
use Rattle.rmt_bits.proofs.AlikeLaws.{filter_alike}
use Rattle.rmt_queues.proofs.StandingLaws.{index_of}
use Rattle.rmt_bits.proofs.ListLaws.{range-append}

-- the first of a queue, where its ring has one
pub first_popped : (ix queue : List ℕ) (index : ℕ) → Some index ≡ slice_get (map (index_of ix) queue) 0 → (k : ℕ) × (rest : List ℕ) × (queue ≡ k ∷ rest) × (index ≡ index_of ix k)
first_popped ix [] index is = absurd cc
first_popped ix (k ∷ rest) index is = (k, rest, refl, cc)

pub none_popped : (ix queue : List ℕ) → None ≡ slice_get (map (index_of ix) queue) 0 → queue ≡ []
none_popped ix [] is = refl
none_popped ix (k ∷ rest) is = absurd cc

-- the queues of the ports
pub queue_taken : (s : Lists) (port : ℕ) → port < length s.queues → queue_of (taken s port) port ≡ drop 1 (queue_of s port)
queue_taken s port lt = get_or-set_same s.queues port (drop 1 (queue_of s port)) [] lt

pub queue_other : (s : Lists) (port other : ℕ) → (other ≡ port → ⊥) → queue_of (taken s port) other ≡ queue_of s other
queue_other s port other apart = get_or-set_other s.queues port other (drop 1 (queue_of s port)) [] apart

module _ (s : Lists) (port k : ℕ) (rest : List ℕ) (below : port < length s.queues) (queue : queue_of s port ≡ k ∷ rest)
    (known : (p : ℕ) → All (λ number. number < length s.items) (queue_of s p)) where
  abbrev t : Lists
  t = taken s port

  abbrev m : ℕ
  m = length s.items

  -- one copy fewer stands
  pub copies_taken : (j : ℕ) → copies_of t.queues j + cond (eqb k j) 1 0 ≡ copies_of s.queues j
  copies_taken j =
      let counts : List ℕ → ℕ = λ xs. count_by (λ x. eqb x j) xs in
      let changed = sum_by-set counts s.queues port (drop 1 (queue_of s port)) [] below in
      let was = ap counts queue ∙ sum_by-cons (λ x. cond (eqb x j) 1 0) k rest in
      let now = ap (λ (xs : List ℕ). counts (drop 1 xs)) queue in
      omega (arith, changed, was, now)

  pub copies_other : (j : ℕ) → (j ≡ k → ⊥) → copies_of t.queues j ≡ copies_of s.queues j
  copies_other j other =
      let none : ◌≡◌ {A = ℕ} (cond (eqb k j) 1 0) 0 = ap (λ (b : Bool). cond b 1 0) (ne_eqb k j (λ same. other (sym same))) in
      omega (arith, none, copies_taken j)

  pub copies_one : copies_of t.queues k + 1 ≡ copies_of s.queues k
  copies_one =
      let one : ◌≡◌ {A = ℕ} (cond (eqb k k) 1 0) 1 = ap (λ (b : Bool). cond b 1 0) (eq-eqb k k refl) in
      omega (arith, one, copies_taken k)

  pub first_known : k < m
  first_known = All-head (λ number. number < m) k rest (All-same (λ number. number < m) (k ∷ rest) (queue_of s port) (sym queue) (known port))

  abbrev old : ℕ → Bool
  old = λ number. nat_lt 0 (copies_of s.queues number)

  abbrev new : ℕ → Bool
  new = λ number. nat_lt 0 (copies_of t.queues number)

  abbrev pub front : List ℕ
  front = filter old (range_with_len 0 k)

  abbrev pub back : List ℕ
  back = filter old (range_with_len (k + 1) (m - (k + 1)))

  numbers_split : range_with_len 0 m ≡ range_with_len 0 k ++ k ∷ range_with_len (k + 1) (m - (k + 1))
  numbers_split =
      let all : m ≡ k + suc (m - (k + 1)) = omega (arith, first_known) in
      let start : 0 + k ≡ k = omega arith in
      ap (range_with_len 0) all ∙ range-append 0 k (suc (m - (k + 1)))
      ∙ ap (λ (b : ℕ). range_with_len 0 k ++ range_with_len b (suc (m - (k + 1)))) start

  pub standing_split : standing s ≡ front ++ k ∷ back
  standing_split =
      ap (filter old) numbers_split ∙ filter-append old (range_with_len 0 k) (k ∷ range_with_len (k + 1) (m - (k + 1)))
      ∙ ap (λ (b : Bool). front ++ cond b (k ∷ back) back) (lt-ltb 0 (copies_of s.queues k) (omega (arith, copies_one)))

  other_alike : (j : ℕ) → (j ≡ k → ⊥) → new j ≡ old j
  other_alike j other = ap (nat_lt 0) (copies_other j other)

  range_above : (a n : ℕ) → k < a → All (λ j. new j ≡ old j) (range_with_len a n)
  range_above a zero lt = All-nil (λ j. new j ≡ old j)
  range_above a (suc n) lt = All-cons (λ j. new j ≡ old j) a (range_with_len (a + 1) n) (other_alike a (λ same. omega arith)) (range_above (a + 1) n (omega arith))

  front_alike : filter new (range_with_len 0 k) ≡ front
  front_alike = filter_alike new old (range_with_len 0 k) (All-range (λ j. new j ≡ old j) 0 k (λ j lt. other_alike j (λ same. omega arith)))

  back_alike : filter new (range_with_len (k + 1) (m - (k + 1))) ≡ back
  back_alike = filter_alike new old (range_with_len (k + 1) (m - (k + 1))) (range_above (k + 1) (m - (k + 1)) (omega arith))

  -- the item stands on
  pub standing_more : 0 < copies_of t.queues k → standing t ≡ standing s
  standing_more some =
      ap (filter new) numbers_split ∙ filter-append new (range_with_len 0 k) (k ∷ range_with_len (k + 1) (m - (k + 1)))
      ∙ ap (λ (b : Bool). filter new (range_with_len 0 k) ++ cond b (k ∷ filter new (range_with_len (k + 1) (m - (k + 1)))) (filter new (range_with_len (k + 1) (m - (k + 1))))) (lt-ltb 0 (copies_of t.queues k) some)
      ∙ ap (λ (xs : List ℕ). xs ++ k ∷ filter new (range_with_len (k + 1) (m - (k + 1)))) front_alike
      ∙ ap (λ (xs : List ℕ). front ++ k ∷ xs) back_alike
      ∙ sym standing_split

  -- it stands no more
  pub standing_last : copies_of t.queues k ≡ 0 → standing t ≡ front ++ back
  standing_last none =
      ap (filter new) numbers_split ∙ filter-append new (range_with_len 0 k) (k ∷ range_with_len (k + 1) (m - (k + 1)))
      ∙ ap (λ (b : Bool). filter new (range_with_len 0 k) ++ cond b (k ∷ filter new (range_with_len (k + 1) (m - (k + 1)))) (filter new (range_with_len (k + 1) (m - (k + 1)))))
      (le-ltb 0 (copies_of t.queues k) (omega (arith, none)))
      ∙ ap (λ (xs : List ℕ). xs ++ filter new (range_with_len (k + 1) (m - (k + 1)))) front_alike
      ∙ ap (λ (xs : List ℕ). front ++ xs) back_alike
