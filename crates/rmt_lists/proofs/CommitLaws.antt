-- A run behind a commit.
use Rattle.std.proofs.Common.{◌≡◌, ◌≢◌, ℕ, suc, ◌+◌, ◌<◌, ◌≤◌, ◌==◌, ◌||◌, Bool, true, false, not, cond, List, [], ◌∷◌, ◌++◌, Option, length, refl, sym, ap, subst, ◌∙◌, inl, inr, arith}
use Rattle.std.specs.Prelude.{All, AllPairs, IsTrue, filter}
use Rattle.std.specs.List.{flat_map}
use Rattle.std.proofs.lemmas.Bool.{cases_Bool, eq-eqb, eqb-true, false≢true}
use Rattle.std.proofs.lemmas.List.{append-nil, map-append}
use Rattle.std.proofs.lemmas.List.Elements.{All-append, All-cons, All-filter, All-head, All-map, All-nil, All-tail, All-weaker}
use Rattle.rmt_bits.specs.Members.{is_among}
use Rattle.rmt_ast.specs.declared.entry.Entry.{Entry}
use Rattle.rmt_ast.specs.Answers.{entry_numbers}
use Rattle.rmt_ast.specs.Changes.{list_of}
use Rattle.rmt_lists.specs.Running.{AreChanges}
use Rattle.rmt_lists.specs.Stands.{AreLeft, AreSlots, IsLast, numbers_in, somes}
use Rattle.rmt_lists.proofs.FilterLaws.{Rise, among_append, among_filter, filter_swap, not_among, not_number, numbers_of, other_table}
use Rattle.rmt_lists.proofs.LeftLaws.{left_rises, slots_from, slots_rise}
use Rattle.rmt_lists.proofs.SettleLaws.{none_gone, slots_below}

-- what holds of the numbers of each list holds of all
pub all_numbers : (P : ℕ → Type 0) (lists : List (List Entry)) → ((m : ℕ) → All (λ (e : Entry). P e.number) (list_of lists m)) → All P (flat_map entry_numbers lists)
all_numbers P [] h = All-nil P
all_numbers P (x ∷ xs) h =
    All-append P (entry_numbers x) (flat_map entry_numbers xs) (All-map P (λ (e : Entry). e.number) x (h 0)) (all_numbers P xs (λ m. h (suc m)))

-- a number among those of entries of which something holds
pub among_all : (P : ℕ → Type 0) (es : List Entry) (n : ℕ) → All (λ (e : Entry). P e.number) es → is_among (entry_numbers es) n ≡ true → P n
among_all P [] n h i = absurd (false≢true i)
among_all P (x ∷ xs) n h i =
    by (x.number == n) refl i (All-head (λ (e : Entry). P e.number) x xs h) (among_all P xs n (All-tail (λ (e : Entry). P e.number) x xs h))
  where
    by : (b : Bool) → (x.number == n) ≡ b → (b || is_among (entry_numbers xs) n) ≡ true → P x.number → (is_among (entry_numbers xs) n ≡ true → P n) → P n
    by true s j p rest = subst P (eqb-true x.number n s) p
    by false s j p rest = rest j

pub among_numbers : (P : ℕ → Type 0) (ns : List ℕ) (n : ℕ) → All P ns → is_among ns n ≡ true → P n
among_numbers P [] n h i = absurd (false≢true i)
among_numbers P (k ∷ ks) n h i = by (k == n) refl i (All-head P k ks h) (among_numbers P ks n (All-tail P k ks h))
  where
    by : (b : Bool) → (k == n) ≡ b → (b || is_among ks n) ≡ true → P k → (is_among ks n ≡ true → P n) → P n
    by true s j p rest = subst P (eqb-true k n s) p
    by false s j p rest = rest j

removed_number : (n : ℕ) (es : List Entry) → is_among (entry_numbers (filter (not_number n) es)) n ≡ false
removed_number n es = not_among n (filter (not_number n) es) (passed es)
  where
    passed : (xs : List Entry) → All (λ (e : Entry). e.number ≢ n) (filter (not_number n) xs)
    passed [] = All-nil (λ (e : Entry). e.number ≢ n)
    passed (x ∷ xs) = by (x.number == n) refl (passed xs)
      where
        by : (b : Bool) → (x.number == n) ≡ b → All (λ (e : Entry). e.number ≢ n) (filter (not_number n) xs) → All (λ (e : Entry). e.number ≢ n) (cond (not b) (x ∷ filter (not_number n) xs) (filter (not_number n) xs))
        by true s rest = rest
        by false s rest = All-cons (λ (e : Entry). e.number ≢ n) x (filter (not_number n) xs) (λ same. false≢true (sym s ∙ eq-eqb x.number n same)) rest

-- of rising entries no number is in two tables
one_table : (es : List Entry) (m n x : ℕ) → Rise es → is_among (entry_numbers (filter (λ (e : Entry). m == e.table) es)) x ≡ true → is_among (entry_numbers (filter (λ (e : Entry). n == e.table) es)) x ≡ true → m ≡ n
one_table es m n x rise a b =
    elim (cases_Bool (m == n)) [
      | inl t ↦ eqb-true m n t
      | inr f ↦
          let apart : m ≢ n = λ same. false≢true (sym f ∙ eq-eqb m n same) in
          let same = sym (other_table es n m x rise apart b) ∙ filter_swap (λ (e : Entry). m == e.table) (not_number x) es in
          absurd (false≢true (sym (removed_number x (filter (λ (e : Entry). m == e.table) es)) ∙ ap (λ (ys : List Entry). is_among (entry_numbers ys) x) (sym same) ∙ a))
    ]

module _ (last : List (List Entry)) (gone : List ℕ) (come : List (Option Entry)) (first : ℕ) (lists : List (List Entry)) (h : AreLeft last gone come first lists) where
  -- the numbers of a table are of what was kept and of what came
  parts : (m x : ℕ) → is_among (numbers_in lists m) x
      ≡ (is_among (entry_numbers (filter (λ (e : Entry). not (is_among gone e.number)) (list_of last m))) x || is_among (entry_numbers (filter (λ (e : Entry). m == e.table) (somes come))) x)
  parts m x =
      let kept = filter (λ (e : Entry). not (is_among gone e.number)) (list_of last m) in
      let own = filter (λ (e : Entry). m == e.table) (somes come) in
      ap (λ (es : List Entry). is_among (entry_numbers es) x) (h.left m) ∙ ap (λ ns. is_among ns x) (map-append (λ (e : Entry). e.number) kept own) ∙ among_append (entry_numbers kept) (entry_numbers own) x

  kept_low : (m x : ℕ) → is_among (entry_numbers (filter (λ (e : Entry). not (is_among gone e.number)) (list_of last m))) x ≡ true → x < first
  kept_low m x i =
      among_all (λ n. n < first) (list_of last m) x (numbers_of (λ n. n < first) last m h.committed.old) (among_filter (λ (e : Entry). not (is_among gone e.number)) (list_of last m) x i)

  own_high : (m x : ℕ) → is_among (entry_numbers (filter (λ (e : Entry). m == e.table) (somes come))) x ≡ true → first ≤ x
  own_high m x i =
      among_all (λ n. first ≤ n) (somes come) x (slots_from (length last) first come h.slots) (among_filter (λ (e : Entry). m == e.table) (somes come) x i)

  apart : (m n x : ℕ) → is_among (numbers_in lists m) x ≡ true → is_among (numbers_in lists n) x ≡ true → m ≡ n
  apart m n x a b =
      by (is_among (entry_numbers (filter (λ (e : Entry). not (is_among gone e.number)) (list_of last m))) x) refl (is_among (entry_numbers (filter (λ (e : Entry). not (is_among gone e.number)) (list_of last n))) x) refl
      (sym (parts m x) ∙ a) (sym (parts n x) ∙ b)
    where
      by : (k : Bool) → is_among (entry_numbers (filter (λ (e : Entry). not (is_among gone e.number)) (list_of last m))) x ≡ k → (l : Bool) → is_among (entry_numbers (filter (λ (e : Entry). not (is_among gone e.number)) (list_of last n))) x ≡ l
          → (k || is_among (entry_numbers (filter (λ (e : Entry). m == e.table) (somes come))) x) ≡ true → (l || is_among (entry_numbers (filter (λ (e : Entry). n == e.table) (somes come))) x) ≡ true → m ≡ n
      by true s true t i j = h.committed.apart m n x (among_filter (λ (e : Entry). not (is_among gone e.number)) (list_of last m) x s) (among_filter (λ (e : Entry). not (is_among gone e.number)) (list_of last n) x t)
      by true s false t i j = let low = kept_low m x s in let high = own_high n x j in absurd (omega (arith, low, high))
      by false s true t i j = let low = kept_low n x t in let high = own_high m x i in absurd (omega (arith, low, high))
      by false s false t i j = one_table (somes come) m n x (slots_rise (length last) first come h.slots) i j

  below : (m : ℕ) → All (λ (e : Entry). e.number < first + length come) (list_of lists m)
  below m =
      subst (λ es. All (λ (e : Entry). e.number < first + length come) es) (sym (h.left m))
      (All-append (λ (e : Entry). e.number < first + length come) (filter (λ (e : Entry). not (is_among gone e.number)) (list_of last m)) (filter (λ (e : Entry). m == e.table) (somes come))
      (All-filter (λ (e : Entry). not (is_among gone e.number)) (λ (e : Entry). e.number < first + length come) (list_of last m)
      (All-weaker (λ (e : Entry). e.number < first) (λ (e : Entry). e.number < first + length come) (λ e lt. omega (arith, lt)) (list_of last m) (numbers_of (λ n. n < first) last m h.committed.old)))
      (All-filter (λ (e : Entry). m == e.table) (λ (e : Entry). e.number < first + length come) (somes come) (slots_below (length last) first come h.slots)))

  -- the lists as a commit leaves them are those of the last commit
  pub last_committed : IsLast lists (first + length come)
  last_committed = record {
    rising = left_rises last gone come first lists h;
    old = all_numbers (λ n. n < first + length come) lists below;
    apart = apart;
  }

  pub left_committed : (none : List ℕ) (empty : List (Option Entry)) → none ≡ [] → empty ≡ [] → AreLeft lists none empty (first + length come) lists
  left_committed none empty n e = record {
    count = refl;
    left = λ m. none_gone none (list_of lists m) n ∙ sym (append-nil (filter (λ (x : Entry). not (is_among none x.number)) (list_of lists m))) ∙ ap (λ (xs : List (Option Entry)). filter (λ (x : Entry). not (is_among none x.number)) (list_of lists m) ++ filter (λ (x : Entry). m == x.table) (somes xs)) (sym e);
    committed = last_committed;
    slots = subst (λ (xs : List (Option Entry)). AreSlots (length lists) (first + length come) xs) (sym e) tt;
    gone_stood = subst (λ (ns : List ℕ). All (λ x. IsTrue (is_among (flat_map entry_numbers lists) x)) ns) (sym n) (All-nil (λ x. IsTrue (is_among (flat_map entry_numbers lists) x)));
  }

  -- what goes was there, below what comes
  pub gone_low : All (λ n. n < first) gone
  gone_low =
      All-weaker (λ n. IsTrue (is_among (flat_map entry_numbers last) n)) (λ n. n < first) (λ n i. among_numbers (λ k. k < first) (flat_map entry_numbers last) n h.committed.old i) gone h.gone_stood

  pub come_above : All (λ (e : Entry). All (λ n. n < e.number) (flat_map entry_numbers last)) (somes come)
  come_above =
      All-weaker (λ (e : Entry). first ≤ e.number) (λ (e : Entry). All (λ n. n < e.number) (flat_map entry_numbers last))
      (λ e high. All-weaker (λ n. n < first) (λ n. n < e.number) (λ n low. omega (arith, low, high)) (flat_map entry_numbers last) h.committed.old) (somes come) (slots_from (length last) first come h.slots)

  -- what a commit changes
  pub changes_are : (gone2 : List ℕ) (come2 : List Entry) → gone2 ≡ gone → come2 ≡ somes come → AllPairs (λ (a b : ℕ). a < b) gone → AreChanges last lists (record { gone = gone2; come = come2 })
  changes_are gone2 come2 g e rise =
      subst (λ (ns : List ℕ). AreChanges last lists (record { gone = ns; come = come2 })) (sym g)
      (subst (λ (es : List Entry). AreChanges last lists (record { gone = gone; come = es })) (sym e) (record {
        gone_rise = rise;
        gone_stood = h.gone_stood;
        come_rise = slots_rise (length last) first come h.slots;
        come_new = come_above;
        left = h.left;
      }))
