-- Tables behind a commit.
use Rattle.std.proofs.Common.{◌≡◌, ◌≢◌, ℕ, zero, suc, ◌+◌, ◌<◌, ◌≤◌, ◌==◌, ◌||◌, Bool, true, false, not, cond, List, [], ◌∷◌, ◌++◌, Option, Some, None, length, take, slice_get, slice_set, get_or, nat_lt, unwrap_or, refl, sym, ap, subst, ◌∙◌, inl, inr, arith, append_assoc}
use Rattle.std.specs.Prelude.{All, filter}
use Rattle.std.specs.List.{flat_map, remove}
use Rattle.std.proofs.lemmas.Bool.{cases_Bool, eq-eqb, eqb-true, false≢true, lt-ltb}
use Rattle.std.proofs.lemmas.Bool.Decides.{nat_tests}
use Rattle.std.proofs.lemmas.List.{append-nil, length-set}
use Rattle.std.proofs.lemmas.List.Elements.{All-append, All-cons, All-filter, All-head, All-nil, All-tail, All-weaker, filter-append}
use Rattle.std.proofs.lemmas.Option.{same_Some, none-some, slice_get-get_or}
use Rattle.rmt_bits.proofs.AlikeLaws.{filter_alike, filter_all, filter_none}
use Rattle.rmt_ast.specs.declared.entry.Entry.{Entry}
use Rattle.rmt_ast.specs.Answers.{entry_numbers}
use Rattle.rmt_ast.specs.Changes.{list_of}
use Rattle.rmt_lists.specs.Settled.{Extends, ExtendsInPart, keeps}
use Rattle.rmt_lists.specs.Stands.{AreSlots, left_at, somes}
use Rattle.rmt_lists.proofs.FilterLaws.{list_of-other, list_of-set, numbers_of}
use Rattle.rmt_lists.proofs.LeftLaws.{slots_from}
use Rattle.rmt_bits.proofs.ListLaws.{filter-short}
use Rattle.rmt_bits.specs.Members.{is_among}

pub lists_same : (xs ys : List (List Entry)) → length xs ≡ length ys → ((m : ℕ) → list_of xs m ≡ list_of ys m) → xs ≡ ys
lists_same [] [] e h = refl
lists_same [] (y ∷ ys) e h = absurd (omega (arith, e))
lists_same (x ∷ xs) [] e h = absurd (omega (arith, e))
lists_same (x ∷ xs) (y ∷ ys) e h = ap (λ z. z ∷ xs) (h 0) ∙ ap (λ zs. y ∷ zs) (lists_same xs ys (omega (arith, e)) (λ m. h (suc m)))

pub list_at : (lists : List (List Entry)) (m : ℕ) (es : List Entry) → m < length lists → es ≡ get_or lists m es → es ≡ list_of lists m
list_at lists m es lt at = at ∙ sym (ap (λ (o : Option (List Entry)). unwrap_or o []) (slice_get-get_or lists m es lt))

-- ---- entries that are put to the ends

pub extends_push : (old lists : List (List Entry)) (part : List Entry) (e : Entry) (new : List Entry) → Extends old part lists → e.table < length lists → new ≡ list_of lists e.table ++ e ∷ []
    → Extends old (part ++ e ∷ []) (slice_set lists e.table new)
extends_push old lists part e new h lt is = record {
  count = length-set lists e.table new ∙ h.count;
  at = λ m.
      let more : filter (λ (x : Entry). m == x.table) (part ++ e ∷ []) ≡ filter (λ (x : Entry). m == x.table) part ++ cond (m == e.table) (e ∷ []) [] = filter-append (λ (x : Entry). m == x.table) part (e ∷ []) in
      let joined : list_of lists m ++ cond (m == e.table) (e ∷ []) [] ≡ list_of old m ++ filter (λ (x : Entry). m == x.table) (part ++ e ∷ []) =
      ap (λ es. es ++ cond (m == e.table) (e ∷ []) []) (h.at m) ∙ append_assoc (list_of old m) (filter (λ (x : Entry). m == x.table) part) (cond (m == e.table) (e ∷ []) []) ∙ ap (λ es. list_of old m ++ es) (sym more) in
      elim (cases_Bool (m == e.table)) [
        | inl t ↦
            let same : m ≡ e.table = eqb-true m e.table t in
            ap (list_of (slice_set lists e.table new)) same ∙ list_of-set lists e.table new lt ∙ is
            ∙ ap (λ es. es ++ e ∷ []) (ap (list_of lists) (sym same)) ∙ ap (λ b. list_of lists m ++ cond b (e ∷ []) []) (sym t) ∙ joined
        | inr f ↦
            let apart : m ≢ e.table = λ same. false≢true (sym f ∙ eq-eqb m e.table same) in
            list_of-other lists e.table m new apart ∙ sym (append-nil (list_of lists m)) ∙ ap (λ b. list_of lists m ++ cond b (e ∷ []) []) (sym f) ∙ joined
      ];
}

somes_suc : (xs : List (Option Entry)) (i : ℕ) (e : Entry) → slice_get xs i ≡ Some (Some e) → somes (take (suc i) xs) ≡ somes (take i xs) ++ e ∷ []
somes_suc [] i e at = cc
somes_suc (None ∷ xs) zero e at = cc
somes_suc (Some x ∷ xs) zero e at = ap (λ (y : Entry). y ∷ []) (same_Some x e (same_Some (Some x) (Some e) at))
somes_suc (None ∷ xs) (suc i) e at = somes_suc xs i e at
somes_suc (Some x ∷ xs) (suc i) e at = ap (λ ys. x ∷ ys) (somes_suc xs i e at)

pub somes_more : (xs : List (Option Entry)) (i : ℕ) (e : Entry) → slice_get xs i ≡ Some (Some e) → somes (take (i + 1) xs) ≡ somes (take i xs) ++ e ∷ []
somes_more xs i e at = ap (λ n. somes (take n xs)) (let s : i + 1 ≡ suc i = omega arith in s) ∙ somes_suc xs i e at

none_suc : (xs : List (Option Entry)) (i : ℕ) → slice_get xs i ≡ Some None → somes (take (suc i) xs) ≡ somes (take i xs)
none_suc [] i at = cc
none_suc (None ∷ xs) zero at = refl
none_suc (Some x ∷ xs) zero at = let no : Some x ≡ None = same_Some (Some x) None at in cc
none_suc (None ∷ xs) (suc i) at = none_suc xs i at
none_suc (Some x ∷ xs) (suc i) at = ap (λ ys. x ∷ ys) (none_suc xs i at)

pub none_more : (xs : List (Option Entry)) (i : ℕ) → slice_get xs i ≡ Some None → somes (take (i + 1) xs) ≡ somes (take i xs)
none_more xs i at = ap (λ n. somes (take n xs)) (let s : i + 1 ≡ suc i = omega arith in s) ∙ none_suc xs i at

pub somes_at : (P : Entry → Type 0) (xs : List (Option Entry)) (i : ℕ) (e : Entry) → All P (somes xs) → slice_get xs i ≡ Some (Some e) → P e
somes_at P [] i e h at = absurd (none-some (Some e) at)
somes_at P (None ∷ xs) zero e h at = let no : None ≡ Some e = same_Some None (Some e) at in cc
somes_at P (Some x ∷ xs) zero e h at = subst P (same_Some x e (same_Some (Some x) (Some e) at)) (All-head P x (somes xs) h)
somes_at P (None ∷ xs) (suc i) e h at = somes_at P xs i e h at
somes_at P (Some x ∷ xs) (suc i) e h at = somes_at P xs i e (All-tail P x (somes xs) h) at

pub All-some : (P : Entry → Type 0) (xs : List (Option Entry)) (i : ℕ) → All P (somes xs) → All P (somes (take i xs))
All-some P [] zero h = h
All-some P [] (suc i) h = h
All-some P (x ∷ xs) zero h = All-nil P
All-some P (None ∷ xs) (suc i) h = All-some P xs i h
All-some P (Some x ∷ xs) (suc i) h = All-cons P x (somes (take i xs)) (All-head P x (somes xs) h) (All-some P xs i (All-tail P x (somes xs) h))

pub slots_below : (nodes first : ℕ) (xs : List (Option Entry)) → AreSlots nodes first xs → All (λ (e : Entry). e.number < first + length xs) (somes xs)
slots_below nodes first [] h = All-nil (λ (e : Entry). e.number < first + 0)
slots_below nodes first (None ∷ xs) h =
    All-weaker (λ (e : Entry). e.number < (first + 1) + length xs) (λ (e : Entry). e.number < first + length (None ∷ xs)) (λ e lt. omega (arith, lt)) (somes xs) (slots_below nodes (first + 1) xs h)
slots_below nodes first (Some x ∷ xs) h =
    All-cons (λ (e : Entry). e.number < first + length (Some x ∷ xs)) x (somes xs) (omega (arith, h.0.0))
    (All-weaker (λ (e : Entry). e.number < (first + 1) + length xs) (λ (e : Entry). e.number < first + length (Some x ∷ xs)) (λ e lt. omega (arith, lt)) (somes xs) (slots_below nodes (first + 1) xs h.1))

-- ---- entries that are kept

pub not_among_low : (gone : List ℕ) (first n : ℕ) → All (λ k. k < first) gone → first ≤ n → is_among gone n ≡ false
not_among_low [] first n h le = refl
not_among_low (k ∷ ks) first n h le =
    by (k == n) refl (All-head (λ j. j < first) k ks h) (not_among_low ks first n (All-tail (λ j. j < first) k ks h) le)
  where
    by : (b : Bool) → (k == n) ≡ b → k < first → is_among ks n ≡ false → (b || is_among ks n) ≡ false
    by true s lt rest = absurd (omega (arith, lt, le, eqb-true k n s))
    by false s lt rest = rest

pub keeps_below : (gone : List ℕ) (limit : ℕ) (es : List Entry) → All (λ (e : Entry). e.number < limit) es → filter (keeps gone limit) es ≡ filter (λ (e : Entry). not (is_among gone e.number)) es
keeps_below gone limit es h =
    filter_alike (keeps gone limit) (λ (e : Entry). not (is_among gone e.number)) es
    (All-weaker (λ (e : Entry). e.number < limit) (λ (e : Entry). keeps gone limit e ≡ not (is_among gone e.number)) (λ e lt. rw (lt-ltb e.number limit lt) refl) es h)

pub none_gone : (gone : List ℕ) (es : List Entry) → gone ≡ [] → es ≡ filter (λ (e : Entry). not (is_among gone e.number)) es
none_gone gone es e = sym (filter_all (λ (x : Entry). not (is_among gone x.number)) es (λ k d lt. rw e refl))

module _ (last : List (List Entry)) (gone : List ℕ) (come : List (Option Entry)) (first : ℕ) (slots : AreSlots (length last) first come) (old : All (λ n. n < first) (flat_map entry_numbers last)) where
  -- all that stands behind what comes is below the next number
  pub all_below : (lists : List (List Entry)) (m : ℕ) → Extends last (somes come) lists → All (λ (e : Entry). e.number < first + length come) (list_of lists m)
  all_below lists m h =
      subst (λ es. All (λ (e : Entry). e.number < first + length come) es) (sym (h.at m))
      (All-append (λ (e : Entry). e.number < first + length come) (list_of last m) (filter (λ (e : Entry). m == e.table) (somes come))
      (All-weaker (λ (e : Entry). e.number < first) (λ (e : Entry). e.number < first + length come) (λ e lt. omega (arith, lt)) (list_of last m) (numbers_of (λ n. n < first) last m old))
      (All-filter (λ (e : Entry). m == e.table) (λ (e : Entry). e.number < first + length come) (somes come) (slots_below (length last) first come slots)))

  pub settled_at : (lists : List (List Entry)) (m : ℕ) (es : List Entry) → All (λ n. n < first) gone → Extends last (somes come) lists → es ≡ filter (λ (e : Entry). not (is_among gone e.number)) (list_of lists m)
      → es ≡ left_at last gone come m
  settled_at lists m es low h is =
      let mine = filter (λ (e : Entry). m == e.table) (somes come) in
      let own = All-filter (λ (e : Entry). m == e.table) (λ (e : Entry). first ≤ e.number) (somes come) (slots_from (length last) first come slots) in
      is ∙ ap (filter (λ (e : Entry). not (is_among gone e.number))) (h.at m)
      ∙ filter-append (λ (e : Entry). not (is_among gone e.number)) (list_of last m) mine
      ∙ ap (λ ys. filter (λ (e : Entry). not (is_among gone e.number)) (list_of last m) ++ ys)
      (filter_all (λ (e : Entry). not (is_among gone e.number)) mine
      (All-weaker (λ (e : Entry). first ≤ e.number) (λ (e : Entry). not (is_among gone e.number) ≡ true) (λ e le. ap not (not_among_low gone first e.number low le)) mine own))

  -- what was put there goes again
  pub restored : (lists new : List (List Entry)) (none : List ℕ) → none ≡ [] → ExtendsInPart last come lists → length new ≡ length lists → ((m : ℕ) → list_of new m ≡ filter (keeps none first) (list_of lists m)) → new ≡ last
  restored lists new none empty part count kept =
      lists_same new last (count ∙ part.1.count) (λ m.
      let mine = filter (λ (e : Entry). m == e.table) (somes (take part.0 come)) in
      let own = All-filter (λ (e : Entry). m == e.table) (λ (e : Entry). first ≤ e.number) (somes (take part.0 come)) (All-some (λ (e : Entry). first ≤ e.number) come part.0 (slots_from (length last) first come slots)) in
      kept m ∙ ap (filter (keeps none first)) (part.1.at m) ∙ filter-append (keeps none first) (list_of last m) mine
      ∙ ap (λ ys. filter (keeps none first) (list_of last m) ++ ys)
      (filter_none (keeps none first) mine (All-weaker (λ (e : Entry). first ≤ e.number) (λ (e : Entry). keeps none first e ≡ false) (λ e le. past e le) mine own))
      ∙ append-nil (filter (keeps none first) (list_of last m))
      ∙ keeps_below none first (list_of last m) (numbers_of (λ n. n < first) last m old)
      ∙ sym (none_gone none (list_of last m) empty))
    where
      past : (e : Entry) → first ≤ e.number → keeps none first e ≡ false
      past e le = let f : nat_lt e.number first ≡ false = grind (arith, nat_tests) in rw f refl

-- a list of which as many are kept is kept whole
pub kept_whole : {X : Type 0} (p : X → Bool) (xs : List X) → length (filter p xs) ≡ length xs → filter p xs ≡ xs
kept_whole p [] e = refl
kept_whole p (x ∷ xs) e = by (p x) e (kept_whole p xs) (filter-short p xs)
  where
    by : (b : Bool) → length (cond b (x ∷ filter p xs) (filter p xs)) ≡ length (x ∷ xs) → (length (filter p xs) ≡ length xs → filter p xs ≡ xs) → length (filter p xs) ≤ length xs → cond b (x ∷ filter p xs) (filter p xs) ≡ x ∷ xs
    by true s rest le = ap (λ ys. x ∷ ys) (rest (omega (arith, s)))
    by false s rest le = absurd (omega (arith, s, le))

-- a list of which an item is not kept gets shorter
filter_less : {X : Type 0} (p : X → Bool) (xs : List X) (i : ℕ) (x : X) → slice_get xs i ≡ Some x → p x ≡ false → length (filter p xs) < length xs
filter_less p [] i x at out = absurd (none-some x at)
filter_less p (y ∷ ys) zero x at out = by (p y) (ap p (same_Some y x at) ∙ out) (filter-short p ys)
  where
    by : (b : Bool) → b ≡ false → length (filter p ys) ≤ length ys → length (cond b (y ∷ filter p ys) (filter p ys)) < length (y ∷ ys)
    by true s le = absurd (false≢true (sym s))
    by false s le = omega (arith, le)
filter_less p (y ∷ ys) (suc i) x at out = by (p y) (filter_less p ys i x at out)
  where
    by : (b : Bool) → length (filter p ys) < length ys → length (cond b (y ∷ filter p ys) (filter p ys)) < length (y ∷ ys)
    by true lt = omega (arith, lt)
    by false lt = omega (arith, lt)

-- a list of which one item is not kept, without that item
pub kept_but_one : {X : Type 0} (p : X → Bool) (xs : List X) (i : ℕ) (x : X) → length (filter p xs) + 1 ≡ length xs → slice_get xs i ≡ Some x → p x ≡ false → remove xs i ≡ filter p xs
kept_but_one p [] i x e at out = absurd (none-some x at)
kept_but_one p (y ∷ ys) zero x e at out = by (p y) (ap p (same_Some y x at) ∙ out) e
  where
    by : (b : Bool) → b ≡ false → length (cond b (y ∷ filter p ys) (filter p ys)) + 1 ≡ length (y ∷ ys) → ys ≡ cond b (y ∷ filter p ys) (filter p ys)
    by true s len = absurd (false≢true (sym s))
    by false s len = sym (kept_whole p ys (omega (arith, len)))
kept_but_one p (y ∷ ys) (suc i) x e at out = by (p y) e (λ len. kept_but_one p ys i x len at out) (filter_less p ys i x at out)
  where
    by : (b : Bool) → length (cond b (y ∷ filter p ys) (filter p ys)) + 1 ≡ length (y ∷ ys) → (length (filter p ys) + 1 ≡ length ys → remove ys i ≡ filter p ys) → length (filter p ys) < length ys
        → y ∷ remove ys i ≡ cond b (y ∷ filter p ys) (filter p ys)
    by true len rest lt = ap (λ zs. y ∷ zs) (rest (omega (arith, len)))
    by false len rest lt = absurd (omega (arith, len, lt))
