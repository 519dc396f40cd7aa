-- The entries behind a commit: no two of a node have one number, and each list has them by number.
use Rattle.std.proofs.Common.{◌≡◌, ◌≢◌, ℕ, zero, suc, ◌+◌, ◌<◌, ◌==◌, Bool, true, false, not, cond, List, [], ◌∷◌, ◌++◌, Option, Some, None, length, map, take, drop, refl, sym, ap, ◌∙◌, subst, inl, inr, arith, append_assoc}
use Rattle.std.specs.Prelude.{All, AllPairs, filter, fold, nat_lt, slice_get, slice_set, unwrap_or}
use Rattle.std.specs.BTreeMap.{BTreeMap}
use Rattle.std.specs.List.{enumerate_from, range_with_len}
use Rattle.std.proofs.lemmas.Bool.{cases_Bool, cases_lt, eq-eqb, eqb-true, false≢true}
use Rattle.std.proofs.lemmas.List.{append-nil, length-append, take-append-drop}
use Rattle.std.proofs.lemmas.List.Elements.{All-cons, All-head, All-nil, All-tail, All-weaker, filter-append}
use Rattle.std.proofs.lemmas.List.FromFn.{map-range_with_len_more}
use Rattle.std.proofs.lemmas.List.Kept.{AllPairs-cons}
use Rattle.std.proofs.lemmas.Option.{same_Some, slice_get_within}
use Rattle.rmt_bits.proofs.ListLaws.{slice_get-front, slice_get-more, slice_get-pushed, slice_get-set_other, slice_get-set_same}
use Rattle.rmt_bits.proofs.PairLaws.{AllPairs-head, AllPairs-none, AllPairs-tail}
use Rattle.rmt_bits.specs.Members.{is_among}
use Rattle.rmt_ast.specs.declared.entry.Entry.{Entry}
use Rattle.rmt_ast.specs.declared.names.Names.{Names}
use Rattle.rmt_ast.specs.Changes.{list_of}
use Rattle.rmt_ast.specs.EntryLists.{AreEntriesAt, Terms}
use Rattle.rmt_ast.specs.NameRules.{AreEntriesOf, terms_named}
use Rattle.rmt_config.specs.NamesForm.{by_number, with_entry}
use Rattle.rmt_pack.proofs.SortedLaws.{IsBelow, Differ}
use Rattle.rmt_lists.specs.declared.lists.Changes.{Changes}
use Rattle.rmt_update.specs.After.{AreOrders, left_of, with_come, without_gone}
use Rattle.rmt_book.specs.Numbered.{IsNew, IsOrder}
use Rattle.rmt_update.specs.Planned.{changed_list, changed_lists}
use Rattle.rmt_book.specs.Seen.{HaveNumbers}
use Rattle.rmt_update.proofs.SeenLaws.{number-new, numbers-front}
use Rattle.rmt_update.proofs.TableRules.{entries-at}

-- ---- entries that rise by number have numbers of their own

above-all : (P : Entry → Type 0) (e : Entry) (os : List Entry) → All P (with_entry e os) → P e × All P os
above-all P e [] all = (All-head P e [] all, All-nil P)
above-all P e (o ∷ os) all = by (nat_lt o.number e.number) all (above-all P e os)
  where
    by : (b : Bool) → All P (cond b (o ∷ with_entry e os) (e ∷ o ∷ os)) → (All P (with_entry e os) → P e × All P os) → P e × All P (o ∷ os)
    by true h rest = let r = rest (All-tail P o (with_entry e os) h) in (r.0, All-cons P o os (All-head P o (with_entry e os) h) r.1)
    by false h rest = (All-head P e (o ∷ os) h, All-tail P e (o ∷ os) h)

with-rises : (e : Entry) (os : List Entry) → AllPairs IsBelow (with_entry e os) → AllPairs IsBelow os × IsNew e.number os
with-rises e [] rise = (AllPairs-none IsBelow, All-nil (λ (x : Entry). e.number ≢ x.number))
with-rises e (o ∷ os) rise = by (nat_lt o.number e.number) rise (with-rises e os)
  where
    by : (b : Bool) → AllPairs IsBelow (cond b (o ∷ with_entry e os) (e ∷ o ∷ os)) → (AllPairs IsBelow (with_entry e os) → AllPairs IsBelow os × IsNew e.number os)
        → AllPairs IsBelow (o ∷ os) × IsNew e.number (o ∷ os)
    by true h rest =
        let r = rest (AllPairs-tail IsBelow o (with_entry e os) h) in
        let above = above-all (IsBelow o) e os (AllPairs-head IsBelow o (with_entry e os) h) in
        let less = above.0 in
        (AllPairs-cons IsBelow o os above.1 r.0, All-cons (λ (x : Entry). e.number ≢ x.number) o os (λ same. absurd (omega (arith, same, less))) r.1)
    by false h rest = (
      AllPairs-tail IsBelow e (o ∷ os) h,
      All-weaker (IsBelow e) (λ (x : Entry). e.number ≢ x.number) (λ x less same. absurd (omega (arith, less, same))) (o ∷ os) (AllPairs-head IsBelow e (o ∷ os) h),
    )

fold-have : (es acc : List Entry) → AllPairs IsBelow (fold (λ sorted e. with_entry e sorted) acc es)
    → AllPairs IsBelow acc × HaveNumbers es × All (λ (x : Entry). IsNew x.number acc) es
fold-have [] acc rise = (rise, AllPairs-none Differ, All-nil (λ (x : Entry). IsNew x.number acc))
fold-have (e ∷ es) acc rise =
    let r = fold-have es (with_entry e acc) rise in
    let w = with-rises e acc r.0 in (
      w.0,
      AllPairs-cons Differ e es
          (All-weaker (λ (x : Entry). IsNew x.number (with_entry e acc)) (Differ e) (λ x new same. (above-all (λ (y : Entry). x.number ≢ y.number) e acc new).0 (sym same)) es r.2) r.1,
      All-cons (λ (x : Entry). IsNew x.number acc) e es w.1
          (All-weaker (λ (x : Entry). IsNew x.number (with_entry e acc)) (λ (x : Entry). IsNew x.number acc) (λ x new. (above-all (λ (y : Entry). x.number ≢ y.number) e acc new).1) es r.2),
    )

pub numbers-from-rising : (es : List Entry) → AllPairs IsBelow (by_number es) → HaveNumbers es
numbers-from-rising es rise = (fold-have es [] rise).1

-- ---- the lists behind a commit

changed-at : (ch : Changes) (k : ℕ) (lists : List (List Entry)) (n : ℕ) → n < length lists → list_of (map (changed_list ch) (enumerate_from k lists)) n ≡ changed_list ch (k + n, list_of lists n)
changed-at ch k [] n lt = absurd (omega (arith, lt))
changed-at ch k (x ∷ xs) zero lt = let none : k ≡ k + 0 = omega arith in ap (λ m. changed_list ch (m, x)) none
changed-at ch k (x ∷ xs) (suc n) lt =
    let next : k + 1 + n ≡ k + suc n = omega arith in
    changed-at ch (k + 1) xs n (omega (arith, lt)) ∙ ap (λ m. changed_list ch (m, list_of xs n)) next

changed-long : (ch : Changes) (k : ℕ) (lists : List (List Entry)) → length (map (changed_list ch) (enumerate_from k lists)) ≡ length lists
changed-long ch k [] = refl
changed-long ch k (x ∷ xs) = ap suc (changed-long ch (k + 1) xs)

pub changed-length : (lists : List (List Entry)) (ch : Changes) → length (changed_lists lists ch) ≡ length lists
changed-length lists ch = changed-long ch 0 lists

pub changed-list : (lists : List (List Entry)) (ch : Changes) (n : ℕ) → n < length lists → list_of (changed_lists lists ch) n ≡ by_number (with_come (left_of ch.gone lists) ch.come n)
changed-list lists ch n lt = let none : 0 + n ≡ n = omega arith in changed-at ch 0 lists n lt ∙ ap (λ m. changed_list ch (m, list_of lists n)) none

-- no two entries of a node have one number
pub after-have : (names : Names) (lists : List (List Entry)) (ch : Changes) → AreEntriesOf names (changed_lists lists ch) → (n : ℕ) → n < length lists → HaveNumbers (with_come (left_of ch.gone lists) ch.come n)
after-have names lists ch formed n lt =
    let long = changed-length lists ch in
    numbers-from-rising (with_come (left_of ch.gone lists) ch.come n)
    (by (terms_named names n)
    (subst (λ es. AreEntriesAt n es (terms_named names n)) (changed-list lists ch n lt) (entries-at names (changed_lists lists ch) n formed (omega (arith, lt, long)))))
  where
    by : (o : Option Terms) → AreEntriesAt n (by_number (with_come (left_of ch.gone lists) ch.come n)) o → AllPairs IsBelow (by_number (with_come (left_of ch.gone lists) ch.come n))
    by None none = subst (AllPairs IsBelow) (sym none) (AllPairs-none IsBelow)
    by (Some t) are = are.rising

map-from : (ch : Changes) (all : List (List Entry)) (k : ℕ) (xs : List (List Entry)) → ((i : ℕ) → list_of all (k + i) ≡ list_of xs i)
    → map (λ n. by_number (with_come (left_of ch.gone all) ch.come n)) (range_with_len k (length xs)) ≡ map (changed_list ch) (enumerate_from k xs)
map-from ch all k [] same = refl
map-from ch all k (x ∷ xs) same =
    let none : k ≡ k + 0 = omega arith in
    ap (λ es. by_number (without_gone ch.gone es ++ filter (λ (e : Entry). k == e.table) ch.come) ∷ map (λ n. by_number (with_come (left_of ch.gone all) ch.come n)) (range_with_len (k + 1) (length xs)))
    (ap (list_of all) none ∙ same 0)
    ∙ ap (λ rest. changed_list ch (k, x) ∷ rest) (map-from ch all (k + 1) xs (λ i. let next : k + 1 + i ≡ k + suc i = omega arith in ap (list_of all) next ∙ same (suc i)))

pub map-changed : (lists : List (List Entry)) (ch : Changes) → map (λ n. by_number (with_come (left_of ch.gone lists) ch.come n)) (range_with_len 0 (length lists)) ≡ changed_lists lists ch
map-changed lists ch = map-from ch lists 0 lists (λ i. let none : 0 + i ≡ i = omega arith in ap (list_of lists) none)

-- ---- steps of the loops

-- one entry more that is left
pub left-more : (numbers : List ℕ) (es : List Entry) (e : Entry) (old new : BTreeMap ℕ Entry) → is_among numbers e.number ≡ false → (HaveNumbers (without_gone numbers es) → IsOrder (without_gone numbers es) old)
    → ((xs : List Entry) → IsOrder xs old → IsNew e.number xs → IsOrder (xs ++ e ∷ []) new) → HaveNumbers (without_gone numbers (es ++ e ∷ [])) → IsOrder (without_gone numbers (es ++ e ∷ [])) new
left-more numbers es e old new stays so_far put have =
    let more : without_gone numbers (es ++ e ∷ []) ≡ without_gone numbers es ++ e ∷ [] =
    filter-append (λ (x : Entry). not (is_among numbers x.number)) es (e ∷ []) ∙ ap (λ b. without_gone numbers es ++ cond (not b) (e ∷ []) []) stays in
    let all = subst HaveNumbers more have in
    subst (λ xs. IsOrder xs new) (sym more)
    (put (without_gone numbers es) (so_far (numbers-front (without_gone numbers es) (e ∷ []) all)) (number-new (without_gone numbers es) e all))

-- one that goes
pub left-same : (numbers : List ℕ) (es : List Entry) (e : Entry) → is_among numbers e.number ≡ true → without_gone numbers (es ++ e ∷ []) ≡ without_gone numbers es
left-same numbers es e goes =
    filter-append (λ (x : Entry). not (is_among numbers x.number)) es (e ∷ []) ∙ ap (λ b. without_gone numbers es ++ cond (not b) (e ∷ []) []) goes ∙ append-nil (without_gone numbers es)

list-front : (lists : List (List Entry)) (es : List Entry) (n : ℕ) → n < length lists → list_of (lists ++ es ∷ []) n ≡ list_of lists n
list-front lists es n lt = ap (λ (o : Option (List Entry)). unwrap_or o []) (slice_get-front lists (es ∷ []) n lt)

list-last : (lists : List (List Entry)) (es : List Entry) → list_of (lists ++ es ∷ []) (length lists) ≡ es
list-last lists es = ap (λ (o : Option (List Entry)). unwrap_or o []) (slice_get-pushed lists es)

-- a place in a list with one item more
pub last-or-before : {X : Type 0} (xs : List X) (x y : X) (n : ℕ) (P : ℕ → X → Type 0) → ((m : ℕ) (z : X) → m < length xs → slice_get xs m ≡ Some z → P m z) → P (length xs) x → slice_get (xs ++ x ∷ []) n ≡ Some y → P n y
last-or-before xs x y n P before last at = elim (cases_lt n (length xs)) [
  | inl lt ↦ before n y lt (sym (slice_get-front xs (x ∷ []) n lt) ∙ at)
  | inr ge ↦
      let within = slice_get_within (xs ++ x ∷ []) n y at in
      let long = length-append xs (x ∷ []) in
      let is : length xs ≡ n = omega (arith, ge, within, long) in
      let same : x ≡ y = same_Some x y (sym (slice_get-pushed xs x) ∙ ap (slice_get (xs ++ x ∷ [])) is ∙ at) in
      subst (λ m. P m y) is (subst (P (length xs)) same last)
]

-- one list more of which what is left is known
pub orders-more : (numbers : List ℕ) (lists : List (List Entry)) (es : List Entry) (orders : List (BTreeMap ℕ Entry)) (m : BTreeMap ℕ Entry) → length orders ≡ length lists
    → (((n : ℕ) → n < length lists → HaveNumbers (left_of numbers lists n)) → AreOrders (left_of numbers lists) orders)
    → (HaveNumbers (without_gone numbers es) → IsOrder (without_gone numbers es) m)
    → ((n : ℕ) → n < length (lists ++ es ∷ []) → HaveNumbers (left_of numbers (lists ++ es ∷ []) n)) → AreOrders (left_of numbers (lists ++ es ∷ [])) (orders ++ m ∷ [])
orders-more numbers lists es orders m count so_far one have n y at =
    let long = length-append lists (es ∷ []) in
    let before : AreOrders (left_of numbers lists) orders =
    so_far (λ i lt. subst (λ xs. HaveNumbers (without_gone numbers xs)) (list-front lists es i lt) (have i (omega (arith, lt, long)))) in
    let here : IsOrder (without_gone numbers es) m = one (subst (λ xs. HaveNumbers (without_gone numbers xs)) (list-last lists es) (have (length lists) (omega (arith, long)))) in
    last-or-before orders m y n (λ i z. IsOrder (left_of numbers (lists ++ es ∷ []) i) z)
    (λ i z lt there. subst (λ xs. IsOrder (without_gone numbers xs) z) (sym (list-front lists es i (omega (arith, lt, count)))) (before i z there))
    (subst (λ k. IsOrder (without_gone numbers (list_of (lists ++ es ∷ []) k)) m) (sym count) (subst (λ xs. IsOrder (without_gone numbers xs) m) (sym (list-last lists es)) here)) at

-- one map more in order
pub in-order-more : (own : ℕ → List Entry) (so_far : List (BTreeMap ℕ Entry)) (m : BTreeMap ℕ Entry) (lists : List (List Entry)) (es : List Entry)
    → (AreOrders own so_far → lists ≡ map (λ n. by_number (own n)) (range_with_len 0 (length so_far))) → ((xs : List Entry) → IsOrder xs m → es ≡ by_number xs)
    → AreOrders own (so_far ++ m ∷ []) → lists ++ es ∷ [] ≡ map (λ n. by_number (own n)) (range_with_len 0 (length (so_far ++ m ∷ [])))
in-order-more own so_far m lists es before one all =
    let long : length so_far + 1 ≡ length (so_far ++ m ∷ []) = sym (length-append so_far (m ∷ [])) in
    ap (λ ls. ls ++ es ∷ []) (before (λ n y at. all n y (slice_get-more so_far m n y at)))
    ∙ ap (λ x. map (λ n. by_number (own n)) (range_with_len 0 (length so_far)) ++ x ∷ []) (one (own (length so_far)) (all (length so_far) m (slice_get-pushed so_far m)))
    ∙ sym (map-range_with_len_more (λ n. by_number (own n)) 0 (length so_far) (length so_far) (omega arith)) ∙ ap (λ k. map (λ n. by_number (own n)) (range_with_len 0 k)) long

-- ---- entries that come

with-more : (own : ℕ → List Entry) (so_far : List Entry) (e : Entry) (n : ℕ) → with_come own (so_far ++ e ∷ []) n ≡ with_come own so_far n ++ cond (n == e.table) (e ∷ []) []
with-more own so_far e n =
    ap (λ es. own n ++ es) (filter-append (λ (x : Entry). n == x.table) so_far (e ∷ []))
    ∙ sym (append_assoc (own n) (filter (λ (x : Entry). n == x.table) so_far) (cond (n == e.table) (e ∷ []) []))

-- one entry more that comes
pub come-more : (own : ℕ → List Entry) (so_far : List Entry) (e : Entry) (orders : List (BTreeMap ℕ Entry)) (m m2 : BTreeMap ℕ Entry) → AreOrders (with_come own so_far) orders → slice_get orders e.table ≡ Some m
    → ((xs : List Entry) → IsOrder xs m → IsNew e.number xs → IsOrder (xs ++ e ∷ []) m2) → HaveNumbers (with_come own (so_far ++ e ∷ []) e.table)
    → AreOrders (with_come own (so_far ++ e ∷ [])) (slice_set orders e.table m2)
come-more own so_far e orders m m2 before at put have n y there = elim (cases_Bool (n == e.table)) [
  | inl t ↦
      let same : n ≡ e.table = eqb-true n e.table t in
      let here : m2 ≡ y = same_Some m2 y (sym (slice_get-set_same orders e.table m m2 at) ∙ ap (slice_get (slice_set orders e.table m2)) (sym same) ∙ there) in
      let more : with_come own (so_far ++ e ∷ []) e.table ≡ with_come own so_far e.table ++ e ∷ [] =
      with-more own so_far e e.table ∙ ap (λ b. with_come own so_far e.table ++ cond b (e ∷ []) []) (eq-eqb e.table e.table refl) in
      let done : IsOrder (with_come own so_far e.table ++ e ∷ []) m2 = put (with_come own so_far e.table) (before e.table m at) (number-new (with_come own so_far e.table) e (subst HaveNumbers more have)) in
      subst (λ k. IsOrder (with_come own (so_far ++ e ∷ []) k) y) (sym same) (subst (λ xs. IsOrder xs y) (sym more) (subst (IsOrder (with_come own so_far e.table ++ e ∷ [])) here done))
  | inr f ↦
      let apart : n ≢ e.table = λ same. false≢true (sym f ∙ eq-eqb n e.table same) in
      let more : with_come own (so_far ++ e ∷ []) n ≡ with_come own so_far n = with-more own so_far e n ∙ ap (λ b. with_come own so_far n ++ cond b (e ∷ []) []) f ∙ append-nil (with_come own so_far n) in
      subst (λ xs. IsOrder xs y) (sym more) (before n y (sym (slice_get-set_other orders e.table n m2 apart) ∙ there))
]

-- what holds with all that come holds with the first of them
pub come-front : (own : ℕ → List Entry) (come : List Entry) (i n : ℕ) → HaveNumbers (with_come own come n) → HaveNumbers (with_come own (take i come) n)
come-front own come i n have =
    let test : Entry → Bool = λ x. n == x.table in
    let split : with_come own come n ≡ with_come own (take i come) n ++ filter test (drop i come) =
    ap (λ es. own n ++ es) (ap (filter test) (sym (take-append-drop i come)) ∙ filter-append test (take i come) (drop i come)) ∙ sym (append_assoc (own n) (filter test (take i come)) (filter test (drop i come))) in
    numbers-front (with_come own (take i come) n) (filter test (drop i come)) (subst HaveNumbers split have)

-- and what holds with all that come holds of those that are left
pub numbers-left : (left come : List Entry) (n : ℕ) → HaveNumbers (left ++ filter (λ (e : Entry). n == e.table) come) → HaveNumbers left
numbers-left left come n have = numbers-front left (filter (λ (e : Entry). n == e.table) come) have
