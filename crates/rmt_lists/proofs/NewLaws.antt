-- A run to which no change was made.
use Rattle.std.proofs.Common.{◌≡◌, ◌≢◌, ℕ, zero, suc, ◌+◌, ◌<◌, ◌≤◌, ◌==◌, ◌&&◌, true, not, List, [], ◌∷◌, ◌++◌, Option, Some, None, length, map, max, drop, slice_get, length-append, option_map, unwrap_or, get_or, refl, sym, ap, subst, ◌∙◌, arith}
use Rattle.std.specs.Prelude.{All, IfSome, IsSomeAnd, IsTrue, filter, find, fold}
use Rattle.std.specs.List.{flat_map, list_all, range_with_len}
use Rattle.std.proofs.lemmas.Bool.{and_parts, leb-true}
use Rattle.std.proofs.lemmas.List.{append-nil}
use Rattle.std.proofs.lemmas.List.Sums.{fold-append}
use Rattle.std.proofs.lemmas.List.Elements.{All-head, All-map, All-nil, All-tail}
use Rattle.std.proofs.lemmas.Option.{none-some, same_Some, slice_get-get_or}
use Rattle.rmt_bits.proofs.AllLaws.{All-find, All-parts, All-from_test, All-slice_get}
use Rattle.rmt_bits.proofs.PairLaws.{AllPairs-across, AllPairs-none, AllPairs-right}
use Rattle.rmt_ast.specs.declared.entry.Entry.{Entry}
use Rattle.rmt_ast.specs.declared.names.Names.{Names}
use Rattle.rmt_ast.specs.declared.names.TableName.{TableName}
use Rattle.rmt_ast.specs.Answers.{entry_numbers}
use Rattle.rmt_ast.specs.Changes.{list_of, next_number}
use Rattle.rmt_ast.specs.EntryLists.{AreEntriesAt, Terms}
use Rattle.rmt_ast.specs.NameRules.{AreEntriesOf, names_are_formed, nodes_rise, table_is_formed, table_names_differ, terms_named, terms_of_name}
use Rattle.rmt_ast.specs.WellFormed.{AreDistinct}
use Rattle.rmt_lists.specs.declared.held.Held.{Held}
use Rattle.rmt_lists.specs.Holding.{Holds}
use Rattle.rmt_lists.specs.Stands.{AreHeld, AreLeft, AreSlots, numbers_in, somes}
use Rattle.rmt_lists.proofs.CommitLaws.{among_numbers}
use Rattle.rmt_lists.proofs.FilterLaws.{Rise, among_lists}
use Rattle.rmt_lists.proofs.SettleLaws.{none_gone}
use Rattle.rmt_bits.proofs.MostLaws.{fold_max}
use Rattle.rmt_bits.specs.Members.{is_among}

-- what the rules say of a table's size and widths
pub size-few : (t : TableName) → table_is_formed t ≡ true → t.size ≤ 1048576
size-few t formed = leb-true t.size 1048576 (and_parts _ _ (and_parts _ _ (and_parts _ _ formed).0).1).1

-- ---- the next number

abbrev pub step : ℕ → ℕ → ℕ
step next n = max next (n + 1)

pub below_next : (z : ℕ) (ns : List ℕ) → All (λ n. n < fold (λ next n. max next (n + 1)) z ns) ns
below_next z ns = (fold_max ns z).1

pub next_up_to : (limit z : ℕ) (ns : List ℕ) → All (λ n. n < limit) ns → z ≤ limit → fold (λ next n. max next (n + 1)) z ns ≤ limit
next_up_to limit z [] h le = le
next_up_to limit z (n ∷ ns) h le =
    let here = All-head (λ k. k < limit) n ns h in next_up_to limit (max z (n + 1)) ns (All-tail (λ k. k < limit) n ns h) (omega (arith, here, le))

-- ---- entries of names

sized_terms : (names : Names) → names_are_formed names ≡ true → (n : ℕ) → IfSome (terms_named names n) (λ t. t.size ≤ 1048576)
sized_terms names h n = by (find (λ (t : TableName). t.node == n) names.tables) refl
  where
    all : All (λ (t : TableName). t.size ≤ 1048576) names.tables
    all = All-from_test (λ (t : TableName). t.size ≤ 1048576) table_is_formed size-few names.tables (and_parts (nodes_rise names && table_names_differ names) (list_all table_is_formed names.tables) h).1

    by : (o : Option TableName) → find (λ (t : TableName). t.node == n) names.tables ≡ o → IfSome (option_map terms_of_name o) (λ t. t.size ≤ 1048576)
    by None e = tt
    by (Some t) e = All-find (λ (x : TableName). x.size ≤ 1048576) (λ (x : TableName). x.node == n) names.tables t all e

-- a list at a node
record Listed (es : List Entry) : Type 0 where
  rise : Rise es
  few : length es ≤ 1048576

module _ (names : Names) (lists : List (List Entry)) (formed : names_are_formed names ≡ true) (are : AreEntriesOf names lists) where
  listed : (n : ℕ) (es : List Entry) → slice_get lists n ≡ Some es → Listed es
  listed n es at = by (slice_get (map (terms_named names) (range_with_len 0 (length lists))) n) refl (are.entries.each n es at)
    where
      all : All (λ (o : Option Terms). IfSome o (λ t. t.size ≤ 1048576)) (map (terms_named names) (range_with_len 0 (length lists)))
      all = All-map (λ (o : Option Terms). IfSome o (λ t. t.size ≤ 1048576)) (terms_named names) (range_with_len 0 (length lists)) (λ k d lt. sized_terms names formed (get_or (range_with_len 0 (length lists)) k d))

      empty : es ≡ [] → Listed es
      empty e = subst Listed (sym e) (record { rise = AllPairs-none (λ (a b : Entry). a.number < b.number); few = omega arith })

      by : (o : Option (Option Terms)) → slice_get (map (terms_named names) (range_with_len 0 (length lists))) n ≡ o → IsSomeAnd o (AreEntriesAt n es) → Listed es
      by None s h = absurd h
      by (Some None) s h = empty h
      by (Some (Some t)) s h =
          let size : t.size ≤ 1048576 = All-slice_get (λ (o : Option Terms). IfSome o (λ u. u.size ≤ 1048576)) (map (terms_named names) (range_with_len 0 (length lists))) n (Some t) all s in
          record { rise = h.rising; few = omega (arith, h.within_size, size) }

  pub few_entries : All (λ (es : List Entry). length es ≤ 1048576) lists
  few_entries k d lt = (listed k (get_or lists k d) (slice_get-get_or lists k d lt)).few

  rising : (n : ℕ) → Rise (list_of lists n)
  rising n = by (slice_get lists n) refl
    where
      by : (o : Option (List Entry)) → slice_get lists n ≡ o → Rise (unwrap_or o [])
      by None s = AllPairs-none (λ (a b : Entry). a.number < b.number)
      by (Some es) s = (listed n es s).rise

  apart_lists : (ls : List (List Entry)) → AreDistinct (flat_map entry_numbers ls) → (m n x : ℕ) → is_among (numbers_in ls m) x ≡ true → is_among (numbers_in ls n) x ≡ true → m ≡ n
  apart_lists [] h m n x a b = cc
  apart_lists (y ∷ ys) h zero zero x a b = refl
  apart_lists (y ∷ ys) h zero (suc n) x a b = absurd (twice (AllPairs-across (λ (p q : ℕ). p ≢ q) (entry_numbers y) (flat_map entry_numbers ys) h) a (among_lists ys n x b))
    where
      twice : All (λ p. All (λ q. p ≢ q) (flat_map entry_numbers ys)) (entry_numbers y) → is_among (entry_numbers y) x ≡ true → is_among (flat_map entry_numbers ys) x ≡ true → ⊥
      twice all i j = among_numbers (λ q. x ≢ q) (flat_map entry_numbers ys) x (among_numbers (λ p. All (λ q. p ≢ q) (flat_map entry_numbers ys)) (entry_numbers y) x all i) j refl
  apart_lists (y ∷ ys) h (suc m) zero x a b = absurd (twice (AllPairs-across (λ (p q : ℕ). p ≢ q) (entry_numbers y) (flat_map entry_numbers ys) h) b (among_lists ys m x a))
    where
      twice : All (λ p. All (λ q. p ≢ q) (flat_map entry_numbers ys)) (entry_numbers y) → is_among (entry_numbers y) x ≡ true → is_among (flat_map entry_numbers ys) x ≡ true → ⊥
      twice all i j = among_numbers (λ q. x ≢ q) (flat_map entry_numbers ys) x (among_numbers (λ p. All (λ q. p ≢ q) (flat_map entry_numbers ys)) (entry_numbers y) x all i) j refl
  apart_lists (y ∷ ys) h (suc m) (suc n) x a b = ap suc (apart_lists ys (AllPairs-right (λ (p q : ℕ). p ≢ q) (entry_numbers y) (flat_map entry_numbers ys) h) m n x a b)

  pub left_first : (gone : List ℕ) (come : List (Option Entry)) → gone ≡ [] → come ≡ [] → AreLeft lists gone come (next_number lists) lists
  left_first gone come g e = record {
    count = refl;
    left = λ m. none_gone gone (list_of lists m) g ∙ sym (append-nil (filter (λ (x : Entry). not (is_among gone x.number)) (list_of lists m))) ∙ ap (λ (xs : List (Option Entry)). filter (λ (x : Entry). not (is_among gone x.number)) (list_of lists m) ++ filter (λ (x : Entry). m == x.table) (somes xs)) (sym e);
    committed = record { rising = rising; old = below_next 0 (flat_map entry_numbers lists); apart = apart_lists lists are.entries.numbers_once };
    slots = subst (λ (xs : List (Option Entry)). AreSlots (length lists) (next_number lists) xs) (sym e) tt;
    gone_stood = subst (λ (ns : List ℕ). All (λ x. IsTrue (is_among (flat_map entry_numbers lists) x)) ns) (sym g) (All-nil (λ x. IsTrue (is_among (flat_map entry_numbers lists) x)));
  }

-- ---- one list more

pub next_more : (lists : List (List Entry)) (i : ℕ) (item : List Entry) (next : ℕ) → i < length lists → item ≡ get_or lists i item
    → fold (λ next n. max next (n + 1)) next (flat_map entry_numbers (drop i lists)) ≡ fold (λ next n. max next (n + 1)) (fold (λ next n. max next (n + 1)) next (entry_numbers item)) (flat_map entry_numbers (drop (i + 1) lists))
next_more lists i item next lt at =
    let here : drop i lists ≡ item ∷ drop (i + 1) lists = cut lists i item lt at in
    ap (λ (ls : List (List Entry)). fold (λ next n. max next (n + 1)) next (flat_map entry_numbers ls)) here
    ∙ fold-append (λ next n. max next (n + 1)) next (entry_numbers item) (flat_map entry_numbers (drop (i + 1) lists))
  where
    cut_suc : (ls : List (List Entry)) (k : ℕ) (x : List Entry) → k < length ls → x ≡ get_or ls k x → drop k ls ≡ x ∷ drop (suc k) ls
    cut_suc [] k x lt e = absurd (omega (arith, lt))
    cut_suc (y ∷ ys) zero x lt e = ap (λ z. z ∷ ys) (sym e)
    cut_suc (y ∷ ys) (suc k) x lt e = cut_suc ys k x (omega (arith, lt)) e

    cut : (ls : List (List Entry)) (k : ℕ) (x : List Entry) → k < length ls → x ≡ get_or ls k x → drop k ls ≡ x ∷ drop (k + 1) ls
    cut ls k x lt e = cut_suc ls k x lt e ∙ ap (λ n. x ∷ drop n ls) (let s : suc k ≡ k + 1 = omega arith in s)

pub item_numbers : (limit : ℕ) (lists : List (List Entry)) (i : ℕ) (item : List Entry) → All (λ n. n < limit) (flat_map entry_numbers lists) → i < length lists → item ≡ get_or lists i item → All (λ n. n < limit) (entry_numbers item)
item_numbers limit lists i item h lt at =
    subst (λ (es : List Entry). All (λ n. n < limit) (entry_numbers es)) (sym at) (All-parts (λ n. n < limit) entry_numbers lists h i item lt)

pub held_push : (ts : List Held) (ls : List (List Entry)) (h : Held) (es : List Entry) → AreHeld ts ls → Holds h es → AreHeld (ts ++ h ∷ []) (ls ++ es ∷ [])
held_push ts ls h es all own = record {
  count = omega (arith, all.count, length-append ts (h ∷ []), length-append ls (es ∷ []));
  each = push ts ls all.count all.each;
}
  where
    push : (us : List Held) (ms : List (List Entry)) → length us ≡ length ms → ((node : ℕ) (x : Held) → slice_get us node ≡ Some x → Holds x (list_of ms node))
        → (node : ℕ) (x : Held) → slice_get (us ++ h ∷ []) node ≡ Some x → Holds x (list_of (ms ++ es ∷ []) node)
    push [] [] len each zero x at = subst (λ (y : Held). Holds y es) (same_Some h x at) own
    push [] [] len each (suc node) x at = absurd (none-some x at)
    push [] (m ∷ ms) len each node x at = absurd (omega (arith, len))
    push (u ∷ us) [] len each node x at = absurd (omega (arith, len))
    push (u ∷ us) (m ∷ ms) len each zero x at = each 0 x at
    push (u ∷ us) (m ∷ ms) len each (suc node) x at = push us ms (omega (arith, len)) (λ k y e. each (suc k) y e) node x at
