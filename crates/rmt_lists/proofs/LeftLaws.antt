-- What changes leave of the tables.
use Rattle.std.proofs.Common.{◌≡◌, ◌≢◌, ℕ, zero, suc, ◌+◌, ◌-◌, ◌<◌, ◌≤◌, ◌==◌, ◌&&◌, ◌||◌, Bool, true, false, not, cond, List, [], ◌∷◌, ◌++◌, Option, Some, None, length, slice_get, slice_set, get_or, refl, sym, ap, subst, ◌∙◌, inl, inr, arith, add-zero, append_assoc}
use Rattle.std.specs.Prelude.{All, IsTrue, filter}
use Rattle.std.specs.List.{flat_map}
use Rattle.std.specs.BTreeSet.{insert_key}
use Rattle.std.specs.Ordering.{nat_cmp}
use Rattle.std.proofs.lemmas.Bool.{cases_Bool, cases_lt, eq-eqb, eqb-true, false≢true}
use Rattle.std.proofs.lemmas.List.{append-nil, length-set, map-append}
use Rattle.std.proofs.lemmas.List.Elements.{All-cons, All-filter, All-nil, All-weaker, filter-append}
use Rattle.std.proofs.lemmas.List.Kept.{AllPairs-cons, AllPairs-filter}
use Rattle.rmt_bits.proofs.AlikeLaws.{filter_alike}
use Rattle.rmt_bits.proofs.PairLaws.{AllPairs-append, AllPairs-none}
use Rattle.rmt_bits.specs.Members.{is_among}
use Rattle.rmt_ast.specs.declared.entry.Entry.{Entry}
use Rattle.rmt_ast.specs.Answers.{entry_numbers}
use Rattle.rmt_ast.specs.Changes.{EntryKey, added, list_of, removed, without}
use Rattle.rmt_lists.specs.Holding.{keyed_numbers}
use Rattle.rmt_lists.specs.Stands.{AreLeft, AreSlots, left_at, numbers_in, somes}
use Rattle.rmt_lists.proofs.FilterLaws.{All-insert, Rise, above_stay, among_append, among_insert, among_lists, filter_swap, filter_twice, first_among, list_of-other, list_of-set, all_apart, among_filter, eqb_turned, not_among, not_among_above, not_number, numbers_of, other_number, other_table, others_stay, without_number}

-- ---- slots

pub somes-push : (xs : List (Option Entry)) (e : Entry) → somes (xs ++ Some e ∷ []) ≡ somes xs ++ e ∷ []
somes-push [] e = refl
somes-push (None ∷ xs) e = somes-push xs e
somes-push (Some x ∷ xs) e = ap (λ ys. x ∷ ys) (somes-push xs e)

pub slots_push : (nodes first : ℕ) (xs : List (Option Entry)) (e : Entry) → AreSlots nodes first xs → e.number ≡ first + length xs → e.table < nodes → AreSlots nodes first (xs ++ Some e ∷ [])
slots_push nodes first [] e h n t = ((n ∙ add-zero first, t), tt)
slots_push nodes first (None ∷ xs) e h n t = slots_push nodes (first + 1) xs e h (omega (arith, n)) t
slots_push nodes first (Some x ∷ xs) e h n t = (h.0, slots_push nodes (first + 1) xs e h.1 (omega (arith, n)) t)

pub slots_from : (nodes first : ℕ) (xs : List (Option Entry)) → AreSlots nodes first xs → All (λ (e : Entry). first ≤ e.number) (somes xs)
slots_from nodes first [] h = All-nil _
slots_from nodes first (None ∷ xs) h = All-weaker (λ (e : Entry). first + 1 ≤ e.number) (λ (e : Entry). first ≤ e.number) (λ e lt. omega (arith, lt)) (somes xs) (slots_from nodes (first + 1) xs h)
slots_from nodes first (Some x ∷ xs) h =
    All-cons (λ (e : Entry). first ≤ e.number) x (somes xs) (omega (arith, h.0.0))
    (All-weaker (λ (e : Entry). first + 1 ≤ e.number) (λ (e : Entry). first ≤ e.number) (λ e lt. omega (arith, lt)) (somes xs) (slots_from nodes (first + 1) xs h.1))

pub slots_rise : (nodes first : ℕ) (xs : List (Option Entry)) → AreSlots nodes first xs → Rise (somes xs)
slots_rise nodes first [] h = AllPairs-none (λ (a b : Entry). a.number < b.number)
slots_rise nodes first (None ∷ xs) h = slots_rise nodes (first + 1) xs h
slots_rise nodes first (Some x ∷ xs) h =
    AllPairs-cons (λ (a b : Entry). a.number < b.number) x (somes xs)
    (All-weaker (λ (e : Entry). first + 1 ≤ e.number) (λ (e : Entry). x.number < e.number) (λ e lt. omega (arith, lt, h.0.0)) (somes xs) (slots_from nodes (first + 1) xs h.1))
    (slots_rise nodes (first + 1) xs h.1)

pub slots_tables : (nodes first : ℕ) (xs : List (Option Entry)) → AreSlots nodes first xs → All (λ (e : Entry). e.table < nodes) (somes xs)
slots_tables nodes first [] h = All-nil _
slots_tables nodes first (None ∷ xs) h = slots_tables nodes (first + 1) xs h
slots_tables nodes first (Some x ∷ xs) h = All-cons (λ (e : Entry). e.table < nodes) x (somes xs) h.0.1 (slots_tables nodes (first + 1) xs h.1)

-- a place is emptied
pub slots_less : (nodes first : ℕ) (xs : List (Option Entry)) (i : ℕ) → AreSlots nodes first xs → AreSlots nodes first (slice_set xs i None)
slots_less nodes first [] i h = h
slots_less nodes first (None ∷ xs) zero h = h
slots_less nodes first (Some x ∷ xs) zero h = h.1
slots_less nodes first (None ∷ xs) (suc i) h = slots_less nodes (first + 1) xs i h
slots_less nodes first (Some x ∷ xs) (suc i) h = (h.0, slots_less nodes (first + 1) xs i h.1)

somes_less : (nodes first : ℕ) (xs : List (Option Entry)) (i : ℕ) → AreSlots nodes first xs → somes (slice_set xs i None) ≡ filter (not_number (first + i)) (somes xs)
somes_less nodes first [] i h = refl
somes_less nodes first (None ∷ xs) zero h =
    let above = All-weaker (λ (e : Entry). first + 1 ≤ e.number) (λ (e : Entry). first + 0 < e.number) (λ e lt. omega (arith, lt)) (somes xs) (slots_from nodes (first + 1) xs h) in
    sym (above_stay (first + 0) (somes xs) above)
somes_less nodes first (Some x ∷ xs) zero h =
    let above = All-weaker (λ (e : Entry). first + 1 ≤ e.number) (λ (e : Entry). first + 0 < e.number) (λ e lt. omega (arith, lt)) (somes xs) (slots_from nodes (first + 1) xs h.1) in
    rw (eq-eqb x.number (first + 0) (omega (arith, h.0.0))) (sym (above_stay (first + 0) (somes xs) above))
somes_less nodes first (None ∷ xs) (suc i) h =
    somes_less nodes (first + 1) xs i h ∙ ap (λ n. filter (not_number n) (somes xs)) (let e : (first + 1) + i ≡ first + suc i = omega arith in e)
somes_less nodes first (Some x ∷ xs) (suc i) h =
    let other : not_number (first + suc i) x ≡ true = other_number (first + suc i) x (λ same. absurd (omega (arith, same, h.0.0))) in
    rw other
    (ap (λ ys. x ∷ ys) (somes_less nodes (first + 1) xs i h.1 ∙ ap (λ n. filter (not_number n) (somes xs)) (let e : (first + 1) + i ≡ first + suc i = omega arith in e)))

-- ---- an addition

module _ (last : List (List Entry)) (gone : List ℕ) (come : List (Option Entry)) (first : ℕ) (lists : List (List Entry)) (h : AreLeft last gone come first lists) where
  left_push : (e : Entry) (m : ℕ) → left_at last gone (come ++ Some e ∷ []) m ≡ left_at last gone come m ++ cond (m == e.table) (e ∷ []) []
  left_push e m =
      let kept = filter (λ (x : Entry). not (is_among gone x.number)) (list_of last m) in
      ap (λ es. kept ++ filter (λ (x : Entry). m == x.table) es) (somes-push come e)
      ∙ ap (λ es. kept ++ es) (filter-append (λ (x : Entry). m == x.table) (somes come) (e ∷ []))
      ∙ sym (append_assoc kept (filter (λ (x : Entry). m == x.table) (somes come)) (cond (m == e.table) (e ∷ []) []))

  pub left_added : (e : Entry) → e.number ≡ first + length come → e.table < length last → AreLeft last gone (come ++ Some e ∷ []) first (added lists e)
  left_added e number table = record {
    count = length-set lists e.table (list_of lists e.table ++ e ∷ []) ∙ h.count;
    left = at;
    committed = h.committed;
    slots = slots_push (length last) first come e h.slots number table;
    gone_stood = h.gone_stood;
  }
    where
      at : (m : ℕ) → list_of (added lists e) m ≡ left_at last gone (come ++ Some e ∷ []) m
      at m =
          elim (cases_Bool (m == e.table)) [
            | inl t ↦
                let same : m ≡ e.table = eqb-true m e.table t in
                ap (list_of (added lists e)) same ∙ list_of-set lists e.table (list_of lists e.table ++ e ∷ []) (rw h.count table)
                ∙ ap (λ es. es ++ e ∷ []) (ap (list_of lists) (sym same) ∙ h.left m)
                ∙ sym (left_push e m ∙ ap (λ b. left_at last gone come m ++ cond b (e ∷ []) []) t)
            | inr f ↦
                let apart : m ≢ e.table = λ same. false≢true (sym f ∙ eq-eqb m e.table same) in
                list_of-other lists e.table m (list_of lists e.table ++ e ∷ []) apart ∙ h.left m
                ∙ sym (left_push e m ∙ ap (λ b. left_at last gone come m ++ cond b (e ∷ []) []) f ∙ append-nil (left_at last gone come m))
          ]

  -- ---- a removal

  kept_at : ℕ → List Entry
  kept_at m = filter (λ (e : Entry). not (is_among gone e.number)) (list_of last m)

  kept_below : (m : ℕ) → All (λ (e : Entry). e.number < first) (filter (λ (e : Entry). not (is_among gone e.number)) (list_of last m))
  kept_below m = All-filter (λ (e : Entry). not (is_among gone e.number)) (λ (e : Entry). e.number < first) (list_of last m) (numbers_of (λ n. n < first) last m h.committed.old)

  come_from : (m : ℕ) → All (λ (e : Entry). first ≤ e.number) (filter (λ (e : Entry). m == e.table) (somes come))
  come_from m = All-filter (λ (e : Entry). m == e.table) (λ (e : Entry). first ≤ e.number) (somes come) (slots_from (length last) first come h.slots)

  pub left_rises : (m : ℕ) → Rise (list_of lists m)
  left_rises m =
      subst Rise (sym (h.left m))
      (AllPairs-append (λ (a b : Entry). a.number < b.number) (filter (λ (e : Entry). not (is_among gone e.number)) (list_of last m)) (filter (λ (e : Entry). m == e.table) (somes come))
      (AllPairs-filter (λ (a b : Entry). a.number < b.number) (λ (e : Entry). not (is_among gone e.number)) (list_of last m) (h.committed.rising m))
      (AllPairs-filter (λ (a b : Entry). a.number < b.number) (λ (e : Entry). m == e.table) (somes come) (slots_rise (length last) first come h.slots))
      (All-weaker (λ (a : Entry). a.number < first) (λ (a : Entry). All (λ (b : Entry). a.number < b.number) (filter (λ (e : Entry). m == e.table) (somes come)))
      (λ a low. All-weaker (λ (b : Entry). first ≤ b.number) (λ (b : Entry). a.number < b.number) (λ b high. omega (arith, low, high)) (filter (λ (e : Entry). m == e.table) (somes come)) (come_from m))
      (filter (λ (e : Entry). not (is_among gone e.number)) (list_of last m)) (kept_below m)))

  module _ (node : ℕ) (key : EntryKey) (n : ℕ) (held : slice_get (keyed_numbers key (list_of lists node)) 0 ≡ Some n) where
    -- the number is that of an entry that was kept or that came
    among : (is_among (entry_numbers (filter (λ (e : Entry). not (is_among gone e.number)) (list_of last node))) n || is_among (entry_numbers (filter (λ (e : Entry). node == e.table) (somes come))) n) ≡ true
    among =
        let kept = filter (λ (e : Entry). not (is_among gone e.number)) (list_of last node) in
        let own = filter (λ (e : Entry). node == e.table) (somes come) in
        sym (among_append (entry_numbers kept) (entry_numbers own) n) ∙ ap (λ ns. is_among ns n) (sym (map-append (λ (e : Entry). e.number) kept own))
        ∙ ap (λ es. is_among (entry_numbers es) n) (sym (h.left node)) ∙ first_among key (list_of lists node) n held

    without_is : without key (list_of lists node) ≡ filter (not_number n) (left_at last gone come node)
    without_is = without_number key (list_of lists node) n (left_rises node) held ∙ ap (filter (not_number n)) (h.left node)

    -- the lists behind the removal, by what stands at each node
    by_node : (gone2 : List ℕ) (come2 : List (Option Entry)) → node < length lists → filter (not_number n) (left_at last gone come node) ≡ left_at last gone2 come2 node
        → ((m : ℕ) → m ≢ node → left_at last gone come m ≡ left_at last gone2 come2 m) → (m : ℕ) → list_of (removed lists node key) m ≡ left_at last gone2 come2 m
    by_node gone2 come2 within own others m =
        elim (cases_Bool (m == node)) [
          | inl t ↦
              let same : m ≡ node = eqb-true m node t in
              rw same (list_of-set lists node (without key (list_of lists node)) within ∙ without_is ∙ own)
          | inr f ↦
              let apart : m ≢ node = λ same. false≢true (sym f ∙ eq-eqb m node same) in
              list_of-other lists node m (without key (list_of lists node)) apart ∙ h.left m ∙ others m apart
        ]

    -- a number that goes
    gone_more : (x : ℕ) → not (is_among (insert_key nat_cmp gone n) x) ≡ (not (is_among gone x) && not (x == n))
    gone_more x = ap not (among_insert gone n x) ∙ by (is_among gone x) (n == x) (x == n) (eqb_turned n x)
      where
        by : (a b c : Bool) → b ≡ c → not (a || b) ≡ (not a && not c)
        by true b c e = refl
        by false b c e = ap not e

    kept_among : n < first → is_among (entry_numbers (filter (λ (e : Entry). not (is_among gone e.number)) (list_of last node))) n ≡ true
    kept_among low =
        let above = All-weaker (λ (e : Entry). first ≤ e.number) (λ (e : Entry). n < e.number) (λ e high. omega (arith, low, high)) (filter (λ (e : Entry). node == e.table) (somes come)) (come_from node) in
        by (is_among (entry_numbers (filter (λ (e : Entry). not (is_among gone e.number)) (list_of last node))) n) (not_among_above n (filter (λ (e : Entry). node == e.table) (somes come)) above) among
      where
        by : (a : Bool) → is_among (entry_numbers (filter (λ (e : Entry). node == e.table) (somes come))) n ≡ false → (a || is_among (entry_numbers (filter (λ (e : Entry). node == e.table) (somes come))) n) ≡ true → a ≡ true
        by true e i = refl
        by false e i = absurd (false≢true (sym e ∙ i))

    stood : n < first → is_among (numbers_in last node) n ≡ true
    stood low = among_filter (λ (e : Entry). not (is_among gone e.number)) (list_of last node) n (kept_among low)

    pub left_gone : node < length lists → n < first → AreLeft last (insert_key nat_cmp gone n) come first (removed lists node key)
    left_gone within low = record {
      count = length-set lists node (without key (list_of lists node)) ∙ h.count;
      left = by_node (insert_key nat_cmp gone n) come within own others;
      committed = h.committed;
      slots = h.slots;
      gone_stood = All-insert (λ k. IsTrue (is_among (flat_map entry_numbers last) k)) gone n h.gone_stood (among_lists last node n (stood low));
    }
      where
        own : filter (not_number n) (left_at last gone come node) ≡ left_at last (insert_key nat_cmp gone n) come node
        own =
            let kept = filter (λ (e : Entry). not (is_among gone e.number)) (list_of last node) in
            let mine = filter (λ (e : Entry). node == e.table) (somes come) in
            let above = All-weaker (λ (e : Entry). first ≤ e.number) (λ (e : Entry). n < e.number) (λ e high. omega (arith, low, high)) mine (come_from node) in
            filter-append (not_number n) kept mine
            ∙ ap (λ es. filter (not_number n) kept ++ es) (above_stay n mine above)
            ∙ ap (λ es. es ++ mine)
            (filter_twice (not_number n) (λ (e : Entry). not (is_among gone e.number)) (list_of last node)
            ∙ filter_alike (λ (e : Entry). not (is_among gone e.number) && not_number n e) (λ (e : Entry). not (is_among (insert_key nat_cmp gone n) e.number)) (list_of last node)
            (λ k d lt. sym (gone_more (get_or (list_of last node) k d).number)))

        others : (m : ℕ) → m ≢ node → left_at last gone come m ≡ left_at last (insert_key nat_cmp gone n) come m
        others m apart =
            ap (λ es. es ++ filter (λ (e : Entry). m == e.table) (somes come))
            (filter_alike (λ (e : Entry). not (is_among gone e.number)) (λ (e : Entry). not (is_among (insert_key nat_cmp gone n) e.number)) (list_of last m)
            (All-weaker (λ (e : Entry). e.number ≢ n) (λ (e : Entry). not (is_among gone e.number) ≡ not (is_among (insert_key nat_cmp gone n) e.number))
            (λ e other. sym (gone_more e.number ∙ ap (λ b. not (is_among gone e.number) && b) (other_number n e other) ∙ and_true (not (is_among gone e.number))))
            (list_of last m) (all_apart n (list_of last m) (none (is_among (numbers_in last m) n) refl))))
          where
            and_true : (b : Bool) → (b && true) ≡ b
            and_true true = refl
            and_true false = refl

            none : (b : Bool) → is_among (numbers_in last m) n ≡ b → is_among (entry_numbers (list_of last m)) n ≡ false
            none true s = absurd (apart (h.committed.apart m node n s (stood low)))
            none false s = s

    pub left_taken : node < length lists → first ≤ n → AreLeft last gone (slice_set come (n - first) None) first (removed lists node key)
    left_taken within high = record {
      count = length-set lists node (without key (list_of lists node)) ∙ h.count;
      left = by_node gone (slice_set come (n - first) None) within own others;
      committed = h.committed;
      slots = slots_less (length last) first come (n - first) h.slots;
      gone_stood = h.gone_stood;
    }
      where
        less : somes (slice_set come (n - first) None) ≡ filter (not_number n) (somes come)
        less = somes_less (length last) first come (n - first) h.slots ∙ ap (λ k. filter (not_number k) (somes come)) (let e : first + (n - first) ≡ n = omega (arith, high) in e)

        apart_kept : All (λ (e : Entry). e.number ≢ n) (filter (λ (e : Entry). not (is_among gone e.number)) (list_of last node))
        apart_kept =
            All-weaker (λ (e : Entry). e.number < first) (λ (e : Entry). e.number ≢ n) (λ e low same. absurd (omega (arith, low, high, same)))
            (filter (λ (e : Entry). not (is_among gone e.number)) (list_of last node)) (kept_below node)

        came : is_among (entry_numbers (filter (λ (e : Entry). node == e.table) (somes come))) n ≡ true
        came = sym (ap (λ b. b || is_among (entry_numbers (filter (λ (e : Entry). node == e.table) (somes come))) n) (not_among n (filter (λ (e : Entry). not (is_among gone e.number)) (list_of last node)) apart_kept)) ∙ among

        own : filter (not_number n) (left_at last gone come node) ≡ left_at last gone (slice_set come (n - first) None) node
        own =
            let kept = filter (λ (e : Entry). not (is_among gone e.number)) (list_of last node) in
            let mine = filter (λ (e : Entry). node == e.table) (somes come) in
            filter-append (not_number n) kept mine
            ∙ ap (λ es. es ++ filter (not_number n) mine) (others_stay n kept apart_kept)
            ∙ ap (λ es. kept ++ es) (filter_swap (not_number n) (λ (e : Entry). node == e.table) (somes come) ∙ ap (filter (λ (e : Entry). node == e.table)) (sym less))

        others : (m : ℕ) → m ≢ node → left_at last gone come m ≡ left_at last gone (slice_set come (n - first) None) m
        others m apart =
            ap (λ es. filter (λ (e : Entry). not (is_among gone e.number)) (list_of last m) ++ es)
            (sym (ap (filter (λ (e : Entry). m == e.table)) less ∙ other_table (somes come) node m n (slots_rise (length last) first come h.slots) apart came))

    -- what is left behind the removal, however its entry is taken away
    pub left_removed : (gone2 : List ℕ) (come2 : List (Option Entry)) → node < length lists → (n < first → (gone2 ≡ insert_key nat_cmp gone n) × (come2 ≡ come))
        → (first ≤ n → (gone2 ≡ gone) × (come2 ≡ slice_set come (n - first) None)) → AreLeft last gone2 come2 first (removed lists node key) × (length come2 ≡ length come)
    left_removed gone2 come2 within goes stays =
        elim (cases_lt n first) [
          | inl low ↦
              let same = goes low in (
                subst (λ (ks : List ℕ). AreLeft last ks come2 first (removed lists node key)) (sym same.0)
                    (subst (λ (xs : List (Option Entry)). AreLeft last (insert_key nat_cmp gone n) xs first (removed lists node key)) (sym same.1) (left_gone within low)),
                ap length same.1,
              )
          | inr high ↦
              let le : first ≤ n = omega (arith, high) in
              let same = stays le in (
                subst (λ (ks : List ℕ). AreLeft last ks come2 first (removed lists node key)) (sym same.0)
                    (subst (λ (xs : List (Option Entry)). AreLeft last gone xs first (removed lists node key)) (sym same.1) (left_taken within le)),
                ap length same.1 ∙ length-set come (n - first) None,
              )
        ]
