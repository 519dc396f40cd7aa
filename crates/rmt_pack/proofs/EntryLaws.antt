-- Entries by their numbers and keys.
use Rattle.std.proofs.Common.{◌≡◌, ◌≢◌, ℕ, ◌<◌, ◌==◌, true, List, [], ◌∷◌, ◌++◌, Option, Some, None, Contains, length, map, get_or, refl, sym, ap, subst, ◌∙◌, inl, inr, arith, ◌+◌, ◌-◌, ◌^◌, ◌≤◌, Bool, false, cond, ◌&&◌, All}
use Rattle.std.specs.Prelude.{AllPairs}
use Rattle.std.specs.List.{AllZip, flat_map}
use Rattle.std.proofs.lemmas.Bool.{eq-eqb, cases_eq, cases_lt, and_from, false≢true}
use Rattle.std.proofs.lemmas.List.{get_or-map, length-map, map-append, length-append}
use Rattle.std.proofs.lemmas.List.Kept.{AllPairs-cons}
use Rattle.rmt_bits.proofs.PairLaws.{AllPairs-head, AllPairs-none, AllPairs-tail, AllPairs-map, AllPairs-weaker}
use Rattle.rmt_bits.proofs.MemberLaws.{list_any-Contains}
use Rattle.rmt_ast.specs.declared.entry.Entry.{Entry}
use Rattle.rmt_ast.specs.Answers.{entry_numbers}
use Rattle.rmt_ast.specs.EntryLists.{AreEntriesAt, IsEntry, HasKeysOnce, HasRank, IsPrefix, Terms, AreTableEntries}
use Rattle.rmt_ast.specs.WellFormed.{AreDistinct}
use Rattle.rmt_config.specs.Commits.{all_entries, is_numbered_in}
use Rattle.std.proofs.Math.Pow.{pow-lt}
use Rattle.std.specs.Str.{bytes_eq}
use Rattle.std.proofs.lemmas.List.Elements.{All-append, All-cons, All-contains, All-contains_itself, All-nil, All-weaker}
use Rattle.std.proofs.lemmas.List.Quantifiers.{all_pairs_push}
use Rattle.std.proofs.lemmas.Slice.Eq.{bytes_eq-Decides}
use Rattle.rmt_ast.specs.Changes.{EntryKey, is_keyed_by, without, are_same, is_held, key_of_entry}
use Rattle.rmt_ast.specs.declared.program.Kind.{Kind}
use Rattle.rmt_ast.specs.declared.program.Test.{Test}
use Rattle.rmt_ast.proofs.EntryLaws.{all_without}
use Rattle.rmt_ast.specs.declared.program.Kind.TheVariants as kind

-- pairs of what a map gives
pub AllPairs-unmap : {X Y : Type 0} (R : Y → Y → Type 0) (f : X → Y) (xs : List X) → AllPairs R (map f xs) → AllPairs (λ a b. R (f a) (f b)) xs
AllPairs-unmap R f xs h i j d lt within =
    let long = length-map xs f in
    subst (λ y. R y (f (get_or xs j d))) (get_or-map f xs i d (f d) (omega (arith, lt, within)))
    (subst (R (get_or (map f xs) i (f d))) (get_or-map f xs j d (f d) within) (h i j (f d) lt (omega (arith, long, within))))

pub all_numbers : (lists : List (List Entry)) → flat_map entry_numbers lists ≡ map (λ (e : Entry). e.number) (all_entries lists)
all_numbers [] = refl
all_numbers (es ∷ lists) = ap (λ ns. entry_numbers es ++ ns) (all_numbers lists) ∙ sym (map-append (λ (e : Entry). e.number) es (all_entries lists))

pub is_numbered : (es : List Entry) (e : Entry) → Contains es e → is_numbered_in es e ≡ true
is_numbered es e there = list_any-Contains (λ (o : Entry). o.number == e.number) es e there (eq-eqb e.number e.number refl)

pub distinct_at : (n : ℕ) (es : List Entry) (o : Option Terms) → AreEntriesAt n es o → AreDistinct (entry_numbers es)
distinct_at n es None are = subst (λ (xs : List Entry). AreDistinct (entry_numbers xs)) (sym are) (AllPairs-none ◌≢◌)
distinct_at n es (Some t) are =
    AllPairs-map ◌≢◌ (λ (e : Entry). e.number) es
    (AllPairs-weaker (λ (a b : Entry). a.number < b.number) (λ (a b : Entry). a.number ≢ b.number) (λ a b lt same. omega (arith, lt, same)) es are.rising)

abbrev pub numbered : Entry → ℕ → Entry
numbered e n = record e { number = n }

pub same_rank : (k : Kind) (ws : List ℕ) (e : Entry) (n : ℕ) → HasRank k ws e → HasRank k ws (numbered e n)
same_rank kind.Keyless ws e n h = h
same_rank kind.Exact ws e n h = h
same_rank kind.Prefix ws e n h = h
same_rank kind.Ternary ws e n h = h

-- prefixes of one mask have one length
one_length : (w a b : ℕ) → a ≤ w → b ≤ w → 2 ^ w - 2 ^ (w - a) ≡ 2 ^ w - 2 ^ (w - b) → a < b → ⊥
one_length w a b la lb e lt =
    let less : 2 ^ (w - b) < 2 ^ (w - a) = pow-lt (omega (arith, lt, la, lb)) in
    let top : 2 ^ (w - a) ≤ 2 ^ w = elim (cases_eq a 0) [
      | inl none ↦ (let same : w - a ≡ w = omega (arith, none) in subst (λ m. 2 ^ m ≤ 2 ^ w) (sym same) (omega arith))
      | inr some ↦ (let less : 2 ^ (w - a) < 2 ^ w = pow-lt (omega (arith, some, la)) in omega (arith, less))
    ] in
    powers (2 ^ w) (2 ^ (w - a)) (2 ^ (w - b)) less top e
  where
    powers : (x y z : ℕ) → z < y → y ≤ x → x - y ≡ x - z → ⊥
    powers x y z lt le same = omega (arith, lt, le, same)

pub one_rank : (ws : List ℕ) (ts : List Test) (a b : ℕ) → 1 ≤ length ws → AllZip (IsPrefix a) ws ts → AllZip (IsPrefix b) ws ts → a ≡ b
one_rank [] ts a b some ha hb = absurd (omega (arith, some))
one_rank (w ∷ ws) [] a b some ha hb = absurd ha
one_rank (w ∷ ws) (t ∷ ts) a b some ha hb = elim (cases_lt a b) [
  | inl lt ↦ absurd (one_length w a b ha.0.0 hb.0.0 (sym ha.0.1 ∙ hb.0.1) lt)
  | inr ge ↦ elim (cases_eq a b) [
    | inl same ↦ same
    | inr other ↦ absurd (one_length w b a hb.0.0 ha.0.0 (sym hb.0.1 ∙ ha.0.1) (omega (arith, ge, other)))
  ]
]

pairs_without : (R : Entry → Entry → Type 0) (key : EntryKey) (es : List Entry) → AllPairs R es → AllPairs R (without key es)
pairs_without R key [] all = all
pairs_without R key (e ∷ es) all = by (is_keyed_by key e) (pairs_without R key es (AllPairs-tail R e es all))
  where
    by : (b : Bool) → AllPairs R (without key es) → AllPairs R (cond b es (e ∷ without key es))
    by true rest = AllPairs-tail R e es all
    by false rest = AllPairs-cons R e (without key es) (all_without (R e) key es (AllPairs-head R e es all)) rest

fewer : (key : EntryKey) (es : List Entry) → length (without key es) ≤ length es
fewer key [] = omega arith
fewer key (e ∷ es) = by (is_keyed_by key e) (fewer key es)
  where
    by : (b : Bool) → length (without key es) ≤ length es → length (cond b es (e ∷ without key es)) ≤ length (e ∷ es)
    by true le = omega arith
    by false le = omega (arith, le)

keys_without : (k : Kind) (key : EntryKey) (es : List Entry) → HasKeysOnce k es → HasKeysOnce k (without key es)
keys_without kind.Keyless key es once = tt
keys_without kind.Exact key es once = pairs_without (λ (a b : Entry). a.tests ≢ b.tests) key es once
keys_without kind.Prefix key es once = pairs_without (λ (a b : Entry). a.tests ≢ b.tests) key es once
keys_without kind.Ternary key es once = tt

pub entries_without : (n : ℕ) (key : EntryKey) (es : List Entry) (o : Option Terms) → AreEntriesAt n es o → AreEntriesAt n (without key es) o
entries_without n key es None are = ap (without key) are
entries_without n key es (Some t) are = record {
  each = all_without (IsEntry n t) key es are.each;
  rising = pairs_without (λ (a b : Entry). a.number < b.number) key es are.rising;
  keys_once = keys_without t.kind key es are.keys_once;
  within_size = let le = fewer key es in let size = are.within_size in omega (arith, le, size);
}

-- ---- an entry is added

-- entries with the same tests and the same rank have the same key
keyed : (e o : Entry) → e.tests ≡ o.tests → e.rank ≡ o.rank → is_keyed_by (key_of_entry e) o ≡ true
keyed e o tests ranks =
    and_from (are_same e.tests o.tests) (e.rank == o.rank)
    (and_from (bytes_eq (map (λ (t : Test). t.value) e.tests) (map (λ (t : Test). t.value) o.tests)) (bytes_eq (map (λ (t : Test). t.mask) e.tests) (map (λ (t : Test). t.mask) o.tests))
    ((bytes_eq-Decides (map (λ (t : Test). t.value) e.tests) (map (λ (t : Test). t.value) o.tests)).1 (ap (map (λ (t : Test). t.value)) tests))
    ((bytes_eq-Decides (map (λ (t : Test). t.mask) e.tests) (map (λ (t : Test). t.mask) o.tests)).1 (ap (map (λ (t : Test). t.mask)) tests)))
    (eq-eqb e.rank o.rank ranks)

-- no entry has the tests of one whose key none has
other_tests : (es : List Entry) (e : Entry) → ((o : Entry) → Contains es o → o.tests ≡ e.tests → e.rank ≡ o.rank) → is_held (key_of_entry e) es ≡ false → All (λ (o : Entry). o.tests ≢ e.tests) es
other_tests es e ranks new =
    All-weaker (Contains es) (λ (o : Entry). o.tests ≢ e.tests)
    (λ o there same. false≢true (sym new ∙ list_any-Contains (is_keyed_by (key_of_entry e)) es o there (keyed e o (sym same) (ranks o there same))))
    es (All-contains_itself es)

-- whether tables of a kind have a key once, as exact ones and those of prefixes do
module _ (once : Kind → Bool) (exact : once kind.Exact ≡ true) (prefix : once kind.Prefix ≡ true) where
  not_held : (k : Kind) (held : Bool) → once k ≡ true → (once k && held) ≡ false → held ≡ false
  not_held k held is new = ap (λ b. b && held) (sym is) ∙ new

  keys_added : (k : Kind) (ws : List ℕ) (es : List Entry) (e : Entry) (next : ℕ) → (k ≡ kind.Prefix → 1 ≤ length ws) → All (HasRank k ws) es → HasRank k ws e → (once k && is_held (key_of_entry e) es) ≡ false
      → HasKeysOnce k es → HasKeysOnce k (es ++ numbered e next ∷ [])
  keys_added kind.Keyless ws es e next some ranks own new keys = tt
  keys_added kind.Exact ws es e next some ranks own new keys =
      all_pairs_push (λ (a b : Entry). a.tests ≢ b.tests) es (numbered e next) keys
      (other_tests es e (λ o there same. own.1 ∙ sym (All-contains (HasRank kind.Exact ws) es o ranks there).1) (not_held kind.Exact (is_held (key_of_entry e) es) exact new))
  keys_added kind.Prefix ws es e next some ranks own new keys =
      all_pairs_push (λ (a b : Entry). a.tests ≢ b.tests) es (numbered e next) keys
      (other_tests es e
      (λ o there same. one_rank ws e.tests e.rank o.rank (some refl) own (subst (AllZip (IsPrefix o.rank) ws) same (All-contains (HasRank kind.Prefix ws) es o ranks there)))
      (not_held kind.Prefix (is_held (key_of_entry e) es) prefix new))
  keys_added kind.Ternary ws es e next some ranks own new keys = tt

  -- an entry of a table that isn't full, with a new number, and a new key where keys stand once
  pub table_added : (n : ℕ) (t : Terms) (es : List Entry) (e : Entry) (next : ℕ) → (t.kind ≡ kind.Prefix → 1 ≤ length t.widths) → AreTableEntries n es t → IsEntry n t e
      → (once t.kind && is_held (key_of_entry e) es) ≡ false → length es < t.size → All (λ (o : Entry). o.number < next) es → AreTableEntries n (es ++ numbered e next ∷ []) t
  table_added n t es e next some are is new room below = record {
    each = All-append (IsEntry n t) es (numbered e next ∷ []) are.each
        (All-cons (IsEntry n t) (numbered e next) [] (record { table = is.table; tests = is.tests; rank = same_rank t.kind t.widths e next is.rank; action = is.action }) (All-nil (IsEntry n t)));
    rising = all_pairs_push (λ (a b : Entry). a.number < b.number) es (numbered e next) are.rising below;
    keys_once = keys_added t.kind t.widths es e next some (All-weaker (IsEntry n t) (HasRank t.kind t.widths) (λ o own. own.rank) es are.each) is.rank new are.keys_once;
    within_size = let long = length-append es (numbered e next ∷ []) in omega (arith, room, long);
  }
