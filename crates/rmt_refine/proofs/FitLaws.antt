-- What fit changes make of well-formed entries: they stay well formed, and each entry is one that stood or has a new number.
use Rattle.std.proofs.Common.{◌≡◌, ◌≢◌, ◌⊎◌, ℕ, zero, suc, ◌+◌, ◌<◌, ◌≤◌, ◌==◌, true, List, [], ◌∷◌, ◌++◌, length, map, Option, Some, None, All, Contains, refl, sym, ap, subst, ◌∙◌, inl, inr, arith}
use Rattle.std.specs.Prelude.{option_map, slice_get, slice_set, unwrap_or}
use Rattle.std.specs.List.{flat_map}
use Rattle.std.proofs.lemmas.Bool.{cases_eq, eqb-true, false≢true}
use Rattle.std.proofs.lemmas.List.{length-map, length-set}
use Rattle.std.proofs.lemmas.List.Elements.{All-append, All-cons, All-contains, All-contains_itself, All-nil, All-set, All-weaker}
use Rattle.std.proofs.lemmas.Option.{none-some, same_Some, slice_get-map}
use Rattle.rmt_bits.proofs.AllLaws.{All-flat_map, All-parts, All-unmap}
use Rattle.rmt_bits.proofs.ListLaws.{slice_get-set_other}
use Rattle.rmt_bits.proofs.MemberLaws.{Contains-first, Contains-item, Contains-map, Contains-split, Contains-unmap, flat_from, any_item}
use Rattle.rmt_bits.proofs.PairLaws.{AllPairs-append, AllPairs-none}
use Rattle.rmt_ast.specs.declared.entry.Entry.{Entry}
use Rattle.rmt_ast.specs.Answers.{entry_numbers}
use Rattle.rmt_ast.specs.Changes.{Adds, Change, Installed, Removes, changed, committed, list_of, next_number, without}
use Rattle.rmt_ast.specs.EntryLists.{AreEntries, AreEntriesAt, Terms, terms_at, terms_of}
use Rattle.rmt_ast.specs.Events.{Arrives, Commits, Event, lists_from}
use Rattle.rmt_ast.specs.WellFormed.{AreDistinct, HasKey, IsProgram}
use Rattle.rmt_refine.specs.Types.{Kind, Node, Program, Table}
use Rattle.rmt_config.specs.Commits.{all_entries, is_numbered_in}
use Rattle.rmt_refine.specs.Commits.{KeepEntries}
use Rattle.rmt_refine.specs.Fit.{AreFit, AreFitChanges, CanBeAdded, CanBeMade, has_once}
use Rattle.rmt_refine.specs.Units.{applied, table_at}
use Rattle.rmt_pack.proofs.EntryLaws.{all_numbers, distinct_at, entries_without, numbered, table_added}
use Rattle.rmt_refine.proofs.EntryLaws.{listed_in, one_entry}
use Rattle.rmt_refine.proofs.NumberLaws.{one_list}
use Rattle.rmt_pack.proofs.PartLaws.{and_from as some_from, then_some}
use Rattle.rmt_refine.proofs.PartLaws.{some_and}
use Rattle.rmt_refine.proofs.TheLaw.{its_table, its_terms}
use Rattle.rmt_bits.proofs.MostLaws.{fold_max}
use Rattle.rmt_ast.proofs.EntryLaws.{all_without}
use Rattle.rmt_ast.specs.declared.program.Kind.TheVariants as kind

-- ---- numbers that stand once

-- numbers that stand once in each list, and in one list
abbrev InOneList : List (List Entry) → Type 0
InOneList lists =
    (i j : ℕ) (a b : List Entry) (x : ℕ) → slice_get lists i ≡ Some a → slice_get lists j ≡ Some b → Contains (entry_numbers a) x → Contains (entry_numbers b) x → i ≡ j

no_succ : (i : ℕ) → zero ≡ suc i → ⊥
no_succ i e = omega (arith, e)

distinct_from : (lists : List (List Entry)) → ((i : ℕ) (es : List Entry) → slice_get lists i ≡ Some es → AreDistinct (entry_numbers es)) → InOneList lists → AreDistinct (flat_map entry_numbers lists)
distinct_from [] own one = AllPairs-none ◌≢◌
distinct_from (es ∷ lists) own one =
    AllPairs-append ◌≢◌ (entry_numbers es) (flat_map entry_numbers lists) (own 0 es refl)
    (distinct_from lists (λ i fs at. own (suc i) fs at)
    (λ i j a b x at_a at_b in_a in_b. let same = one (suc i) (suc j) a b x at_a at_b in_a in_b in omega (arith, same)))
    (All-weaker (Contains (entry_numbers es)) (λ x. All (λ y. x ≢ y) (flat_map entry_numbers lists))
    (λ x there. All-weaker (Contains (flat_map entry_numbers lists)) (λ y. x ≢ y)
    (λ y later same.
    let from = flat_from entry_numbers lists y later in
    no_succ from.0 (one 0 (suc from.0) es from.1 x refl from.2 there (subst (Contains (entry_numbers from.1)) (sym same) from.3)))
    (flat_map entry_numbers lists) (All-contains_itself (flat_map entry_numbers lists)))
    (entry_numbers es) (All-contains_itself (entry_numbers es)))

-- ---- a list in place of another

-- what is set stands in the place of something
set_there : {X : Type 0} (xs : List X) (k : ℕ) (y z : X) → slice_get (slice_set xs k y) k ≡ Some z → (x : X) × (slice_get xs k ≡ Some x) × (y ≡ z)
set_there [] k y z e = absurd (none-some z e)
set_there (x ∷ xs) zero y z e = (x, refl, same_Some y z e)
set_there (x ∷ xs) (suc k) y z e = set_there xs k y z e

length_set : {X : Type 0} (xs : List X) (k : ℕ) (y : X) → length (slice_set xs k y) ≡ length xs
length_set xs k y = length-set xs k y

module _ (p : Program) (s : Installed) (entries : AreEntries p s.lists) (below : All (λ (e : Entry). e.number < s.next) (all_entries s.lists)) (i : ℕ) (new : List Entry) where
  abbrev terms : List (Option Terms)
  terms = map (λ (node : Node). terms_at p node.what) p.nodes

  abbrev lists : List (List Entry)
  lists = slice_set s.lists i new

  -- an entry is one of these, or has the next number
  abbrev IsOldOrNext : List Entry → Entry → Type 0
  IsOldOrNext old e = Contains old e ⊎ (e.number ≡ s.next)

  below_in : (n : ℕ) (es : List Entry) (e : Entry) → slice_get s.lists n ≡ Some es → Contains es e → e.number < s.next
  below_in n es e at there = All-contains (λ (x : Entry). x.number < s.next) (all_entries s.lists) e below (listed_in s.lists n es e at there)

  module _ (own : (old : List Entry) → slice_get s.lists i ≡ Some old → All (IsOldOrNext old) new) where
    -- a number of a list is one that it had, or the next one
    record IsOldNumber (j x : ℕ) : Type 0 where
      list : List Entry
      list_is : slice_get s.lists j ≡ Some list
      there : Contains (entry_numbers list) x

    old_number : (j x : ℕ) (b : List Entry) → slice_get lists j ≡ Some b → Contains (entry_numbers b) x → IsOldNumber j x ⊎ ((j ≡ i) × (x ≡ s.next))
    old_number j x b at there = elim (cases_eq j i) [
      | inl same ↦
          let r = set_there s.lists i new b (ap (slice_get lists) (sym same) ∙ at) in
          let e = Contains-unmap (λ (y : Entry). y.number) b x there in
          elim (All-contains (IsOldOrNext r.0) new e.0 (own r.0 r.1) (subst (λ (ys : List Entry). Contains ys e.0) (sym r.2) e.1)) [
            | inl stood ↦ inl (record { list = r.0; list_is = ap (slice_get s.lists) same ∙ r.1; there = subst (Contains (entry_numbers r.0)) e.2 (Contains-map (λ (y : Entry). y.number) r.0 e.0 stood) })
            | inr next ↦ inr (same, sym e.2 ∙ next)
          ]
      | inr other ↦ inl (record { list = b; list_is = sym (slice_get-set_other s.lists i j new other) ∙ at; there = there })
    ]

    not_next : (j x : ℕ) → IsOldNumber j x → x ≡ s.next → ⊥
    not_next j x o is =
        let e = Contains-unmap (λ (y : Entry). y.number) o.list x o.there in
        omega (arith, below_in j o.list e.0 o.list_is e.1, e.2, is)

    in_one_list : InOneList lists
    in_one_list j k a b x at_a at_b in_a in_b = elim (old_number j x a at_a in_a) [
      | inl old_a ↦ elim (old_number k x b at_b in_b) [
        | inl old_b ↦ one_list s.lists j k old_a.list old_b.list x entries.numbers_once old_a.list_is old_b.list_is old_a.there old_b.there
        | inr next_b ↦ absurd (not_next j x old_a next_b.1)
      ]
      | inr next_a ↦ elim (old_number k x b at_b in_b) [
        | inl old_b ↦ absurd (not_next k x old_b next_a.1)
        | inr next_b ↦ next_a.0 ∙ sym next_b.0
      ]
    ]

    module _ (good : (old : List Entry) (o : Option Terms) → slice_get terms i ≡ Some o → slice_get s.lists i ≡ Some old → AreEntriesAt i old o → AreEntriesAt i new o) where
      each_good : (n : ℕ) (es : List Entry) → slice_get lists n ≡ Some es → (o : Option Terms) × (slice_get terms n ≡ Some o) × AreEntriesAt n es o
      each_good n es at = elim (cases_eq n i) [
        | inl same ↦
            let r = set_there s.lists i new es (ap (slice_get lists) (sym same) ∙ at) in
            let o = some_and (slice_get terms i) (AreEntriesAt i r.0) (entries.each i r.0 r.1) in
            subst (λ m. (o : Option Terms) × (slice_get terms m ≡ Some o) × AreEntriesAt m es o) (sym same)
            (subst (λ ys. (o : Option Terms) × (slice_get terms i ≡ Some o) × AreEntriesAt i ys o) r.2 (o.0, o.1, good r.0 o.0 o.1 r.1 o.2))
        | inr other ↦ some_and (slice_get terms n) (AreEntriesAt n es) (entries.each n es (sym (slice_get-set_other s.lists i n new other) ∙ at))
      ]

      are_entries : AreEntries p lists
      are_entries = record {
        for_each_node = length_set s.lists i new ∙ entries.for_each_node;
        each = λ n es at. let r = each_good n es at in some_from (slice_get terms n) (AreEntriesAt n es) r.0 r.1 r.2;
        numbers_once = distinct_from lists (λ n es at. let r = each_good n es at in distinct_at n es r.0 r.2) in_one_list;
      }

  -- what holds of all entries and of those of the new list holds afterwards
  all_set : (P : Entry → Type 0) → All P (all_entries s.lists) → All P new → All P (all_entries lists)
  all_set P all own = All-flat_map P (λ (xs : List Entry). xs) lists (All-set (All P) s.lists i new own (All-parts P (λ (xs : List Entry). xs) s.lists all))

-- ---- one change

-- entries that follow on others
pub record FollowOn (p : Program) (before after : Installed) : Type 0 where
  pub next : before.next ≤ after.next
  pub each : All (λ (e : Entry). Contains (all_entries before.lists) e ⊎ (before.next ≤ e.number)) (all_entries after.lists)
  pub below : All (λ (e : Entry). e.number < after.next) (all_entries after.lists)
  pub entries : AreEntries p after.lists

list_is : (all : List (List Entry)) (n : ℕ) (es : List Entry) → slice_get all n ≡ Some es → list_of all n ≡ es
list_is all n es at = ap (λ o. unwrap_or o []) at

terms_there : (p : Program) (n : ℕ) (t : Table) → table_at p n ≡ Some t → slice_get (map (λ (node : Node). terms_at p node.what) p.nodes) n ≡ Some (Some (terms_of p t))
terms_there p n t at =
    let node = then_some (λ (x : Node). applied p x.what) (slice_get p.nodes n) t at in
    slice_get-map (λ (x : Node). terms_at p x.what) p.nodes n
    ∙ ap (option_map (λ (x : Node). terms_at p x.what)) node.1 ∙ ap Some (its_terms p node.0.what t node.2)

-- ---- an entry is added

prefix_width : (p : Program) (k : Kind) (t : Table) → HasKey p k t → k ≡ kind.Prefix → 1 ≤ length t.key
prefix_width p kind.Keyless t has e = absurd (false≢true (ap has_once e))
prefix_width p kind.Exact t has e = has.has_key
prefix_width p kind.Prefix t has e = has.0.has_key
prefix_width p kind.Ternary t has e = has.has_key

-- ---- a change that can be made

module _ (p : Program) (program : IsProgram p) where
  abbrev AllBelow : Installed → Type 0
  AllBelow s = All (λ (e : Entry). e.number < s.next) (all_entries s.lists)

  abbrev StaysOrIsNew : Installed → Entry → Type 0
  StaysOrIsNew s e = Contains (all_entries s.lists) e ⊎ (s.next ≤ e.number)

  in_list : (s : Installed) (P : Entry → Type 0) (n : ℕ) → All P (all_entries s.lists) → All P (list_of s.lists n)
  in_list s P n all = by (slice_get s.lists n) refl
    where
      by : (o : Option (List Entry)) → slice_get s.lists n ≡ o → All P (unwrap_or o [])
      by None at = All-nil P
      by (Some es) at = All-contains (All P) s.lists es (All-parts P (λ (xs : List Entry). xs) s.lists all) (Contains-item s.lists n es at)

  all_stand : (s : Installed) → All (StaysOrIsNew s) (all_entries s.lists)
  all_stand s = All-weaker (Contains (all_entries s.lists)) (StaysOrIsNew s) (λ e there. inl there) (all_entries s.lists) (All-contains_itself (all_entries s.lists))

  change_follows : (s : Installed) (change : Change) → AreEntries p s.lists → AllBelow s → CanBeMade p s change → FollowOn p s (changed s change)
  change_follows s (Adds e) entries below can =
      let t = some_and (table_at p e.table) (λ (x : Table). CanBeAdded (terms_of p x) (list_of s.lists e.table) e) can in
      let node = then_some (λ (x : Node). applied p x.what) (slice_get p.nodes e.table) t.0 t.1 in
      let table = its_table p node.0.what t.0 node.2 program.tables in
      let long : length (terms_of p t.0).widths ≡ length t.0.key = length-map t.0.key _ in
      let some : t.0.kind ≡ kind.Prefix → 1 ≤ length (terms_of p t.0).widths =
      λ is. (let key = prefix_width p t.0.kind t.0 table.key is in omega (arith, key, long)) in
      let es = list_of s.lists e.table in
      let own = numbered e s.next in
      let new = es ++ own ∷ [] in
      let IsOld : List Entry → Entry → Type 0 = λ old x. Contains old x ⊎ (x.number ≡ s.next) in
      record {
        next = omega arith;
        each = all_set p s entries below e.table new (StaysOrIsNew s) (all_stand s)
            (All-append (StaysOrIsNew s) es (own ∷ []) (in_list s (StaysOrIsNew s) e.table (all_stand s)) (All-cons (StaysOrIsNew s) own [] (inr (omega arith)) (All-nil (StaysOrIsNew s))));
        below = all_set p s entries below e.table new (λ (x : Entry). x.number < s.next + 1) (All-weaker (λ (x : Entry). x.number < s.next) (λ (x : Entry). x.number < s.next + 1) (λ x lt. omega (arith, lt)) (all_entries s.lists) below)
            (All-append (λ (x : Entry). x.number < s.next + 1) es (own ∷ [])
            (All-weaker (λ (x : Entry). x.number < s.next) (λ (x : Entry). x.number < s.next + 1) (λ x lt. omega (arith, lt)) es (in_list s (λ (x : Entry). x.number < s.next) e.table below))
            (All-cons (λ (x : Entry). x.number < s.next + 1) own [] (omega arith) (All-nil (λ (x : Entry). x.number < s.next + 1))));
        entries = are_entries p s entries below e.table new
            (λ old at. subst (λ xs. All (IsOld old) (xs ++ own ∷ [])) (sym (list_is s.lists e.table old at))
            (All-append (IsOld old) old (own ∷ []) (All-weaker (Contains old) (IsOld old) (λ x there. inl there) old (All-contains_itself old)) (All-cons (IsOld old) own [] (inr refl) (All-nil (IsOld old)))))
            (λ old o terms at are.
            let same : old ≡ es = sym (list_is s.lists e.table old at) in
            let is : o ≡ Some (terms_of p t.0) = same_Some o (Some (terms_of p t.0)) (sym terms ∙ terms_there p e.table t.0 t.1) in
            subst (AreEntriesAt e.table new) (sym is)
            (table_added has_once refl refl e.table (terms_of p t.0) es e s.next some (subst (λ xs. AreEntriesAt e.table xs (Some (terms_of p t.0))) same (subst (AreEntriesAt e.table old) is are)) t.2.is_entry t.2.is_new t.2.has_room
            (in_list s (λ (x : Entry). x.number < s.next) e.table below)));
      }
  change_follows s (Removes node key) entries below can =
      let new = without key (list_of s.lists node) in
      let IsOld : List Entry → Entry → Type 0 = λ old x. Contains old x ⊎ (x.number ≡ s.next) in
      record {
        next = omega arith;
        each = all_set p s entries below node new (StaysOrIsNew s) (all_stand s) (all_without (StaysOrIsNew s) key (list_of s.lists node) (in_list s (StaysOrIsNew s) node (all_stand s)));
        below = all_set p s entries below node new (λ (x : Entry). x.number < s.next) below (all_without (λ (x : Entry). x.number < s.next) key (list_of s.lists node) (in_list s (λ (x : Entry). x.number < s.next) node below));
        entries = are_entries p s entries below node new
            (λ old at. subst (λ xs. All (IsOld old) (without key xs)) (sym (list_is s.lists node old at))
            (all_without (IsOld old) key old (All-weaker (Contains old) (IsOld old) (λ x there. inl there) old (All-contains_itself old))))
            (λ old o terms at are. subst (λ xs. AreEntriesAt node (without key xs) o) (sym (list_is s.lists node old at)) (entries_without node key old o are));
      }

  follow_itself : (s : Installed) → AreEntries p s.lists → AllBelow s → FollowOn p s s
  follow_itself s entries below = record { next = omega arith; each = all_stand s; below = below; entries = entries }

  stays_on : (a b : Installed) → FollowOn p a b → (e : Entry) → StaysOrIsNew b e → StaysOrIsNew a e
  stays_on a b ab e (inl there) = All-contains (StaysOrIsNew a) (all_entries b.lists) e ab.each there
  stays_on a b ab e (inr new) = inr (omega (arith, ab.next, new))

  follow_on : (a b d : Installed) → FollowOn p a b → FollowOn p b d → FollowOn p a d
  follow_on a b d ab bd =
      record {
        next = omega (arith, ab.next, bd.next);
        each = All-weaker (StaysOrIsNew b) (StaysOrIsNew a) (stays_on a b ab) (all_entries d.lists) bd.each;
        below = bd.below;
        entries = bd.entries;
      }

  -- what a commit of fit changes leaves
  pub commit_follows : (s : Installed) (changes : List Change) → AreEntries p s.lists → AllBelow s → AreFitChanges p s changes → FollowOn p s (committed s changes)
  commit_follows s [] entries below fit = follow_itself s entries below
  commit_follows s (change ∷ changes) entries below fit =
      let one = change_follows s change entries below fit.0 in
      follow_on s (changed s change) (committed (changed s change) changes) one (commit_follows (changed s change) changes one.entries one.below fit.1)

  -- entries of one number are one, where some follow on others
  pub one_of_both : (s : Installed) (e f : Entry) → AreEntries p s.lists → AllBelow s → Contains (all_entries s.lists) e → StaysOrIsNew s f → e.number ≡ f.number → e ≡ f
  one_of_both s e f entries below there (inl too) same = one_entry p s.lists e f entries there too same
  one_of_both s e f entries below there (inr new) same = absurd (let lt = All-contains (λ (x : Entry). x.number < s.next) (all_entries s.lists) e below there in omega (arith, lt, new, same))

  pub keep_entries : (s : Installed) (changes : List Change) → AreEntries p s.lists → AllBelow s → AreFitChanges p s changes → KeepEntries s.lists (committed s changes).lists
  keep_entries s changes entries below fit =
      All-weaker (StaysOrIsNew s) (λ e. is_numbered_in (all_entries s.lists) e ≡ true → Contains (all_entries s.lists) e)
      (λ e h stood. elim h [
        | inl there ↦ there
        | inr new ↦
            let o = any_item (λ (x : Entry). x.number == e.number) (all_entries s.lists) stood in
            absurd (let lt = All-contains (λ (x : Entry). x.number < s.next) (all_entries s.lists) o.0 below o.1 in let same = eqb-true o.0.number e.number o.2 in omega (arith, lt, new, same))
      ])
      (all_entries (committed s changes).lists) (commit_follows s changes entries below fit).each

  -- ---- all entries of a run

  -- the entries at a later time are well formed, and stood before or are new
  later_entries : (s : Installed) (events : List Event) → AreEntries p s.lists → AllBelow s → AreFit p s events
      → (ls : List (List Entry)) → Contains (lists_from s events) ls → AreEntries p ls × All (StaysOrIsNew s) (all_entries ls)
  later_entries s [] entries below fit ls there = elim (Contains-split s.lists [] ls there) [
    | inl same ↦ subst (λ (xs : List (List Entry)). AreEntries p xs × All (StaysOrIsNew s) (all_entries xs)) same (entries, all_stand s)
    | inr later ↦ absurd (let lt = later.1 in omega (arith, lt))
  ]
  later_entries s ((Arrives packet) ∷ events) entries below fit ls there = later_entries s events entries below fit.1 ls there
  later_entries s ((Commits changes) ∷ events) entries below fit ls there =
      let one = commit_follows s changes entries below fit.0 in
      let next = committed s changes in
      elim (Contains-split s.lists (lists_from next events) ls there) [
        | inl same ↦ subst (λ (xs : List (List Entry)). AreEntries p xs × All (StaysOrIsNew s) (all_entries xs)) same (entries, all_stand s)
        | inr later ↦
            let rest = later_entries next events one.entries one.below fit.1 ls later in
            (rest.0, All-weaker (StaysOrIsNew next) (StaysOrIsNew s) (stays_on s next one) (all_entries ls) rest.1)
      ]

  pub entries_ever : (s : Installed) (events : List Event) → AreEntries p s.lists → AllBelow s → AreFit p s events → (ls : List (List Entry)) → Contains (lists_from s events) ls → AreEntries p ls
  entries_ever s events entries below fit ls there = (later_entries s events entries below fit ls there).0

  -- entries of one number are one, whenever they stand
  pub one_ever : (s : Installed) (events : List Event) → AreEntries p s.lists → AllBelow s → AreFit p s events
      → (ls ms : List (List Entry)) → Contains (lists_from s events) ls → Contains (lists_from s events) ms → (e f : Entry) → Contains (all_entries ls) e → Contains (all_entries ms) f → e.number ≡ f.number → e ≡ f
  one_ever s [] entries below fit ls ms in_ls in_ms e f there too same =
      one_entry p s.lists e f entries (only ls e in_ls there) (only ms f in_ms too) same
    where
      only : (xs : List (List Entry)) (x : Entry) → Contains (s.lists ∷ []) xs → Contains (all_entries xs) x → Contains (all_entries s.lists) x
      only xs x at own = elim (Contains-split s.lists [] xs at) [
        | inl is ↦ subst (λ (ys : List (List Entry)). Contains (all_entries ys) x) (sym is) own
        | inr later ↦ absurd (let lt = later.1 in omega (arith, lt))
      ]
  one_ever s ((Arrives packet) ∷ events) entries below fit ls ms in_ls in_ms e f there too same = one_ever s events entries below fit.1 ls ms in_ls in_ms e f there too same
  one_ever s ((Commits changes) ∷ events) entries below fit ls ms in_ls in_ms e f there too same =
      let one = commit_follows s changes entries below fit.0 in
      let next = committed s changes in
      elim (Contains-split s.lists (lists_from next events) ls in_ls) [
        | inl is ↦
            one_of_both s e f entries below (subst (λ (ys : List (List Entry)). Contains (all_entries ys) e) (sym is) there)
            (All-contains (StaysOrIsNew s) (all_entries ms) f (later_entries s ((Commits changes) ∷ events) entries below fit ms in_ms).1 too) same
        | inr later ↦ elim (Contains-split s.lists (lists_from next events) ms in_ms) [
          | inl is ↦
              sym (one_of_both s f e entries below (subst (λ (ys : List (List Entry)). Contains (all_entries ys) f) (sym is) too)
              (All-contains (StaysOrIsNew s) (all_entries ls) e (later_entries s ((Commits changes) ∷ events) entries below fit ls in_ls).1 there) (sym same))
          | inr last ↦ one_ever next events one.entries one.below fit.1 ls ms later last e f there too same
        ]
      ]

-- the entries of a time are among those from then on
pub stand_first : (s : Installed) (events : List Event) → Contains (lists_from s events) s.lists
stand_first s [] = Contains-first s.lists []
stand_first s ((Arrives packet) ∷ events) = stand_first s events
stand_first s ((Commits changes) ∷ events) = Contains-first s.lists (lists_from (committed s changes) events)

-- ---- before the first change

-- the first next number is above those of all entries
pub first_below : (lists : List (List Entry)) → All (λ (e : Entry). e.number < next_number lists) (all_entries lists)
first_below lists =
    All-unmap (λ n. n < next_number lists) (λ (e : Entry). e.number) (all_entries lists)
    (subst (All (λ n. n < next_number lists)) (all_numbers lists) (fold_max (flat_map entry_numbers lists) 0).1)
