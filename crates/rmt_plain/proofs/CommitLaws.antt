-- What a commit makes of the counters.
use Rattle.std.proofs.Common.{◌≡◌, ℕ, zero, suc, inl, inr, Bool, true, false, cond, List, [], ◌∷◌, Option, Some, None, refl, sym, ap, subst, ◌∙◌, arith}
use Rattle.std.specs.Prelude.{All, Contains, IsSomeAnd, map, slice_get}
use Rattle.std.specs.List.{flat_map}
use Rattle.std.proofs.lemmas.List.Elements.{All-contains, All-contains_itself, All-weaker, Contains-append_cases, Contains-append_left, Contains-append_right}
use Rattle.std.proofs.lemmas.Option.{none-some, same_Some}
use Rattle.rmt_bits.specs.Counts.{Hit}
use Rattle.rmt_bits.proofs.MemberLaws.{Contains-flat_map, Contains-item, Contains-map, Contains-unmap, flat_from, from_flat_map}
use Rattle.rmt_ast.specs.declared.program.Node.{Node}
use Rattle.rmt_ast.specs.declared.program.Program.{Program}
use Rattle.rmt_ast.specs.declared.entry.Entry.{Entry}
use Rattle.rmt_ast.specs.Answers.{counted_numbers, entry_numbers, hits_of, is_counted}
use Rattle.rmt_ast.specs.EntryLists.{AreEntries, AreEntriesAt, IsEntry, Terms, terms_at}
use Rattle.rmt_ast.specs.Events.{Met}
use Rattle.rmt_plain.specs.Counters.{IsThereIfHit}
use Rattle.rmt_plain.specs.Stands.{FollowOn, StaysOrIsNew, entries_in, numbers_in}
use Rattle.rmt_plain.proofs.HitLaws.{hits_are_numbers}

-- the table of an entry is that of the node in whose list it stands
table_of : (n : ℕ) (es : List Entry) (o : Option (Option Terms)) (e : Entry) → IsSomeAnd o (AreEntriesAt n es) → Contains es e → e.table ≡ n
table_of n es None e h there = absurd h
table_of n es (Some None) e h there = absurd (let lt = (subst (λ (xs : List Entry). Contains xs e) h there).1 in omega (arith, lt))
table_of n es (Some (Some t)) e h there = (All-contains (IsEntry n t) es e h.each there).table

table_is : (p : Program) (lists : List (List Entry)) (n : ℕ) (es : List Entry) (e : Entry) → AreEntries p lists → slice_get lists n ≡ Some es → Contains es e → e.table ≡ n
table_is p lists n es e good at there = table_of n es (slice_get (map (λ (node : Node). terms_at p node.what) p.nodes) n) e (good.each n es at) there

-- the entry of a counted table that has a number
record IsCountedAt (p : Program) (nodes : List Node) (lists : List (List Entry)) (n : ℕ) : Type 0 where
  place : ℕ
  node : Node
  es : List Entry
  entry : Entry
  node_at : slice_get nodes place ≡ Some node
  list_at : slice_get lists place ≡ Some es
  counted : is_counted p node.what ≡ true
  among : Contains es entry
  number_is : entry.number ≡ n

module _ (p : Program) where
  here : (node : Node) (nodes : List Node) (es : List Entry) (lists : List (List Entry)) (n : ℕ) (b : Bool) → is_counted p node.what ≡ b → Contains (cond b (entry_numbers es) []) n
      → IsCountedAt p (node ∷ nodes) (es ∷ lists) n
  here node nodes es lists n true counted there =
      let from = Contains-unmap (λ (e : Entry). e.number) es n there in
      record { place = 0; node = node; es = es; entry = from.0; node_at = refl; list_at = refl; counted = counted; among = from.1; number_is = from.2 }
  here node nodes es lists n false counted there = absurd (let lt = there.1 in omega (arith, lt))

  counted_at : (nodes : List Node) (lists : List (List Entry)) (n : ℕ) → Contains (counted_numbers p nodes lists) n → IsCountedAt p nodes lists n
  counted_at [] lists n there = absurd (let lt = there.1 in omega (arith, lt))
  counted_at (node ∷ nodes) [] n there = absurd (let lt = there.1 in omega (arith, lt))
  counted_at (node ∷ nodes) (es ∷ lists) n there =
      elim (Contains-append_cases (cond (is_counted p node.what) (entry_numbers es) []) (counted_numbers p nodes lists) n there) [
        | inl first ↦ here node nodes es lists n (is_counted p node.what) refl first
        | inr later ↦ let at = counted_at nodes lists n later in
            record { place = suc at.place; node = at.node; es = at.es; entry = at.entry; node_at = at.node_at; list_at = at.list_at; counted = at.counted; among = at.among; number_is = at.number_is }
      ]

  -- and such an entry's number is one of a counted table
  counted_there : (nodes : List Node) (lists : List (List Entry)) (i : ℕ) (node : Node) (es : List Entry) (e : Entry) → slice_get nodes i ≡ Some node → slice_get lists i ≡ Some es
      → is_counted p node.what ≡ true → Contains es e → Contains (counted_numbers p nodes lists) e.number
  counted_there [] lists i node es e at listed counted there = absurd (none-some node at)
  counted_there (x ∷ nodes) [] i node es e at listed counted there = absurd (none-some es listed)
  counted_there (x ∷ nodes) (ys ∷ lists) zero node es e at listed counted there =
      let own : is_counted p x.what ≡ true = ap (λ (y : Node). is_counted p y.what) (same_Some x node at) ∙ counted in
      let in_ys : Contains ys e = subst (λ (xs : List Entry). Contains xs e) (sym (same_Some ys es listed)) there in
      Contains-append_left (cond (is_counted p x.what) (entry_numbers ys) []) (counted_numbers p nodes lists) e.number
      (subst (λ b. Contains (cond b (entry_numbers ys) []) e.number) (sym own) (Contains-map (λ (y : Entry). y.number) ys e in_ys))
  counted_there (x ∷ nodes) (ys ∷ lists) (suc i) node es e at listed counted there =
      Contains-append_right (cond (is_counted p x.what) (entry_numbers ys) []) (counted_numbers p nodes lists) e.number (counted_there nodes lists i node es e at listed counted there)

  module _ (so_far : List (List (List Entry))) (lists next : List (List Entry)) (met : List Met) (now : AreEntries p lists) (later : AreEntries p next)
      (stand_now : Contains so_far lists) (stood : All (λ (m : Met). Contains so_far m.lists) met) (follow : FollowOn so_far lists next) where
    abbrev pub counted_so_far : List ℕ
    counted_so_far = flat_map (counted_numbers p p.nodes) so_far

    abbrev pub hits_so_far : List Hit
    hits_so_far = flat_map (λ (m : Met). hits_of p m.lists m.packet) met

    -- a number that was hit is one of an entry so far
    hit_stood : (h : Hit) → Contains hits_so_far h → Contains (flat_map numbers_in so_far) h.number
    hit_stood h there =
        let from = from_flat_map (λ (m : Met). hits_of p m.lists m.packet) met h there in
        let m = from.0 in
        Contains-flat_map numbers_in so_far m.lists h.number (All-contains (λ (x : Met). Contains so_far x.lists) met m stood from.1) (hits_are_numbers p m.lists m.packet h from.2)

    -- the number of an entry of a counted table that stands now is among those so far
    still_counted : (n : ℕ) (at : IsCountedAt p p.nodes next n) → Contains (entries_in lists) at.entry → Contains counted_so_far n
    still_counted n at there =
        let from = flat_from (λ (es : List Entry). es) lists at.entry there in
        let same : from.0 ≡ at.place = sym (table_is p lists from.0 from.1 at.entry now from.2 from.3) ∙ table_is p next at.place at.es at.entry later at.list_at at.among in
        let listed : slice_get lists at.place ≡ Some from.1 = subst (λ i. slice_get lists i ≡ Some from.1) same from.2 in
        Contains-flat_map (counted_numbers p p.nodes) so_far lists n stand_now
        (subst (Contains (counted_numbers p p.nodes lists)) at.number_is (counted_there p.nodes lists at.place at.node from.1 at.entry at.node_at listed at.counted from.3))

    there_if_hit : (n : ℕ) → Contains (counted_numbers p p.nodes next) n → IsThereIfHit counted_so_far hits_so_far n
    there_if_hit n there =
        let at = counted_at p.nodes next n there in
        let own = Contains-flat_map (λ (es : List Entry). es) next at.es at.entry (Contains-item next at.place at.es at.list_at) at.among in
        All-weaker (Contains hits_so_far) (λ (h : Hit). h.number ≡ n → Contains counted_so_far n)
        (λ h hit e. elim (All-contains (StaysOrIsNew so_far lists) (entries_in next) at.entry follow own) [
          | inl stands ↦ still_counted n at stands
          | inr new ↦ absurd (new (subst (Contains (flat_map numbers_in so_far)) (e ∙ sym at.number_is) (hit_stood h hit)))
        ])
        hits_so_far (All-contains_itself hits_so_far)

    pub all_there_if_hit : All (IsThereIfHit counted_so_far hits_so_far) (counted_numbers p p.nodes next)
    all_there_if_hit = All-weaker (Contains (counted_numbers p p.nodes next)) (IsThereIfHit counted_so_far hits_so_far) there_if_hit (counted_numbers p p.nodes next) (All-contains_itself (counted_numbers p p.nodes next))
