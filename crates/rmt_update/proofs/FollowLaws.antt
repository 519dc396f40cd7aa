-- What follows on a commit: numbers stay below the next one, and changes of lists are changes that a book takes.
use Rattle.std.proofs.Common.{◌≡◌, ◌≢◌, ◌⊎◌, ℕ, ◌+◌, ◌<◌, ◌≤◌, ◌==◌, ◌&&◌, ◌||◌, Bool, true, false, not, cond, leb, max, List, [], ◌∷◌, ◌++◌, length, map, Option, Some, None, option_map, unwrap_or, Result, Ok, Err, refl, sym, ap, subst, ◌∙◌, inl, inr, arith}
use Rattle.std.specs.Prelude.{All, Contains, IsSomeAnd, IsTrue, drop, filter, find, fold, option_and_then, slice_get}
use Rattle.std.specs.List.{filter_map, flat_map, list_all, list_any, range_with_len}
use Rattle.std.proofs.lemmas.Bool.{and_parts, cases_lt, eq-eqb, eqb-true, false≢true, leb-false}
use Rattle.std.proofs.lemmas.List.{length-set}
use Rattle.std.proofs.lemmas.List.Elements.{All-append, All-cons, All-contains, All-contains_itself, All-filter, All-head, All-nil, All-tail, All-weaker, Contains-append_right}
use Rattle.std.proofs.lemmas.Option.{none-some, same_Some}
use Rattle.rmt_bits.proofs.AllLaws.{All-find, All-from_test, All-unmap}
use Rattle.rmt_bits.proofs.FindLaws.{find-some}
use Rattle.rmt_bits.proofs.ListLaws.{find-passes}
use Rattle.rmt_bits.proofs.MemberLaws.{Contains-filter, Contains-flat_map, Contains-item, Contains-map, any_item}
use Rattle.rmt_bits.proofs.OptionLaws.{same_Ok}
use Rattle.rmt_bits.proofs.PairLaws.{AllPairs-none}
use Rattle.rmt_bits.specs.Members.{is_among}
use Rattle.rmt_ast.specs.declared.entry.Entry.{Entry}
use Rattle.rmt_ast.specs.declared.names.Names.{Names}
use Rattle.rmt_ast.specs.declared.names.TableName.{TableName}
use Rattle.rmt_ast.specs.Answers.{entry_numbers}
use Rattle.rmt_ast.specs.Changes.{Adds, Change, Installed, Removes, at_first, changed, committed, list_of, without, key_of_entry, is_held}
use Rattle.rmt_ast.specs.EntryLists.{AreEntriesAt, IsEntry, Terms}
use Rattle.rmt_ast.specs.NameRules.{AreEntriesOf, names_are_formed, terms_named}
use Rattle.rmt_ast.proofs.EntryLaws.{all_without, next_changed}
use Rattle.rmt_entries.specs.declared.named.EntryName.{EntryName}
use Rattle.rmt_entries.specs.Entries.{has_keys_once}
use Rattle.rmt_entries.specs.NamedLines.{IsNamedEntry, named_entry, named_key}
use Rattle.rmt_entries.proofs.NamedLaws.{named_entry_law}
use Rattle.rmt_pack.proofs.FindLaws.{Contains-range}
use Rattle.rmt_pack.proofs.PartLaws.{and_at}
use Rattle.rmt_config.proofs.LayoutLaws.{memory_formed}
use Rattle.rmt_config.specs.declared.config.Config.{Config}
use Rattle.rmt_config.specs.declared.config.SlotUnit.{SlotUnit}
use Rattle.rmt_config.specs.declared.config.Stage.{Stage}
use Rattle.rmt_config.specs.declared.config.Unit.TheVariants.{Slot}
use Rattle.rmt_config.specs.Cells.{Content, cells_in, is_occupied, visible_bits}
use Rattle.rmt_config.specs.Commits.{IsCell, Makes, Placed, all_entries, come, filled_content, is_numbered_in, leaving_content, moves, placed_after, placed_at, placed_now, settled_content, settled_number, stay, stays, with_coming, without_bit}
use Rattle.rmt_config.specs.Form.{Formed}
use Rattle.rmt_config.specs.NamesForm.{by_number, entries_by_cell, entries_of_node, entries_spelled, entry_in, is_named, node_count_of}
use Rattle.rmt_config.specs.Rooms.{PartAt, Room, is_at, parts_of}
use Rattle.rmt_config.specs.RunCells.{RunCells, as_slot, emptied, no_content, own_cells, slot_at, with_version}
use Rattle.rmt_config.specs.TableForm.{Placed as PlacedUnit, node_of, placed_units}
use Rattle.rmt_config.proofs.MemoryLaws.{has_cells}
use Rattle.rmt_lists.specs.declared.lists.Changes.{Changes}
use Rattle.rmt_update.specs.BookStands.{IsUsed}
use Rattle.rmt_update.specs.Following.{AreBelow, IsNextAbove}
use Rattle.rmt_update.specs.Planned.{MayChange, changed_lists}
use Rattle.rmt_lists.specs.Running.{AreChanges, Running, added_to, begins, key_of_name, line_change, refusal_of, unless, with_entry, with_one, without_key, without_one}
use Rattle.rmt_update.proofs.AfterLaws.{changed-length, changed-list}
use Rattle.rmt_update.proofs.BookLaws.{names-fit}
use Rattle.rmt_update.proofs.ByNumberLaws.{by_number-rising, to-by_number}
use Rattle.rmt_update.proofs.CellsFound.{part-there, units-there}
use Rattle.rmt_update.proofs.ComesLaws.{none-comes, room_for}
use Rattle.rmt_update.proofs.EntriesKept.{entries_added, entries_removed, numbers_set}
use Rattle.rmt_lists.proofs.FilterLaws.{Rise, list_of-past, numbers_of}
use Rattle.rmt_lists.proofs.NewLaws.{below_next}
use Rattle.rmt_update.proofs.OncePlaced.{all-numbers}
use Rattle.rmt_update.proofs.OwnNumbers.{standing, used}
use Rattle.rmt_lists.proofs.SettleLaws.{lists_same}
use Rattle.rmt_update.proofs.StayLaws.{from-filter_map}
use Rattle.rmt_update.proofs.TableRules.{entries-at}

-- ---- numbers of entries

-- what holds of all numbers and of those that are still to come holds of all numbers behind a change
number_changed : (P : ℕ → Type 0) (s : Installed) (change : Change) → All P (flat_map entry_numbers s.lists) → P s.next → All P (flat_map entry_numbers (changed s change).lists)
number_changed P s (Adds e) all next =
    let es = list_of s.lists e.table in
    let own : Entry = record e { number = s.next } in
    numbers_set P s.lists e.table (es ++ own ∷ []) all
    (All-append (λ (x : Entry). P x.number) es (own ∷ []) (numbers_of P s.lists e.table all) (All-cons (λ (x : Entry). P x.number) own [] next (All-nil (λ (x : Entry). P x.number))))
number_changed P s (Removes node key) all next =
    numbers_set P s.lists node (without key (list_of s.lists node)) all (all_without (λ (x : Entry). P x.number) key (list_of s.lists node) (numbers_of P s.lists node all))

-- and behind all changes of a commit
numbers_committed : (P : ℕ → Type 0) (s : Installed) (changes : List Change) → All P (flat_map entry_numbers s.lists) → ((n : ℕ) → s.next ≤ n → P n) → All P (flat_map entry_numbers (committed s changes).lists)
numbers_committed P s [] all later = all
numbers_committed P s (change ∷ changes) all later =
    let le = next_changed s change in
    numbers_committed P (changed s change) changes (number_changed P s change all (later s.next (omega arith))) (λ n more. later n (omega (arith, le, more)))

above_changed : (s : Installed) (change : Change) → IsNextAbove s → IsNextAbove (changed s change)
above_changed s (Adds e) above =
    number_changed (λ n. n < s.next + 1) s (Adds e) (All-weaker (λ n. n < s.next) (λ n. n < s.next + 1) (λ n lt. omega (arith, lt)) (flat_map entry_numbers s.lists) above) (omega arith)
above_changed s (Removes node key) above =
    numbers_set (λ n. n < s.next) s.lists node (without key (list_of s.lists node)) above
    (all_without (λ (x : Entry). x.number < s.next) key (list_of s.lists node) (numbers_of (λ n. n < s.next) s.lists node above))

-- the numbers of entries stay below the next one, which only rises
pub numbers_kept : (s : Installed) (changes : List Change) → IsNextAbove s → IsNextAbove (committed s changes) × (s.next ≤ (committed s changes).next)
numbers_kept s [] above = (above, omega arith)
numbers_kept s (change ∷ changes) above =
    let le = next_changed s change in
    let rest = numbers_kept (changed s change) changes (above_changed s change above) in
    (rest.0, let more = rest.1 in omega (arith, le, more))

pub first_above : (lists : List (List Entry)) → IsNextAbove (at_first lists)
first_above lists = below_next 0 (flat_map entry_numbers lists)

-- ---- the cells in which a run begins

-- each is below a count that is greater than each
below_fold : {X : Type 0} (f : X → ℕ) (xs : List X) (z : ℕ) → (z ≤ fold (λ n x. max n (f x + 1)) z xs) × All (λ x. f x < fold (λ n y. max n (f y + 1)) z xs) xs
below_fold f [] z = (omega arith, All-nil (λ x. f x < z))
below_fold f (x ∷ xs) z =
    let rest = below_fold f xs (max z (f x + 1)) in
    let le = rest.0 in
    (omega (arith, le), All-cons (λ y. f y < fold (λ n y. max n (f y + 1)) (max z (f x + 1)) xs) x xs (omega (arith, le)) rest.1)

module _ (c : Config) (names : Names) (formed : Formed c) (named : c.names ≡ Some names) where
  all_named : list_all (λ (u : PlacedUnit). is_named names u.unit) (placed_units c) ≡ true
  all_named =
      let fit = names-fit c names formed named in
      let made = and_parts _ _ (and_parts _ _ fit).0 in
      let those = and_parts _ _ made.0 in
      (and_parts _ _ those.1).1

  -- a slot with cells is of a table with names, among the entries that are spelled
  unit_there : (k place : ℕ) (slot : SlotUnit) → slot_at c k place ≡ Some slot → Contains (placed_units c) (record { stage = 0 + k; unit = Slot slot })
  unit_there k place slot at =
      let st = standing c k place slot at in units-there c.stages 0 k st.stage (Slot slot) st.in_stages (Contains-item st.stage.units place (Slot slot) st.in_units)

  its_table : (k place n : ℕ) (slot : SlotUnit) → slot_at c k place ≡ Some slot → n < cells_in slot.memory → (t : TableName) × (find (λ (x : TableName). x.node == slot.node) names.tables ≡ Some t)
  its_table k place n slot at lt =
      let is : is_named names (Slot slot) ≡ true =
      All-contains (λ (x : PlacedUnit). is_named names x.unit ≡ true) (placed_units c) (record { stage = 0 + k; unit = Slot slot })
      (All-from_test (λ (x : PlacedUnit). is_named names x.unit ≡ true) (λ (x : PlacedUnit). is_named names x.unit) (λ x e. e) (placed_units c) all_named) (unit_there k place slot at) in
      let any = any_item (λ (x : TableName). x.node == slot.node) names.tables (sym (ap (λ h. not h || list_any (λ (x : TableName). x.node == slot.node) names.tables) (has_cells slot.memory n lt)) ∙ is) in
      find-some (λ (x : TableName). x.node == slot.node) names.tables any.0 any.1 any.2

  node_below : (k place : ℕ) (slot : SlotUnit) → slot_at c k place ≡ Some slot → slot.node < node_count_of c
  node_below k place slot at =
      All-contains (λ (x : PlacedUnit). node_of x.unit < node_count_of c) (placed_units c) (record { stage = 0 + k; unit = Slot slot })
      (below_fold (λ (x : PlacedUnit). node_of x.unit) (placed_units c) 0).1 (unit_there k place slot at)

  -- the numbers of the cells of a configuration are below that of the first entry that is added
  pub own_below : AreBelow c (own_cells c) (at_first (entries_spelled c names)).next
  own_below k place n at =
      let u = used c k place n (memory_formed c formed) at in
      let slot_is : slot_at c k place ≡ Some u.slot =
      ap (option_and_then (λ (x : Stage). option_and_then as_slot (slice_get x.units place))) u.stands.in_stages ∙ ap (option_and_then as_slot) u.stands.in_units in
      let lt = and_at (slot_at c k place) (λ (s : SlotUnit). n < cells_in s.memory) u.slot slot_is at.0 in
      let t = its_table k place n u.slot slot_is lt in
      let node : t.0.node ≡ u.slot.node = eqb-true t.0.node u.slot.node (find-passes (λ (x : TableName). x.node == u.slot.node) names.tables t.0 t.1) in
      let part = part-there c k place u.slot slot_is in
      let e = entry_in c t.0 part.part u.item in
      let listed : Contains part.part.slot.numbers u.item = subst (λ (s : SlotUnit). Contains s.numbers u.item) (sym part.slot_is) u.listed in
      let in_table : Contains (entries_by_cell c t.0) e =
      Contains-flat_map (λ (p : PartAt). map (entry_in c t.0 p) p.slot.numbers) (parts_of c t.0.node) part.part e
      (subst (λ m. Contains (parts_of c m) part.part) (sym node) part.there) (Contains-map (entry_in c t.0 part.part) part.part.slot.numbers u.item listed) in
      let in_node : Contains (entries_of_node c names u.slot.node) e =
      subst (λ (es : List Entry). Contains es e) (sym (ap (λ (o : Option TableName). unwrap_or (option_map (λ (x : TableName). by_number (entries_by_cell c x)) o) []) t.1)) (to-by_number (entries_by_cell c t.0) e in_table) in
      let in_all : Contains (entries_spelled c names) (entries_of_node c names u.slot.node) =
      Contains-map (entries_of_node c names) (range_with_len 0 (node_count_of c)) u.slot.node (Contains-range (node_count_of c) u.slot.node (node_below k place u.slot slot_is)) in
      let number : Contains (flat_map entry_numbers (entries_spelled c names)) u.item.number =
      Contains-flat_map entry_numbers (entries_spelled c names) (entries_of_node c names u.slot.node) u.item.number in_all (Contains-map (λ (x : Entry). x.number) (entries_of_node c names u.slot.node) e in_node) in
      subst (λ m. m < (at_first (entries_spelled c names)).next) (sym u.number)
      (All-contains (λ m. m < (at_first (entries_spelled c names)).next) (flat_map entry_numbers (entries_spelled c names)) u.item.number (first_above (entries_spelled c names)) number)

-- ---- the cells behind a commit

module _ (c : Config) (names : Names) (cells : RunCells) where
  abbrev room_of : List Placed → Entry → Option Room
  room_of ps e = option_and_then (λ (t : Terms). room_for c names cells ps t e) (terms_named names e.table)

  -- what holds of the entries that have rooms and of those that come holds of all that are placed
  placed_from : (P : Entry → Type 0) (ps : List Placed) (es : List Entry) (qs : List Placed) → All (λ (q : Placed). P q.entry) ps → All P es → fold (with_coming c names cells) (Some ps) es ≡ Some qs → All (λ (q : Placed). P q.entry) qs
  placed_from P ps [] qs all own is = subst (λ (xs : List Placed). All (λ (q : Placed). P q.entry) xs) (same_Some ps qs is) all
  placed_from P ps (e ∷ es) qs all own is =
      by (room_of ps e)
      (λ room h.
      let one : Placed = record { entry = e; room = room } in
      placed_from P (ps ++ one ∷ []) es qs
      (All-append (λ (q : Placed). P q.entry) ps (one ∷ []) all (All-cons (λ (q : Placed). P q.entry) one [] (All-head P e es own) (All-nil (λ (q : Placed). P q.entry))))
      (All-tail P e es own) h) is
    where
      by : (o : Option Room) → ((room : Room) → fold (with_coming c names cells) (Some (ps ++ record { entry = e; room = room } ∷ [])) es ≡ Some qs → All (λ (q : Placed). P q.entry) qs)
          → fold (with_coming c names cells) (option_map (λ room. ps ++ record { entry = e; room = room } ∷ []) o) es ≡ Some qs → All (λ (q : Placed). P q.entry) qs
      by None rest h = absurd (none-some qs (sym (none-comes c names cells es) ∙ h))
      by (Some room) rest h = rest room h

  stay_placed : (P : Entry → Type 0) (es : List Entry) → All P es → All (λ (q : Placed). P q.entry) (filter_map (placed_now c names cells) es)
  stay_placed P es all =
      All-weaker (Contains (filter_map (placed_now c names cells) es)) (λ (q : Placed). P q.entry)
      (λ q there.
      let from = from-filter_map (placed_now c names cells) es q there in
      subst P (its_entry from.0 q from.2) (All-contains P es from.0 all from.1))
      (filter_map (placed_now c names cells) es) (All-contains_itself (filter_map (placed_now c names cells) es))
    where
      its_entry : (e : Entry) (q : Placed) → placed_now c names cells e ≡ Some q → e ≡ q.entry
      its_entry e q h = by _ h
        where
          by : (o : Option Room) → option_map (λ room. record { entry = e; room = room }) o ≡ Some q → e ≡ q.entry
          by None g = absurd (none-some q g)
          by (Some room) g = ap (λ (x : Placed). x.entry) (same_Some (record { entry = e; room = room }) q g)

  module _ (before after : List (List Entry)) (n m : ℕ) (below : AreBelow c cells n) (le : n ≤ m) (numbers : All (λ k. k < m) (flat_map entry_numbers after)) where
    entries_below : All (λ (e : Entry). e.number < m) (all_entries after)
    entries_below = All-unmap (λ k. k < m) (λ (e : Entry). e.number) (all_entries after) (subst (All (λ k. k < m)) (sym (all-numbers after)) numbers)

    placed_below : (placed : List Placed) → placed_after c names cells before after ≡ Some placed → All (λ (q : Placed). q.entry.number < m) placed
    placed_below placed is =
        placed_from (λ (e : Entry). e.number < m) (filter_map (placed_now c names cells) (stay before after)) (come before after) placed
        (stay_placed (λ (e : Entry). e.number < m) (stay before after) (All-filter (is_numbered_in (all_entries before)) (λ (e : Entry). e.number < m) (all_entries after) entries_below))
        (All-filter (λ e. not (is_numbered_in (all_entries before) e)) (λ (e : Entry). e.number < m) (all_entries after) entries_below) is

    module _ (k place i : ℕ) (cell : IsCell c k place i) where
      abbrev held : Content
      held = cells.content k place i

      -- a cell of no entry of the next version keeps its number where it stays occupied
      left_below : (b : Bool) → is_occupied held.head ≡ true → (slot : SlotUnit) → is_occupied (cond b (emptied slot) (record held { head = without_bit (cells.version + 1) held.head })).head ≡ true → cond b 0 (cells.number k place i) < m
      left_below true was slot h = absurd (false≢true h)
      left_below false was slot h = let lt = below k place i (cell, was) in omega (arith, lt, le)

      none_below : (b : Bool) → is_occupied held.head ≡ b
          → is_occupied (cond b (unwrap_or (option_map (λ slot. leaving_content (cells.version + 1) slot held) (slot_at c k place)) held) held).head ≡ true → settled_number cells None k place i < m
      none_below false was h = absurd (false≢true (sym was ∙ h))
      none_below true was h = by (slot_at c k place) cell h
        where
          by : (o : Option SlotUnit) → IsSomeAnd o (λ slot. i < cells_in slot.memory) → is_occupied (unwrap_or (option_map (λ slot. leaving_content (cells.version + 1) slot held) o) held).head ≡ true → settled_number cells None k place i < m
          by None lt g = absurd lt
          by (Some slot) lt g = left_below (visible_bits (without_bit (cells.version + 1) held.head) == 0) was slot g

      settled_below : (placed : List Placed) → All (λ (q : Placed). q.entry.number < m) placed → (o : Option Placed) → placed_at placed k place i ≡ o
          → is_occupied (settled_content c names cells before o k place i).head ≡ true → settled_number cells o k place i < m
      settled_below placed all (Some q) is h = All-find (λ (x : Placed). x.entry.number < m) (λ (x : Placed). is_at k place i x.room) placed q all is
      settled_below placed all None is h = none_below (is_occupied held.head) refl h

      filled_below : (placed : List Placed) → All (λ (q : Placed). q.entry.number < m) placed → (o : Option Placed) → placed_at placed k place i ≡ o
          → is_occupied (filled_content c names o k place).head ≡ true → unwrap_or (option_map (λ (q : Placed). q.entry.number) o) 0 < m
      filled_below placed all (Some q) is h = All-find (λ (x : Placed). x.entry.number < m) (λ (x : Placed). is_at k place i x.room) placed q all is
      filled_below placed all None is h = absurd (empty (slot_at c k place) h)
        where
          empty : (o : Option SlotUnit) → is_occupied (unwrap_or (option_map emptied o) no_content).head ≡ true → ⊥
          empty None g = false≢true g
          empty (Some slot) g = false≢true g

    made_below : (moved : Bool) (seed : ℕ) (next : RunCells) → Makes c names cells before after moved seed next → AreBelow c (with_version next seed) m
    made_below moved seed next (stays placed is) k place i at = settled_below k place i at.0 placed (placed_below placed is) (placed_at placed k place i) refl at.1
    made_below moved seed next (moves s placed none first are) k place i at =
        filled_below k place i at.0 placed
        (All-unmap (λ (e : Entry). e.number < m) (λ (q : Placed). q.entry) placed (subst (All (λ (e : Entry). e.number < m)) (sym are.each) entries_below)) (placed_at placed k place i) refl at.1

-- the numbers of used cells stay below one that is above those of all entries
pub turned_below : (c : Config) (names : Names) (cells : RunCells) (before after : List (List Entry)) (moved : Bool) (seed : ℕ) (next : RunCells) (n m : ℕ)
    → Makes c names cells before after moved seed next → AreBelow c cells n → n ≤ m → All (λ k. k < m) (flat_map entry_numbers after) → AreBelow c (with_version next seed) m
turned_below c names cells before after moved seed next n m makes below le numbers = made_below c names cells before after n m below le numbers moved seed next makes

-- ---- the lists of a commit

committed_length : (s : Installed) (changes : List Change) → length (committed s changes).lists ≡ length s.lists
committed_length s [] = refl
committed_length s (change ∷ changes) = committed_length (changed s change) changes ∙ one change
  where
    one : (x : Change) → length (changed s x).lists ≡ length s.lists
    one (Adds e) = length-set s.lists e.table (list_of s.lists e.table ++ record e { number = s.next } ∷ [])
    one (Removes node key) = length-set s.lists node (without key (list_of s.lists node))

-- the entries of a table of names rise
entries_rise : (names : Names) (lists : List (List Entry)) (n : ℕ) → AreEntriesOf names lists → n < length lists → Rise (list_of lists n)
entries_rise names lists n are lt = by (terms_named names n) (entries-at names lists n are lt)
  where
    by : (o : Option Terms) → AreEntriesAt n (list_of lists n) o → Rise (list_of lists n)
    by None none = subst Rise (sym none) (AllPairs-none (λ (a b : Entry). a.number < b.number))
    by (Some t) is = is.rising

module _ (names : Names) (s : Installed) (changes : List Change) (ch : Changes) (are : AreChanges s.lists (committed s changes).lists ch) where
  abbrev after : List (List Entry)
  after = (committed s changes).lists

  -- what the changes of a commit make of lists is what a book makes of them
  pub lists_are : AreEntriesOf names (committed s changes).lists → changed_lists s.lists ch ≡ (committed s changes).lists
  lists_are entries = lists_same (changed_lists s.lists ch) after (changed-length s.lists ch ∙ sym (committed_length s changes)) at
    where
      at : (n : ℕ) → list_of (changed_lists s.lists ch) n ≡ list_of after n
      at n = elim (cases_lt n (length s.lists)) [
        | inl lt ↦
            let long = committed_length s changes in
            changed-list s.lists ch n lt ∙ ap by_number (sym (are.left n)) ∙ by_number-rising (list_of after n) (entries_rise names after n entries (omega (arith, lt, long)))
        | inr ge ↦
            let long = committed_length s changes in
            let long2 = changed-length s.lists ch in
            list_of-past (changed_lists s.lists ch) n (omega (arith, ge, long2)) ∙ sym (list_of-past after n (omega (arith, ge, long)))
      ]

  -- an entry that comes is there afterwards
  come_there : (e : Entry) → Contains ch.come e → Contains (list_of after e.table) e
  come_there e there =
      let kept = filter (λ (x : Entry). not (is_among ch.gone x.number)) (list_of s.lists e.table) in
      let own = filter (λ (x : Entry). e.table == x.table) ch.come in
      subst (λ (es : List Entry). Contains es e) (sym (are.left e.table))
      (Contains-append_right kept own e (Contains-filter (λ (x : Entry). e.table == x.table) ch.come e there (eq-eqb e.table e.table refl)))

  come_within : (e : Entry) → Contains ch.come e → e.table < length s.lists
  come_within e there = elim (cases_lt e.table (length s.lists)) [
    | inl lt ↦ lt
    | inr ge ↦
        let long = committed_length s changes in
        let past = list_of-past after e.table (omega (arith, ge, long)) in
        let in_none = subst (λ (es : List Entry). Contains es e) past (come_there e there) in
        absurd (let lt = in_none.1 in omega (arith, lt))
  ]

  -- and has a new number
  come_next : (e : Entry) → Contains ch.come e → s.next ≤ e.number
  come_next e there =
      let all = numbers_committed (λ n. Contains (flat_map entry_numbers s.lists) n ⊎ (s.next ≤ n)) s changes
      (All-weaker (Contains (flat_map entry_numbers s.lists)) (λ n. Contains (flat_map entry_numbers s.lists) n ⊎ (s.next ≤ n)) (λ n stood. inl stood) (flat_map entry_numbers s.lists) (All-contains_itself (flat_map entry_numbers s.lists)))
      (λ n new. inr new) in
      elim (All-contains (λ (x : Entry). Contains (flat_map entry_numbers s.lists) x.number ⊎ (s.next ≤ x.number)) (list_of after e.table) e
      (numbers_of (λ n. Contains (flat_map entry_numbers s.lists) n ⊎ (s.next ≤ n)) after e.table all) (come_there e there)) [
        | inl stood ↦ absurd (let lt = All-contains (λ n. n < e.number) (flat_map entry_numbers s.lists) e.number (All-contains (λ (x : Entry). All (λ n. n < x.number) (flat_map entry_numbers s.lists)) ch.come e are.come_new there) stood in omega (arith, lt))
        | inr new ↦ new
      ]

-- the changes of a commit are ones that a book takes
pub may_change : (c : Config) (names : Names) (cells : RunCells) (s : Installed) (changes : List Change) (ch : Changes) → AreBelow c cells s.next → IsNextAbove s
    → AreChanges s.lists (committed s changes).lists ch → AreEntriesOf names (committed s changes).lists → MayChange c names cells s.lists ch
may_change c names cells s changes ch below above are entries = record {
  gone_rise = are.gone_rise;
  gone_stand = are.gone_stood;
  come_rise = are.come_rise;
  come_new =
      All-weaker (Contains ch.come) (λ (e : Entry). (k place n : ℕ) → IsUsed c cells k place n → cells.number k place n ≢ e.number)
      (λ e there k place n used same. let lt = below k place n used in let le = come_next names s changes ch are e there in absurd (omega (arith, lt, le, same))) ch.come (All-contains_itself ch.come);
  come_within = All-weaker (Contains ch.come) (λ (e : Entry). e.table < length s.lists) (λ e there. come_within names s changes ch are e there) ch.come (All-contains_itself ch.come);
  formed = subst (AreEntriesOf names) (sym (lists_are names s changes ch are entries)) entries;
}

-- ---- the entries as lines leave them

module _ (r s : Running) (formed : IsTrue (names_are_formed r.names)) (entries : AreEntriesOf r.names r.now.lists) (above : IsNextAbove r.now) where
  one_added : (e : Entry) (t : Terms) → IsEntry e.table t e → terms_named r.names e.table ≡ Some t
      → unless (refusal_of t.kind t.size r.most r.taken (key_of_entry e) (list_of r.now.lists e.table)) (with_one r e) ≡ Ok s → AreEntriesOf s.names s.now.lists
  one_added e t is told h = free (has_keys_once t.kind && is_held (key_of_entry e) es) refl (leb t.size (length es)) refl (leb r.most r.taken) h
    where
      es : List Entry
      es = list_of r.now.lists e.table

      free : (once : Bool) → (has_keys_once t.kind && is_held (key_of_entry e) es) ≡ once → (full : Bool) → leb t.size (length es) ≡ full → (many : Bool)
          → unless (cond once (Some 6) (cond full (Some 7) (cond many (Some 9) None))) (with_one r e) ≡ Ok s → AreEntriesOf s.names s.now.lists
      free true a full b many h = absurd (cc)
      free false a true b many h = absurd (cc)
      free false a false b true h = absurd (cc)
      free false a false b false h =
          subst (λ (x : Running). AreEntriesOf x.names x.now.lists) (same_Ok (with_one r e) s h)
          (entries_added r.names r.now e t formed entries above told is a (leb-false t.size (length es) b))

  entry_added : (text : List ℕ) → with_entry r (named_entry r.names text) ≡ Ok s → AreEntriesOf s.names s.now.lists
  entry_added text h = said (named_entry r.names text) refl h
    where
      terms : (e : Entry) → IsNamedEntry r.names e → (o : Option Terms) → terms_named r.names e.table ≡ o → added_to r e o ≡ Ok s → AreEntriesOf s.names s.now.lists
      terms e is None told h = absurd (cc)
      terms e is (Some t) told h = one_added e t (subst (λ (o : Option Terms). IsSomeAnd o (λ x. IsEntry e.table x e)) told is) told h

      said : (o : Result Entry ℕ) → named_entry r.names text ≡ o → with_entry r o ≡ Ok s → AreEntriesOf s.names s.now.lists
      said (Err code) is h = absurd (cc)
      said (Ok e) is h = terms e (named_entry_law r.names text e formed is) (terms_named r.names e.table) refl h

  key_removed : (o : Result EntryName ℕ) → without_key r o ≡ Ok s → AreEntriesOf s.names s.now.lists
  key_removed (Err code) h = absurd (cc)
  key_removed (Ok k) h = by (is_held (key_of_name k) (list_of r.now.lists k.table)) h
    where
      by : (there : Bool) → cond {A = Result Running ℕ} there (Ok (without_one r k.table (key_of_name k))) (Err 8) ≡ Ok s → AreEntriesOf s.names s.now.lists
      by false h = absurd (cc)
      by true h =
          subst (λ (x : Running). AreEntriesOf x.names x.now.lists) (same_Ok (without_one r k.table (key_of_name k)) s h)
          (entries_removed r.names r.now k.table (key_of_name k) entries above)

  line_kept : (text : List ℕ) → line_change r text ≡ Ok s → AreEntriesOf s.names s.now.lists
  line_kept text h = by (leb 18444 (length text)) (begins 43 text) h
    where
      by : (long sign : Bool) → cond long (Err 5) (cond sign (with_entry r (named_entry r.names (drop 2 text))) (without_key r (named_key r.names (drop 2 text)))) ≡ Ok s → AreEntriesOf s.names s.now.lists
      by true sign h = absurd (cc)
      by false true h = entry_added (drop 2 text) h
      by false false h = key_removed (named_key r.names (drop 2 text)) h

-- a line leaves well-formed entries
pub entries_kept : (r s : Running) (text : List ℕ) → IsTrue (names_are_formed r.names) → AreEntriesOf r.names r.now.lists → IsNextAbove r.now → line_change r text ≡ Ok s
    → AreEntriesOf s.names s.now.lists
entries_kept r s text formed entries above h = line_kept r s formed entries above text h

-- and numbers below the next one
module _ (r s : Running) (above : IsNextAbove r.now) where
  above_with_one : (e : Entry) (o : Option ℕ) → unless o (with_one r e) ≡ Ok s → IsNextAbove s.now
  above_with_one e None h = subst (λ (x : Running). IsNextAbove x.now) (same_Ok (with_one r e) s h) (above_changed r.now (Adds e) above)
  above_with_one e (Some code) h = absurd (cc)

  above_added : (e : Entry) (o : Option Terms) → added_to r e o ≡ Ok s → IsNextAbove s.now
  above_added e None h = absurd (cc)
  above_added e (Some t) h = above_with_one e (refusal_of t.kind t.size r.most r.taken (key_of_entry e) (list_of r.now.lists e.table)) h

  above_entry : (o : Result Entry ℕ) → with_entry r o ≡ Ok s → IsNextAbove s.now
  above_entry (Err code) h = absurd (cc)
  above_entry (Ok e) h = above_added e (terms_named r.names e.table) h

  above_removed : (k : EntryName) (there : Bool) → cond {A = Result Running ℕ} there (Ok (without_one r k.table (key_of_name k))) (Err 8) ≡ Ok s → IsNextAbove s.now
  above_removed k false h = absurd (cc)
  above_removed k true h = subst (λ (x : Running). IsNextAbove x.now) (same_Ok (without_one r k.table (key_of_name k)) s h) (above_changed r.now (Removes k.table (key_of_name k)) above)

  above_key : (o : Result EntryName ℕ) → without_key r o ≡ Ok s → IsNextAbove s.now
  above_key (Err code) h = absurd (cc)
  above_key (Ok k) h = above_removed k (is_held (key_of_name k) (list_of r.now.lists k.table)) h

  above_line : (text : List ℕ) → line_change r text ≡ Ok s → IsNextAbove s.now
  above_line text h = by (leb 18444 (length text)) (begins 43 text) h
    where
      by : (long sign : Bool) → cond long (Err 5) (cond sign (with_entry r (named_entry r.names (drop 2 text))) (without_key r (named_key r.names (drop 2 text)))) ≡ Ok s → IsNextAbove s.now
      by true sign h = absurd (cc)
      by false true h = above_entry (named_entry r.names (drop 2 text)) h
      by false false h = above_key (named_key r.names (drop 2 text)) h

pub above_kept : (r s : Running) (text : List ℕ) → IsNextAbove r.now → line_change r text ≡ Ok s → IsNextAbove s.now
above_kept r s text above h = above_line r s above text h
