-- The entries that a well-formed configuration with names spells are well formed for its names.
use Rattle.std.proofs.Common.{◌≡◌, ◌≢◌, ◌⊎◌, inl, inr, ℕ, ◌+◌, ◌<◌, ◌≤◌, ◌&&◌, ◌==◌, Bool, true, false, not, cond, leb, ltb, List, [], ◌∷◌, get_or, length, map, Option, Some, None, fold, option_map, sum, unwrap_or, refl, sym, ap, ◌∙◌, subst, arith}
use Rattle.std.specs.Prelude.{All, AllPairs, Contains, IsSomeAnd, find, is_some, slice_get}
use Rattle.std.specs.List.{flat_map, list_all, range_with_len}
use Rattle.std.specs.Str.{bytes_eq}
use Rattle.std.proofs.lemmas.Bool.{and_parts, cases_order, eq-eqb, eqb-true, false≢true, leb-true, ltb-true}
use Rattle.std.proofs.lemmas.List.{get_or_default, length-map}
use Rattle.std.proofs.lemmas.List.Elements.{All-cons, All-contains, All-head, All-nil, All-tail}
use Rattle.std.proofs.lemmas.List.FromFn.{length-range_with_len}
use Rattle.std.proofs.lemmas.List.Kept.{AllPairs-cons}
use Rattle.std.proofs.lemmas.Option.{same_Some, slice_get_within}
use Rattle.std.proofs.lemmas.Slice.Eq.{bytes_eq-Decides}
use Rattle.rmt_bits.proofs.AllLaws.{All-find, All-flat_map, All-from_test}
use Rattle.rmt_bits.proofs.FindLaws.{find-some}
use Rattle.rmt_bits.proofs.ListLaws.{find-passes, slice_get-item}
use Rattle.rmt_bits.proofs.MemberLaws.{Contains-item, Contains-unmap, from_flat_map}
use Rattle.rmt_bits.proofs.MostLaws.{items-le}
use Rattle.rmt_bits.proofs.PairLaws.{AllPairs-head, AllPairs-map, AllPairs-none, AllPairs-tail, AllPairs-weaker}
use Rattle.rmt_ast.specs.declared.entry.Entry.{Entry}
use Rattle.rmt_ast.specs.declared.names.ActionName.{ActionName}
use Rattle.rmt_ast.specs.declared.names.Names.{Names}
use Rattle.rmt_ast.specs.declared.names.TableName.{TableName}
use Rattle.rmt_ast.specs.declared.program.Kind.{Kind}
use Rattle.rmt_ast.specs.declared.program.Kind.TheVariants as kind
use Rattle.rmt_ast.specs.declared.program.Test.{Test}
use Rattle.rmt_ast.specs.Answers.{entry_numbers}
use Rattle.rmt_ast.specs.Changes.{are_same}
use Rattle.rmt_ast.specs.EntryLists.{AreEntriesAt, AreTableEntries, HasKeysOnce, IsEntry, Terms}
use Rattle.rmt_ast.specs.NameRules.{AreEntriesOf, has_fields, terms_named, terms_of_name}
use Rattle.rmt_config.specs.declared.config.CellNumber.{CellNumber}
use Rattle.rmt_config.specs.declared.config.Config.{Config}
use Rattle.rmt_config.specs.declared.config.SlotUnit.{SlotUnit}
use Rattle.rmt_config.specs.declared.config.Unit.TheVariants.{Slot}
use Rattle.rmt_config.specs.Cells.{cells_in, number_of_cell}
use Rattle.rmt_config.specs.Form.{Formed, visible_with}
use Rattle.rmt_config.specs.NamesForm.{by_number, each_part, entries_by_cell, entries_of_node, entries_spelled, entry_in, has_actions, has_keys_once, has_masks, held_by, is_filled_so, is_made_so, node_count_of, prefix_length, with_entry}
use Rattle.rmt_config.specs.Order.{rises_from}
use Rattle.rmt_config.specs.PartStands.{PartStands}
use Rattle.rmt_config.specs.Rooms.{PartAt, parts_of}
use Rattle.rmt_config.specs.RunCells.{own_cells, slot_at}
use Rattle.rmt_config.specs.TableForm.{Placed, node_of, placed_units}
use Rattle.rmt_config.proofs.PrefixRowLaws.{cells-within}
use Rattle.rmt_config.proofs.RiseLaws.{rise-below}
use Rattle.rmt_config.proofs.SpelledParts.{parts-stand}
use Rattle.rmt_config.proofs.SpelledWays.{parts-follow}
use Rattle.rmt_pack.proofs.FindLaws.{found_passes, all_at}
use Rattle.rmt_config.proofs.LayoutLaws.{memory_formed}
use Rattle.rmt_pack.proofs.PartLaws.{placed_has}
use Rattle.rmt_pack.proofs.SortedLaws.{IsBelow, Differ}
use Rattle.rmt_update.specs.BookStands.{IsUsed}
use Rattle.rmt_update.proofs.BookLaws.{TableFacts, names-fit, table-facts}
use Rattle.rmt_update.proofs.ByNumberLaws.{from-by_number}
use Rattle.rmt_update.proofs.ListedNumbers.{entries-have}
use Rattle.rmt_update.proofs.OwnNumbers.{own-numbers}
use Rattle.rmt_update.proofs.PairsTold.{flat-pairs, later-pairs}
use Rattle.rmt_update.proofs.PartHoldLaws.{part-slot}
use Rattle.rmt_update.proofs.PartOrder.{IsPartOf, parts-own}
use Rattle.rmt_update.proofs.RoomNumbers.{slice_get-map_range}
use Rattle.rmt_update.proofs.SpelledTests.{entry-spelled}
use Rattle.rmt_book.proofs.ToldEntryLaws.{IsHead, PartFacts, all-facts, head-occupied, listed-heads}

-- ---- entries put in order by their numbers

all-with : (P : Entry → Type 0) (e : Entry) (os : List Entry) → P e → All P os → All P (with_entry e os)
all-with P e [] here all = All-cons P e [] here all
all-with P e (o ∷ os) here all = by (ltb o.number e.number) (all-with P e os here (All-tail P o os all))
  where
    by : (b : Bool) → All P (with_entry e os) → All P (cond b (o ∷ with_entry e os) (e ∷ o ∷ os))
    by true rest = All-cons P o (with_entry e os) (All-head P o os all) rest
    by false rest = All-cons P e (o ∷ os) here all

-- what holds of any two of them, whichever stands first
module _ (R : Entry → Entry → Type 0) (even : (a b : Entry) → R a b → R b a) where
  pairs-with : (e : Entry) (os : List Entry) → All (R e) os → AllPairs R os → AllPairs R (with_entry e os)
  pairs-with e [] all pairs = AllPairs-cons R e [] all pairs
  pairs-with e (o ∷ os) all pairs = by (ltb o.number e.number) (pairs-with e os (All-tail (R e) o os all) (AllPairs-tail R o os pairs))
    where
      by : (b : Bool) → AllPairs R (with_entry e os) → AllPairs R (cond b (o ∷ with_entry e os) (e ∷ o ∷ os))
      by true rest = AllPairs-cons R o (with_entry e os) (all-with (R o) e os (even e o (All-head (R e) o os all)) (AllPairs-head R o os pairs)) rest
      by false rest = AllPairs-cons R e (o ∷ os) all pairs

  pairs-sorted : (acc es : List Entry) → AllPairs R acc → AllPairs R es → All (λ e. All (R e) acc) es → AllPairs R (fold (λ sorted e. with_entry e sorted) acc es)
  pairs-sorted acc [] done pairs cross = done
  pairs-sorted acc (e ∷ es) done pairs cross =
      let one = pairs-with e acc (All-head (λ e. All (R e) acc) e es cross) done in
      pairs-sorted (with_entry e acc) es one (AllPairs-tail R e es pairs)
      (λ i d lt. all-with (R (get_or es i d)) e acc (even e (get_or es i d) (AllPairs-head R e es pairs i d lt)) (All-tail (λ e. All (R e) acc) e es cross i d lt))

  pairs-by_number : (es : List Entry) → AllPairs R es → AllPairs R (by_number es)
  pairs-by_number es pairs = pairs-sorted [] es (AllPairs-none R) pairs (λ i d lt. All-nil (R (get_or es i d)))

-- numbers that differ rise then
rising-with : (e : Entry) (os : List Entry) → All (Differ e) os → AllPairs IsBelow os → AllPairs IsBelow (with_entry e os)
rising-with e [] all pairs = AllPairs-cons IsBelow e [] (All-nil (IsBelow e)) pairs
rising-with e (o ∷ os) all pairs = by (ltb o.number e.number) refl (rising-with e os (All-tail (Differ e) o os all) (AllPairs-tail IsBelow o os pairs))
  where
    by : (b : Bool) → ltb o.number e.number ≡ b → AllPairs IsBelow (with_entry e os) → AllPairs IsBelow (cond b (o ∷ with_entry e os) (e ∷ o ∷ os))
    by true is rest = AllPairs-cons IsBelow o (with_entry e os) (all-with (IsBelow o) e os (ltb-true o.number e.number is) (AllPairs-head IsBelow o os pairs)) rest
    by false is rest =
        let le : e.number ≤ o.number = not-less o.number e.number is in
        let other = All-head (Differ e) o os all in
        let lt : e.number < o.number = omega (arith, le, other) in
        AllPairs-cons IsBelow e (o ∷ os) (All-cons (IsBelow e) o os lt (λ i d within. let more = AllPairs-head IsBelow o os pairs i d within in omega (arith, lt, more))) pairs
      where
        not-less : (a b : ℕ) → ltb a b ≡ false → b ≤ a
        not-less a b h = grind (arith, h)

rising-sorted : (acc es : List Entry) → AllPairs IsBelow acc → AllPairs Differ es → All (λ e. All (Differ e) acc) es → AllPairs IsBelow (fold (λ sorted e. with_entry e sorted) acc es)
rising-sorted acc [] done pairs cross = done
rising-sorted acc (e ∷ es) done pairs cross =
    let one = rising-with e acc (All-head (λ e. All (Differ e) acc) e es cross) done in
    rising-sorted (with_entry e acc) es one (AllPairs-tail Differ e es pairs)
    (λ i d lt.
    all-with (Differ (get_or es i d)) e acc (λ same. AllPairs-head Differ e es pairs i d lt (sym same)) (All-tail (λ e. All (Differ e) acc) e es cross i d lt))

rising-by_number : (es : List Entry) → AllPairs Differ es → AllPairs IsBelow (by_number es)
rising-by_number es pairs = rising-sorted [] es (AllPairs-none IsBelow) pairs (λ i d lt. All-nil (Differ (get_or es i d)))

length-with : (e : Entry) (os : List Entry) → length (with_entry e os) ≡ length os + 1
length-with e [] = refl
length-with e (o ∷ os) = by (ltb o.number e.number) (length-with e os)
  where
    by : (b : Bool) → length (with_entry e os) ≡ length os + 1 → length (cond b (o ∷ with_entry e os) (e ∷ o ∷ os)) ≡ length (o ∷ os) + 1
    by true rest = omega (arith, rest)
    by false rest = omega arith

length-sorted : (acc es : List Entry) → length (fold (λ sorted e. with_entry e sorted) acc es) ≡ length acc + length es
length-sorted acc [] = omega arith
length-sorted acc (e ∷ es) = let rest = length-sorted (with_entry e acc) es in let one = length-with e acc in omega (arith, rest, one)

-- ---- the entries of a table

-- what the rules say of a table, and of the masks and actions of its parts
record Kept (c : Config) (t : TableName) : Type 0 where
  facts : TableFacts c t
  masks : has_masks c t.kind t ≡ true
  actions : has_actions c t ≡ true

all-kept : (c : Config) (ts : List TableName) → All (TableFacts c) ts → list_all (is_made_so c) ts ≡ true → list_all (is_filled_so c) ts ≡ true → All (Kept c) ts
all-kept c [] all made filled = All-nil (Kept c)
all-kept c (t ∷ ts) all made filled =
    let m = and_parts (is_made_so c t) (list_all (is_made_so c) ts) made in
    let f = and_parts (is_filled_so c t) (list_all (is_filled_so c) ts) filled in
    All-cons (Kept c) t ts (record { facts = All-head (TableFacts c) t ts all; masks = (and_parts _ _ (and_parts _ _ f.0).0).0; actions = (and_parts _ _ (and_parts _ _ m.0).0).1 })
    (all-kept c ts (All-tail (TableFacts c) t ts all) m.1 f.1)

-- an entry of other tests has another key
same-tests : (ts : List Test) → are_same ts ts ≡ true
same-tests ts = both (bytes_eq (map (λ (t : Test). t.value) ts) (map (λ (t : Test). t.value) ts)) (bytes_eq (map (λ (t : Test). t.mask) ts) (map (λ (t : Test). t.mask) ts))
    ((bytes_eq-Decides (map (λ (t : Test). t.value) ts) (map (λ (t : Test). t.value) ts)).1 refl) ((bytes_eq-Decides (map (λ (t : Test). t.mask) ts) (map (λ (t : Test). t.mask) ts)).1 refl)
  where
    both : (a b : Bool) → a ≡ true → b ≡ true → (a && b) ≡ true
    both true b p q = q
    both false b p q = p

other-tests : (a b : Entry) → not (are_same a.tests b.tests) ≡ true → a.tests ≢ b.tests
other-tests a b h same = false≢true (ap not (sym (same-tests b.tests) ∙ ap (λ ts. are_same ts b.tests) (sym same)) ∙ h)

keys-once : (k : Kind) (es : List Entry) → has_keys_once k es ≡ true → HasKeysOnce k (by_number es)
keys-once kind.Keyless es h = tt
keys-once kind.Exact es h =
    pairs-by_number (λ a b. a.tests ≢ b.tests) (λ a b ne e. ne (sym e)) es
    (AllPairs-weaker (λ a b. not (are_same a.tests b.tests) ≡ true) (λ a b. a.tests ≢ b.tests) other-tests es (later-pairs (λ a b. not (are_same a.tests b.tests)) es h))
keys-once kind.Prefix es h =
    pairs-by_number (λ a b. a.tests ≢ b.tests) (λ a b ne e. ne (sym e)) es
    (AllPairs-weaker (λ a b. not (are_same a.tests b.tests) ≡ true) (λ a b. a.tests ≢ b.tests) other-tests es (later-pairs (λ a b. not (are_same a.tests b.tests)) es h))
keys-once kind.Ternary es h = tt

-- the number of a cell that is listed
one-cell : (numbers : List CellNumber) (x y : CellNumber) → rises_from 0 (map (λ (n : CellNumber). n.cell) numbers) ≡ true → Contains numbers x → Contains numbers y → x.cell ≡ y.cell → x ≡ y
one-cell numbers x y rises in_x in_y same =
    let below = rise-below (λ (n : CellNumber). n.cell) 0 numbers rises in
    let at_y : get_or numbers in_y.0 x ≡ y = get_or_default numbers in_y.0 x y in_y.1 ∙ in_y.2 in
    let x_cell : (get_or numbers in_x.0 x).cell ≡ x.cell = ap (λ (n : CellNumber). n.cell) in_x.2 in
    let y_cell : (get_or numbers in_y.0 x).cell ≡ y.cell = ap (λ (n : CellNumber). n.cell) at_y in
    elim (cases_order in_x.0 in_y.0) as (λ _. x ≡ y) [
      | inl at ↦ sym in_x.2 ∙ ap (λ i. get_or numbers i x) at ∙ at_y
      | inr (inl lt) ↦ absurd (omega (arith, below in_x.0 in_y.0 x lt in_y.1, x_cell, y_cell, same))
      | inr (inr gt) ↦ absurd (omega (arith, below in_y.0 in_x.0 x gt in_x.1, x_cell, y_cell, same))
    ]

pub number-listed : (numbers : List CellNumber) (x : CellNumber) → rises_from 0 (map (λ (n : CellNumber). n.cell) numbers) ≡ true → Contains numbers x → number_of_cell numbers x.cell ≡ x.number
number-listed numbers x rises there =
    let first = find-some (λ (n : CellNumber). n.cell == x.cell) numbers x there (eq-eqb x.cell x.cell refl) in
    let passes = found_passes (λ (n : CellNumber). n.cell == x.cell) numbers first.0 first.1 in
    let same : first.0 ≡ x = one-cell numbers first.0 x rises passes.0 there (eqb-true first.0.cell x.cell passes.1) in
    ap (λ o. unwrap_or (option_map (λ (n : CellNumber). n.number) o) 0) first.1 ∙ ap (λ (n : CellNumber). n.number) same

module _ (c : Config) (formed : Formed c) (names : Names) (named : c.names ≡ Some names) where
  module _ (t : TableName) (h : Kept c t) where
    part-facts : All (PartFacts c t) (parts_of c t.node)
    part-facts =
        all-facts c t (parts_of c t.node) (parts-stand c t.node formed.items (memory_formed c formed)) (parts-follow c t.node (memory_formed c formed)) (and_parts _ _ h.facts.parts).1 h.facts.bits

    fields-are : has_fields t.kind t.keys ≡ true
    fields-are = (and_parts _ _ (and_parts _ _ (and_parts _ _ (and_parts _ _ h.facts.formed).0).0).0).1

    prefixes-are : (p : PartAt) (n : CellNumber) → Contains (parts_of c t.node) p → Contains p.slot.numbers n → t.kind ≡ kind.Prefix → is_some (prefix_length (sum t.keys) (held_by c p n).mask) ≡ true
    prefixes-are p n in_parts in_part is =
        let rule : PartAt → Bool = λ (q : PartAt). list_all (λ (m : CellNumber). is_some (prefix_length (sum t.keys) (held_by c q m).mask)) q.slot.numbers in
        let all : each_part c rule t ≡ true = subst (λ k. has_masks c k t ≡ true) is h.masks in
        let one : rule p ≡ true = All-contains (λ q. rule q ≡ true) (parts_of c t.node) p (All-from_test (λ q. rule q ≡ true) rule (λ q e. e) (parts_of c t.node) all) in_parts in
        All-contains (λ (m : CellNumber). is_some (prefix_length (sum t.keys) (held_by c p m).mask) ≡ true) p.slot.numbers n
        (All-from_test (λ (m : CellNumber). is_some (prefix_length (sum t.keys) (held_by c p m).mask) ≡ true) (λ (m : CellNumber). is_some (prefix_length (sum t.keys) (held_by c p m).mask)) (λ m e. e) p.slot.numbers one)
        in_part

    actions-are : (p : PartAt) → Contains (parts_of c t.node) p → length t.actions ≡ p.slot.actions
    actions-are p in_parts =
        let rule : PartAt → Bool = λ (q : PartAt). (length t.actions == q.slot.actions) && list_all (λ (a : ActionName). leb (sum a.params) q.slot.held) t.actions in
        let one : rule p ≡ true = All-contains (λ q. rule q ≡ true) (parts_of c t.node) p (All-from_test (λ q. rule q ≡ true) rule (λ q e. e) (parts_of c t.node) h.actions) in_parts in
        eqb-true (length t.actions) p.slot.actions (and_parts (length t.actions == p.slot.actions) (list_all (λ (a : ActionName). leb (sum a.params) p.slot.held) t.actions) one).0

    each-spelled : All (IsEntry t.node (terms_of_name t)) (entries_by_cell c t)
    each-spelled =
        All-flat_map (IsEntry t.node (terms_of_name t)) (λ (p : PartAt). map (entry_in c t p) p.slot.numbers) (parts_of c t.node)
        (all_at (λ (p : PartAt). All (IsEntry t.node (terms_of_name t)) (map (entry_in c t p) p.slot.numbers)) (parts_of c t.node) (λ p in_parts.
        all_at (IsEntry t.node (terms_of_name t)) (map (entry_in c t p) p.slot.numbers) (λ e in_part.
        let x = Contains-unmap (entry_in c t p) p.slot.numbers e in_part in
        subst (IsEntry t.node (terms_of_name t)) x.2
        (entry-spelled c formed names named t p (All-contains (PartFacts c t) (parts_of c t.node) p part-facts in_parts) x.0 x.1 fields-are (prefixes-are p x.0 in_parts x.1) (actions-are p in_parts)))))

    table-spelled : AreTableEntries t.node (by_number (entries_by_cell c t)) (terms_of_name t)
    table-spelled =
        let es = entries_by_cell c t in
        let has = and_parts _ _ (and_parts _ _ (and_parts _ _ h.facts.entries).0).0 in
        record {
          each = all_at (IsEntry t.node (terms_of_name t)) (by_number es) (λ e there. All-contains (IsEntry t.node (terms_of_name t)) es e each-spelled (from-by_number es e there));
          rising = rising-by_number es (entries-have c t formed.whole.numbers);
          keys_once = keys-once t.kind es has.1;
          within_size = let few = leb-true (length es) t.size has.0 in let long = length-sorted [] es in omega (arith, few, long);
        }

    -- an entry that a cell spells, by the cell
    record IsCellOf (e : Entry) : Type 0 where
      part : PartAt
      item : CellNumber
      own : IsPartOf c t.node part
      used : IsUsed c (own_cells c) part.stage part.place item.cell
      number : (own_cells c).number part.stage part.place item.cell ≡ e.number

    cell-of : (e : Entry) → Contains (by_number (entries_by_cell c t)) e → IsCellOf e
    cell-of e there =
        let x = from_flat_map (λ (p : PartAt). map (entry_in c t p) p.slot.numbers) (parts_of c t.node) e (from-by_number (entries_by_cell c t) e there) in
        let p = x.0 in
        let y = Contains-unmap (entry_in c t p) p.slot.numbers e x.2 in
        let n = y.0 in
        let facts = All-contains (PartFacts c t) (parts_of c t.node) p part-facts x.1 in
        let slot : slot_at c p.stage p.place ≡ Some p.slot = part-slot c p facts.stands in
        let head = All-contains (IsHead c p) p.slot.numbers n (listed-heads c p facts.stands) y.1 in
        let low = All-contains (λ (m : CellNumber). m.cell < cells_in p.slot.memory) p.slot.numbers n (cells-within c p facts.stands) y.1 in
        let rises : rises_from 0 (map (λ (m : CellNumber). m.cell) p.slot.numbers) ≡ true = (and_parts _ _ (and_parts _ _ facts.stands.holds.numbers).0).0 in
        record {
          part = p;
          item = n;
          own = All-contains (IsPartOf c t.node) (parts_of c t.node) p (parts-own c t.node formed.items (memory_formed c formed)) x.1;
          used = (
            subst (λ (o : Option SlotUnit). IsSomeAnd o (λ (s : SlotUnit). n.cell < cells_in s.memory)) (sym slot) low,
            head-occupied (visible_with c.names) p.first p.slot.actions (held_by c p n).head head,
          );
          number =
              ap (λ (o : Option SlotUnit). unwrap_or (option_map (λ (s : SlotUnit). number_of_cell s.numbers n.cell) o) 0) slot ∙ number-listed p.slot.numbers n rises y.1
              ∙ ap (λ (x : Entry). x.number) y.2;
        }

  -- entries of two tables have two numbers
  other-numbers : (t u : TableName) → Kept c t → Kept c u → t.node ≢ u.node → (a b : Entry) → Contains (by_number (entries_by_cell c t)) a → Contains (by_number (entries_by_cell c u)) b → a.number ≢ b.number
  other-numbers t u ht hu ne a b in_t in_u same =
      let x = cell-of t ht a in_t in
      let y = cell-of u hu b in_u in
      let at = own-numbers c (memory_formed c formed) formed.whole.numbers x.part.stage x.part.place x.item.cell y.part.stage y.part.place y.item.cell x.used y.used (x.number ∙ same ∙ sym y.number) in
      let slots : x.part.slot ≡ y.part.slot =
      same_Some x.part.slot y.part.slot (sym x.own.slot ∙ ap (λ k. slot_at c k x.part.place) at.0 ∙ ap (slot_at c y.part.stage) at.1 ∙ y.own.slot) in
      ne (sym x.own.own ∙ ap (λ (s : SlotUnit). s.node) slots ∙ y.own.own)

  -- ---- the tables of all nodes

  kept : All (Kept c) names.tables
  kept =
      let fit = names-fit c names formed named in
      let made = and_parts _ _ (and_parts _ _ fit).0 in
      all-kept c names.tables (table-facts c names formed named) made.1 (and_parts _ _ fit).1

  -- each table stands at a node that there is
  table-there : (t : TableName) → Kept c t → t.node < node_count_of c
  table-there t h =
      let p = slice_get-item (parts_of c t.node) 0 (let some = leb-true 1 (length (parts_of c t.node)) (and_parts _ _ h.facts.parts).0 in omega (arith, some)) in
      let in_parts = Contains-item (parts_of c t.node) 0 p.0 p.1 in
      let st = All-contains (PartStands c) (parts_of c t.node) p.0 (parts-stand c t.node formed.items (memory_formed c formed)) in_parts in
      let own = All-contains (IsPartOf c t.node) (parts_of c t.node) p.0 (parts-own c t.node formed.items (memory_formed c formed)) in_parts in
      let x = placed_has 0 c.stages p.0.stage st.stage (Slot p.0.slot) st.in_stages (Contains-item st.stage.units p.0.place (Slot p.0.slot) st.in_units) in
      let most = All-contains (λ (y : Placed). node_of y.unit + 1 ≤ node_count_of c) (placed_units c) x.0 (items-le (λ (y : Placed). node_of y.unit + 1) 0 (placed_units c)) x.1 in
      let node : node_of x.0.unit ≡ t.node = ap node_of x.2 ∙ own.own in
      omega (arith, most, node)

  abbrev lists : List (List Entry)
  lists = entries_spelled c names

  long : length (entries_spelled c names) ≡ node_count_of c
  long = length-map (range_with_len 0 (node_count_of c)) (entries_of_node c names) ∙ length-range_with_len 0 (node_count_of c)

  -- the list of a node, which its table has if it applies one
  at-node : (n : ℕ) → (entries_of_node c names n ≡ []) × (terms_named names n ≡ None)
      ⊎ ((t : TableName) × Kept c t × (t.node ≡ n) × (entries_of_node c names n ≡ by_number (entries_by_cell c t)) × (terms_named names n ≡ Some (terms_of_name t)))
  at-node n = by (find (λ (t : TableName). t.node == n) names.tables) refl
    where
      by : (o : Option TableName) → find (λ (t : TableName). t.node == n) names.tables ≡ o → (entries_of_node c names n ≡ []) × (terms_named names n ≡ None)
          ⊎ ((t : TableName) × Kept c t × (t.node ≡ n) × (entries_of_node c names n ≡ by_number (entries_by_cell c t)) × (terms_named names n ≡ Some (terms_of_name t)))
      by None e = inl (ap (λ (o : Option TableName). unwrap_or (option_map (λ (t : TableName). by_number (entries_by_cell c t)) o) []) e, ap (option_map terms_of_name) e)
      by (Some t) e = inr (
        t,
        All-find (Kept c) (λ (t : TableName). t.node == n) names.tables t kept e,
        eqb-true t.node n (find-passes (λ (t : TableName). t.node == n) names.tables t e),
        ap (λ (o : Option TableName). unwrap_or (option_map (λ (t : TableName). by_number (entries_by_cell c t)) o) []) e,
        ap (option_map terms_of_name) e,
      )

  node-spelled : (n : ℕ) → AreEntriesAt n (entries_of_node c names n) (terms_named names n)
  node-spelled n = by (at-node n)
    where
      by : (entries_of_node c names n ≡ []) × (terms_named names n ≡ None)
          ⊎ ((t : TableName) × Kept c t × (t.node ≡ n) × (entries_of_node c names n ≡ by_number (entries_by_cell c t)) × (terms_named names n ≡ Some (terms_of_name t)))
          → AreEntriesAt n (entries_of_node c names n) (terms_named names n)
      by (inl x) = subst (AreEntriesAt n (entries_of_node c names n)) (sym x.1) x.0
      by (inr x) =
          subst (AreEntriesAt n (entries_of_node c names n)) (sym x.4)
          (subst (λ es. AreTableEntries n es (terms_of_name x.0)) (sym x.3) (subst (λ m. AreTableEntries m (by_number (entries_by_cell c x.0)) (terms_of_name x.0)) x.2 (table-spelled x.0 x.1)))

  list-is : (n : ℕ) (es : List Entry) → slice_get (entries_spelled c names) n ≡ Some es → (n < node_count_of c) × (es ≡ entries_of_node c names n)
  list-is n es at =
      let within = slice_get_within (entries_spelled c names) n es at in
      let lt : n < node_count_of c = let e = long in omega (arith, within, e) in
      let none : 0 + n ≡ n = omega arith in
      (lt, same_Some es (entries_of_node c names n) (sym at ∙ slice_get-map_range (entries_of_node c names) 0 (node_count_of c) n lt ∙ ap (λ m. Some (entries_of_node c names m)) none))

  -- an entry of a node's list, by its table
  entry-at : (n : ℕ) (es : List Entry) (e : Entry) → slice_get (entries_spelled c names) n ≡ Some es → Contains es e → (t : TableName) × Kept c t × (t.node ≡ n) × Contains (by_number (entries_by_cell c t)) e
  entry-at n es e at there = by (at-node n)
    where
      by : (entries_of_node c names n ≡ []) × (terms_named names n ≡ None)
          ⊎ ((t : TableName) × Kept c t × (t.node ≡ n) × (entries_of_node c names n ≡ by_number (entries_by_cell c t)) × (terms_named names n ≡ Some (terms_of_name t)))
          → (t : TableName) × Kept c t × (t.node ≡ n) × Contains (by_number (entries_by_cell c t)) e
      by (inl x) = absurd (let none = subst (λ xs. Contains xs e) ((list-is n es at).1 ∙ x.0) there in let lt = none.1 in omega (arith, lt))
      by (inr x) = (x.0, x.1, x.2, subst (λ xs. Contains xs e) ((list-is n es at).1 ∙ x.3) there)

  own-differ : (n : ℕ) (es : List Entry) → slice_get (entries_spelled c names) n ≡ Some es → AllPairs IsBelow es
  own-differ n es at = subst (AllPairs IsBelow) (sym (list-is n es at).1) (by (at-node n))
    where
      by : (entries_of_node c names n ≡ []) × (terms_named names n ≡ None)
          ⊎ ((t : TableName) × Kept c t × (t.node ≡ n) × (entries_of_node c names n ≡ by_number (entries_by_cell c t)) × (terms_named names n ≡ Some (terms_of_name t)))
          → AllPairs IsBelow (entries_of_node c names n)
      by (inl x) = subst (AllPairs IsBelow) (sym x.0) (AllPairs-none IsBelow)
      by (inr x) = subst (AllPairs IsBelow) (sym x.3) (table-spelled x.0 x.1).rising

  numbers-once : AllPairs (λ (a b : ℕ). a ≢ b) (flat_map entry_numbers (entries_spelled c names))
  numbers-once =
      flat-pairs (λ (a b : ℕ). a ≢ b) entry_numbers (entries_spelled c names)
      (λ n es at.
      AllPairs-map (λ (a b : ℕ). a ≢ b) (λ (e : Entry). e.number) es
      (AllPairs-weaker IsBelow (λ (a b : Entry). a.number ≢ b.number) (λ a b lt same. omega (arith, lt, same)) es (own-differ n es at)))
      (λ i j es fs p q lt at_i at_j in_es in_fs.
      let a = Contains-unmap (λ (e : Entry). e.number) es p in_es in
      let b = Contains-unmap (λ (e : Entry). e.number) fs q in_fs in
      let x = entry-at i es a.0 at_i a.1 in
      let y = entry-at j fs b.0 at_j b.1 in
      λ same. other-numbers x.0 y.0 x.1 y.1 (λ e. let nodes : i ≡ j = sym x.2 ∙ e ∙ y.2 in omega (arith, lt, nodes)) a.0 b.0 x.3 y.3 (a.2 ∙ same ∙ sym b.2))

  spelled : AreEntriesOf names (entries_spelled c names)
  spelled =
      let terms = map (terms_named names) (range_with_len 0 (length (entries_spelled c names))) in
      record {
        tables = all_at (λ (t : TableName). t.node < length (entries_spelled c names)) names.tables (λ t there.
            let lt = table-there t (All-contains (Kept c) names.tables t kept there) in let e = long in omega (arith, lt, e));
        entries = record {
          for_each_node = sym (length-map (range_with_len 0 (length (entries_spelled c names))) (terms_named names) ∙ length-range_with_len 0 (length (entries_spelled c names)));
          each = λ n es at.
              let is = list-is n es at in
              let lt : n < length (entries_spelled c names) = slice_get_within (entries_spelled c names) n es at in
              let none : 0 + n ≡ n = omega arith in
              subst (λ (o : Option (Option Terms)). IsSomeAnd o (AreEntriesAt n es)) (sym (slice_get-map_range (terms_named names) 0 (length (entries_spelled c names)) n lt ∙ ap (λ m. Some (terms_named names m)) none))
              (subst (λ xs. AreEntriesAt n xs (terms_named names n)) (sym is.1) (node-spelled n));
          numbers_once = numbers-once;
        };
      }

pub spelled_entries : (c : Config) (names : Names) → Formed c → c.names ≡ Some names → AreEntriesOf names (entries_spelled c names)
spelled_entries c names formed named = spelled c formed names named
