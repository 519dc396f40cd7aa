-- The entries that come behind a commit are those of its changes, table by table.
use Rattle.std.proofs.Common.{◌≡◌, ◌≢◌, ℕ, zero, suc, ◌+◌, ◌<◌, ◌==◌, Bool, true, false, not, cond, List, [], ◌∷◌, ◌++◌, Option, Some, None, get_or, map, length, option_map, refl, sym, ap, ◌∙◌, subst, arith}
use Rattle.std.specs.Prelude.{All, Contains, filter, slice_get, unwrap_or}
use Rattle.std.specs.List.{enumerate_from}
use Rattle.std.proofs.lemmas.Bool.{eqb-true}
use Rattle.std.proofs.lemmas.List.Elements.{All-head, All-tail, Contains-append_right, Contains-get_or, filter-append}
use Rattle.std.proofs.lemmas.List.FromFn.{length-enumerate_from}
use Rattle.std.proofs.lemmas.List.Kept.{AllPairs-filter}
use Rattle.std.proofs.lemmas.Option.{none-some, same_Some, slice_get-get_or}
use Rattle.std.proofs.lemmas.List.Folds.{flat_map-map}
use Rattle.rmt_bits.proofs.AlikeLaws.{filter_all, filter_none}
use Rattle.rmt_bits.proofs.ListLaws.{slice_get-item}
use Rattle.rmt_bits.proofs.MemberLaws.{Contains-first, Contains-flat_map, Contains-unfilter}
use Rattle.rmt_bits.specs.Members.{is_among}
use Rattle.rmt_ast.specs.Changes.{list_of}
use Rattle.rmt_ast.specs.EntryLists.{AreEntriesAt, Terms}
use Rattle.rmt_ast.specs.NameRules.{terms_named, terms_of_name}
use Rattle.rmt_ast.specs.declared.entry.Entry.{Entry}
use Rattle.rmt_config.specs.Commits.{all_entries, come, is_numbered_in}
use Rattle.rmt_config.specs.NamesForm.{by_number}
use Rattle.rmt_update.specs.declared.book.Book.{Book}
use Rattle.rmt_book.specs.declared.table.TableCells.{TableCells}
use Rattle.rmt_lists.specs.declared.lists.Changes.{Changes}
use Rattle.rmt_update.specs.Come.{AreOrdered, IsRunOf, Run, come_to}
use Rattle.rmt_update.specs.Loads.{table_of}
use Rattle.rmt_update.specs.Planned.{changed_list, changed_lists}
use Rattle.rmt_update.proofs.BookFacts.{book-tables, nodes-rising}
use Rattle.rmt_update.proofs.ByNumberLaws.{by_number-filter, by_number-rising, to-by_number}
use Rattle.rmt_update.proofs.NodeLists.{filter-flat, flat-numbered, over-nodes}
use Rattle.rmt_update.proofs.StayLaws.{come-unnumbered, count-after, node-low}
use Rattle.rmt_update.proofs.TableRules.{entries-at, terms-found}
use Rattle.rmt_pack.proofs.EntryLaws.{is_numbered}

-- a list with nothing in it
none-in : {X : Type 0} (xs : List X) → ((x : X) → Contains xs x → ⊥) → xs ≡ []
none-in [] never = refl
none-in (x ∷ xs) never = absurd (never x (Contains-first x xs))

enumerated : {X Y : Type 0} (f : ℕ × X → Y) (a : ℕ) (xs : List X) (n : ℕ) (x : X) → slice_get xs n ≡ Some x → slice_get (map f (enumerate_from a xs)) n ≡ Some (f (a + n, x))
enumerated f a [] n x at = absurd (none-some x at)
enumerated f a (y ∷ xs) zero x at = let here : a ≡ a + 0 = omega arith in ap Some (ap (λ z. f (a, z)) (same_Some y x at) ∙ ap (λ m. f (m, x)) here)
enumerated f a (y ∷ xs) (suc n) x at = let e : a + 1 + n ≡ a + suc n = omega arith in enumerated f (a + 1) xs n x at ∙ ap (λ m. Some (f (m, x))) e

-- no table of a node is found where there is none
none-found : (n : ℕ) (ts : List TableCells) → All (λ (t : TableCells). t.name.node ≢ n) ts → table_of ts n ≡ None
none-found n [] all = refl
none-found n (t ∷ ts) all = by (t.name.node == n) refl (All-head (λ (s : TableCells). s.name.node ≢ n) t ts all) (none-found n ts (All-tail (λ (s : TableCells). s.name.node ≢ n) t ts all))
  where
    by : (b : Bool) → (t.name.node == n) ≡ b → t.name.node ≢ n → table_of ts n ≡ None → cond b (Some t) (table_of ts n) ≡ None
    by true is apart rest = absurd (apart (eqb-true t.name.node n is))
    by false is apart rest = rest

module _ (w : Run) (b : Book) (ch : Changes) (run : IsRunOf b ch w) (ordered : All AreOrdered b.tables.items) where
  abbrev own : ℕ → List Entry
  own n = filter (λ (e : Entry). n == e.table) ch.come

  abbrev new : Entry → Bool
  new e = not (is_numbered_in (all_entries w.lists) e)

  abbrev left : List Entry → List Entry
  left es = filter (λ (e : Entry). not (is_among ch.gone e.number)) es

  -- of a list of a node those are new that come to it
  new-listed : (es : List Entry) (n : ℕ) → ((e : Entry) → Contains es e → Contains (all_entries w.lists) e) → filter new (changed_list ch (n, es)) ≡ own n
  new-listed es n old =
      let none : filter new (left es) ≡ [] =
      filter_none new (left es) (λ i d lt. ap not (is_numbered (all_entries w.lists) (get_or (left es) i d) (old (get_or (left es) i d) (Contains-unfilter (λ (e : Entry). not (is_among ch.gone e.number)) es (get_or (left es) i d) (Contains-get_or (left es) i d lt)).0))) in
      let all : filter new (own n) ≡ own n =
      filter_all new (own n) (λ i d lt. ap not (come-unnumbered w b ch run ordered (get_or (own n) i d) (Contains-unfilter (λ (e : Entry). n == e.table) ch.come (get_or (own n) i d) (Contains-get_or (own n) i d lt)).0)) in
      by_number-filter new (left es ++ own n) ∙ ap by_number (filter-append new (left es) (own n) ∙ ap (λ xs. xs ++ filter new (own n)) none ∙ all)
      ∙ by_number-rising (own n) (AllPairs-filter (λ (x y : Entry). x.number < y.number) (λ (e : Entry). n == e.table) ch.come run.may.come_rise)

  -- nothing comes to a node without a table
  none-comes : (n : ℕ) → n < length w.lists → All (λ (t : TableCells). t.name.node ≢ n) b.tables.items → own n ≡ []
  none-comes n lt out =
      let item = slice_get-item w.lists n lt in
      let after = changed_lists w.lists ch in
      let here : list_of after n ≡ changed_list ch (n, item.0) =
      ap (λ (o : Option (List Entry)). unwrap_or o []) (enumerated (changed_list ch) 0 w.lists n item.0 item.1) ∙ (let e : 0 + n ≡ n = omega arith in ap (λ m. changed_list ch (m, item.0)) e) in
      let none : terms_named w.names n ≡ None =
      terms-found w.config w.names b.tables.items n (book-tables w.config w.names w.cells w.lists b run.stands run.named) ∙ ap (option_map (λ (x : TableCells). terms_of_name x.name)) (none-found n b.tables.items out) in
      let long : length after ≡ length w.lists = long_map (enumerate_from 0 w.lists) ∙ length-enumerate_from 0 w.lists in
      let empty : list_of after n ≡ [] = subst (λ (o : Option Terms). AreEntriesAt n (list_of after n) o) none (entries-at w.names after n run.may.formed (omega (arith, lt, long))) in
      none-in (own n) (λ e there. nothing e (subst (λ xs. Contains xs e) (sym here ∙ empty) (to-by_number (left item.0 ++ own n) e (Contains-append_right (left item.0) (own n) e there))))
    where
      nothing : (e : Entry) → Contains [] e → ⊥
      nothing e c = let l = c.1 in omega (arith, l)

      long_map : (xs : List (ℕ × List Entry)) → length (map (changed_list ch) xs) ≡ length xs
      long_map [] = refl
      long_map (x ∷ xs) = ap suc (long_map xs)

  -- the entries that come are those of the changes, table by table
  pub come-is : come w.lists (changed_lists w.lists ch) ≡ come_to ch b.tables.items
  come-is =
      let after = changed_lists w.lists ch in
      let long = count-after w b ch run ordered in
      let long2 : length after ≡ length w.lists = long_map (enumerate_from 0 w.lists) ∙ length-enumerate_from 0 w.lists in
      filter-flat new (λ (es : List Entry). es) after
      ∙ flat_map-map (λ (es : List Entry). filter new es) (changed_list ch) (enumerate_from 0 w.lists)
      ∙ flat-numbered (λ x. filter new (changed_list ch x)) own 0 w.lists
      (λ i d lt n. new-listed (get_or w.lists i d) n (λ e there. Contains-flat_map (λ (es : List Entry). es) w.lists (get_or w.lists i d) e (Contains-get_or w.lists i d lt) there))
      ∙ over-nodes (λ (t : TableCells). t.name.node) own 0 (length w.lists) b.tables.items (nodes-rising w.config w.names w.cells w.lists b run.stands run.named)
      (λ i d lt. omega arith) (λ i d lt. let low = node-low w b ch run ordered i (get_or b.tables.items i d) (slice_get-get_or b.tables.items i d lt) in omega (arith, low, long, long2)) (λ n ge lt out. none-comes n (omega (arith, lt)) out)
    where
      long_map : (xs : List (ℕ × List Entry)) → length (map (changed_list ch) xs) ≡ length xs
      long_map [] = refl
      long_map (x ∷ xs) = ap suc (long_map xs)
