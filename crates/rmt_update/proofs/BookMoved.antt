-- A book whose entries were loaded into cells anew stands for the cells behind the commit.
use Rattle.std.proofs.Common.{◌≡◌, ◌≢◌, ℕ, zero, suc, ◌+◌, ◌%◌, ◌<◌, ◌==◌, Bool, true, false, not, cond, List, [], ◌∷◌, length, map, Option, Some, None, option_map, unwrap_or, refl, sym, ap, ◌∙◌, subst, arith}
use Rattle.std.specs.Prelude.{All, AllPairs, IfSome, Vec, find, slice_get}
use Rattle.std.specs.Global.{Global}
use Rattle.std.specs.List.{AllZip, range_with_len}
use Rattle.std.proofs.lemmas.Bool.{eq-eqb, eqb-true, false≢true, ne_eqb}
use Rattle.std.proofs.lemmas.Option.{none-some, same_Some}
use Rattle.rmt_bits.proofs.FunctionLaws.{funext}
use Rattle.rmt_bits.proofs.ListLaws.{AllZip-slice_get, find-passes}
use Rattle.rmt_bits.proofs.AllLaws.{All-from_items}
use Rattle.rmt_ast.specs.declared.entry.Entry.{Entry}
use Rattle.rmt_ast.specs.declared.names.Names.{Names}
use Rattle.rmt_ast.specs.declared.names.TableName.{TableName}
use Rattle.rmt_ast.specs.Changes.{list_of}
use Rattle.rmt_ast.specs.EntryLists.{AreEntriesAt}
use Rattle.rmt_ast.specs.NameRules.{AreEntriesOf, terms_of_name}
use Rattle.rmt_config.specs.declared.config.Config.{Config}
use Rattle.rmt_config.specs.declared.config.SlotUnit.{SlotUnit}
use Rattle.rmt_config.specs.Cells.{is_occupied}
use Rattle.rmt_config.specs.Commits.{AreFilled, Placed, filled, filled_content, placed_at}
use Rattle.rmt_config.specs.NamesForm.{by_number}
use Rattle.rmt_config.specs.Rooms.{is_at}
use Rattle.rmt_config.specs.RunCells.{RunCells, emptied, no_content, slot_at, with_version}
use Rattle.rmt_update.specs.declared.book.Book.{Book}
use Rattle.rmt_update.specs.declared.book.book_index.BookIndex.{BookIndex}
use Rattle.rmt_book.specs.declared.spots.Spot.{Spot}
use Rattle.rmt_book.specs.declared.table.PartCells.{PartCells}
use Rattle.rmt_book.specs.declared.table.TableCells.{TableCells}
use Rattle.rmt_update.specs.BookIndex.{IsBookIndex}
use Rattle.rmt_update.specs.BookStands.{BookStands, HaveOwnNumbers, HoldsTable, IsUsed}
use Rattle.rmt_update.specs.Loads.{AreTables, table_of}
use Rattle.rmt_update.specs.Moved.{with_parts}
use Rattle.rmt_update.specs.Refill.{IsMoved}
use Rattle.rmt_book.specs.Seen.{IsReadable, entries_at, entries_by_part, entries_seen}
use Rattle.rmt_book.specs.Spots.{placed_from}
use Rattle.rmt_update.proofs.CellsFound.{are-tables, found-node, nodes-rise, table-holds as was-holds}
use Rattle.rmt_update.proofs.DifferenceLaws.{NextHolds}
use Rattle.rmt_update.proofs.FirstLaws.{map-twice}
use Rattle.rmt_update.proofs.MovedLaws.{table-holds, told-by-number, told-has_order, told-numbers}
use Rattle.rmt_update.proofs.OncePlaced.{all-numbers, at-place, found-in, one-key}
use Rattle.rmt_update.proofs.TableRules.{entries-at, own-table, terms-found}
use Rattle.rmt_update.proofs.ZipLaws.{zip-length, zip-made}

-- ---- tables with other parts

pub with-names : (ts : List TableCells) (vs : List (Vec PartCells Global)) → map (λ (t : TableCells). t.name) (with_parts ts vs) ≡ map (λ (t : TableCells). t.name) ts
with-names [] vs = refl
with-names (t ∷ ts) [] = refl
with-names (t ∷ ts) (v ∷ vs) = ap (λ ns. t.name ∷ ns) (with-names ts vs)

-- a table of these
record WithParts (ts : List TableCells) (vs : List (Vec PartCells Global)) (i : ℕ) (u : TableCells) : Type 0 where
  table : TableCells
  parts : Vec PartCells Global
  in_tables : slice_get ts i ≡ Some table
  in_parts : slice_get vs i ≡ Some parts
  is : u ≡ record { name = table.name; parts = parts }

with-at : (R : TableCells → Vec PartCells Global → Type 0) (ts : List TableCells) (vs : List (Vec PartCells Global)) (i : ℕ) (u : TableCells) → AllZip R ts vs → slice_get (with_parts ts vs) i ≡ Some u → WithParts ts vs i u
with-at R [] vs i u zip at = absurd (none-some u at)
with-at R (t ∷ ts) [] i u zip at = absurd zip
with-at R (t ∷ ts) (v ∷ vs) zero u zip at = record { table = t; parts = v; in_tables = refl; in_parts = refl; is = sym (same_Some (record { name = t.name; parts = v }) u at) }
with-at R (t ∷ ts) (v ∷ vs) (suc i) u zip at = let h = with-at R ts vs i u zip.1 at in record { table = h.table; parts = h.parts; in_tables = h.in_tables; in_parts = h.in_parts; is = h.is }

-- the table of a node among these
record FoundWith (ts : List TableCells) (vs : List (Vec PartCells Global)) (node : ℕ) (x : TableCells) : Type 0 where
  i : ℕ
  parts : Vec PartCells Global
  in_tables : slice_get ts i ≡ Some x
  in_parts : slice_get vs i ≡ Some parts
  found : find (λ (t : TableCells). t.name.node == node) (with_parts ts vs) ≡ Some (record { name = x.name; parts = parts })

find-with : (R : TableCells → Vec PartCells Global → Type 0) (ts : List TableCells) (vs : List (Vec PartCells Global)) (node : ℕ) (x : TableCells) → AllZip R ts vs → table_of ts node ≡ Some x → FoundWith ts vs node x
find-with R [] vs node x zip at = absurd (none-some x at)
find-with R (t ∷ ts) [] node x zip at = absurd zip
find-with R (t ∷ ts) (v ∷ vs) node x zip at = by (t.name.node == node) refl at (find-with R ts vs node x zip.1)
  where
    by : (b : Bool) → (t.name.node == node) ≡ b → cond b (Some t) (table_of ts node) ≡ Some x → (table_of ts node ≡ Some x → FoundWith ts vs node x) → FoundWith (t ∷ ts) (v ∷ vs) node x
    by true e h rest =
        let same = same_Some t x h in
        record {
          i = 0;
          parts = v;
          in_tables = h;
          in_parts = refl;
          found = ap (λ b. cond b (Some (record { name = t.name; parts = v })) (find (λ (u : TableCells). u.name.node == node) (with_parts ts vs))) e ∙ ap (λ (u : TableCells). Some (record { name = u.name; parts = v })) same;
        }
    by false e h rest =
        let r = rest h in
        record {
          i = suc r.i;
          parts = r.parts;
          in_tables = r.in_tables;
          in_parts = r.in_parts;
          found = ap (λ b. cond b (Some (record { name = t.name; parts = v })) (find (λ (u : TableCells). u.name.node == node) (with_parts ts vs))) e ∙ r.found;
        }

none-with : (R : TableCells → Vec PartCells Global → Type 0) (ts : List TableCells) (vs : List (Vec PartCells Global)) (node : ℕ) → AllZip R ts vs → table_of ts node ≡ None → find (λ (t : TableCells). t.name.node == node) (with_parts ts vs) ≡ None
none-with R [] vs node zip at = refl
none-with R (t ∷ ts) [] node zip at = absurd zip
none-with R (t ∷ ts) (v ∷ vs) node zip at = by (t.name.node == node) at (none-with R ts vs node zip.1)
  where
    by : (b : Bool) → cond b (Some t) (table_of ts node) ≡ None → (table_of ts node ≡ None → find (λ (u : TableCells). u.name.node == node) (with_parts ts vs) ≡ None)
        → cond b (Some (record { name = t.name; parts = v })) (find (λ (u : TableCells). u.name.node == node) (with_parts ts vs)) ≡ None
    by true h rest = absurd (none-some t (sym h))
    by false h rest = rest h

-- ---- lists

-- a list is its items, one by one
list-items : (k : ℕ) (xs all : List (List Entry)) → ((i : ℕ) → i < length xs → list_of all (k + i) ≡ list_of xs i) → map (list_of all) (range_with_len k (length xs)) ≡ xs
list-items k [] all same = refl
list-items k (x ∷ xs) all same =
    let none : k ≡ k + 0 = omega arith in
    ap (λ y. y ∷ map (list_of all) (range_with_len (k + 1) (length xs))) (ap (list_of all) none ∙ same 0 (omega arith))
    ∙ ap (λ ys. x ∷ ys) (list-items (k + 1) xs all (λ i lt. let next : k + 1 + i ≡ k + suc i = omega arith in ap (list_of all) next ∙ same (suc i) (omega (arith, lt))))

pub long-range : (f : ℕ → List Entry) (k n : ℕ) → length (map f (range_with_len k n)) ≡ n
long-range f k zero = refl
long-range f k (suc n) = ap suc (long-range f (k + 1) n)

next-odd : (v : ℕ) → not (v % 2 == 1) ≡ ((v + 1) % 2 == 1)
next-odd v = by (v % 2) (let lt : v % 2 < 2 = omega arith in lt) refl
  where
    by : (r : ℕ) → r < 2 → v % 2 ≡ r → not (v % 2 == 1) ≡ ((v + 1) % 2 == 1)
    by zero lt e = ap not (ne_eqb (v % 2) 1 (λ f. absurd (omega (arith, e, f)))) ∙ sym (eq-eqb ((v + 1) % 2) 1 (omega (arith, e)))
    by (suc zero) lt e = ap not (eq-eqb (v % 2) 1 e) ∙ sym (ne_eqb ((v + 1) % 2) 1 (λ f. absurd (omega (arith, e, f))))
    by (suc (suc r)) lt e = absurd (omega (arith, lt))

-- ---- the book

module _ (c : Config) (names : Names) (cells : RunCells) (before : List (List Entry)) (b : Book) (stands : BookStands c cells before b) (named : c.names ≡ Some names) (after : List (List Entry)) (formed : AreEntriesOf names after)
    (seed : ℕ) (spots : List (List Spot)) (many : AllZip (λ (es : List Entry) (ss : List Spot). length ss ≡ length es) after spots) (filled_so : AreFilled c names seed after (placed_from c 0 after spots))
    (moved : List (Vec PartCells Global)) (all : AllZip (λ t (v : Vec PartCells Global). IsMoved after spots t v.items) b.tables.items moved) where
  abbrev pub next : RunCells
  next = filled c names cells (placed_from c 0 after spots)

  same-names : record { tables = map (λ (t : TableCells). t.name) b.tables.items } ≡ names
  same-names = same_Some _ names (sym stands.names ∙ named)

  pub own-tables : AreTables c names b.tables.items
  own-tables = subst (λ n. AreTables c n b.tables.items) same-names (are-tables c cells before b stands)

  table-at : (i : ℕ) (t : TableCells) → slice_get b.tables.items i ≡ Some t → table_of b.tables.items t.name.node ≡ Some t
  table-at i t at = found-node b.tables.items i t (nodes-rise c cells before b stands) at

  R : TableCells → Vec PartCells Global → Type 0
  R t v = IsMoved after spots t v.items

  moved-at : (i : ℕ) (t : TableCells) (v : Vec PartCells Global) → slice_get b.tables.items i ≡ Some t → slice_get moved i ≡ Some v → IsMoved after spots t v.items
  moved-at i t v at_t at_v = AllZip-slice_get (λ t (v : Vec PartCells Global). IsMoved after spots t v.items) b.tables.items moved i t v all at_t at_v

  -- ---- the cells

  pub next-holds : AllZip (NextHolds c (with_version (filled c names cells (placed_from c 0 after spots)) seed)) b.tables.items moved
  next-holds =
      zip-made (NextHolds c (with_version next seed)) b.tables.items moved (zip-length (λ t (v : Vec PartCells Global). IsMoved after spots t v.items) b.tables.items moved all)
      (λ i t v at_t at_v. table-holds c names cells seed after spots many filled_so b.tables.items own-tables formed t (table-at i t at_t) (was-holds c cells before b stands i t at_t) v.items (moved-at i t v at_t at_v))

  holds-all : All (HoldsTable c (with_version next seed)) (with_parts b.tables.items moved)
  holds-all = All-from_items (HoldsTable c (with_version next seed)) (with_parts b.tables.items moved) (λ i u at.
      let w = with-at (λ t (v : Vec PartCells Global). IsMoved after spots t v.items) b.tables.items moved i u all at in
      subst (HoldsTable c (with_version next seed)) (sym w.is)
      (table-holds c names cells seed after spots many filled_so b.tables.items own-tables formed w.table (table-at i w.table w.in_tables) (was-holds c cells before b stands i w.table w.in_tables) w.parts.items
      (moved-at i w.table w.parts w.in_tables w.in_parts)))

  readable-all : (odd : Bool) → All (IsReadable odd) (with_parts b.tables.items moved)
  readable-all odd = All-from_items (IsReadable odd) (with_parts b.tables.items moved) (λ i u at.
      let w = with-at (λ t (v : Vec PartCells Global). IsMoved after spots t v.items) b.tables.items moved i u all at in
      let f = table-at i w.table w.in_tables in
      let h = was-holds c cells before b stands i w.table w.in_tables in
      let m = moved-at i w.table w.parts w.in_tables w.in_parts in
      subst (IsReadable odd) (sym w.is) (record {
        formed = (own-table c names b.tables.items after w.table.name.node w.table own-tables f).facts.formed;
        numbers = told-numbers c names cells seed after spots many filled_so b.tables.items own-tables formed w.table f h w.parts.items m odd;
        order = told-has_order c names cells seed after spots many filled_so b.tables.items own-tables formed w.table f h w.parts.items m odd;
      }))

  -- ---- numbers

  distinct : AllPairs (λ (m n : ℕ). m ≢ n) (map (λ (q : Placed). q.entry.number) (placed_from c 0 after spots))
  distinct =
      subst (AllPairs (λ (m n : ℕ). m ≢ n))
      (sym (sym (map-twice (λ (e : Entry). e.number) (λ (q : Placed). q.entry) (placed_from c 0 after spots)) ∙ ap (map (λ (e : Entry). e.number)) filled_so.each ∙ all-numbers after)) formed.entries.numbers_once

  record UsedBy (k place n : ℕ) : Type 0 where
    q : Placed
    at : placed_at (placed_from c 0 after spots) k place n ≡ Some q
    number : next.number k place n ≡ q.entry.number

  used-by : (k place n : ℕ) → IsUsed c (with_version next seed) k place n → UsedBy k place n
  used-by k place n used = by (placed_at (placed_from c 0 after spots) k place n) refl
    where
      clear : (o : Option SlotUnit) → is_occupied (unwrap_or (option_map emptied o) no_content).head ≡ false
      clear None = refl
      clear (Some s) = refl

      by : (o : Option Placed) → placed_at (placed_from c 0 after spots) k place n ≡ o → UsedBy k place n
      by None e =
          let empty : is_occupied (next.content k place n).head ≡ false = ap (λ o. is_occupied (filled_content c names o k place).head) e ∙ clear (slot_at c k place) in
          absurd (false≢true (sym empty ∙ used.1))
      by (Some q) e = record { q = q; at = e; number = ap (λ o. unwrap_or (option_map (λ (p : Placed). p.entry.number) o) 0) e }

  own-numbers : HaveOwnNumbers c (with_version next seed)
  own-numbers k place n k2 place2 n2 one two same =
      let u = used-by k place n one in
      let v = used-by k2 place2 n2 two in
      let test : Placed → Bool = λ q. is_at k place n q.room in
      let test2 : Placed → Bool = λ q. is_at k2 place2 n2 q.room in
      let is : u.q ≡ v.q =
      one-key (λ (q : Placed). q.entry.number) (placed_from c 0 after spots) u.q v.q distinct (found-in test (placed_from c 0 after spots) u.q u.at) (found-in test2 (placed_from c 0 after spots) v.q v.at) (sym u.number ∙ same ∙ v.number) in
      let a = at-place k place n u.q.room (find-passes test (placed_from c 0 after spots) u.q u.at) in
      let d = at-place k2 place2 n2 v.q.room (find-passes test2 (placed_from c 0 after spots) v.q v.at) in
      (sym a.stage ∙ ap (λ (q : Placed). q.room.part.stage) is ∙ d.stage, sym a.place ∙ ap (λ (q : Placed). q.room.part.place) is ∙ d.place, sym a.cell ∙ ap (λ (q : Placed). q.room.cell) is ∙ d.cell)

  -- ---- lists

  at-node : (odd : Bool) (n : ℕ) → list_of after n ≡ entries_at odd (with_parts b.tables.items moved) n
  at-node odd n = by (table_of b.tables.items n) refl
    where
      seen : Option TableCells → List Entry
      seen o = unwrap_or (option_map (λ t. by_number (entries_by_part odd t)) o) []

      empty : (o : Option (List Entry)) → o ≡ None → unwrap_or o [] ≡ []
      empty o e = ap (λ p. unwrap_or p []) e

      past : (xs : List (List Entry)) (i : ℕ) → (i < length xs → list_of xs i ≡ []) → list_of xs i ≡ []
      past [] i h = refl
      past (x ∷ xs) zero h = h (omega arith)
      past (x ∷ xs) (suc i) h = past xs i (λ lt. h (omega (arith, lt)))

      by : (o : Option TableCells) → table_of b.tables.items n ≡ o → list_of after n ≡ entries_at odd (with_parts b.tables.items moved) n
      by None e =
          past after n (λ lt. subst (AreEntriesAt n (list_of after n)) (terms-found c names b.tables.items n own-tables ∙ ap (option_map (λ (y : TableCells). terms_of_name y.name)) e) (entries-at names after n formed lt))
          ∙ sym (ap seen (none-with (λ t (v : Vec PartCells Global). IsMoved after spots t v.items) b.tables.items moved n all e))
      by (Some x) e =
          let w = find-with (λ t (v : Vec PartCells Global). IsMoved after spots t v.items) b.tables.items moved n x all e in
          let same : x.name.node ≡ n = eqb-true x.name.node n (find-passes (λ (t : TableCells). t.name.node == n) b.tables.items x e) in
          let f = table-at w.i x w.in_tables in
          ap (list_of after) (sym same)
          ∙ sym (told-by-number c names cells seed after spots many filled_so b.tables.items own-tables formed x f (was-holds c cells before b stands w.i x w.in_tables) w.parts.items (moved-at w.i x w.parts w.in_tables w.in_parts) odd)
          ∙ sym (ap seen w.found)

  lists-are : (odd : Bool) → length after ≡ length before → after ≡ entries_seen odd (with_parts b.tables.items moved) b.nodes
  lists-are odd long =
      let nodes : length after ≡ b.nodes = long ∙ ap length stands.lists ∙ long-range (entries_at b.odd b.tables.items) 0 b.nodes in
      sym (list-items 0 after after (λ i lt. ap (list_of after) (let none : 0 + i ≡ i = omega arith in none)))
      ∙ ap (λ (f : ℕ → List Entry). map f (range_with_len 0 (length after))) (funext (list_of after) (entries_at odd (with_parts b.tables.items moved)) (at-node odd))
      ∙ ap (λ n. map (entries_at odd (with_parts b.tables.items moved)) (range_with_len 0 n)) nodes

  -- ---- the book

  pub stands-moved : (b2 : Book) → length after ≡ length before → b2.odd ≡ not b.odd → b2.seed ≡ seed → b2.nodes ≡ b.nodes → b2.tables.items ≡ with_parts b.tables.items moved → b2.index ≡ None
      → BookStands c (with_version (filled c names cells (placed_from c 0 after spots)) seed) after b2
  stands-moved b2 long odd seed_is nodes tables index = record {
    formed = stands.formed;
    names = stands.names ∙ ap (λ (ns : List TableName). Some (record { tables = ns })) (sym (ap (map (λ (t : TableCells). t.name)) tables ∙ with-names b.tables.items moved));
    version = odd ∙ ap not stands.version ∙ next-odd cells.version;
    seed = seed_is;
    tables = subst (All (HoldsTable c (with_version next seed))) (sym tables) holds-all;
    numbers = own-numbers;
    readable = subst (All (IsReadable b2.odd)) (sym tables) (readable-all b2.odd);
    lists = lists-are b2.odd long ∙ ap (λ ts. entries_seen b2.odd ts b.nodes) (sym tables) ∙ ap (entries_seen b2.odd b2.tables.items) (sym nodes);
    index = subst (λ (o : Option BookIndex). IfSome o (IsBookIndex b2.odd b2.tables.items)) (sym index) tt;
  }
