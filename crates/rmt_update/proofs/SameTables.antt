-- A book of which all cells are as before stands for the same cells and entries.
use Rattle.std.proofs.Common.{◌≡◌, ℕ, suc, ◌<◌, ◌==◌, Bool, true, false, cond, List, [], ◌∷◌, ◌++◌, get_or, map, Option, Some, option_map, unwrap_or, refl, sym, ap, ◌∙◌, subst}
use Rattle.std.specs.Prelude.{All, IfSome, filter, find, option_and_then, slice_get}
use Rattle.std.specs.List.{AllZip, flat_map, range_with_len}
use Rattle.std.specs.BTreeMap.{IsOrdered, get, is_at}
use Rattle.std.specs.Cmp.{nat_cmp_total}
use Rattle.std.specs.Map.{keys_of, lookup, values_of}
use Rattle.std.specs.Ordering.{nat_cmp}
use Rattle.std.proofs.lemmas.List.Elements.{All-head, All-tail}
use Rattle.std.proofs.lemmas.Map.Lookups.{btree_map_from_get, exact_unsigned}
use Rattle.std.proofs.lemmas.Option.{slice_get-get_or}
use Rattle.rmt_bits.proofs.AllLaws.{All-slice_get}
use Rattle.rmt_ast.specs.NameRules.{table_is_formed}
use Rattle.rmt_ast.specs.declared.entry.Entry.{Entry}
use Rattle.rmt_ast.specs.declared.names.TableName.{TableName}
use Rattle.rmt_config.specs.declared.config.Config.{Config}
use Rattle.rmt_config.specs.Cells.{cells_in}
use Rattle.rmt_config.specs.NamesForm.{by_number, has_order}
use Rattle.rmt_config.specs.Rooms.{PartAt, parts_of}
use Rattle.rmt_config.specs.RunCells.{RunCells}
use Rattle.rmt_update.specs.declared.book.Book.{Book}
use Rattle.rmt_book.specs.declared.kept.Kept.{Kept}
use Rattle.rmt_book.specs.declared.table.PartCells.{PartCells}
use Rattle.rmt_book.specs.declared.table.TableCells.{TableCells}
use Rattle.rmt_update.specs.BookIndex.{IsBookIndex}
use Rattle.rmt_book.specs.BookSpots.{kept_at, kept_in}
use Rattle.rmt_update.specs.BookStands.{BookStands, HoldsPart, HoldsTable, IsKeptOf}
use Rattle.rmt_update.specs.Come.{AreOrdered}
use Rattle.rmt_book.specs.PartShape.{IsShape}
use Rattle.rmt_book.specs.Seen.{HaveNumbers, IsReadable, entries_at, entries_by_part, entries_in, entries_seen, is_seen}
use Rattle.rmt_book.specs.Told.{told_entry}
use Rattle.rmt_update.specs.Turning.{HaveCells, IsStill, IsStillTable}
use Rattle.rmt_update.proofs.ZipLaws.{zip-right}

-- a part with the same cells
record SameCells (x y : PartCells) : Type 0 where
  stage : y.stage ≡ x.stage
  place : y.place ≡ x.place
  first : y.first ≡ x.first
  shape : y.shape ≡ x.shape
  entries : y.cells.entries ≡ x.cells.entries

abbrev SameTable : TableCells → TableCells → Type 0
SameTable t u = (u.name ≡ t.name) × AllZip SameCells t.parts.items u.parts.items

same-parts : (xs ys : List PartCells) → AllZip IsStill xs ys → All (λ (x : PartCells). IsOrdered nat_cmp x.cells) xs
    → ((j n : ℕ) (x y : PartCells) → slice_get xs j ≡ Some x → slice_get ys j ≡ Some y → get nat_cmp y.cells n ≡ get nat_cmp x.cells n) → AllZip SameCells xs ys
same-parts [] [] zip all each = tt
same-parts [] (y ∷ ys) zip all each = absurd zip
same-parts (x ∷ xs) [] zip all each = absurd zip
same-parts (x ∷ xs) (y ∷ ys) zip all each =
    let own = All-head (λ (z : PartCells). IsOrdered nat_cmp z.cells) x xs all in
    let h = zip.0 in (
      record {
        stage = h.stage;
        place = h.place;
        first = h.first;
        shape = h.shape;
        entries = btree_map_from_get nat_cmp_total y.cells x.cells (h.ordered own) own (λ n. each 0 n x y refl refl) exact_unsigned;
      },
      same-parts xs ys zip.1 (All-tail (λ (z : PartCells). IsOrdered nat_cmp z.cells) x xs all) (λ j. each (suc j)),
    )

same-tables : (ts us : List TableCells) → AllZip IsStillTable ts us → All AreOrdered ts
    → ((i j n : ℕ) (t u : TableCells) (x y : PartCells) → slice_get ts i ≡ Some t → slice_get us i ≡ Some u → slice_get t.parts.items j ≡ Some x → slice_get u.parts.items j ≡ Some y → get nat_cmp y.cells n ≡ get nat_cmp x.cells n)
    → AllZip SameTable ts us
same-tables [] [] zip all each = tt
same-tables [] (u ∷ us) zip all each = absurd zip
same-tables (t ∷ ts) [] zip all each = absurd zip
same-tables (t ∷ ts) (u ∷ us) zip all each = (
  (zip.0.0, same-parts t.parts.items u.parts.items zip.0.1 (All-head AreOrdered t ts all) (λ j n x y. each 0 j n t u x y refl refl)),
  same-tables ts us zip.1 (All-tail AreOrdered t ts all) (λ i. each (suc i)),
)

-- what is kept of a cell of a part
pub part-kept : (ts : List TableCells) (i j : ℕ) (t : TableCells) (x : PartCells) (n : ℕ) → slice_get ts i ≡ Some t → slice_get t.parts.items j ≡ Some x
    → kept_at ts (record { table = i; at = record { part = j; cell = n } }) ≡ get nat_cmp x.cells n
part-kept ts i j t x n at_t at_x =
    ap (λ (o : Option TableCells). option_and_then (λ (v : TableCells). kept_in v (record { part = j; cell = n })) o) at_t ∙ ap (λ (o : Option PartCells). option_and_then (λ (v : PartCells). get nat_cmp v.cells n) o) at_x

all-same : (ts us : List TableCells) → All AreOrdered ts → HaveCells ts us (kept_at ts) → AllZip SameTable ts us
all-same ts us all have = same-tables ts us have.same all (λ i j n t u x y at_t at_u at_x at_y.
    sym (part-kept us i j u y n at_u at_y) ∙ have.each (record { table = i; at = record { part = j; cell = n } }) ∙ part-kept ts i j t x n at_t at_x)

-- ---- what they hold

got-same : (x y : PartCells) → SameCells x y → (n : ℕ) → get nat_cmp y.cells n ≡ get nat_cmp x.cells n
got-same x y h n = ap (lookup (is_at (nat_cmp n))) h.entries

holds-same : (cells : RunCells) (p : PartAt) (x y : PartCells) → SameCells x y → HoldsPart cells p x → HoldsPart cells p y
holds-same cells p x y h is = record {
  stage = h.stage ∙ is.stage;
  place = h.place ∙ is.place;
  first = h.first ∙ is.first;
  shape = subst (IsShape p.slot) (sym h.shape) is.shape;
  within = subst (λ es. All (λ n. n < cells_in p.slot.memory) (keys_of es)) (sym h.entries) is.within;
  each = λ n lt.
      subst (IsKeptOf cells.seed p (cells.content p.stage p.place n) (record { cell = n; number = cells.number p.stage p.place n })) (sym (got-same x y h n)) (is.each n lt);
  bytes = λ n k got. is.bytes n k (sym (got-same x y h n) ∙ got);
}

parts-hold : (cells : RunCells) (ps : List PartAt) (xs ys : List PartCells) → AllZip SameCells xs ys → AllZip (HoldsPart cells) ps xs → AllZip (HoldsPart cells) ps ys
parts-hold cells [] [] [] same zip = tt
parts-hold cells [] [] (y ∷ ys) same zip = absurd same
parts-hold cells [] (x ∷ xs) ys same zip = absurd zip
parts-hold cells (p ∷ ps) [] ys same zip = absurd zip
parts-hold cells (p ∷ ps) (x ∷ xs) [] same zip = absurd same
parts-hold cells (p ∷ ps) (x ∷ xs) (y ∷ ys) same zip = (holds-same cells p x y same.0 zip.0, parts-hold cells ps xs ys same.1 zip.1)

table-holds : (c : Config) (cells : RunCells) (t u : TableCells) → SameTable t u → HoldsTable c cells t → HoldsTable c cells u
table-holds c cells t u same zip = subst (λ (n : TableName). AllZip (HoldsPart cells) (parts_of c n.node) u.parts.items) (sym same.0) (parts-hold cells (parts_of c t.name.node) t.parts.items u.parts.items same.1 zip)

-- ---- the entries that are seen

entries-part : (odd : Bool) (t : TableName) (x y : PartCells) → SameCells x y → entries_in odd t y ≡ entries_in odd t x
entries-part odd t x y h =
    ap (λ n. map (told_entry t n) (filter (is_seen odd) (values_of y.cells.entries))) h.first ∙ ap (λ (es : List (ℕ × Kept)). map (told_entry t x.first) (filter (is_seen odd) (values_of es))) h.entries

entries-parts : (odd : Bool) (t : TableName) (xs ys : List PartCells) → AllZip SameCells xs ys → flat_map (entries_in odd t) ys ≡ flat_map (entries_in odd t) xs
entries-parts odd t [] [] same = refl
entries-parts odd t [] (y ∷ ys) same = absurd same
entries-parts odd t (x ∷ xs) [] same = absurd same
entries-parts odd t (x ∷ xs) (y ∷ ys) same = ap (λ es. es ++ flat_map (entries_in odd t) ys) (entries-part odd t x y same.0) ∙ ap (λ es. entries_in odd t x ++ es) (entries-parts odd t xs ys same.1)

entries-table : (odd : Bool) (t u : TableCells) → SameTable t u → entries_by_part odd u ≡ entries_by_part odd t
entries-table odd t u same = ap (λ (n : TableName). flat_map (entries_in odd n) u.parts.items) same.0 ∙ entries-parts odd t.name t.parts.items u.parts.items same.1

entries-node : (odd : Bool) (node : ℕ) (ts us : List TableCells) → AllZip SameTable ts us → entries_at odd us node ≡ entries_at odd ts node
entries-node odd node [] [] same = refl
entries-node odd node [] (u ∷ us) same = absurd same
entries-node odd node (t ∷ ts) [] same = absurd same
entries-node odd node (t ∷ ts) (u ∷ us) same =
    ap (λ (n : TableName). unwrap_or (option_map (λ (v : TableCells). by_number (entries_by_part odd v)) (cond (n.node == node) (Some u) (find (λ (v : TableCells). v.name.node == node) us))) []) same.0.0
    ∙ by (t.name.node == node) (entries-node odd node ts us same.1)
  where
    by : (b : Bool) → entries_at odd us node ≡ entries_at odd ts node
        → unwrap_or (option_map (λ (v : TableCells). by_number (entries_by_part odd v)) (cond b (Some u) (find (λ (v : TableCells). v.name.node == node) us))) []
        ≡ unwrap_or (option_map (λ (v : TableCells). by_number (entries_by_part odd v)) (cond b (Some t) (find (λ (v : TableCells). v.name.node == node) ts))) []
    by true rest = ap by_number (entries-table odd t u same.0)
    by false rest = rest

names-same : (ts us : List TableCells) → AllZip SameTable ts us → map (λ (t : TableCells). t.name) ts ≡ map (λ (t : TableCells). t.name) us
names-same [] [] same = refl
names-same [] (u ∷ us) same = absurd same
names-same (t ∷ ts) [] same = absurd same
names-same (t ∷ ts) (u ∷ us) same = ap (λ (n : TableName). n ∷ map (λ (v : TableCells). v.name) ts) (sym same.0.0) ∙ ap (λ ns. u.name ∷ ns) (names-same ts us same.1)

pub stands-same : (c : Config) (cells : RunCells) (lists : List (List Entry)) (b d : Book) → All AreOrdered b.tables.items → HaveCells b.tables.items d.tables.items (kept_at b.tables.items)
    → d.odd ≡ b.odd → d.seed ≡ b.seed → d.nodes ≡ b.nodes → IfSome d.index (IsBookIndex d.odd d.tables.items) → BookStands c cells lists b → BookStands c cells lists d
stands-same c cells lists b d all have odd seed nodes index stands =
    let ts = b.tables.items in
    let us = d.tables.items in
    let same = all-same ts us all have in
    record {
      formed = stands.formed;
      names = stands.names ∙ ap (λ (ns : List TableName). Some (record { tables = ns })) (names-same ts us same);
      version = odd ∙ stands.version;
      seed = seed ∙ stands.seed;
      tables = λ i e lt.
          let at_u : slice_get us i ≡ Some (get_or us i e) = slice_get-get_or us i e lt in
          let h = zip-right SameTable ts us i (get_or us i e) same at_u in
          table-holds c cells h.0 (get_or us i e) h.2 (All-slice_get (HoldsTable c cells) ts i h.0 stands.tables h.1);
      numbers = stands.numbers;
      readable = λ i e lt.
          let u = get_or us i e in
          let at_u : slice_get us i ≡ Some u = slice_get-get_or us i e lt in
          let h = zip-right SameTable ts us i u same at_u in
          let own = All-slice_get (IsReadable b.odd) ts i h.0 stands.readable h.1 in
          let entries = entries-table b.odd h.0 u h.2 in
          subst (λ o. IsReadable o u) (sym odd) (record {
            formed = ap table_is_formed h.2.0 ∙ own.formed;
            numbers = subst HaveNumbers (sym entries) own.numbers;
            order = ap (λ (n : TableName). has_order n.kind (entries_by_part b.odd u)) h.2.0 ∙ ap (has_order h.0.name.kind) entries ∙ own.order;
          });
      lists =
          stands.lists
          ∙ sym ((λ i. map (λ n. entries-node b.odd n ts us same i) (range_with_len 0 b.nodes)) ∙ refl)
          ∙ ap (λ n. entries_seen b.odd us n) (sym nodes) ∙ ap (λ o. entries_seen o us d.nodes) (sym odd);
      index = index;
    }
