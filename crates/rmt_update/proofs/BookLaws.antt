-- A book of the cells that a configuration lists stands for them, with the entries that they spell.
use Rattle.std.proofs.Common.{◌≡◌, ℕ, ◌<◌, ◌==◌, List, [], ◌∷◌, get_or, length, map, Bool, true, false, cond, Option, Some, option_map, unwrap_or, refl, sym, ap, ◌∙◌, subst}
use Rattle.std.specs.Prelude.{All, IfSome, None, find}
use Rattle.std.specs.List.{AllZip, list_all, range_with_len}
use Rattle.std.proofs.lemmas.Bool.{and_parts}
use Rattle.std.proofs.lemmas.List.Elements.{All-cons, All-head, All-nil, All-tail}
use Rattle.rmt_bits.proofs.FunctionLaws.{funext}
use Rattle.rmt_ast.specs.declared.entry.Entry.{Entry}
use Rattle.rmt_ast.specs.declared.names.Names.{Names}
use Rattle.rmt_ast.specs.declared.names.TableName.{TableName}
use Rattle.rmt_ast.specs.NameRules.{has_fields, table_is_formed}
use Rattle.rmt_ast.specs.Naming.{has_key}
use Rattle.rmt_config.specs.declared.config.Config.{Config}
use Rattle.rmt_config.specs.Form.{Formed, names_are_fit, visible_with}
use Rattle.rmt_config.specs.NamesForm.{by_number, entries_by_cell, entries_of_node, entries_spelled, has_entries, has_key_bits, has_order, has_parts, has_rows, is_filled_so, is_made_so, names_fit, node_count_of, stands_in_candidates}
use Rattle.rmt_config.specs.Rooms.{PartAt, parts_of}
use Rattle.rmt_config.specs.RunCells.{own_cells}
use Rattle.rmt_config.proofs.SpelledParts.{parts-stand}
use Rattle.rmt_config.proofs.SpelledWays.{parts-follow}
use Rattle.rmt_update.specs.declared.book.Book.{Book}
use Rattle.rmt_update.specs.declared.book.book_index.BookIndex.{BookIndex}
use Rattle.rmt_book.specs.declared.table.PartCells.{PartCells}
use Rattle.rmt_book.specs.declared.table.TableCells.{TableCells}
use Rattle.rmt_update.specs.BookIndex.{IsBookIndex}
use Rattle.rmt_update.specs.BookStands.{BookStands, HoldsPart, HoldsTable}
use Rattle.rmt_book.specs.Listed.{IsListed, IsTable}
use Rattle.rmt_book.specs.Seen.{HaveNumbers, IsReadable, entries_at, entries_by_part, entries_seen}
use Rattle.rmt_update.proofs.ListedNumbers.{entries-have}
use Rattle.rmt_update.proofs.OwnNumbers.{own-numbers}
use Rattle.rmt_update.proofs.PartHoldLaws.{part-holds}
use Rattle.rmt_book.proofs.ToldEntryLaws.{PartFacts, all-facts, parts-told}
use Rattle.rmt_config.proofs.LayoutLaws.{memory_formed}

-- ---- what the rules say of tables

-- of the name of a table alone
pub record NameFacts (t : TableName) : Type 0 where
  pub key : has_key t.kind ≡ true
  pub fields : has_fields t.kind t.keys ≡ true

pub name-facts : (t : TableName) → table_is_formed t ≡ true → NameFacts t
name-facts t formed =
    let four = and_parts _ _ (and_parts _ _ (and_parts _ _ (and_parts _ _ formed).0).0).0 in
    record { key = (and_parts _ _ (and_parts _ _ (and_parts _ _ four.0).0).0).0; fields = four.1 }

pub record TableFacts (c : Config) (t : TableName) : Type 0 where
  pub formed : table_is_formed t ≡ true
  pub parts : has_parts c t ≡ true
  pub bits : has_key_bits c t ≡ true
  pub entries : has_entries c t ≡ true
  pub rows : has_rows c t.kind t ≡ true

tables-by : (c : Config) (ts : List TableName) → list_all table_is_formed ts ≡ true → list_all (has_parts c) ts ≡ true → list_all (is_made_so c) ts ≡ true → list_all (is_filled_so c) ts ≡ true
    → All (TableFacts c) ts
tables-by c [] formed parts made filled = All-nil (TableFacts c)
tables-by c (t ∷ ts) formed parts made filled =
    let one = and_parts (table_is_formed t) (list_all table_is_formed ts) formed in
    let two = and_parts (has_parts c t) (list_all (has_parts c) ts) parts in
    let three = and_parts (is_made_so c t) (list_all (is_made_so c) ts) made in
    let four = and_parts (is_filled_so c t) (list_all (is_filled_so c) ts) filled in
    All-cons (TableFacts c) t ts (record { formed = one.0; parts = two.0; bits = (and_parts _ _ (and_parts _ _ three.0).0).0; entries = (and_parts _ _ four.0).1; rows = (and_parts _ _ three.0).1 })
    (tables-by c ts one.1 two.1 three.1 four.1)

pub names-fit : (c : Config) (names : Names) → Formed c → c.names ≡ Some names → names_fit c names ≡ true
names-fit c names formed named = subst (λ (o : Option Names). names_are_fit c o ≡ true) named formed.whole.names

pub table-facts : (c : Config) (names : Names) → Formed c → c.names ≡ Some names → All (TableFacts c) names.tables
table-facts c names formed named =
    let fit = names-fit c names formed named in
    let made = and_parts _ _ (and_parts _ _ fit).0 in
    let those = and_parts _ _ made.0 in
    let alone = and_parts _ _ (and_parts _ _ those.0).0 in
    tables-by c names.tables (and_parts _ _ alone.0).1 (and_parts _ _ those.1).0 made.1 (and_parts _ _ fit).1

pub named-facts : (c : Config) (names : Names) → Formed c → c.names ≡ Some names → (i : ℕ) (t : TableName) → i < length names.tables → t ≡ get_or names.tables i t → TableFacts c t
named-facts c names formed named i t lt at = subst (TableFacts c) (sym at) (table-facts c names formed named i t lt)

-- ---- one table

module _ (c : Config) (formed : Formed c) (named : visible_with c.names ≡ 3) (t : TableName) (facts : TableFacts c t) where
  part-facts : All (PartFacts c t) (parts_of c t.node)
  part-facts = all-facts c t (parts_of c t.node) (parts-stand c t.node formed.items (memory_formed c formed)) (parts-follow c t.node (memory_formed c formed))
      (and_parts _ _ facts.parts).1 facts.bits

  parts-hold : (ps : List PartAt) (xs : List PartCells) → AllZip (IsListed c t) ps xs → All (PartFacts c t) ps → list_all (stands_in_candidates c) ps ≡ true → AllZip (HoldsPart (own_cells c)) ps xs
  parts-hold [] [] zip all fit = tt
  parts-hold [] (x ∷ xs) zip all fit = absurd zip
  parts-hold (p ∷ ps) [] zip all fit = absurd zip
  parts-hold (p ∷ ps) (x ∷ xs) zip all fit =
      let both = and_parts (stands_in_candidates c p) (list_all (stands_in_candidates c) ps) fit in
      (part-holds c t p (All-head (PartFacts c t) p ps all).stands named both.0 x zip.0, parts-hold ps xs zip.1 (All-tail (PartFacts c t) p ps all) both.1)

  table-holds : (x : TableCells) → IsTable c t x → HoldsTable c (own_cells c) x
  table-holds x h =
      subst (λ (n : TableName). AllZip (HoldsPart (own_cells c)) (parts_of c n.node) x.parts.items) (sym h.name) (parts-hold (parts_of c t.node) x.parts.items h.parts part-facts (and_parts _ _ facts.entries).1)

  table-told : (x : TableCells) → IsTable c t x → entries_by_part false x ≡ entries_by_cell c t
  table-told x h =
      ap (λ (n : TableName). entries_by_part false (record { name = n; parts = x.parts })) h.name
      ∙ parts-told c t named (parts_of c t.node) x.parts.items h.parts part-facts

  table-readable : (x : TableCells) → IsTable c t x → IsReadable false x
  table-readable x h = record {
    formed = ap table_is_formed h.name ∙ facts.formed;
    numbers = subst HaveNumbers (sym (table-told x h)) (entries-have c t formed.whole.numbers);
    order = ap (λ (n : TableName). has_order n.kind (entries_by_part false x)) h.name ∙ ap (has_order t.kind) (table-told x h) ∙ (and_parts _ _ (and_parts _ _ facts.entries).0).1;
  }

-- ---- all tables

module _ (c : Config) (formed : Formed c) (named : visible_with c.names ≡ 3) where
  all-hold : (ts : List TableName) (xs : List TableCells) → AllZip (IsTable c) ts xs → All (TableFacts c) ts → All (HoldsTable c (own_cells c)) xs
  all-hold [] [] zip all = All-nil (HoldsTable c (own_cells c))
  all-hold [] (x ∷ xs) zip all = absurd zip
  all-hold (t ∷ ts) [] zip all = absurd zip
  all-hold (t ∷ ts) (x ∷ xs) zip all =
      All-cons (HoldsTable c (own_cells c)) x xs (table-holds c formed named t (All-head (TableFacts c) t ts all) x zip.0) (all-hold ts xs zip.1 (All-tail (TableFacts c) t ts all))

  all-readable : (ts : List TableName) (xs : List TableCells) → AllZip (IsTable c) ts xs → All (TableFacts c) ts → All (IsReadable false) xs
  all-readable [] [] zip all = All-nil (IsReadable false)
  all-readable [] (x ∷ xs) zip all = absurd zip
  all-readable (t ∷ ts) [] zip all = absurd zip
  all-readable (t ∷ ts) (x ∷ xs) zip all =
      All-cons (IsReadable false) x xs (table-readable c formed named t (All-head (TableFacts c) t ts all) x zip.0) (all-readable ts xs zip.1 (All-tail (TableFacts c) t ts all))

  -- the table of a node has the entries that it spells
  node-told : (ts : List TableName) (xs : List TableCells) (node : ℕ) → AllZip (IsTable c) ts xs → All (TableFacts c) ts
      → unwrap_or (option_map (λ (t : TableName). by_number (entries_by_cell c t)) (find (λ (t : TableName). t.node == node) ts)) [] ≡ entries_at false xs node
  node-told [] [] node zip all = refl
  node-told [] (x ∷ xs) node zip all = absurd zip
  node-told (t ∷ ts) [] node zip all = absurd zip
  node-told (t ∷ ts) (x ∷ xs) node zip all =
      by (t.node == node) (find (λ (t : TableName). t.node == node) ts) (find (λ (y : TableCells). y.name.node == node) xs) (node-told ts xs node zip.1 (All-tail (TableFacts c) t ts all))
      ∙ ap (λ b. spell_seen (cond b (Some x) (find (λ (y : TableCells). y.name.node == node) xs))) (sym (ap (λ (n : TableName). n.node == node) zip.0.name))
    where
      spell : Option TableName → List Entry
      spell o = unwrap_or (option_map (λ (t : TableName). by_number (entries_by_cell c t)) o) []

      spell_seen : Option TableCells → List Entry
      spell_seen o = unwrap_or (option_map (λ (y : TableCells). by_number (entries_by_part false y)) o) []

      by : (b : Bool) (o : Option TableName) (q : Option TableCells) → spell o ≡ spell_seen q → spell (cond b (Some t) o) ≡ spell_seen (cond b (Some x) q)
      by true o q rest = ap by_number (sym (table-told c formed named t (All-head (TableFacts c) t ts all) x zip.0))
      by false o q rest = rest

names-of : (c : Config) (ts : List TableName) (xs : List TableCells) → AllZip (IsTable c) ts xs → ts ≡ map (λ (x : TableCells). x.name) xs
names-of c [] [] zip = refl
names-of c [] (x ∷ xs) zip = absurd zip
names-of c (t ∷ ts) [] zip = absurd zip
names-of c (t ∷ ts) (x ∷ xs) zip = ap (λ n. n ∷ ts) (sym zip.0.name) ∙ ap (λ ns. x.name ∷ ns) (names-of c ts xs zip.1)

-- ---- the book

pub stands-at-first : (c : Config) (names : Names) (b : Book) → Formed c → c.names ≡ Some names → AllZip (IsTable c) names.tables b.tables.items → b.odd ≡ false → b.seed ≡ c.seed
    → b.nodes ≡ node_count_of c → b.index ≡ None → BookStands c (own_cells c) (entries_spelled c names) b
stands-at-first c names b formed named zip odd seed nodes index =
    let three : visible_with c.names ≡ 3 = ap visible_with named in
    let all = table-facts c names formed named in
    record {
      formed = formed;
      names = named ∙ ap (λ (ts : List TableName). Some (record { tables = ts })) (names-of c names.tables b.tables.items zip);
      version = odd;
      seed = seed;
      tables = all-hold c formed three names.tables b.tables.items zip all;
      numbers = own-numbers c (memory_formed c formed) formed.whole.numbers;
      readable = subst (λ o. All (IsReadable o) b.tables.items) (sym odd) (all-readable c formed three names.tables b.tables.items zip all);
      lists =
          ap (λ (f : ℕ → List Entry). map f (range_with_len 0 (node_count_of c)))
          (funext (entries_of_node c names) (entries_at false b.tables.items) (λ node. node-told c formed three names.tables b.tables.items node zip all))
          ∙ ap (λ n. map (entries_at false b.tables.items) (range_with_len 0 n)) (sym nodes)
          ∙ ap (λ o. entries_seen o b.tables.items b.nodes) (sym odd);
      index = subst (λ (o : Option BookIndex). IfSome o (IsBookIndex b.odd b.tables.items)) (sym index) tt;
    }
