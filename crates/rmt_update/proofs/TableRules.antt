-- What the rules say of the tables of a book, and of the entries of each.
use Rattle.std.proofs.Common.{◌≡◌, ℕ, ◌+◌, ◌*◌, ◌<◌, ◌≤◌, ◌==◌, Bool, true, false, cond, List, [], ◌∷◌, get_or, length, map, sum, Option, Some, None, option_map, refl, sym, ap, ◌∙◌, subst, inl, inr, arith}
use Rattle.std.specs.Prelude.{All, IsSomeAnd, find, nat_le, slice_get, unwrap_or}
use Rattle.std.specs.List.{AllZip, range_with_len}
use Rattle.std.proofs.lemmas.Bool.{and_parts, eqb-true, leb-true}
use Rattle.std.proofs.lemmas.List.Elements.{All-head, All-tail}
use Rattle.std.proofs.lemmas.List.Sums.{sum_by-cons}
use Rattle.rmt_bits.proofs.AllLaws.{All-find, All-unmap}
use Rattle.rmt_bits.proofs.ListLaws.{find-passes, slice_get-item}
use Rattle.rmt_ast.specs.declared.entry.Entry.{Entry}
use Rattle.rmt_ast.specs.declared.names.Names.{Names}
use Rattle.rmt_ast.specs.declared.names.TableName.{TableName}
use Rattle.rmt_ast.specs.declared.program.Kind.{Kind}
use Rattle.rmt_ast.specs.declared.program.Kind.TheVariants as kind
use Rattle.rmt_ast.specs.Changes.{list_of}
use Rattle.rmt_ast.specs.EntryLists.{AreEntriesAt, Terms}
use Rattle.rmt_ast.specs.NameRules.{AreEntriesOf, terms_named, terms_of_name}
use Rattle.rmt_config.specs.declared.config.Config.{Config}
use Rattle.rmt_config.specs.declared.config.Memory.{Memory}
use Rattle.rmt_config.specs.declared.config.SlotUnit.{SlotUnit}
use Rattle.rmt_config.specs.declared.config.Memory.TheVariants.{Without, Exact, Ternary}
use Rattle.rmt_config.specs.Cells.{candidates, cells_in}
use Rattle.rmt_config.specs.LaneForm.{bits_of_lanes}
use Rattle.rmt_config.specs.NamesForm.{has_rows, is_of_kind, quanta_of}
use Rattle.rmt_config.specs.Rooms.{PartAt, parts_of}
use Rattle.rmt_config.specs.UnitForm.{memory_is_formed, slot_head_is_formed}
use Rattle.rmt_config.proofs.SlotLaws.{exact-fits, slot_is_short}
use Rattle.rmt_config.proofs.SpelledParts.{parts-stand}
use Rattle.rmt_config.proofs.SpelledWays.{parts-follow}
use Rattle.rmt_pack.proofs.RankLaws.{IsRowKind}
use Rattle.rmt_book.specs.declared.table.TableCells.{TableCells}
use Rattle.rmt_update.specs.Loads.{AreTables, HasShape, HaveShapes, table_of}
use Rattle.rmt_update.proofs.BookLaws.{TableFacts, table-facts}
use Rattle.rmt_update.proofs.PartNumbers.{SlotsFrom, parts-numbered}
use Rattle.rmt_update.proofs.PartOrder.{IsPartOf, parts-own}
use Rattle.rmt_update.proofs.RoomNumbers.{HasRows, IsRows, slice_get-map_range, total}
use Rattle.rmt_book.proofs.ToldEntryLaws.{PartFacts, all-facts}
use Rattle.rmt_config.proofs.LayoutLaws.{memory_formed}

-- ---- the table of a node

-- tables are found by their names as by themselves
find-named : (node : ℕ) (xs : List TableCells) → find (λ (t : TableName). t.node == node) (map (λ (x : TableCells). x.name) xs) ≡ option_map (λ (x : TableCells). x.name) (table_of xs node)
find-named node [] = refl
find-named node (x ∷ xs) = by (x.name.node == node) (find-named node xs)
  where
    by : (b : Bool) → find (λ (t : TableName). t.node == node) (map (λ (x : TableCells). x.name) xs) ≡ option_map (λ (x : TableCells). x.name) (table_of xs node)
        → cond b (Some x.name) (find (λ (t : TableName). t.node == node) (map (λ (x : TableCells). x.name) xs)) ≡ option_map (λ (x : TableCells). x.name) (cond b (Some x) (table_of xs node))
    by true e = refl
    by false e = e

pub terms-found : (c : Config) (names : Names) (tables : List TableCells) (node : ℕ) → AreTables c names tables
    → terms_named names node ≡ option_map (λ (x : TableCells). terms_of_name x.name) (table_of tables node)
terms-found c names tables node are =
    ap (λ ts. option_map terms_of_name (find (λ (t : TableName). t.node == node) ts)) are.same ∙ ap (option_map terms_of_name) (find-named node tables) ∙ twice (table_of tables node)
  where
    twice : (o : Option TableCells) → option_map terms_of_name (option_map (λ (x : TableCells). x.name) o) ≡ option_map (λ (x : TableCells). terms_of_name x.name) o
    twice None = refl
    twice (Some x) = refl

-- the entries of a node
pub entries-at : (names : Names) (lists : List (List Entry)) (node : ℕ) → AreEntriesOf names lists → node < length lists → AreEntriesAt node (list_of lists node) (terms_named names node)
entries-at names lists node are lt =
    let one = slice_get-item lists node lt in
    let own : list_of lists node ≡ one.0 = ap (λ (o : Option (List Entry)). unwrap_or o []) one.1 in
    let none : 0 + node ≡ node = omega arith in
    let terms : slice_get (map (terms_named names) (range_with_len 0 (length lists))) node ≡ Some (terms_named names node) =
    slice_get-map_range (terms_named names) 0 (length lists) node lt ∙ ap (λ n. Some (terms_named names n)) none in
    subst (λ es. AreEntriesAt node es (terms_named names node)) (sym own)
    (subst (λ (o : Option (Option Terms)). IsSomeAnd o (AreEntriesAt node one.0)) terms (are.entries.each node one.0 one.1))

-- ---- one table

-- what is known of the table of a node, and of its entries
pub record Own (c : Config) (names : Names) (lists : List (List Entry)) (node : ℕ) (x : TableCells) : Type 0 where
  pub facts : TableFacts c x.name
  pub parts : All (PartFacts c x.name) (parts_of c node)
  pub shapes : AllZip HasShape (parts_of c node) x.parts.items
  pub follow : SlotsFrom 0 (map (λ (p : PartAt). p.slot) (parts_of c node))
  pub own : All (IsPartOf c node) (parts_of c node)
  pub terms : terms_named names node ≡ Some (terms_of_name x.name)
  pub some : 1 ≤ length (parts_of c node)
  pub rows : has_rows c x.name.kind x.name ≡ true
  pub node_is : x.name.node ≡ node

pub own-table : (c : Config) (names : Names) (tables : List TableCells) (lists : List (List Entry)) (node : ℕ) (x : TableCells) → AreTables c names tables → table_of tables node ≡ Some x → Own c names lists node x
own-table c names tables lists node x are found =
    let memory = memory_formed c are.formed in
    let all = All-unmap (TableFacts c) (λ (y : TableCells). y.name) tables (subst (All (TableFacts c)) are.same (table-facts c names are.formed are.named)) in
    let facts = All-find (λ (y : TableCells). TableFacts c y.name) (λ (y : TableCells). y.name.node == node) tables x all found in
    let same : x.name.node ≡ node = eqb-true x.name.node node (find-passes (λ (y : TableCells). y.name.node == node) tables x found) in
    let has = and_parts _ _ facts.parts in
    record {
      facts = facts;
      parts = subst (λ n. All (PartFacts c x.name) (parts_of c n)) same
          (all-facts c x.name (parts_of c x.name.node) (parts-stand c x.name.node are.formed.items memory) (parts-follow c x.name.node memory) has.1 facts.bits);
      shapes = subst (λ n. AllZip HasShape (parts_of c n) x.parts.items) same (All-find (HaveShapes c) (λ (y : TableCells). y.name.node == node) tables x are.shapes found);
      follow = parts-numbered c node memory;
      own = parts-own c node are.formed.items memory;
      terms = terms-found c names tables node are ∙ ap (option_map (λ (y : TableCells). terms_of_name y.name)) found;
      some = subst (λ n. 1 ≤ length (parts_of c n)) same (leb-true 1 (length (parts_of c x.name.node)) has.0);
      rows = facts.rows;
      node_is = same;
    }

-- the parts of prefix and ternary tables have rows
pub rows-of : (k : Kind) (m : Memory) → IsRowKind k → is_of_kind k m ≡ true → (((seed bits key : ℕ) → candidates seed bits m key ≡ range_with_len 0 (cells_in m)) × (cells_in m ≡ 2048 * quanta_of m))
rows-of k Without rowed is = absurd (without k rowed is)
  where
    without : (k : Kind) → IsRowKind k → is_of_kind k Without ≡ true → ⊥
    without kind.Keyless r e = absurd cc
    without kind.Exact r e = absurd cc
    without kind.Prefix r e = absurd cc
    without kind.Ternary r e = absurd cc
rows-of k (Exact w p d first ks rs cs) rowed is = absurd (exact k rowed is)
  where
    exact : (k : Kind) → IsRowKind k → is_of_kind k (Exact w p d first ks rs cs) ≡ true → ⊥
    exact kind.Keyless r e = absurd cc
    exact kind.Exact (inl r) e = absurd cc
    exact kind.Exact (inr r) e = absurd cc
    exact kind.Prefix r e = absurd cc
    exact kind.Ternary r e = absurd cc
rows-of k (Ternary d ks rs cs) rowed is = ((λ seed bits key. refl), refl)

module _ (c : Config) (names : Names) (lists : List (List Entry)) (node : ℕ) (x : TableCells) (h : Own c names lists node x) where
  -- a key has few bits
  pub few-bits : sum x.name.keys ≤ 640
  few-bits = first (parts_of c node) h.some h.parts
    where
      first : (ps : List PartAt) → 1 ≤ length ps → All (PartFacts c x.name) ps → sum x.name.keys ≤ 640
      first [] some all = absurd (omega (arith, some))
      first (p ∷ ps) some all =
          let f = All-head (PartFacts c x.name) p ps all in
          let same = f.bits in
          let short = slot_is_short p.slot f.stands.slot in
          omega (arith, same, short)

  pub all-bits : All (λ (p : PartAt). bits_of_lanes p.slot.keys ≡ sum x.name.keys) (parts_of c node)
  all-bits i d lt = sym (h.parts i d lt).bits

  part-rows : (s : SlotUnit) (m : Memory) → slot_head_is_formed s ≡ true → memory_is_formed s m ≡ true → HasRows m
  part-rows s Without head formed = tt
  part-rows s (Exact k p d w ks rs cs) head formed = let some = (exact-fits s k p d w ks rs cs head formed).some_d in omega (arith, some)
  part-rows s (Ternary d ks rs cs) head formed = tt

  pub all-rows : All (λ (p : PartAt). HasRows p.slot.memory) (parts_of c node)
  all-rows i d lt =
      let p = get_or (parts_of c node) i d in
      let both = and_parts (slot_head_is_formed p.slot) (memory_is_formed p.slot p.slot.memory) (h.parts i d lt).stands.slot in
      part-rows p.slot p.slot.memory both.0 both.1

  -- the parts of an exact table are exact
  pub exact-parts : x.name.kind ≡ kind.Exact → All (λ (p : PartAt). is_of_kind kind.Exact p.slot.memory ≡ true) (parts_of c node)
  exact-parts exact i d lt = subst (λ k. is_of_kind k (get_or (parts_of c node) i d).slot.memory ≡ true) exact (h.parts i d lt).kind

  pub row-parts : IsRowKind x.name.kind → All IsRows (parts_of c node)
  row-parts rowed i d lt = (rows-of x.name.kind (get_or (parts_of c node) i d).slot.memory rowed (h.parts i d lt).kind).0

  total-of : (ps : List PartAt) → IsRowKind x.name.kind → All (PartFacts c x.name) ps → total ps ≡ 2048 * sum (map (λ (p : PartAt). quanta_of p.slot.memory) ps)
  total-of [] rowed all = refl
  total-of (p ∷ ps) rowed all =
      let here = (rows-of x.name.kind p.slot.memory rowed (All-head (PartFacts c x.name) p ps all).kind).1 in
      let rest = total-of ps rowed (All-tail (PartFacts c x.name) p ps all) in
      let more : sum (map (λ (q : PartAt). quanta_of q.slot.memory) (p ∷ ps)) ≡ quanta_of p.slot.memory + sum (map (λ (q : PartAt). quanta_of q.slot.memory) ps) =
      sum_by-cons (λ n. n) (quanta_of p.slot.memory) (map (λ (q : PartAt). quanta_of q.slot.memory) ps) in
      omega (arith, here, rest, more)

  -- and as many as entries may be
  pub rows-suffice : IsRowKind x.name.kind → x.name.size ≤ total (parts_of c node)
  rows-suffice rowed = let le = by x.name.kind rowed h.rows in let same = total-of (parts_of c node) rowed h.parts in omega (arith, le, same)
    where
      sums : ℕ
      sums = sum (map (λ (p : PartAt). quanta_of p.slot.memory) (parts_of c node))

      here : has_rows c kind.Prefix x.name ≡ true → x.name.size ≤ 2048 * sums
      here e = leb-true x.name.size (2048 * sums) (subst (λ n. nat_le x.name.size (2048 * sum (map (λ (p : PartAt). quanta_of p.slot.memory) (parts_of c n))) ≡ true) h.node_is e)

      by : (k : Kind) → IsRowKind k → has_rows c k x.name ≡ true → x.name.size ≤ 2048 * sums
      by k (inl is) e = here (subst (λ j. has_rows c j x.name ≡ true) is e)
      by k (inr is) e = here (subst (λ j. has_rows c j x.name ≡ true) is e)
