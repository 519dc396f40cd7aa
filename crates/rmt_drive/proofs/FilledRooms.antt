-- Where each entry has a cell that the current version sees, the entries are a loading under the current seed: exact ones in their cells, and prefix and ternary ones in rows
-- without a gap, of which there are enough.
use Rattle.std.proofs.Common.{◌≡◌, ◌≢◌, ◌⊎◌, inl, inr, ℕ, ◌+◌, ◌*◌, ◌≤◌, ◌==◌, true, false, List, [], ◌∷◌, get_or, map, sum, Option, Some, None, option_map, unwrap_or, sym, refl, ap, ◌∙◌, subst, arith}
use Rattle.std.specs.Prelude.{All, AllPairs, Contains, IsSomeAnd, find, nat_le, slice_get}
use Rattle.std.specs.List.{AllZip}
use Rattle.std.proofs.lemmas.Bool.{and_parts, cases_eq, cases_lt, eqb-true, false≢true, false_from_ne_true, leb-true}
use Rattle.std.proofs.lemmas.List.Elements.{All-contains, All-head, All-tail}
use Rattle.std.proofs.lemmas.List.Sums.{sum_by-cons}
use Rattle.std.proofs.lemmas.Option.{none-some, same_Some, slice_get_within}
use Rattle.rmt_bits.proofs.AllLaws.{All-find, All-slice_get}
use Rattle.rmt_bits.proofs.ListLaws.{find-passes}
use Rattle.rmt_bits.proofs.MemberLaws.{Contains-first, Contains-later, Contains-unmap, flat_from, from_flat_map}
use Rattle.rmt_pack.proofs.EntryLaws.{AllPairs-unmap}
use Rattle.rmt_pack.proofs.RankLaws.{IsRowKind}
use Rattle.rmt_config.proofs.LayoutLaws.{memory_formed}
use Rattle.rmt_ast.specs.declared.entry.Entry.{Entry}
use Rattle.rmt_ast.specs.declared.names.Names.{Names}
use Rattle.rmt_ast.specs.declared.names.TableName.{TableName}
use Rattle.rmt_ast.specs.declared.program.Kind.{Kind}
use Rattle.rmt_ast.specs.declared.program.Kind.TheVariants as kind
use Rattle.rmt_ast.specs.Changes.{list_of}
use Rattle.rmt_ast.specs.Naming.{has_key}
use Rattle.rmt_ast.specs.WellFormed.{AreDistinct}
use Rattle.rmt_ast.specs.EntryLists.{AreEntriesAt, AreTableEntries, IsEntry, Terms}
use Rattle.rmt_ast.specs.NameRules.{AreEntriesOf, table_is_formed, terms_named, terms_of_name}
use Rattle.rmt_config.specs.declared.config.Config.{Config}
use Rattle.rmt_config.specs.Cells.{candidates}
use Rattle.rmt_config.specs.Commits.{AreFilled, IsFilled, Placed, all_entries}
use Rattle.rmt_config.specs.Form.{Formed}
use Rattle.rmt_config.specs.LaneForm.{bits_of_lanes}
use Rattle.rmt_config.specs.NamesForm.{has_rows, quanta_of}
use Rattle.rmt_config.specs.Rooms.{PartAt, Room, is_same, key_number, number_in, parts_of, rooms_for}
use Rattle.rmt_config.specs.RunCells.{RunCells}
use Rattle.rmt_config.proofs.SpelledParts.{parts-stand}
use Rattle.rmt_config.proofs.SpelledWays.{parts-follow}
use Rattle.rmt_update.proofs.BookLaws.{TableFacts, table-facts}
use Rattle.rmt_update.proofs.FirstLaws.{firsts, firsts-differ, firsts-within}
use Rattle.rmt_update.proofs.OncePlaced.{all-numbers}
use Rattle.rmt_update.proofs.PartOrder.{IsPartOf, nodes-apart, parts-own, rooms-apart, same-as}
use Rattle.rmt_update.proofs.PlacedLaws.{zip-pairs}
use Rattle.rmt_update.proofs.RoomNumbers.{IsNumber, IsRows, RowAt, row-at, total}
use Rattle.rmt_update.proofs.TableRules.{entries-at, rows-of}
use Rattle.rmt_book.proofs.ToldEntryLaws.{PartFacts, all-facts}
use Rattle.rmt_update.proofs.ZipLaws.{zip-all-right, zip-gives}
use Rattle.rmt_drive.proofs.HeldCells.{EachHasCell, HasCell}

-- ---- lists

chosen : {X Y : Type 0} (R : X → Y → Type 0) (xs : List X) → ((x : X) → Contains xs x → (y : Y) × R x y) → (ys : List Y) × AllZip R xs ys
chosen R [] each = ([], tt)
chosen R (x ∷ xs) each =
    let one = each x (Contains-first x xs) in
    let rest = chosen R xs (λ z there. each z (Contains-later x xs z there)) in
    (one.0 ∷ rest.0, (one.1, rest.1))

mapped : {X Y : Type 0} (f : Y → X) (xs : List X) (ys : List Y) → AllZip (λ x y. f y ≡ x) xs ys → map f ys ≡ xs
mapped f [] [] zip = refl
mapped f [] (y ∷ ys) zip = absurd zip
mapped f (x ∷ xs) [] zip = absurd zip
mapped f (x ∷ xs) (y ∷ ys) zip = λ i. zip.0 i ∷ mapped f xs ys zip.1 i

-- ---- an entry in the list of its table

record ListedAt (names : Names) (lists : List (List Entry)) (node : ℕ) (e : Entry) : Type 0 where
  terms : Terms
  named : terms_named names node ≡ Some terms
  entries : AreTableEntries node (list_of lists node) terms
  there : Contains (list_of lists node) e

listed : (names : Names) (lists : List (List Entry)) → AreEntriesOf names lists → (e : Entry) → Contains (all_entries lists) e → ListedAt names lists e.table e
listed names lists are e there = by (terms_named names f.0) refl (entries-at names lists f.0 are (slice_get_within lists f.0 f.1 f.2))
  where
    f : (i : ℕ) × (es : List Entry) × (slice_get lists i ≡ Some es) × Contains es e
    f = flat_from (λ (es : List Entry). es) lists e there

    own : list_of lists f.0 ≡ f.1
    own = ap (λ (o : Option (List Entry)). unwrap_or o []) f.2

    in_list : Contains (list_of lists f.0) e
    in_list = subst (λ es. Contains es e) (sym own) f.3

    by : (o : Option Terms) → terms_named names f.0 ≡ o → AreEntriesAt f.0 (list_of lists f.0) o → ListedAt names lists e.table e
    by None named none = let lt = (subst (λ es. Contains es e) none in_list).1 in absurd (omega (arith, lt))
    by (Some t) named some =
        subst (λ n. ListedAt names lists n e) (sym (All-contains (IsEntry f.0 t) (list_of lists f.0) e some.each in_list).table)
        (record { terms = t; named = named; entries = some; there = in_list })

-- ---- the table of a node

record Table (c : Config) (names : Names) (node : ℕ) (t : Terms) : Type 0 where
  name : TableName
  facts : TableFacts c name
  terms : terms_of_name name ≡ t
  node_is : name.node ≡ node
  parts : All (PartFacts c name) (parts_of c node)

table_of : (c : Config) (names : Names) → Formed c → c.names ≡ Some names → (node : ℕ) (t : Terms) → terms_named names node ≡ Some t → Table c names node t
table_of c names formed named node t told = by (find (λ (x : TableName). x.node == node) names.tables) refl told
  where
    by : (o : Option TableName) → find (λ (x : TableName). x.node == node) names.tables ≡ o → option_map terms_of_name o ≡ Some t → Table c names node t
    by None is h = absurd (none-some t h)
    by (Some x) is h =
        let facts = All-find (TableFacts c) (λ (y : TableName). y.node == node) names.tables x (table-facts c names formed named) is in
        let same : x.node ≡ node = eqb-true x.node node (find-passes (λ (y : TableName). y.node == node) names.tables x is) in
        let memory = memory_formed c formed in
        record {
          name = x;
          facts = facts;
          terms = same_Some (terms_of_name x) t h;
          node_is = same;
          parts = subst (λ n. All (PartFacts c x) (parts_of c n)) same
              (all-facts c x (parts_of c x.node) (parts-stand c x.node formed.items memory) (parts-follow c x.node memory) (and_parts _ _ facts.parts).1 facts.bits);
        }

module _ (c : Config) (names : Names) (node : ℕ) (t : Terms) (h : Table c names node t) (rowed : IsRowKind h.name.kind) where
  row_parts : All IsRows (parts_of c node)
  row_parts i d lt = (rows-of h.name.kind (get_or (parts_of c node) i d).slot.memory rowed (h.parts i d lt).kind).0

  total_of : (ps : List PartAt) → All (PartFacts c h.name) ps → total ps ≡ 2048 * sum (map (λ (p : PartAt). quanta_of p.slot.memory) ps)
  total_of [] all = refl
  total_of (p ∷ ps) all =
      let here = (rows-of h.name.kind p.slot.memory rowed (All-head (PartFacts c h.name) p ps all).kind).1 in
      let rest = total_of ps (All-tail (PartFacts c h.name) p ps all) in
      let more : sum (map (λ (q : PartAt). quanta_of q.slot.memory) (p ∷ ps)) ≡ quanta_of p.slot.memory + sum (map (λ (q : PartAt). quanta_of q.slot.memory) ps) =
      sum_by-cons (λ n. n) (quanta_of p.slot.memory) (map (λ (q : PartAt). quanta_of q.slot.memory) ps) in
      omega (arith, here, rest, more)

  rows_suffice : t.size ≤ total (parts_of c node)
  rows_suffice = let le = by h.name.kind rowed h.facts.rows in let same = total_of (parts_of c node) h.parts in let size = ap (λ (u : Terms). u.size) h.terms in omega (arith, le, same, size)
    where
      sums : ℕ
      sums = sum (map (λ (p : PartAt). quanta_of p.slot.memory) (parts_of c node))

      here : nat_le h.name.size (2048 * sum (map (λ (p : PartAt). quanta_of p.slot.memory) (parts_of c h.name.node))) ≡ true → h.name.size ≤ 2048 * sums
      here e = leb-true h.name.size (2048 * sums) (subst (λ n. nat_le h.name.size (2048 * sum (map (λ (p : PartAt). quanta_of p.slot.memory) (parts_of c n))) ≡ true) h.node_is e)

      by : (k : Kind) → IsRowKind k → has_rows c k h.name ≡ true → h.name.size ≤ 2048 * sums
      by k (inl is) e = here (subst (λ j. has_rows c j h.name ≡ true) is e)
      by k (inr is) e = here (subst (λ j. has_rows c j h.name ≡ true) is e)

-- a table of names has a key
has_key_of : (t : TableName) → table_is_formed t ≡ true → has_key t.kind ≡ true
has_key_of t h = (and_parts _ _ (and_parts _ _ (and_parts _ _ (and_parts _ _ (and_parts _ _ (and_parts _ _ (and_parts _ _ h).0).0).0).0).0).0).0

keyless_never : (k : Kind) → k ≡ kind.Keyless → has_key k ≡ true → ⊥
keyless_never k is e = false≢true (ap has_key (sym is) ∙ e)

-- ---- rooms

module _ (c : Config) (names : Names) (formed : Formed c) (named : c.names ≡ Some names) (cells : RunCells) (lists : List (List Entry)) (are : AreEntriesOf names lists) where
  abbrev es_of : Entry → List Entry
  es_of e = list_of lists e.table

  -- the row of an entry
  record RowIn (node : ℕ) (k : Kind) (es : List Entry) (e : Entry) (room : Room) : Type 0 where
    i : ℕ
    n : ℕ
    p : PartAt
    is : IsNumber (parts_of c node) (firsts k es e) i n p
    room_is : room ≡ record { part = p; cell = n }

  -- an entry of a row stands in it, and an exact one in a cell that has its number
  abbrev StandsBy : Terms → Entry → Room → Type 0
  StandsBy t e room = (IsRowKind t.kind × RowIn e.table t.kind (es_of e) e room) ⊎ ((t.kind ≡ kind.Exact) × (number_in cells room ≡ e.number))

  record HasRoom (e : Entry) (q : Placed) : Type 0 where
    entry : q.entry ≡ e
    own : ListedAt names lists e.table e
    part : IsPartOf c e.table q.room.part
    filled : IsFilled c cells.seed own.terms own.terms.kind (es_of e) e q.room
    stands : StandsBy own.terms e q.room

  parts_own : (node : ℕ) → All (IsPartOf c node) (parts_of c node)
  parts_own node = parts-own c node formed.items (memory_formed c formed)

  part_of_room : (seed node key : ℕ) (room : Room) → Contains (rooms_for c seed node key) room → IsPartOf c node room.part
  part_of_room seed node key room there =
      let f = from_flat_map (λ (p : PartAt). map (λ n. record { part = p; cell = n }) (candidates seed (bits_of_lanes p.slot.keys) p.slot.memory key)) (parts_of c node) room there in
      let g = Contains-unmap (λ n. record { part = f.0; cell = n }) (candidates seed (bits_of_lanes f.0.slot.keys) f.0.slot.memory key) room f.2 in
      subst (IsPartOf c node) (ap (λ (r : Room). r.part) g.2) (All-contains (IsPartOf c node) (parts_of c node) f.0 (parts_own node) f.1)

  -- a prefix or ternary entry
  row_room : (e : Entry) (own : ListedAt names lists e.table e) → IsRowKind own.terms.kind → (q : Placed) × HasRoom e q
  row_room e own rowed =
      let h = table_of c names formed named e.table own.terms own.named in
      let row : IsRowKind h.name.kind = subst IsRowKind (ap (λ (u : Terms). u.kind) (sym h.terms)) rowed in
      let few = firsts-within own.terms.kind (es_of e) e own.there in
      let size = own.entries.within_size in
      let room = rows_suffice c names e.table own.terms h row in
      stood (row-at cells.seed (key_number own.terms e) (parts_of c e.table) (firsts own.terms.kind (es_of e) e) (row_parts c names e.table own.terms h row) (omega (arith, few, size, room)))
    where
      filled_row : (k : Kind) (room : Room) → IsRowKind k → slice_get (rooms_for c cells.seed e.table (key_number own.terms e)) (firsts k (es_of e) e) ≡ Some room → IsFilled c cells.seed own.terms k (es_of e) e room
      filled_row k room (inl is) at =
          subst (λ j. slice_get (rooms_for c cells.seed e.table (key_number own.terms e)) (firsts j (es_of e) e) ≡ Some room → IsFilled c cells.seed own.terms j (es_of e) e room) (sym is) (λ a. a) at
      filled_row k room (inr is) at =
          subst (λ j. slice_get (rooms_for c cells.seed e.table (key_number own.terms e)) (firsts j (es_of e) e) ≡ Some room → IsFilled c cells.seed own.terms j (es_of e) e room) (sym is) (λ a. a) at

      stood : RowAt cells.seed (key_number own.terms e) (parts_of c e.table) (firsts own.terms.kind (es_of e) e) → (q : Placed) × HasRoom e q
      stood r = (
        record { entry = e; room = record { part = r.p; cell = r.n } },
        record {
          entry = refl;
          own = own;
          part = All-slice_get (IsPartOf c e.table) (parts_of c e.table) r.i r.p (parts_own e.table) r.is.there;
          filled = filled_row own.terms.kind (record { part = r.p; cell = r.n }) rowed r.room;
          stands = inl (rowed, record { i = r.i; n = r.n; p = r.p; is = r.is; room_is = refl });
        },
      )

  -- an exact one
  exact_room : (e : Entry) (own : ListedAt names lists e.table e) → own.terms.kind ≡ kind.Exact → HasCell c names cells e → (q : Placed) × HasRoom e q
  exact_room e own exact h =
      let same : h.terms ≡ own.terms = same_Some h.terms own.terms (sym h.named ∙ own.named) in
      let there : Contains (rooms_for c cells.seed e.table (key_number own.terms e)) h.room = subst (λ (u : Terms). Contains (rooms_for c cells.seed e.table (key_number u e)) h.room) same h.there in (
        record { entry = e; room = h.room },
        record {
          entry = refl;
          own = own;
          part = part_of_room cells.seed e.table (key_number own.terms e) h.room there;
          filled = subst (λ k. IsFilled c cells.seed own.terms k (es_of e) e h.room) (sym exact) there;
          stands = inr (exact, h.number);
        },
      )

  -- no table with entries is without a key
  keyed : (e : Entry) (own : ListedAt names lists e.table e) → own.terms.kind ≡ kind.Keyless → ⊥
  keyed e own none =
      let h = table_of c names formed named e.table own.terms own.named in
      keyless_never h.name.kind (ap (λ (u : Terms). u.kind) h.terms ∙ none) (has_key_of h.name h.facts.formed)

  has_its_room : EachHasCell c names cells lists → (e : Entry) → Contains (all_entries lists) e → (q : Placed) × HasRoom e q
  has_its_room each e there = by own.terms.kind refl
    where
      own : ListedAt names lists e.table e
      own = listed names lists are e there

      by : (k : Kind) → own.terms.kind ≡ k → (q : Placed) × HasRoom e q
      by kind.Keyless is = absurd (keyed e own is)
      by kind.Exact is = exact_room e own is (each e there)
      by kind.Prefix is = row_room e own (inl is)
      by kind.Ternary is = row_room e own (inr is)

  -- ---- no two the same

  same_rooms : (a b : Room) → is_same a b ≡ true → number_in cells a ≡ number_in cells b
  same_rooms a b h = let s = same-as a b h in λ i. cells.number (sym s.stage i) (sym s.place i) (sym s.cell i)

  never_row : (k : Kind) → k ≡ kind.Exact → IsRowKind k → ⊥
  never_row k exact (inl is) = let e : kind.Exact ≡ kind.Prefix = sym exact ∙ is in cc
  never_row k exact (inr is) = let e : kind.Exact ≡ kind.Ternary = sym exact ∙ is in cc

  firsts_apart : (k : Kind) (es : List Entry) (e f : Entry) → IsRowKind k → Contains es e → Contains es f → e.number ≢ f.number → firsts k es e ≡ firsts k es f → ⊥
  firsts_apart k es e f rowed in_e in_f ne same = elim (cases_lt e.number f.number) [
    | inl lt ↦ firsts-differ k es rowed e f in_e in_f lt same
    | inr ge ↦ firsts-differ k es rowed f e in_f in_e (omega (arith, ge, ne)) (sym same)
  ]

  -- two entries of one prefix or ternary table
  rows_apart : (node : ℕ) (k : Kind) (es : List Entry) (e f : Entry) (a b : Room) → IsRowKind k → Contains es e → Contains es f → e.number ≢ f.number → RowIn node k es e a → RowIn node k es f b → is_same a b ≡ false
  rows_apart node k es e f a b rowed in_e in_f ne x y =
      ap (λ r. is_same r b) x.room_is ∙ ap (is_same (record { part = x.p; cell = x.n })) y.room_is
      ∙ rooms-apart c node (firsts k es e) (firsts k es f) x.i y.i x.n y.n x.p y.p x.is y.is (firsts_apart k es e f rowed in_e in_f ne)

  apart_rooms : (e f : Entry) (a b : Placed) → HasRoom e a → HasRoom f b → e.number ≢ f.number → is_same a.room b.room ≡ false
  apart_rooms e f a b x y ne = elim (cases_eq e.table f.table) [
    | inl same ↦ by same x.stands y.stands
    | inr other ↦ nodes-apart c e.table f.table a.room b.room x.part y.part other
  ]
    where
      alike : e.table ≡ f.table → x.own.terms ≡ y.own.terms
      alike same = same_Some x.own.terms y.own.terms (sym x.own.named ∙ ap (terms_named names) same ∙ y.own.named)

      by : e.table ≡ f.table → StandsBy x.own.terms e a.room → StandsBy y.own.terms f b.room → is_same a.room b.room ≡ false
      by same (inr u) (inr v) = false_from_ne_true (is_same a.room b.room) (λ h. ne (sym u.1 ∙ same_rooms a.room b.room h ∙ v.1))
      by same (inl u) (inr v) = absurd (never_row x.own.terms.kind (ap (λ (t : Terms). t.kind) (alike same) ∙ v.0) u.0)
      by same (inr u) (inl v) = absurd (never_row y.own.terms.kind (ap (λ (t : Terms). t.kind) (sym (alike same)) ∙ u.0) v.0)
      by same (inl u) (inl v) =
          rows_apart e.table x.own.terms.kind (es_of e) e f a.room b.room u.0 x.own.there (subst (λ n. Contains (list_of lists n) f) (sym same) y.own.there) ne u.1
          (subst (λ n. RowIn n x.own.terms.kind (list_of lists n) f b.room) (sym same)
          (subst (λ k. RowIn f.table k (list_of lists f.table) f b.room) (ap (λ (t : Terms). t.kind) (sym (alike same))) v.1))

  -- ---- all of them

  module _ (each : EachHasCell c names cells lists) where
    choice : (placed : List Placed) × AllZip HasRoom (all_entries lists) placed
    choice = chosen HasRoom (all_entries lists) (has_its_room each)

    numbers_apart : AllPairs (λ (e f : Entry). e.number ≢ f.number) (all_entries lists)
    numbers_apart = AllPairs-unmap ◌≢◌ (λ (e : Entry). e.number) (all_entries lists) (subst AreDistinct (sym (all-numbers lists)) are.entries.numbers_once)

    abbrev IsIn : Placed → Type 0
    IsIn q = IsSomeAnd (terms_named names q.entry.table) (λ t. IsFilled c cells.seed t t.kind (list_of lists q.entry.table) q.entry q.room)

    is_in : (e : Entry) (q : Placed) → HasRoom e q → IsIn q
    is_in e q h =
        subst (λ (x : Entry). IsSomeAnd (terms_named names x.table) (λ t. IsFilled c cells.seed t t.kind (list_of lists x.table) x q.room)) (sym h.entry)
        (subst (λ (o : Option Terms). IsSomeAnd o (λ t. IsFilled c cells.seed t t.kind (es_of e) e q.room)) (sym h.own.named) h.filled)

    -- the entries are a loading under the current seed
    pub filled_now : (placed : List Placed) × AreFilled c names cells.seed lists placed
    filled_now = (
      choice.0,
      record {
        each = mapped (λ (q : Placed). q.entry) (all_entries lists) choice.0 (zip-gives HasRoom (λ e q. q.entry ≡ e) (λ e q h. h.entry) (all_entries lists) choice.0 choice.1);
        apart = zip-pairs HasRoom (λ (e f : Entry). e.number ≢ f.number) (λ (p q : Placed). is_same p.room q.room ≡ false) (λ e f a b x y ne. apart_rooms e f a b x y ne)
            (all_entries lists) choice.0 choice.1 numbers_apart;
        rooms = zip-all-right HasRoom IsIn is_in (all_entries lists) choice.0 choice.1;
      },
    )
