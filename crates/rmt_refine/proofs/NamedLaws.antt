-- The names of a program and its entries tell what it asks of the entries of its tables.
use Rattle.std.proofs.Common.{◌≡◌, ℕ, zero, suc, ◌+◌, ◌≤◌, ◌==◌, Bool, true, false, cond, List, [], ◌∷◌, length, map, Option, Some, None, refl, sym, ap, ◌∙◌, subst, arith}
use Rattle.std.specs.Prelude.{◌<◌, All, IsSomeAnd, find, option_and_then, option_map, slice_get, unwrap_or}
use Rattle.std.specs.List.{AllZip, cons_option, range_with_len}
use Rattle.std.proofs.lemmas.Bool.{eq-eqb, false_from_ne_true, eqb-true}
use Rattle.std.proofs.lemmas.List.{length-map}
use Rattle.std.proofs.lemmas.List.Elements.{All-cons, All-head, All-nil}
use Rattle.std.proofs.lemmas.List.FromFn.{get_or-map-range_with_len, length-map-range_with_len}
use Rattle.std.proofs.lemmas.Option.{none-some, same_Some, slice_get-get_or, slice_get-map, slice_get_within}
use Rattle.rmt_bits.proofs.AllLaws.{All-slice_get}
use Rattle.rmt_ast.specs.declared.entry.Entry.{Entry}
use Rattle.rmt_ast.specs.declared.names.ActionName.{ActionName}
use Rattle.rmt_ast.specs.declared.names.TableName.{TableName}
use Rattle.rmt_ast.specs.declared.program.Kind.TheVariants as kind
use Rattle.rmt_ast.specs.declared.program.What.TheVariants as what
use Rattle.rmt_ast.specs.EntryLists.{AreEntries, AreEntriesAt, AreTableEntries, IsEntry, Terms, params_of, terms_at, terms_of}
use Rattle.rmt_ast.specs.NameRules.{AreEntriesOf, terms_named, terms_of_name}
use Rattle.rmt_ast.specs.Naming.{action_named, has_key, if_keyed, named_at, named_from, names_of, table_named}
use Rattle.rmt_ast.specs.WellFormed.{Fits, HasKey, IsProgram, IsTable}
use Rattle.rmt_refine.specs.Types.{Kind, Node, Program, Table, What}
use Rattle.rmt_refine.specs.Commits.{AreNamesOf}
use Rattle.rmt_refine.specs.Units.{applied, table_at}
use Rattle.rmt_refine.proofs.PartLaws.{some_and}
use Rattle.rmt_pack.proofs.PartLaws.{then_some}
use Rattle.rmt_refine.proofs.TheLaw.{its_table}

params_named : (p : Program) (actions : List ℕ) → map (λ (a : ActionName). a.params) (map (action_named p) actions) ≡ map (params_of p) actions
params_named p [] = refl
params_named p (a ∷ actions) = ap (λ xs. params_of p a ∷ xs) (params_named p actions)

-- a named table tells the terms of the table
terms_are : (p : Program) (n : ℕ) (es : List Entry) (t : Table) → terms_of_name (table_named p n es t) ≡ terms_of p t
terms_are p n es t = ap (λ params. record { kind = t.kind; widths = (terms_of p t).widths; params = params; size = t.size }) (params_named p t.actions)

-- a named table has the number of its node
node_named : (p : Program) (n : ℕ) (es : List Entry) (w : What) (x : TableName) → named_at p n es w ≡ Some x → x.node ≡ n
node_named p n es (what.Gate field test) x e = absurd (none-some x e)
node_named p n es (what.Apply i) x e =
    let t = then_some (if_keyed p n es) (slice_get p.tables i) x e in
    by t.0 (has_key t.0.kind) t.2
  where
    by : (t : Table) (b : Bool) → cond b (Some (table_named p n es t)) None ≡ Some x → x.node ≡ n
    by t true h = sym (ap (λ (y : TableName). y.node) (same_Some (table_named p n es t) x h))
    by t false h = absurd (none-some x h)

named_of : (p : Program) (n : ℕ) (es : List Entry) (w : What) (t : Table) → applied p w ≡ Some t → has_key t.kind ≡ true → named_at p n es w ≡ Some (table_named p n es t)
named_of p n es (what.Gate field test) t e keyed = absurd (none-some t e)
named_of p n es (what.Apply i) t e keyed = ap (option_and_then (if_keyed p n es)) e ∙ ap (λ b. cond b (Some (table_named p n es t)) None) keyed

module _ (p : Program) (lists : List (List Entry)) (n : ℕ) where
  abbrev entries_of : ℕ → List Entry
  entries_of k = unwrap_or (slice_get lists k) []

  -- no table is found of a node that applies none with a key
  pub none_from : (nodes : List Node) (k : ℕ) → ((i : ℕ) (node : Node) → slice_get nodes i ≡ Some node → k + i ≡ n → named_at p n (entries_of n) node.what ≡ None)
      → find (λ (x : TableName). x.node == n) (named_from p lists k nodes) ≡ None
  none_from [] k none = refl
  none_from (x ∷ nodes) k none = by (named_at p k (entries_of k) x.what) refl ∙ none_from nodes (k + 1) (λ i node at same. none (suc i) node at (omega (arith, same)))
    where
      rest : List TableName
      rest = named_from p lists (k + 1) nodes

      by : (o : Option TableName) → named_at p k (entries_of k) x.what ≡ o → find (λ (y : TableName). y.node == n) (cons_option o rest) ≡ find (λ (y : TableName). y.node == n) rest
      by None e = refl
      by (Some y) e =
          ap (λ b. cond b (Some y) (find (λ (z : TableName). z.node == n) rest))
          (false_from_ne_true (y.node == n) (λ same.
          let here : k ≡ n = omega (arith, node_named p k (entries_of k) x.what y e, eqb-true y.node n same) in
          none-some y (sym (none 0 x refl (omega (arith, here))) ∙ ap (λ j. named_at p j (entries_of j) x.what) (sym here) ∙ e)))

module _ (p : Program) (lists : List (List Entry)) (n : ℕ) (t : Table) (keyed : has_key t.kind ≡ true) where
  abbrev pub list_at : ℕ → List Entry
  list_at k = unwrap_or (slice_get lists k) []

  abbrev pub is_its : TableName → Bool
  is_its x = x.node == n

  -- it is found among those from a node on
  pub found_from : (nodes : List Node) (k i : ℕ) (node : Node) → k + i ≡ n → slice_get nodes i ≡ Some node → applied p node.what ≡ Some t
      → find is_its (named_from p lists k nodes) ≡ Some (table_named p n (list_at n) t)
  found_from [] k i node at there is = absurd (none-some node there)
  found_from (x ∷ nodes) k zero node at there is =
      let same : k ≡ n = omega (arith, at) in
      let own : named_at p k (list_at k) x.what ≡ Some (table_named p k (list_at k) t) =
      named_of p k (list_at k) x.what t (ap (λ (y : Node). applied p y.what) (same_Some x node there) ∙ is) keyed in
      ap (λ o. find is_its (cons_option o (named_from p lists (k + 1) nodes))) own
      ∙ ap (λ b. cond b (Some (table_named p k (list_at k) t)) (find is_its (named_from p lists (k + 1) nodes))) (eq-eqb k n same)
      ∙ ap (λ j. Some (table_named p j (list_at j) t)) same
  found_from (x ∷ nodes) k (suc i) node at there is =
      by (named_at p k (list_at k) x.what) refl ∙ found_from nodes (k + 1) i node (omega (arith, at)) there is
    where
      rest : List TableName
      rest = named_from p lists (k + 1) nodes

      by : (o : Option TableName) → named_at p k (list_at k) x.what ≡ o → find is_its (cons_option o rest) ≡ find is_its rest
      by None e = refl
      by (Some y) e =
          let number = node_named p k (list_at k) x.what y e in
          ap (λ b. cond b (Some y) (find is_its rest)) (false_from_ne_true (y.node == n) (λ same. (let equal = eqb-true y.node n same in omega (arith, at, number, equal))))

-- a table with actions has a key
has_key_of : (p : Program) (k : Kind) (t : Table) → HasKey p k t → 1 ≤ length t.actions → has_key k ≡ true
has_key_of p kind.Keyless t has some = absurd (let none : length t.actions ≡ 0 = ap length has.actions in omega (arith, some, none))
has_key_of p kind.Exact t has some = refl
has_key_of p kind.Prefix t has some = refl
has_key_of p kind.Ternary t has some = refl

pub names_tell : (p : Program) (lists : List (List Entry)) → IsProgram p → AreNamesOf p (names_of p lists)
names_tell p lists program n t at some =
    let node = then_some (λ (x : Node). applied p x.what) (slice_get p.nodes n) t at in
    let keyed = has_key_of p t.kind t (its_table p node.0.what t node.2 program.tables).key some in
    let found = found_from p lists n t keyed p.nodes 0 n node.0 (omega arith) node.1 node.2 in
    ap (option_map terms_of_name) found ∙ ap Some (terms_are p n (unwrap_or (slice_get lists n) []) t)

-- ---- what names tell of every node

-- what a table with a key asks of its entries
abbrev pub keyed_terms : Program → Table → Option Terms
keyed_terms p t = cond (has_key t.kind) (Some (terms_of p t)) None

-- a node that applies no table with a key has no name
unnamed : (p : Program) (n : ℕ) (es : List Entry) (w : What) → option_and_then (keyed_terms p) (applied p w) ≡ None → named_at p n es w ≡ None
unnamed p n es (what.Gate field test) e = refl
unnamed p n es (what.Apply i) e = by (slice_get p.tables i) e
  where
    keyless : (t : Table) (b : Bool) → cond b (Some (terms_of p t)) None ≡ None → cond b (Some (table_named p n es t)) None ≡ None
    keyless t true h = absurd (none-some (terms_of p t) (sym h))
    keyless t false h = refl

    by : (o : Option Table) → option_and_then (keyed_terms p) o ≡ None → option_and_then (if_keyed p n es) o ≡ None
    by None h = refl
    by (Some t) h = keyless t (has_key t.kind) h

-- names tell of a node what the table with a key asks that it applies
pub terms_named_is : (p : Program) (lists : List (List Entry)) (n : ℕ) → terms_named (names_of p lists) n ≡ option_and_then (keyed_terms p) (table_at p n)
terms_named_is p lists n = by (table_at p n) refl
  where
    none : (o : Option Table) → table_at p n ≡ o → option_and_then (keyed_terms p) o ≡ None → terms_named (names_of p lists) n ≡ None
    none o is e =
        ap (option_map terms_of_name)
        (none_from p lists n p.nodes 0 (λ i node at same.
        let here : i ≡ n = omega (arith, same) in
        let own : table_at p n ≡ applied p node.what = ap (option_and_then (λ (x : Node). applied p x.what)) (ap (slice_get p.nodes) (sym here) ∙ at) in
        unnamed p n (unwrap_or (slice_get lists n) []) node.what (ap (option_and_then (keyed_terms p)) (sym own ∙ is) ∙ e)))

    keyed : (t : Table) (b : Bool) → has_key t.kind ≡ b → table_at p n ≡ Some t → terms_named (names_of p lists) n ≡ cond b (Some (terms_of p t)) None
    keyed t true has at =
        let node = then_some (λ (x : Node). applied p x.what) (slice_get p.nodes n) t at in
        ap (option_map terms_of_name) (found_from p lists n t has p.nodes 0 n node.0 (omega arith) node.1 node.2) ∙ ap Some (terms_are p n (unwrap_or (slice_get lists n) []) t)
    keyed t false has at = none (Some t) at (ap (λ (b : Bool). cond b (Some (terms_of p t)) None) has)

    by : (o : Option Table) → table_at p n ≡ o → terms_named (names_of p lists) n ≡ option_and_then (keyed_terms p) o
    by None e = none None e refl
    by (Some t) e = keyed t (has_key t.kind) refl e

-- the named tables of some nodes have the numbers of these
named_within : (p : Program) (lists : List (List Entry)) (nodes : List Node) (k limit : ℕ) → k + length nodes ≤ limit → All (λ (x : TableName). x.node < limit) (named_from p lists k nodes)
named_within p lists [] k limit le = All-nil (λ (x : TableName). x.node < limit)
named_within p lists (node ∷ nodes) k limit le =
    by (named_at p k (unwrap_or (slice_get lists k) []) node.what) refl (named_within p lists nodes (k + 1) limit (omega (arith, le)))
  where
    rest : List TableName
    rest = named_from p lists (k + 1) nodes

    by : (o : Option TableName) → named_at p k (unwrap_or (slice_get lists k) []) node.what ≡ o → All (λ (x : TableName). x.node < limit) rest → All (λ (x : TableName). x.node < limit) (cons_option o rest)
    by None e all = all
    by (Some x) e all =
        let number = node_named p k (unwrap_or (slice_get lists k) []) node.what x e in
        All-cons (λ (y : TableName). y.node < limit) x rest (omega (arith, number, le)) all

-- an entry of a table without an action
no_entry : (p : Program) (n : ℕ) (t : Table) (es : List Entry) → t.actions ≡ [] → AreTableEntries n es (terms_of p t) → es ≡ []
no_entry p n t [] none are = refl
no_entry p n t (e ∷ es) none are =
    absurd (subst (λ (actions : List ℕ). IsSomeAnd (slice_get (map (params_of p) actions) e.action) (λ params. AllZip Fits params e.args)) none (All-head (IsEntry n (terms_of p t)) e es are.each).action)

-- the list of a node by what names tell of it
list_named : (p : Program) (n : ℕ) (es : List Entry) (w : What) → All (IsTable p) p.tables → AreEntriesAt n es (terms_at p w) → AreEntriesAt n es (option_and_then (keyed_terms p) (applied p w))
list_named p n es (what.Gate field test) tables are = are
list_named p n es (what.Apply i) tables are = by (slice_get p.tables i) (λ t at. All-slice_get (IsTable p) p.tables i t tables at) are
  where
    keyed : (t : Table) (k : Kind) → HasKey p k t → AreTableEntries n es (terms_of p t) → AreEntriesAt n es (cond (has_key k) (Some (terms_of p t)) None)
    keyed t kind.Keyless has h = no_entry p n t es has.actions h
    keyed t kind.Exact has h = h
    keyed t kind.Prefix has h = h
    keyed t kind.Ternary has h = h

    by : (o : Option Table) → ((t : Table) → o ≡ Some t → IsTable p t) → AreEntriesAt n es (option_map (terms_of p) o) → AreEntriesAt n es (option_and_then (keyed_terms p) o)
    by None has h = h
    by (Some t) has h = keyed t t.kind (has t refl).key h

mapped : {X Y : Type 0} (f : X → Y) (o : Option X) (y : Y) → option_map f o ≡ Some y → (x : X) × (o ≡ Some x) × (f x ≡ y)
mapped f None y e = absurd (none-some y e)
mapped f (Some x) y e = (x, refl, same_Some (f x) y e)

-- lists that are well formed for a program are so for its names
pub entries_named : (p : Program) (lists : List (List Entry)) → IsProgram p → AreEntries p lists → AreEntriesOf (names_of p lists) lists
entries_named p lists program are =
    let count : length lists ≡ length p.nodes = are.for_each_node ∙ length-map p.nodes _ in
    record {
      tables = named_within p lists p.nodes 0 (length lists) (omega (arith, count));
      entries =
          record {
            for_each_node = sym (length-map-range_with_len (terms_named (names_of p lists)) 0 (length lists));
            each = λ n es at.
                let lt = slice_get_within lists n es at in
                let told : List (Option Terms) = map (terms_named (names_of p lists)) (range_with_len 0 (length lists)) in
                let there : slice_get (map (terms_named (names_of p lists)) (range_with_len 0 (length lists))) n ≡ Some (terms_named (names_of p lists) n) =
                slice_get-get_or told n None (omega (arith, lt, length-map-range_with_len (terms_named (names_of p lists)) 0 (length lists)))
                ∙ ap Some (get_or-map-range_with_len (terms_named (names_of p lists)) 0 (length lists) n n None lt (omega arith)) in
                let own = some_and (slice_get (map (λ (node : Node). terms_at p node.what) p.nodes) n) (AreEntriesAt n es) (are.each n es at) in
                let node = mapped (λ (x : Node). terms_at p x.what) (slice_get p.nodes n) own.0 (sym (slice_get-map (λ (x : Node). terms_at p x.what) p.nodes n) ∙ own.1) in
                let listed : AreEntriesAt n es (option_and_then (keyed_terms p) (applied p node.0.what)) =
                list_named p n es node.0.what program.tables (subst (AreEntriesAt n es) (sym node.2) own.2) in
                let table : table_at p n ≡ applied p node.0.what = ap (option_and_then (λ (x : Node). applied p x.what)) node.1 in
                subst (λ o. IsSomeAnd o (AreEntriesAt n es)) (sym there)
                (subst (AreEntriesAt n es) (ap (option_and_then (keyed_terms p)) (sym table) ∙ sym (terms_named_is p lists n)) listed);
            numbers_once = are.numbers_once;
          };
    }
