-- The tables that the names of a program with its entries tell: those with a key, each with the entries of its node.
use Rattle.std.proofs.Common.{◌≡◌, ℕ, zero, suc, ◌+◌, Bool, true, false, cond, ◌==◌, List, [], ◌∷◌, Option, Some, None, refl, sym, ap, subst, ◌∙◌, arith}
use Rattle.std.specs.Prelude.{All, option_and_then, slice_get, unwrap_or}
use Rattle.std.specs.List.{cons_option, list_any}
use Rattle.std.proofs.lemmas.Bool.{eq-eqb, or_left, or_right}
use Rattle.std.proofs.lemmas.List.{length-map}
use Rattle.std.proofs.lemmas.List.Elements.{All-cons, All-nil}
use Rattle.std.proofs.lemmas.Option.{none-some, same_Some}
use Rattle.rmt_bits.proofs.ListLaws.{first_from, next_from, slice_get-alike}
use Rattle.rmt_build.specs.Types.{Program, Table, Node, What}
use Rattle.rmt_ast.specs.declared.program.What.TheVariants as what
use Rattle.rmt_ast.specs.declared.entry.Entry.{Entry}
use Rattle.rmt_ast.specs.declared.names.TableName.{TableName}
use Rattle.rmt_ast.specs.EntryLists.{AreEntries}
use Rattle.rmt_ast.specs.Naming.{has_key, if_keyed, named_at, named_from, names_of, table_named}
use Rattle.rmt_refine.specs.Units.{applied, table_at}

-- ---- items by their places

pub all_places : {X : Type 0} (xs : List X) (i : ℕ) → slice_get xs i ≡ slice_get xs (0 + i)
all_places xs i = ap (slice_get xs) (omega arith)

-- ---- the tables of names

-- a table of the names is that of a node
abbrev pub has_number : ℕ → TableName → Bool
has_number n x = x.node == n

module _ (p : Program) (lists : List (List Entry)) where
  abbrev entries_at : ℕ → List Entry
  entries_at n = unwrap_or (slice_get lists n) []

  -- a node that applies a table
  table_of : (n : ℕ) (node : Node) (number : ℕ) (t : Table) → slice_get p.nodes n ≡ Some node → node.what ≡ what.Apply number → slice_get p.tables number ≡ Some t → table_at p n ≡ Some t
  table_of n node number t at does table = ap (option_and_then (λ (x : Node). applied p x.what)) at ∙ ap (applied p) does ∙ table

  module _ (entries : AreEntries p lists) (P : TableName → Type 0)
      (each : (n : ℕ) (es : List Entry) (t : Table) → table_at p n ≡ Some t → slice_get lists n ≡ Some es → has_key t.kind ≡ true → P (table_named p n es t)) where
    of_table : (n : ℕ) (es : List Entry) (t : Table) (x : TableName) (b : Bool) → table_at p n ≡ Some t → slice_get lists n ≡ Some es → has_key t.kind ≡ b
        → cond b (Some (table_named p n es t)) None ≡ Some x → P x
    of_table n es t x true at own key e = subst P (same_Some (table_named p n es t) x e) (each n es t at own key)
    of_table n es t x false at own key e = absurd (none-some x e)

    of_what : (n : ℕ) (es : List Entry) (node : Node) (x : TableName) (w : What) → slice_get p.nodes n ≡ Some node → slice_get lists n ≡ Some es → node.what ≡ w
        → named_at p n es w ≡ Some x → P x
    of_what n es node x (what.Gate field test) at own does e = absurd (none-some x e)
    of_what n es node x (what.Apply number) at own does e = by (slice_get p.tables number) refl e
      where
        by : (o : Option Table) → slice_get p.tables number ≡ o → option_and_then (if_keyed p n es) o ≡ Some x → P x
        by None is h = absurd (none-some x h)
        by (Some t) is h = of_table n es t x (has_key t.kind) (table_of n node number t at does is) own refl h

    of_node : (n : ℕ) (node : Node) (x : TableName) → slice_get p.nodes n ≡ Some node → named_at p n (entries_at n) node.what ≡ Some x → P x
    of_node n node x at e =
        let es = slice_get-alike p.nodes lists n node (entries.for_each_node ∙ length-map p.nodes _) at in
        of_what n es.0 node x node.what at es.1 refl (ap (λ (o : Option (List Entry)). named_at p n (unwrap_or o []) node.what) (sym es.1) ∙ e)

    told_from : (n : ℕ) (nodes : List Node) → ((i : ℕ) → slice_get nodes i ≡ slice_get p.nodes (n + i)) → All P (named_from p lists n nodes)
    told_from n [] h = All-nil P
    told_from n (node ∷ nodes) h = step (named_at p n (entries_at n) node.what) refl (told_from (n + 1) nodes (next_from nodes p.nodes node n h))
      where
        step : (o : Option TableName) → named_at p n (entries_at n) node.what ≡ o → All P (named_from p lists (n + 1) nodes) → All P (cons_option o (named_from p lists (n + 1) nodes))
        step None e rest = rest
        step (Some x) e rest = All-cons P x (named_from p lists (n + 1) nodes) (of_node n node x (first_from nodes p.nodes node n h) e) rest

    -- what holds of each table with a key that a node applies
    pub all_told : All P (names_of p lists).tables
    all_told = told_from 0 p.nodes (all_places p.nodes)

  -- ---- and such a table is there

  any_later : (n : ℕ) (o : Option TableName) (xs : List TableName) → list_any (has_number n) xs ≡ true → list_any (has_number n) (cons_option o xs) ≡ true
  any_later n None xs e = e
  any_later n (Some x) xs e = or_right (has_number n x) (list_any (has_number n) xs) e

  named_is : (n : ℕ) (es : List Entry) (node : Node) (t : Table) (w : What) → node.what ≡ w → applied p w ≡ Some t → has_key t.kind ≡ true → named_at p n es w ≡ Some (table_named p n es t)
  named_is n es node t (what.Gate field test) does e key = absurd (none-some t e)
  named_is n es node t (what.Apply number) does e key = ap (option_and_then (if_keyed p n es)) e ∙ ap (λ b. cond b (Some (table_named p n es t)) None) key

  there_from : (k i n : ℕ) (nodes : List Node) (node : Node) (t : Table) → slice_get nodes i ≡ Some node → k + i ≡ n → applied p node.what ≡ Some t → has_key t.kind ≡ true
      → list_any (has_number n) (named_from p lists k nodes) ≡ true
  there_from k i n [] node t at same table key = absurd (none-some node at)
  there_from k zero n (x ∷ nodes) node t at same table key =
      let first : x ≡ node = same_Some x node at in
      let named : named_at p k (entries_at k) x.what ≡ Some (table_named p k (entries_at k) t) = named_is k (entries_at k) x t x.what refl (ap (λ (y : Node). applied p y.what) first ∙ table) key in
      ap (λ o. list_any (has_number n) (cons_option o (named_from p lists (k + 1) nodes))) named
      ∙ or_left (k == n) (list_any (has_number n) (named_from p lists (k + 1) nodes)) (eq-eqb k n (omega (arith, same)))
  there_from k (suc i) n (x ∷ nodes) node t at same table key =
      any_later n (named_at p k (entries_at k) x.what) (named_from p lists (k + 1) nodes) (there_from (k + 1) i n nodes node t at (omega (arith, same)) table key)

  pub named_there : (n : ℕ) (t : Table) → table_at p n ≡ Some t → has_key t.kind ≡ true → list_any (has_number n) (names_of p lists).tables ≡ true
  named_there n t at key = by (slice_get p.nodes n) refl at
    where
      by : (o : Option Node) → slice_get p.nodes n ≡ o → option_and_then (λ (x : Node). applied p x.what) o ≡ Some t → list_any (has_number n) (names_of p lists).tables ≡ true
      by None is e = absurd (none-some t e)
      by (Some node) is e = there_from 0 n n p.nodes node t is (omega arith) e key
